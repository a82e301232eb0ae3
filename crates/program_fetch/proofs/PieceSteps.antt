-- The steps of a walk by the pieces of a program: those of a piece, and what stands behind it; and the code of the gate at an index.
-- Assumes nothing.
use Rattle.std.proofs.Common.{◌≡◌, ℕ, suc, ◌+◌, ◌-◌, ◌<◌, ◌≤◌, Bool, true, false, cond, List, [], ◌∷◌, ◌++◌, map, length, drop, sym, refl, ap, ◌∙◌, subst, arith, length-append, length-drop}
use lib.ListN.{length-map}
use native.Mathlib.Decide.{dec_lt}
use Rattle.gates.specs.declared.GateCode.{GateCode}
use Rattle.gates.specs.Gates.{Gate}
use Rattle.gates.specs.Steps.{Step, end}
use Rattle.gates.specs.Meaning.{meaning, order_steps}
use Rattle.gates.specs.Codes.{fetched, read, step_of}
use Rattle.gates.specs.Walk.{Exchanging}
use Rattle.gates.proofs.Fetched.{first_left, some_gate, beyond}
use Rattle.gates.proofs.Codes.{read_at, read_past}
use Rattle.tables.specs.Table.{Row}
use Rattle.programs.specs.declared.Order.{Order}
use Rattle.programs.specs.Orders.{program}
use Rattle.program_fetch.specs.declared.Piece.{Piece}
use Rattle.program_fetch.specs.Pieces.{piece_gates}
use Rattle.program_fetch.proofs.Stands.{Stands}

-- ---- the code of the gate at an index

module _ (w : ℕ) (gs : List Gate) (i : ℕ) (c : GateCode) (e : read c ≡ fetched gs i) where
  -- told by the step: past the last gate no word is exchanged
  pub inside : Exchanging (step_of w c ∷ []) → i < length gs
  inside h =
      elim (dec_lt i (length gs)) [
        | yes l ↦ l
        | no n ↦
            let past : step_of w c ≡ end = read_past w c (e ∙ beyond gs i (omega (arith, n))) in
            absurd (subst (λ (x : Step). Exchanging (x ∷ [])) past h)
      ]

  -- the steps from there on
  pub first_step : i < length gs → map (meaning w) (drop i gs) ≡ step_of w c ∷ map (meaning w) (drop (suc i) gs)
  first_step h =
      let p = some_gate gs i h in
      let is : step_of w c ≡ meaning w p.0 = read_at w c p.0 (e ∙ p.1) in
      ap (map (meaning w)) (first_left gs i p.0 p.1) ∙ ap (λ (x : Step). x ∷ map (meaning w) (drop (suc i) gs)) (sym is)

-- ---- the steps of a piece, and of what stands behind it

pub steps_onto : (w : ℕ) (gs hs : List Gate) (ss : List Step)
    → order_steps w (gs ++ hs) ss ≡ map (meaning w) gs ++ order_steps w hs ss
unfolding order_steps
steps_onto w [] hs ss = refl
steps_onto w (g ∷ gs) hs ss = ap (λ (xs : List Step). meaning w g ∷ xs) (steps_onto w gs hs ss)

module _ (w : ℕ) (ps : List Row) (o : Order) (i : ℕ) (p : Piece) (s : Stands w ps o i p) where
  -- the gates of the piece that are left, and their steps
  abbrev pub piece_left : List Gate
  piece_left = drop p.from (piece_gates w ps p)

  abbrev pub piece_steps : List Step
  piece_steps = map (meaning w) piece_left

  -- where the piece ends in its program
  abbrev pub piece_end : ℕ
  piece_end = i + (p.end - p.from)

  -- the gates of the program behind it
  abbrev pub gates_behind : List Gate
  gates_behind = cond p.last [] (drop piece_end (program w ps o))

  pub piece_cut : (ss : List Step) → order_steps w (drop i (program w ps o)) ss ≡ piece_steps ++ order_steps w gates_behind ss
  piece_cut ss = ap (λ (gs : List Gate). order_steps w gs ss) s.gates ∙ steps_onto w piece_left gates_behind ss

  -- at the last piece the order ends behind it
  pub last_steps : p.last ≡ true → (ss : List Step) → order_steps w gates_behind ss ≡ end ∷ ss
  unfolding order_steps
  last_steps e ss = rw e

  -- at any other, the program goes on
  pub more_steps : p.last ≡ false → (ss : List Step)
      → order_steps w gates_behind ss ≡ order_steps w (drop piece_end (program w ps o)) ss
  more_steps e ss = rw e

  pub steps_count : length piece_steps ≡ p.end - p.from
  steps_count = omega (arith, length-map piece_left (meaning w), length-drop p.from (piece_gates w ps p), s.end)

  -- and the piece ends within it
  pub still_within : p.last ≡ false → piece_end ≤ length (program w ps o)
  still_within e =
      let all = program w ps o in
      let g = s.gates ∙ ap (λ (l : Bool). piece_left ++ cond l [] (drop piece_end all)) e in
      omega (
        arith,
        ap length g,
        length-append piece_left (drop piece_end all),
        length-drop p.from (piece_gates w ps p),
        length-drop i all,
        length-drop piece_end all,
        s.end,
        s.some e,
      )
