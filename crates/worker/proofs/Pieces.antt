-- A walk by the pieces of a program: the gate where a piece stands, and what the code has in hand where its walk through a piece has
-- stopped. Assumes nothing.
use mathlib.Core.Path.{◌≡◌, refl, sym, ap, ◌∙◌}
use mathlib.Core.Bool.{Bool, true, false, cond}
use mathlib.Core.List.{List, [], ◌∷◌, ◌++◌}
use Prim.Native.Nat.{ℕ, zero, suc, ◌+◌, ◌-◌, ◌≤◌, ◌<◌}
use native.Mathlib.Decide.{dec_lt}
use native.Mathlib.Omega.{arith}
use lib.ListN.{length, drop, drop_of_length-le}
use Rattle.gates.specs.declared.GateCode.{GateCode}
use Rattle.gates.specs.Gates.{Gate}
use Rattle.gates.specs.Steps.{Lane}
use Rattle.gates.specs.Hosts.{Pair}
use Rattle.gates.specs.Codes.{At, fetched, read, step_of}
use Rattle.gates.specs.declared.Used.{Used}
use Rattle.gates.specs.Costs.{used_at}
use Rattle.tables.specs.Table.{Row}
use Rattle.programs.specs.declared.Order.{Order}
use Rattle.programs.specs.Orders.{program}
use Rattle.program_fetch.specs.declared.Piece.{Piece}
use Rattle.program_fetch.specs.Pieces.{piece_gates}
use Rattle.program_fetch.proofs.Stands.{Stands}
use Rattle.program_fetch.proofs.PieceSteps.{inside, first_step, piece_cut, gates_behind}
use Rattle.calls.specs.Lent.{Worker, worker_with}
use Rattle.calls.specs.declared.Stored.{Stored}
use Rattle.calls.specs.Calls.{stored_places, Answer, word_at}
use Rattle.walks.specs.Workers.{cursor}
use Rattle.walks.specs.Halts.{going_on, reported, steps_from, Going}
use Rattle.gates.proofs.Fetched.{first_left, never}
use Rattle.gates.specs.Walk.{Exchanging}
use Rattle.walks.proofs.Programs as Programs

first_same : (x y : Gate) (xs ys : List Gate) → x ∷ xs ≡ y ∷ ys → x ≡ y
first_same x y xs ys e = cc

not_none : {A : Type 0} (x : Gate) (xs : List Gate) → ◌≡◌ {A = List Gate} [] (x ∷ xs) → A
not_none x xs e = never (cc)

-- two programs go on with the same gate
same_gate : (hs rest gs : List Gate) (k i : ℕ) (g : Gate) → drop i gs ≡ drop k hs ++ rest → fetched gs i ≡ At g → k < length hs
    → fetched hs k ≡ At g
unfolding fetched
same_gate [] rest gs k i g c e h = absurd (omega arith)
same_gate (x ∷ hs) rest gs zero i g c e h = ap At (first_same x g _ _ (sym c ∙ first_left gs i g e))
same_gate (x ∷ hs) rest gs (suc k) i g c e h = same_gate hs rest gs k i g c e (omega arith)

module _ (w : ℕ) (ps : List Row) (ord : Order) (i : ℕ) (p : Piece) (S : Stands w ps ord i p) where
  abbrev hs : List Gate
  hs = piece_gates w ps p

  -- the gate at index i of the program is the one where the piece stands
  pub gate_there : (g : Gate) → fetched (program w ps ord) i ≡ At g → fetched (piece_gates w ps p) p.from ≡ At g
  gate_there g e =
      elim (dec_lt p.from (length hs)) [
        | yes h ↦ same_gate hs _ (program w ps ord) p.from i g S.gates e h
        | no n ↦ go p.last refl n
      ]
    where
      go : (b : Bool) → p.last ≡ b → (p.from < length hs → ⊥) → fetched hs p.from ≡ At g
      go true z n =
          let none : drop i (program w ps ord) ≡ [] =
          S.gates
          ∙ ap (λ (b : Bool). drop p.from hs ++ cond b [] (drop (i + (p.end - p.from)) (program w ps ord))) z
          ∙ ap (λ (gs : List Gate). gs ++ []) (drop_of_length-le hs {i = p.from} (omega (arith, n))) in
          not_none g _ (sym none ∙ first_left (program w ps ord) i g e)
      go false z n = absurd (n (omega (arith, S.some z, S.end)))

  -- ---- the walk has come to gate j of the piece

  module _ (P : Worker) (a dealt : ℕ) (s : Pair) (j a' dealt' : ℕ) (t : Pair)
      (q : Going w P (piece_gates w ps p) p.from a dealt s j a' dealt' t) where
    reached : j ≤ p.from + (p.end - p.from)
    reached = q.few (p.from + (p.end - p.from)) (omega arith) (omega (arith, S.end))

    -- what was used on the way
    pub few_used : (a' ≤ a + (p.end - p.from)) × (dealt' ≤ dealt + (p.end - p.from))
    few_used = (omega (arith, reached, q.few_a), omega (arith, reached, q.few_deals))

  module _ (h : ℕ) (M D : List ℕ) (programs : List (List Gate)) (o x a b dealt : ℕ) (s : Pair)
      (e : drop o programs ≡ program w ps ord ∷ drop (suc o) programs) (j a' dealt' : ℕ) (m l : Lane)
      (q : Going w (worker_with h M D) (piece_gates w ps p) p.from a dealt s j a' dealt' (m, l)) where
    abbrev P : Worker
    P = worker_with h M D

    abbrev from_here : Answer
    from_here = reported P (steps_from w i (drop o programs)) (cursor o x a b dealt) s

    pub at_exchange : (c : GateCode) → read c ≡ fetched (piece_gates w ps p) j → Exchanging (step_of w c ∷ []) → (v : ℕ)
        → v ≡ word_at P.say (step_of w c ∷ []) (cursor 0 0 a' b dealt') (m, l)
        → (u : Used) → u ≡ used_at (step_of w c) → (z : Stored) → z ≡ stored_places (a' + u.a) (b + 1) (dealt' + u.deals)
        → from_here ≡ going_on z.b v m l o x z
    at_exchange c ec speaks v ev u eu z ez =
        Programs.halted w h M D programs o x i a b dealt s _ e hs (gates_behind w ps ord i p S) p.from (piece_cut w ps ord i p S)
        j a' dealt' m l q (step_of w c) _ speaks (first_step w hs j c ec (inside w hs j c ec speaks)) v ev u eu
        ∙ ap (λ (y : Stored). going_on y.b v m l o x y) (sym ez)

    module _ (past : length (piece_gates w ps p) ≤ j) where
      over : drop j hs ≡ []
      over = drop_of_length-le hs past

      pub next_piece : p.last ≡ false
          → from_here ≡ reported P (steps_from w (i + (p.end - p.from)) (drop o programs)) (cursor o x a' b dealt') (m, l)
      next_piece z =
          Programs.same_program w h M D programs o x i a b dealt s _ e hs (gates_behind w ps ord i p S) p.from
          (piece_cut w ps ord i p S) j a' dealt' m l q over _
          (ap (λ (b : Bool). cond b [] (drop (i + (p.end - p.from)) (program w ps ord))) z)

      pub next_order : p.last ≡ true
          → from_here ≡ reported P (steps_from w 0 (drop (o + 1) programs)) (cursor (o + 1) 0 a' b dealt') (m, l)
      next_order z =
          Programs.next_program w h M D programs o x i a b dealt s _ e hs (gates_behind w ps ord i p S) p.from
          (piece_cut w ps ord i p S) j a' dealt' m l q over
          (ap (λ (b : Bool). cond b [] (drop (i + (p.end - p.from)) (program w ps ord))) z)
