-- An order of a day, walked by the code of host 1 or 2 as its own order: where the code's walk halts the day's does, with the same word,
-- and where it has gone by the order's gates the day's stands before the next order. Assumes nothing.
use mathlib.Core.Path.{◌≡◌, refl, sym, ap, subst, ◌∙◌}
use mathlib.Core.Bool.{Bool, true, false, cond}
use mathlib.Core.List.{List, [], ◌∷◌, ◌++◌, map}
use Prim.Native.Nat.{ℕ, suc, ◌≤◌}
use native.Mathlib.Omega.{arith}
use lib.Dec.{ltb}
use lib.ListN.{length, set}
use Rattle.words.specs.Words.{add, mul}
use Rattle.gates.specs.Gates.{Gate, Add, Scale}
use Rattle.gates.specs.Steps.{Lane, at, Step, end, Cursor, past}
use Rattle.gates.specs.Meaning.{each, meaning, order_steps}
use Rattle.gates.specs.Walk.{far}
use Rattle.gates.specs.Costs.{cost}
use Rattle.gates.proofs.Needs.{far_used}
use Rattle.gates.specs.Hosts.{Pair}
use Rattle.programs.specs.Costs.{program_cost}
use Rattle.programs.proofs.Points.{target}
use Rattle.calls.specs.Lent.{Worker, worker_with}
use Rattle.calls.specs.declared.Stored.{Stored}
use Rattle.calls.specs.Calls.{stored_places, Answer}
use Rattle.walks.specs.Workers.{cursor}
use Rattle.walks.specs.Halts.{going_on, reported}
use Rattle.walks.proofs.Halts.{passes_end, ends}
use Rattle.walks.proofs.Workers.{acts_end}
use Rattle.runs.proofs.Written.{Spares, none, also}
use Rattle.days.specs.Orders.{entered, summed, counted, left, front, back, within}
use Rattle.days.proofs.Moved.{moved, Ready, Embeds}
use Rattle.days.proofs.Lanes.{place, embeds}
use Rattle.days.proofs.Outcomes.{Outcome, halts, goes_by, outcome, answer_behind, ends_in, Far, goes_far, larger_outcome, ended_on}
use Rattle.days.proofs.Outcomes.{gates_alike, acts_local}

pub steps_are : (w : ℕ) (gs : List Gate) (ss : List Step) → order_steps w gs ss ≡ map (meaning w) gs ++ (end ∷ ss)
unfolding order_steps
steps_are w [] ss = refl
steps_are w (g ∷ gs) ss = ap (λ (xs : List Step). meaning w g ∷ xs) (steps_are w gs ss)

-- the day's steps from gates hs of the code's own order on
abbrev pub day_from : (w order : ℕ) → List Gate → (rest : List Step) → List Step
day_from w o hs rest = map (meaning w) (map (moved (place o)) hs) ++ (map (meaning w) (back o) ++ (end ∷ rest))

module _ (h : ℕ) (M D : List ℕ) (w : ℕ) (o k₁ k₂ : ℕ) (t₁ t₂ : Lane) (l₁ : length t₁ ≤ 104) (l₂ : length t₂ ≤ 104) where
  abbrev P : Worker
  P = worker_with h M D

  -- the code's lanes in the day's; and that they hold the order's share
  abbrev pub inside : Pair → Pair
  inside s = (within k₁ t₁ s.0, within k₂ t₂ s.1)

  abbrev pub Held : Pair → Type 0
  Held s = Ready (at t₁ o) s.0 × Ready (at t₂ o) s.1

  abbrev E₁ : Embeds (place o) (at t₁ o) (within k₁ t₁)
  E₁ = embeds o k₁ t₁ l₁

  abbrev E₂ : Embeds (place o) (at t₂ o) (within k₂ t₂)
  E₂ = embeds o k₂ t₂ l₂

  -- ---- gates that are done at once

  at_once : (gs : List Gate) → map (moved (place o)) gs ≡ gs → Spares 15 gs → (ss : List Step) (x a b n : ℕ) (s s' : Pair) → Held s
      → outcome h M D (map (meaning w) gs) a b n s ≡ goes_by a n s'
      → (reported P (map (meaning w) gs ++ ss) (cursor o x a b n) (inside s) ≡ reported P ss (cursor o x a b n) (inside s')) × Held s'
  unfolding answer_behind larger_outcome
  at_once gs e sp ss x a b n s s' r p =
      let q = gates_alike h M D (place o) (at t₁ o) (at t₂ o) (within k₁ t₁) (within k₂ t₂) E₁ E₂ w gs sp a b n s r in (
        ends_in h M D w gs ss o x a b n (inside s)
            ∙ ap (answer_behind h M D ss o x b)
            (ap (λ (z : List Gate). outcome h M D (map (meaning w) z) a b n (inside s)) (sym e) ∙ q.0
            ∙ ap (larger_outcome h M D (place o) (at t₁ o) (at t₂ o) (within k₁ t₁) (within k₂ t₂) E₁ E₂) p),
        subst (λ (u : Outcome). Held (ended_on h M D (place o) (at t₁ o) (at t₂ o) (within k₁ t₁) (within k₂ t₂) E₁ E₂ u)) p q.1,
      )

  acts_once : (d : ℕ) (f : Lane → ℕ) (a b n : ℕ) (s : Pair)
      → P.act (each d f) (cursor 0 0 a b n) s ≡ (set s.0 d (f s.0), set s.1 d (f s.1))
  acts_once d f a b n s = acts_local h M D d f f (cursor 0 0 a b n) s

  -- before the order
  pub begins : (k : ℕ) (ss : List Step) (x a b n : ℕ) (s : Pair) → Held s
      → (reported P (map (meaning w) (front k o) ++ ss) (cursor o x a b n) (inside s)
      ≡ reported P ss (cursor o x a b n) (inside (entered w k o s.0, entered w k o s.1)))
      × Held (entered w k o s.0, entered w k o s.1)
  unfolding front entered outcome moved place meaning target
  begins k ss x a b n s r = go (ltb o 96)
    where
      go : (t : Bool)
          → let u : Pair = (cond t s.0 (set s.0 22 (mul w (at s.0 0) k)), cond t s.1 (set s.1 22 (mul w (at s.1 0) k))) in
          (reported P (map (meaning w) (cond t [] (Scale 22 0 k ∷ [])) ++ ss) (cursor o x a b n) (inside s)
          ≡ reported P ss (cursor o x a b n) (inside u))
          × Held u
      go true = (refl, r)
      go false =
          at_once (Scale 22 0 k ∷ []) refl (also refl none) ss x a b n s _ r
          (ap (goes_by a n) (acts_once 22 (λ l. mul w (at l 0) k) a b n s))

  -- behind it, up to the next one
  pub passes_by : (ss : List Step) (x a b n : ℕ) (s : Pair) → Held s
      → (reported P (map (meaning w) (back o) ++ (end ∷ ss)) (cursor o x a b n) (inside s)
      ≡ reported P ss (cursor (suc o) 0 a b n) (inside (left w o s.0, left w o s.1)))
      × Held (left w o s.0, left w o s.1)
  unfolding back left outcome moved place meaning target
  passes_by ss x a b n s r = go (ltb o 96)
    where
      over : (u : Pair) → reported P (end ∷ ss) (cursor o x a b n) (inside u) ≡ reported P ss (cursor (suc o) 0 a b n) (inside u)
      over u = passes_end P ss o x a b n (inside u) (acts_end h M D (cursor o x a b n) (inside u))

      go : (t : Bool)
          → let u : Pair = (cond t (counted w (summed w s.0)) s.0, cond t (counted w (summed w s.1)) s.1) in
          (reported P (map (meaning w) (cond t (Add 0 0 22 ∷ Add 1 1 20 ∷ []) []) ++ (end ∷ ss)) (cursor o x a b n) (inside s)
          ≡ reported P ss (cursor (suc o) 0 a b n) (inside u))
          × Held u
      go true =
          let p = at_once (Add 0 0 22 ∷ Add 1 1 20 ∷ []) refl (also refl (also refl none)) (end ∷ ss) x a b n s
          (counted w (summed w s.0), counted w (summed w s.1)) r
          (ap (λ (z : Pair). goes_by a n (P.act (meaning w (Add 1 1 20)) (cursor 0 0 a b n) z))
          (acts_once 0 (λ l. add w (at l 0) (at l 22)) a b n s)
          ∙ ap (goes_by a n) (acts_once 1 (λ l. add w (at l 1) (at l 20)) a b n (summed w s.0, summed w s.1))) in
          (p.0 ∙ over _, p.1)
      go false = (over s, r)

  -- ---- the order's own gates

  abbrev pub behind : Pair → Pair
  behind s = (left w o s.0, left w o s.1)

  -- the code's answer and the day's, with b words spoken before and the orders' steps rest behind: so many are spoken in the gates, and all
  -- is the cursor behind the day
  pub data Walked (rest : List Step) (x b spoken : ℕ) (all : Cursor) (day code : Answer) : Type 0 where
    halted : (v : ℕ) (u : Stored) (s : Pair) → Held s → code ≡ going_on (suc b) v s.0 s.1 0 x u
        → day ≡ going_on (suc b) v (inside s).0 (inside s).1 o x u → Walked rest x b spoken all day code
    gone_by : (a n : ℕ) (s : Pair) → code ≡ going_on b 0 s.0 s.1 1 0 (stored_places a b n) → Held (behind s)
        → day ≡ reported P rest (cursor (suc o) 0 a b n) (inside (behind s)) → all ≡ far rest (cursor (suc o) 0 a b n)
        → spoken ≡ 0 → Walked rest x b spoken all day code

  far_back : (rest : List Step) (x a b n : ℕ)
      → far (map (meaning w) (back o) ++ (end ∷ rest)) (cursor o x a b n) ≡ far rest (cursor (suc o) 0 a b n)
  unfolding back meaning far past
  far_back rest x a b n = go (ltb o 96)
    where
      go : (t : Bool) → far (map (meaning w) (cond t (Add 0 0 22 ∷ Add 1 1 20 ∷ []) []) ++ (end ∷ rest)) (cursor o x a b n)
          ≡ far rest (cursor (suc o) 0 a b n)
      go true = refl
      go false = refl

  module _ (hs : List Gate) (sp : Spares 15 hs) (rest : List Step) (x a b n : ℕ) (s : Pair) (r : Held s) where
    abbrev Ends : Outcome → Type 0
    Ends u =
        outcome h M D (map (meaning w) hs) a b n s ≡ u
        → outcome h M D (map (meaning w) (map (moved (place o)) hs)) a b n (inside s)
        ≡ larger_outcome h M D (place o) (at t₁ o) (at t₂ o) (within k₁ t₁) (within k₂ t₂) E₁ E₂ u
        → Held (ended_on h M D (place o) (at t₁ o) (at t₂ o) (within k₁ t₁) (within k₂ t₂) E₁ E₂ u)
        → Walked rest x b (program_cost w hs).b (far (day_from w o hs rest) (cursor o x a b n)) (reported P (day_from w o hs rest) (cursor o x a b n) (inside s))
        (reported P (map (meaning w) hs ++ (end ∷ [])) (cursor 0 x a b n) s)

    -- gates that are gone by have no product or refresh
    silent : (a' n' : ℕ) (z : Pair) → outcome h M D (map (meaning w) hs) a b n s ≡ goes_by a' n' z → (program_cost w hs).b ≡ 0
    unfolding program_cost far past
    silent a' n' z p =
        let ss = map (meaning w) hs ++ (end ∷ []) in
        let f : far ss (cursor 0 x a b n) ≡ cursor 1 0 a' b n' =
        subst (Far h M D (map (meaning w) hs) (end ∷ []) 0 x a b n) p (goes_far h M D w hs (end ∷ []) 0 x a b n s) in
        omega (
          arith,
          (far_used ss (cursor 0 x a b n)).b,
          ap (λ (c : Cursor). c.b) f,
          ap (λ (ts : List Step). (cost ts).b) (steps_are w hs []),
        )

    by_outcome : (u : Outcome) → Ends u
    unfolding larger_outcome answer_behind
    by_outcome (halts v u z) p q g =
        halted v u z g
        (ends_in h M D w hs (end ∷ []) 0 x a b n s ∙ ap (answer_behind h M D (end ∷ []) 0 x b) p)
        (ends_in h M D w (map (moved (place o)) hs) _ o x a b n (inside s) ∙ ap (answer_behind h M D _ o x b) q)
    by_outcome (goes_by a' n' z) p q g =
        let later = map (meaning w) (back o) ++ (end ∷ rest) in
        let y = passes_by rest x a' b n' z g in
        let f : Far h M D (map (meaning w) (map (moved (place o)) hs)) later o x a b n (goes_by a' n' (inside z)) =
        subst (Far h M D (map (meaning w) (map (moved (place o)) hs)) later o x a b n) q
        (goes_far h M D w (map (moved (place o)) hs) later o x a b n (inside s)) in
        gone_by a' n' z
        (ends_in h M D w hs (end ∷ []) 0 x a b n s ∙ ap (answer_behind h M D (end ∷ []) 0 x b) p
        ∙ passes_end P [] 0 x a' b n' z (acts_end h M D (cursor 0 x a' b n') z) ∙ ends P [] 1 0 a' b n' z)
        y.1
        (ends_in h M D w (map (moved (place o)) hs) later o x a b n (inside s) ∙ ap (answer_behind h M D later o x b) q ∙ y.0)
        (f ∙ far_back rest x a' b n')
        (silent a' n' z p)

    pub walked : Walked rest x b (program_cost w hs).b (far (day_from w o hs rest) (cursor o x a b n)) (reported P (day_from w o hs rest) (cursor o x a b n) (inside s))
        (reported P (map (meaning w) hs ++ (end ∷ [])) (cursor 0 x a b n) s)
    walked =
        let q = gates_alike h M D (place o) (at t₁ o) (at t₂ o) (within k₁ t₁) (within k₂ t₂) E₁ E₂ w hs sp a b n s r in
        by_outcome (outcome h M D (map (meaning w) hs) a b n s) refl q.0 q.1
