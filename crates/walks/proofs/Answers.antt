-- The answers of starting and hearing a script, by the tests that the code makes, on plain values: the fault's refusal, the walk from
-- the start, and by what is found at the state's place. Assumes nothing.
use mathlib.Core.Path.{◌≡◌, refl, sym, ap, ◌∙◌}
use mathlib.Core.Bool.{Bool, true, false, ◌&&◌, cond}
use mathlib.Core.List.{List, [], ◌∷◌}
use Prim.Native.Nat.{ℕ, zero, suc, ◌≤◌}
use native.Mathlib.Omega.{arith}
use borrow.Author.Tests.{eqb-true, eqb-false}
use lib.Dec.{eqb}
use lib.ListN.{length, drop}
use Rattle.gates.specs.Gates.{Gate}
use Rattle.gates.specs.Steps.{Lane, Step, local, deal, exchange, end, Cursor, origin}
use Rattle.gates.specs.Meaning.{job_steps}
use Rattle.gates.specs.Costs.{Cost, cost}
use Rattle.gates.specs.Walk.{Exchanging}
use Rattle.gates.specs.Hosts.{Pair}
use Rattle.jobs.specs.Job.{Fault}
use Rattle.calls.specs.Scripts.{Script}
use Rattle.calls.specs.Lent.{lent_fault, lent, Worker, worker_with}
use Rattle.calls.specs.Places.{Found, nowhere, found, seek}
use Rattle.calls.specs.declared.Stored.{Stored}
use Rattle.calls.specs.Calls.{stored_places, State, Answer, refused, counted_to, stored_at, report, fresh, unless, given, start_walk, start}
use Rattle.calls.specs.Calls.{hear_walk, place_fault, walked_to, same_places, hearing_fault, found_of, resume, hear}
use Rattle.calls.proofs.Hearing.{same_tells, judged_equal}
use Rattle.walks.specs.Workers.{cursor}
use Rattle.walks.specs.Halts.{reported, steps_from}
use Rattle.walks.proofs.Gates.{first_gate}
use Rattle.walks.proofs.Places.{past_end, at_end, no_turn}

-- ---- the fault's refusal, or the answer

turned_down : (n i : ℕ) (s : State) (a : Answer) → (n ≡ 0 → ⊥) → refused (n, i) s ≡ unless n (n, i) s a
unfolding unless
turned_down zero i s a h = absurd (h refl)
turned_down (suc n) i s a h = refl

let_pass : (n i : ℕ) (s : State) (a : Answer) → n ≡ 0 → a ≡ unless n (n, i) s a
unfolding unless
let_pass zero i s a h = refl
let_pass (suc n) i s a h = absurd (omega arith)

module _ (n i : ℕ) (f : Fault) (e : (n, i) ≡ f) (s : State) (a : Answer) where
  by_fault : unless n (n, i) s a ≡ unless f.0 f s a
  by_fault = ap {B = Answer} (λ (x : Fault). unless x.0 x s a) e

  is_refused : (n ≡ 0 → ⊥) → refused (n, i) s ≡ unless f.0 f s a
  is_refused h = turned_down n i s a h ∙ by_fault

  is_answered : n ≡ 0 → a ≡ unless f.0 f s a
  is_answered h = let_pass n i s a h ∙ by_fault

-- the host's number, its script and its lists, and the number and index that the code found
module _ (h : ℕ) (σ : Script) (M D : List ℕ) (n i : ℕ) (e : (n, i) ≡ lent_fault (lent h σ M D)) where
  abbrev P : Worker
  P = worker_with h M D

  -- ---- starting

  module _ (r : Pair) (m l : Lane) (em : m ≡ fresh r.0) (el : l ≡ fresh r.1) where
    pub start_refused : (n ≡ 0 → ⊥)
        → refused (n, i) (record { m = m; mask = l; order = 0; turn = 0; stored = stored_places 0 0 0 }) ≡ start (lent h σ M D) r
    unfolding start given
    start_refused z = rw (em, el) (is_refused n i _ e _ _ z)

    pub started : (w : ℕ) (programs : List (List Gate)) → σ.steps ≡ job_steps w programs → n ≡ 0
        → reported P (steps_from w 0 (drop 0 programs)) (cursor 0 0 0 0 0) (m, l) ≡ start (lent h σ M D) r
    unfolding start start_walk reported worker_with
    started w programs made z = rw (em, el, ← first_gate w programs, ← made) (is_answered n i _ e _ _ z)

  -- ---- hearing

  module _ (s : State) (v : ℕ) where
    pub hear_refused : (n ≡ 0 → ⊥) → refused (n, i) s ≡ hear (lent h σ M D) s v
    unfolding hear
    hear_refused z = is_refused n i _ e s _ z

    module _ (z : n ≡ 0) where
      -- what is found at the state's place
      abbrev Finds : Found → Type 0
      Finds f = seek s.order s.turn σ.steps origin ≡ f

      by_place : (f : Found) → Finds f → resume P s v f ≡ hear (lent h σ M D) s v
      unfolding hear found_of worker_with
      by_place f p = ap (λ (g : Found). resume P s v g) (sym p) ∙ is_answered n i _ e s _ z

      -- by the number that is found there
      by_number : (f : Found) → Finds f → (r : ℕ) → (r ≡ 0 → ⊥) → r ≡ hearing_fault s.stored f
          → refused (r, 0) s ≡ hear (lent h σ M D) s v
      unfolding resume
      by_number f p r ne q =
          turned_down r 0 s (report P (hear_walk P s v f)) ne
          ∙ ap {B = Answer} (λ (k : ℕ). unless k (k, 0) s (report P (hear_walk P s v f))) q
          ∙ by_place f p

      pub at_nowhere : Finds nowhere → refused (8, 0) s ≡ hear (lent h σ M D) s v
      unfolding hearing_fault place_fault
      at_nowhere p = by_number nowhere p 8 (λ z. omega arith) refl

      -- at the end, the stored places are compared with the totals first
      at_the_end : (c : Cursor) → Finds (found [] c)
          → refused (cond (same_places s.stored (counted_to c)) 9 18, 0) s ≡ hear (lent h σ M D) s v
      unfolding hearing_fault place_fault walked_to stored_at
      at_the_end c p = by_number (found [] c) p _ (ne (same_places s.stored (counted_to c))) refl
        where
          ne : (b : Bool) → ◌≡◌ {A = ℕ} (cond b 9 18) 0 → ⊥
          ne true z = omega arith
          ne false z = omega arith

      -- at a product or refresh: what is found there
      module _ (y : Step) (ss ts : List Step) (c : Cursor) (q : Exchanging (y ∷ [])) (t : ts ≡ y ∷ ss) (p : Finds (found ts c)) where
        finds : Finds (found (y ∷ ss) c)
        finds = p ∙ ap (λ (z : List Step). found z c) t

        spoken_there : place_fault (found (y ∷ ss) c) ≡ 0
        unfolding place_fault
        spoken_there = go y q
          where
            go : (y : Step) → Exchanging (y ∷ []) → place_fault (found (y ∷ ss) c) ≡ 0
            go (local d m l) q = absurd q
            go (deal d f) q = absurd q
            go (exchange d x) q = refl
            go end q = absurd q

        -- "18, stored places unequal to the walk's"
        pub at_unequal : (s.stored ≡ stored_at (y ∷ ss) c → ⊥) → refused (18, 0) s ≡ hear (lent h σ M D) s v
        unfolding hearing_fault walked_to
        at_unequal ne =
            by_number (found (y ∷ ss) c) finds 18 (λ z. omega arith)
            (rw spoken_there (go (same_places s.stored (stored_at (y ∷ ss) c)) refl))
          where
            go : (b : Bool) → same_places s.stored (stored_at (y ∷ ss) c) ≡ b → ◌≡◌ {A = ℕ} 18 (cond b 0 18)
            go true e = absurd (ne (same_tells s.stored (stored_at (y ∷ ss) c) e))
            go false e = refl

        pub at_exchange : s.stored ≡ stored_at (y ∷ ss) c → report P (hear_walk P s v (found ts c)) ≡ hear (lent h σ M D) s v
        unfolding resume walked_to
        at_exchange e =
            ap (λ (z : List Step). report P (hear_walk P s v (found z c))) t
            ∙ let_pass 0 0 s (report P (hear_walk P s v (found (y ∷ ss) c))) refl
            ∙ ap {B = Answer} (λ (k : ℕ). unless k (k, 0) s (report P (hear_walk P s v (found (y ∷ ss) c))))
            (sym (judged_equal s.stored (found (y ∷ ss) c) e ∙ spoken_there))
            ∙ by_place (found (y ∷ ss) c) finds

      -- past the last of its programs, of which these are the counts
      pub past_programs : (w : ℕ) (programs : List (List Gate)) → σ.steps ≡ job_steps w programs → (c : ℕ) → length programs ≡ c
          → (k : Cost) → k ≡ cost (job_steps w programs)
          → (r : ℕ) → c ≤ s.order
          → r ≡ cond (eqb s.order c && eqb s.turn 0) (cond (same_places s.stored (stored_places k.a k.b k.deals)) 9 18) 8
          → refused (r, 0) s ≡ hear (lent h σ M D) s v
      past_programs w programs made c count k whole r l p = rw p (go (eqb s.order c) (eqb s.turn 0) refl refl)
        where
          here : (f : Found) → seek s.order s.turn (job_steps w programs) origin ≡ f → Finds f
          here f p = ap (λ (ss : List Step). seek s.order s.turn ss origin) made ∙ p

          go : (a b : Bool) → eqb s.order c ≡ a → eqb s.turn 0 ≡ b
              → refused (cond (a && b) (cond (same_places s.stored (stored_places k.a k.b k.deals)) 9 18) 8, 0) s
              ≡ hear (lent h σ M D) s v
          go true true p q =
              let t = at_end w programs s.order s.turn (eqb-true s.order c p ∙ sym count) (eqb-true s.turn 0 q) in
              ap {B = Answer} (λ (u : Stored). refused (cond (same_places s.stored u) 9 18, 0) s)
              (ap {B = Stored} (λ (k : Cost). stored_places k.a k.b k.deals) whole ∙ sym t.1)
              ∙ at_the_end t.0 (here _ t.2)
          go true false p q =
              let o = eqb-true s.order c p ∙ sym count in
              at_nowhere (here _ (no_turn w programs s.order s.turn o (eqb-false s.turn 0 q)))
          go false b p q =
              let ne : s.order ≡ c → ⊥ = eqb-false s.order c p in
              at_nowhere (here _ (past_end w programs s.order s.turn (omega (arith, count, ne))))
