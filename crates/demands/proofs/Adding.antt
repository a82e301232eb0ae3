-- The walks of the hosts over additions and subtractions: no word is spoken and none dealt. Assumes nothing.
use mathlib.Core.Path.{◌≡◌, refl, ap, ◌∙◌}
use mathlib.Core.List.{List, [], ◌∷◌, map}
use Prim.Native.Nat.{ℕ, suc, ◌+◌}
use native.Mathlib.Omega.{arith}
use lib.ListN.{length}
use Rattle.tables.specs.Table.{Row}
use Rattle.gates.specs.Steps.{Step, end, Cursor, past}
use Rattle.gates.specs.Meaning.{each, job_steps}
use Rattle.gates.specs.Walk.{walk, whole}
use Rattle.gates.specs.Hosts.{Pair, act0, dealt, deals}
use Rattle.programs.specs.declared.Order.{Order}
use Rattle.programs.specs.Orders.{program}
use Rattle.jobs.specs.Additions.{added_word, added_all}
use Rattle.jobs.proofs.Additions.{additive_steps}
use Rattle.calls.specs.Lent.{worker_with}
use Rattle.calls.specs.Calls.{word_at, spoken_at, counted_to, stored_at}
use Rattle.walks.specs.Halts.{going_on, reported}
use Rattle.walks.proofs.Alike.{written, passes_each}
use Rattle.demands.specs.Additions.{AllAdditive}

-- such an order's steps
abbrev pub adding : (w : ℕ) → Order → List Step → List Step
adding w o ss = each o.target (added_word w o) ∷ end ∷ ss

-- ---- a list of such orders

module _ (w : ℕ) (ps : List Row) where
  abbrev steps : List Order → List Step
  steps os = job_steps w (map (program w ps) os)

  -- hosts 1 and 2 come to the end
  pub worker_adds : (h : ℕ) (M D : List ℕ) (os : List Order) → AllAdditive os → (c : Cursor) (s : Pair)
      → c.turn ≡ 0
      → reported (worker_with h M D) (steps os) c s
      ≡ going_on c.b 0 (added_all w os s).0 (added_all w os s).1 (length os + c.order) 0 (counted_to c)
  unfolding job_steps added_all reported walk past word_at spoken_at stored_at
  worker_adds h M D [] f c s z = rw z (ap (λ (n : ℕ). going_on c.b 0 s.0 s.1 n 0 (counted_to c)) (omega arith))
  worker_adds h M D (o ∷ os) f c s z =
      ap (λ (ss : List Step). reported (worker_with h M D) ss c s) (additive_steps w ps o (f 0 (omega arith)) (steps os))
      ∙ passes_each h M D o.target (added_word w o) (steps os) c s
      ∙ worker_adds h M D os (λ q l. f (suc q) (omega arith)) (past end c) (written o.target (added_word w o) s) refl
      ∙ ap (λ (n : ℕ). going_on c.b 0 (added_all w (o ∷ os) s).0 (added_all w (o ∷ os) s).1 n 0 (counted_to c)) (omega arith)

  -- and host 0 deals nothing
  pub dealer_adds : (A B : List ℕ) (os : List Order) → AllAdditive os → (c : Cursor) (s : Pair) (t : List Pair)
      → ((whole (act0 A B) (steps os) c s t).state ≡ added_all w os s)
      × (deals A B (steps os) c s ≡ [])
  unfolding job_steps added_all whole deals dealt act0
  dealer_adds A B [] f c s t = (refl, refl)
  dealer_adds A B (o ∷ os) f c s t =
      let r = dealer_adds A B os (λ q l. f (suc q) (omega arith)) in
      rw (additive_steps w ps o (f 0 (omega arith)) (steps os)) ((r _ _ _).0, (r _ _ t).1)
