-- Each answer of host 1 and host 2 in a run is one where the joint walk halts. Assumes nothing.
use mathlib.Core.Path.{◌≡◌, ap}
use mathlib.Core.List.{List}
use Prim.Native.Nat.{ℕ, suc}
use lib.ListN.{length}
use Rattle.gates.specs.Hosts.{Pair, of1, of2, joint1, joint2, Supplied}
use Rattle.gates.proofs.Seen.{Always}
use Rattle.calls.specs.Lent.{worker1, worker2, worker_with}
use Rattle.calls.specs.Calls.{State, Answer, fresh2, start_walk, start, found_of, hear}
use Rattle.runs.specs.Runs.{Stage, Spoken, placed_word, Among, lent1, lent2, held}
use Rattle.runs.proofs.Ties.{shadow1, shadow2, Answered, start_answered, hear_answered}
use Rattle.runs.proofs.Refusals.{start_none, hear_none}
use Rattle.runs.proofs.Kept.{all, j₀, Tied1, Tied2, Heard1, Heard2, HasDeals}

module _ (S : Stage) where
  abbrev A : List ℕ
  A = S.A

  abbrev B : List ℕ
  B = S.B

  abbrev pub Answered1 : Answer → ℕ → Type 0
  Answered1 a k = Answered A B (all S) (j₀ S) (worker1 A) of1 (joint1 A B) (joint2 A B) Always (shadow1 A B) tt a k

  pub start1_answered : (D : List ℕ) (s : State) → held S s ≡ (S.rm, S.r1)
      → (start (lent1 S D) (held S s)).number ≡ 0
      → Answered1 (start (lent1 S D) (held S s)) 1
  unfolding worker_with start_walk
  start1_answered D s e z =
      rw (start_none (lent1 S D) (held S s) z).1
      (start_answered A B (all S) (j₀ S) (worker1 A) of1 (joint1 A B) (joint2 A B) Always (shadow1 A B) tt (held S s)
      (ap {B = Pair} (λ (p : Pair). fresh2 p) e))

  pub hear1_answered : (D : List ℕ) (s : State) (t : List Pair) (said said2 : List Spoken) (k v : ℕ)
      → Tied1 S s t said
      → Heard2 S k said2 → Among (placed_word s v) said2 → (hear (lent1 S D) s v).number ≡ 0
      → Answered1 (hear (lent1 S D) s v) (suc (length said))
  unfolding worker_with found_of
  hear1_answered D s t said said2 k v Z H m z =
      let q = (hear_none (lent1 S D) s v z).1 in
      rw q
      (hear_answered A B (all S) (j₀ S) (worker1 A) of1 (joint1 A B) (joint2 A B) Always (shadow1 A B) tt s t said said2 k v Z H m
      (rw q at z))

  -- host 2, on the deals
  module _ (D : List ℕ) (g : HasDeals S D) where
    abbrev pub Answered2 : Answer → ℕ → Type 0
    Answered2 a k = Answered A B (all S) (j₀ S) (worker2 B D) of2 (joint2 A B) (joint1 A B) (Supplied A B D) (shadow2 A B D) g a k

    pub start2_answered : (s : State) → held S s ≡ (S.rm, S.r2)
        → (start (lent2 S D) (held S s)).number ≡ 0
        → Answered2 (start (lent2 S D) (held S s)) 1
    unfolding worker_with start_walk
    start2_answered s e z =
        rw (start_none (lent2 S D) (held S s) z).1
        (start_answered A B (all S) (j₀ S) (worker2 B D) of2 (joint2 A B) (joint1 A B) (Supplied A B D) (shadow2 A B D) g
        (held S s) (ap {B = Pair} (λ (p : Pair). fresh2 p) e))

    pub hear2_answered : (s : State) (t : List Pair) (said said1 : List Spoken) (k v : ℕ)
        → Tied2 S s t said
        → Heard1 S k said1 → Among (placed_word s v) said1 → (hear (lent2 S D) s v).number ≡ 0
        → Answered2 (hear (lent2 S D) s v) (suc (length said))
    unfolding worker_with found_of
    hear2_answered s t said said1 k v Z H m z =
        let q = (hear_none (lent2 S D) s v z).1 in
        rw q
        (hear_answered A B (all S) (j₀ S) (worker2 B D) of2 (joint2 A B) (joint1 A B) (Supplied A B D)
        (shadow2 A B D) g s t said said1 k v Z H m (rw q at z))
