-- Checks 1 to 7 of what a call is lent, by the tests that the code makes. Assumes nothing.
use mathlib.Core.Path.{◌≡◌, refl, sym, ap}
use mathlib.Core.Bool.{Bool, true, false, ◌||◌, cond}
use mathlib.Core.List.{List}
use Prim.Native.Nat.{ℕ, zero, suc, ◌*◌, ◌≤◌, ◌<◌}
use native.Mathlib.Omega.{arith}
use borrow.Author.Tests.{eq-eqb, ne_eqb, lt-ltb, le-ltb, ltb-false}
use lib.Dec.{eqb, ltb}
use lib.ListN.{length, take}
use Rattle.gates.specs.Costs.{Cost, cost_of}
use Rattle.jobs.specs.Job.{Fault, job_fault, job_cost, short_a, short_b, short_deals}
use Rattle.jobs.specs.Answers.{Verdict, refusal, acceptance, judged, check_job, counts_before}
use Rattle.calls.specs.Scripts.{Script, script_cost}
use Rattle.calls.specs.Lent.{lent, or_else, lists_fault, lent_fault, dealer_lists_fault, dealer_fault, passed}

-- ---- from the job's verdict, whatever number the lists have

module _ (w : ℕ) (job table : List ℕ) where
  -- it is accepted, with these counts
  abbrev pub Accepts : Cost → Type 0
  Accepts k = acceptance k ≡ check_job w job table

  pub or_refused : (x n i : ℕ) → refusal (n, i) ≡ check_job w job table → (n ≡ 0 → ⊥) → (n, i) ≡ or_else (job_fault w job table) x
  unfolding check_job judged or_else
  or_refused x n i e ne = go (job_fault w job table).0 (job_fault w job table) refl e
    where
      go : (m : ℕ) (f : Fault) → f.0 ≡ m → refusal (n, i) ≡ judged m f (job_cost w job table) → (n, i) ≡ cond (eqb f.0 0) (x, 0) f
      go zero f q p = absurd (ne (ap (λ (v : Verdict). v.number) p))
      go (suc m) f q p = rw (ne_eqb f.0 0 (λ z. omega arith)) (λ t. ((p t).number, (p t).index))

  pub accepted_tells : (k : Cost) → Accepts k → ((job_fault w job table).0 ≡ 0) × (job_cost w job table ≡ k)
  unfolding check_job judged
  accepted_tells k e = go (job_fault w job table).0 (job_fault w job table) refl e
    where
      go : (m : ℕ) (f : Fault) → f.0 ≡ m
          → acceptance k ≡ judged m f (job_cost w job table)
          → (m ≡ 0) × (job_cost w job table ≡ k)
      go zero f q p = (refl, sym (ap (λ (v : Verdict). v.counts) p))
      go (suc m) f q p = let z : 0 ≡ f.0 = ap (λ (v : Verdict). v.number) p in absurd (omega arith)

  pub or_accepted : (x : ℕ) → (job_fault w job table).0 ≡ 0 → (x, 0) ≡ or_else (job_fault w job table) x
  unfolding or_else
  or_accepted x e = rw (eq-eqb (job_fault w job table).0 0 e)

  pub counts_passed : (place : ℕ) (k : Cost) → Accepts k → counts_before w job table place ≡ job_cost w (take (place * 4) job) table
  unfolding counts_before judged
  counts_passed place k e =
      ap (λ (m : ℕ). (judged m (job_fault w job table) (job_cost w (take (place * 4) job) table)).counts) (accepted_tells k e).0

-- ---- the counts of the orders before a place

pub none_passed : (n : ℕ) (k : Cost) → (n ≡ 0 → ⊥) → cost_of 0 0 0 0 ≡ passed n k
unfolding passed
none_passed zero k h = absurd (h refl)
none_passed (suc n) k h = refl

pub no_fault_passed : (n : ℕ) (k : Cost) → n ≡ 0 → passed n k ≡ k
unfolding passed
no_fault_passed zero k e = refl
no_fault_passed (suc n) k e = absurd (omega arith)

pub all_passed : (k : Cost) → k ≡ passed 0 k
unfolding passed
all_passed k = refl

-- ---- the lists

-- by the tests of the three lengths; the counts' words play no part
module _ (n m i j : ℕ) (A B D : List ℕ) where
  pub short_list_a : length A < i → 6 ≡ dealer_lists_fault (cost_of n m i j) A B D
  unfolding dealer_lists_fault short_a
  short_list_a h = rw (lt-ltb (length A) i h)

  pub short_list_b : i ≤ length A → length B < j → 6 ≡ dealer_lists_fault (cost_of n m i j) A B D
  unfolding dealer_lists_fault short_a short_b
  short_list_b g h = rw (le-ltb (length A) i g, lt-ltb (length B) j h)

  pub short_buffer : i ≤ length A → j ≤ length B → length D < n → 7 ≡ dealer_lists_fault (cost_of n m i j) A B D
  unfolding dealer_lists_fault short_a short_b short_deals
  short_buffer f g h = rw (le-ltb (length A) i f, le-ltb (length B) j g, lt-ltb (length D) n h)

  pub long_enough : i ≤ length A → j ≤ length B → n ≤ length D → 0 ≡ dealer_lists_fault (cost_of n m i j) A B D
  unfolding dealer_lists_fault short_a short_b short_deals
  long_enough f g h = rw (le-ltb (length A) i f, le-ltb (length B) j g, le-ltb (length D) n h)

-- they are long enough where there is no fault
pub record Enough (k : Cost) (A B D : List ℕ) : Type 0 where
  pub a : k.a ≤ length A
  pub b : k.b ≤ length B
  pub deals : k.deals ≤ length D

enough_by : (k : Cost) (A B D : List ℕ) (p q r : Bool)
    → ltb (length A) k.a ≡ p → ltb (length B) k.b ≡ q → ltb (length D) k.deals ≡ r
    → ◌≡◌ {A = ℕ} (cond (p || q) 6 (cond r 7 0)) 0 → Enough k A B D
enough_by k A B D true q r f g h e = absurd (omega arith)
enough_by k A B D false true r f g h e = absurd (omega arith)
enough_by k A B D false false true f g h e = absurd (omega arith)
enough_by k A B D false false false f g h e = record { a = ltb-false _ _ f; b = ltb-false _ _ g; deals = ltb-false _ _ h }

enough : (k : Cost) (A B D : List ℕ) → dealer_lists_fault k A B D ≡ 0 → Enough k A B D
unfolding dealer_lists_fault short_a short_b short_deals
enough k A B D e = enough_by k A B D _ _ _ refl refl refl e

-- ---- the script's own fault comes first

neither : (m j n : ℕ) → (or_else (m, j) n).0 ≡ 0 → (m ≡ 0) × (n ≡ 0)
unfolding or_else
neither zero j n p = (refl, p)
neither (suc m) j n p = let z : suc m ≡ 0 = rw (ne_eqb (suc m) 0 (λ z. omega arith)) at p in absurd (omega arith)

-- host 0
pub enough_lent : (σ : Script) (A B D : List ℕ) → (dealer_fault σ A B D).0 ≡ 0 → Enough (script_cost σ) A B D
unfolding dealer_fault
enough_lent σ A B D e = enough (script_cost σ) A B D (neither σ.fault.0 σ.fault.1 _ e).1

pub no_dealer_fault : (σ : Script) (A B D : List ℕ) → (dealer_fault σ A B D).0 ≡ 0 → σ.fault.0 ≡ 0
unfolding dealer_fault
no_dealer_fault σ A B D e = (neither σ.fault.0 σ.fault.1 _ e).0

-- hosts 1 and 2
module _ (h : ℕ) (σ : Script) (M D : List ℕ) where
  pub no_host : (h ≡ 1 → ⊥) → (h ≡ 2 → ⊥) → (1, 0) ≡ lent_fault (lent h σ M D)
  unfolding lent_fault
  no_host p q = rw (ne_eqb h 1 p, ne_eqb h 2 q)

  -- none is left where the number is 0
  pub no_fault : (lent_fault (lent h σ M D)).0 ≡ 0 → σ.fault.0 ≡ 0
  unfolding lent_fault
  no_fault e = go (eqb h 1 || eqb h 2) e
    where
      go : (t : Bool) → (cond t (or_else σ.fault (lists_fault (script_cost σ) (lent h σ M D))) (1, 0)).0 ≡ 0 → σ.fault.0 ≡ 0
      go true p = (neither σ.fault.0 σ.fault.1 _ p).0
      go false p = absurd (omega arith)
