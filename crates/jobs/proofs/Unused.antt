-- From what `check` answers to what `leftover` hands back. Assumes nothing.
use mathlib.Core.Path.{◌≡◌, refl, sym, ap, ◌∙◌}
use mathlib.Core.Bool.{true, false}
use mathlib.Core.List.{List}
use Prim.Native.Nat.{ℕ, zero, suc, ◌-◌, ◌≤◌, ◌<◌}
use native.Mathlib.Omega.{arith}
use borrow.Author.Tests.{lt-ltb, le-ltb}
use lib.Dec.{ltb}
use lib.ListN.{length, take, drop, length-drop}
use lib.Seq.{take_all}
use Rattle.gates.specs.Costs.{Cost, cost_of}
use Rattle.jobs.specs.declared.Which.{Which}
use Rattle.jobs.specs.declared.Which.TheVariants.{ListA, ListB}
use Rattle.jobs.specs.Job.{Fault, job_fault, job_cost, short_a, short_b}
use Rattle.jobs.specs.Answers.{Verdict, refusal, acceptance, judged, check_job, need, short, or_short, leftover_number, leftover_part}

-- ---- what an answer tells of the fault and of the counts

-- a refusal with number 0 is the answer to a job that needs nothing
refusal_tells : (p n i : ℕ) (f : Fault) (k : Cost) → f.0 ≡ p → refusal (n, i) ≡ judged p f k → (n ≡ p) × (p ≡ 0 → k ≡ cost_of 0 0 0 0)
unfolding judged
refusal_tells zero n i f k q e = (ap (λ (v : Verdict). v.number) e, λ z. sym (ap (λ (v : Verdict). v.counts) e))
refusal_tells (suc p) n i f k q e = (ap (λ (v : Verdict). v.number) e ∙ q, λ z. absurd (omega arith))

counts_tell : (p : ℕ) (f : Fault) (k c : Cost) → f.0 ≡ p → acceptance c ≡ judged p f k
    → (p ≡ 0) × (k ≡ c)
unfolding judged
counts_tell zero f k c q e = (refl, sym (ap (λ (v : Verdict). v.counts) e))
counts_tell (suc p) f k c q e = let z : 0 ≡ f.0 = ap (λ (v : Verdict). v.number) e in absurd (omega arith)

-- ---- the one list

short_by_need : (x : Which) (k : Cost) (l : List ℕ) → short x k l ≡ ltb (length l) (need x k)
unfolding short need short_a short_b
short_by_need ListA k l = refl
short_by_need ListB k l = refl

needs_none : (x : Which) → need x (cost_of 0 0 0 0) ≡ 0
unfolding need
needs_none ListA = refl
needs_none ListB = refl

-- ---- the answers

module _ (w : ℕ) (job table : List ℕ) (x : Which) (l : List ℕ) where
  pub after_refusal : (n i : ℕ) → refusal (n, i) ≡ check_job w job table
      → (l ≡ leftover_part (leftover_number w job table x l) w job table x l) × (n ≡ leftover_number w job table x l)
  unfolding check_job leftover_number or_short leftover_part
  after_refusal n i e =
      let t = refusal_tells (job_fault w job table).0 n i (job_fault w job table) (job_cost w job table) refl e in
      go (job_fault w job table).0 t.0 t.1
    where
      go : (p : ℕ) → n ≡ p → (p ≡ 0 → job_cost w job table ≡ cost_of 0 0 0 0)
          → (l ≡ leftover_part (or_short p (short x (job_cost w job table) l)) w job table x l)
          × (n ≡ or_short p (short x (job_cost w job table) l))
      go zero q h =
          let none : need x (job_cost w job table) ≡ 0 = ap (need x) (h refl) ∙ needs_none x in
          let enough : short x (job_cost w job table) l ≡ false =
          short_by_need x (job_cost w job table) l ∙ rw none (le-ltb (length l) 0 (omega arith)) in
          (rw (enough, none), rw enough q)
      go (suc p) q h = (refl, q)

  module _ (c : Cost) (r : ℕ) (e : acceptance c ≡ check_job w job table) (er : r ≡ need x c) where
    told : ((job_fault w job table).0 ≡ 0) × (need x (job_cost w job table) ≡ r)
    unfolding check_job
    told =
        let t = counts_tell (job_fault w job table).0 (job_fault w job table) (job_cost w job table) c refl e in
        (t.0, ap (need x) t.1 ∙ sym er)

    pub too_short : length l < r
        → (l ≡ leftover_part (leftover_number w job table x l) w job table x l) × (6 ≡ leftover_number w job table x l)
    unfolding leftover_number or_short leftover_part
    too_short h =
        let s : short x (job_cost w job table) l ≡ true = short_by_need x (job_cost w job table) l ∙ rw told.1 (lt-ltb (length l) r h) in
        (rw (told.0, s), rw (told.0, s))

    pub long_enough : r ≤ length l
        → (take (length l - r) (drop r l) ≡ leftover_part (leftover_number w job table x l) w job table x l)
        × (0 ≡ leftover_number w job table x l)
    unfolding leftover_number or_short leftover_part
    long_enough h =
        let s : short x (job_cost w job table) l ≡ false =
        short_by_need x (job_cost w job table) l ∙ rw told.1 (le-ltb (length l) r h) in
        let whole : length (drop r l) ≤ length l - r = omega (arith, length-drop r l) in
        (rw (told.0, s, told.1) (take_all (length l - r) (drop r l) whole), rw (told.0, s))
