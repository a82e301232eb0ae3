-- The one check of a job and its lists, as each host's own. Assumes nothing.
use mathlib.Core.Path.{◌≡◌, refl, sym, ap, ◌∙◌}
use mathlib.Core.Bool.{Bool, true, false, ◌||◌, cond}
use mathlib.Core.List.{List}
use Prim.Native.Nat.{ℕ, zero, suc, ◌*◌, ◌≤◌, ◌<◌}
use native.Mathlib.Omega.{arith}
use borrow.Author.Tests.{le-ltb}
use lib.Dec.{ltb}
use lib.ListN.{length, take}
use lib.Seq.{take_all}
use Rattle.gates.specs.Costs.{Cost}
use Rattle.jobs.specs.Job.{Fault, job_fault, job_cost, short_a, short_b, short_deals}
use Rattle.calls.specs.Scripts.{Script, script_cost}
use Rattle.calls.specs.Lent.{lent, or_else, lists_fault, lent_fault, dealer_lists_fault}
use Rattle.calls.proofs.Faults.{Accepts, accepted_tells, or_accepted, no_host}
use Rattle.call_check.specs.Needs.{needs_of}

-- an accepted job has the lists' number
pub lists_tell : (w : ℕ) (job table A B D : List ℕ) (h x : ℕ) (k need : Cost) → Accepts w job table k → need ≡ needs_of h k
    → x ≡ dealer_lists_fault need A B D
    → (x, 0) ≡ or_else (job_fault w job table) (dealer_lists_fault (needs_of h (job_cost w job table)) A B D)
lists_tell w job table A B D h x k need e en ex =
    let t = accepted_tells w job table k e in
    let n = ex ∙ ap (λ (q : Cost). dealer_lists_fault q A B D) (en ∙ ap (needs_of h) (sym t.1)) in
    ap {B = Fault} (λ (y : ℕ). (y, 0)) n ∙ or_accepted w job table _ t.0

-- host 1 needs nothing of B and no deals, host 2 nothing of A
module _ (σ : Script) (k : Cost) (M D : List ℕ) where
  lists_1 : dealer_lists_fault (needs_of 1 k) M M D ≡ lists_fault k (lent 1 σ M D)
  unfolding dealer_lists_fault needs_of lists_fault short_a short_b short_deals
  lists_1 = rw (le-ltb (length M) 0 (omega arith), le-ltb (length D) 0 (omega arith)) (go (ltb (length M) k.a))
    where
      go : (b : Bool) → cond {A = ℕ} (b || false) 6 0 ≡ cond b 6 0
      go true = refl
      go false = refl

  lists_2 : dealer_lists_fault (needs_of 2 k) M M D ≡ lists_fault k (lent 2 σ M D)
  unfolding dealer_lists_fault needs_of lists_fault short_a short_b short_deals
  lists_2 = rw (le-ltb (length M) 0 (omega arith))

-- the script's own fault, or the lists'
pub of_host : (σ : Script) (h : ℕ) (M D : List ℕ) (f : Fault) → 1 ≤ h → h < 3
    → f ≡ or_else σ.fault (dealer_lists_fault (needs_of h (script_cost σ)) M M D) → f ≡ lent_fault (lent h σ M D)
unfolding lent_fault lists_fault
of_host σ zero M D f l u e = absurd (omega arith)
of_host σ (suc zero) M D f l u e = e ∙ ap (or_else σ.fault) (lists_1 σ (script_cost σ) M D)
of_host σ (suc (suc zero)) M D f l u e = e ∙ ap (or_else σ.fault) (lists_2 σ (script_cost σ) M D)
of_host σ (suc (suc (suc h))) M D f l u e = absurd (omega arith)

module _ (w : ℕ) (job table : List ℕ) where
  -- no order stands after as many places as the job has words
  pub all_before : job_cost w (take (length job * 4) job) table ≡ job_cost w job table
  all_before = ap (λ (l : List ℕ). job_cost w l table) (take_all (length job * 4) job (omega arith))

pub other_host : (h : ℕ) (σ : Script) (M D : List ℕ) → (1 ≤ h → h < 3 → ⊥) → (1, 0) ≡ lent_fault (lent h σ M D)
other_host h σ M D n =
    no_host h σ M D (λ (z : h ≡ 1). n (omega arith) (omega arith)) (λ (z : h ≡ 2). n (omega arith) (omega arith))
