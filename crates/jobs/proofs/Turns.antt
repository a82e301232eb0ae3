-- `survey`'s walk over the orders of a job, on plain values: what holds at its head, a turn, and its ends. Assumes nothing.
use mathlib.Core.Path.{◌≡◌, refl, sym, ap, ◌∙◌}
use mathlib.Core.Bool.{Bool, true, false}
use mathlib.Core.List.{List, ◌∷◌}
use Prim.Native.Nat.{ℕ, zero, suc, ◌+◌, ◌*◌, ◌/◌, ◌%◌, ◌≤◌}
use native.Mathlib.Numerals.{add-one}
use native.Mathlib.Omega.{arith}
use lib.ListN.{length, take, drop}
use Rattle.tables.specs.Table.{rows, keeps_rules}
use Rattle.gates.specs.Costs.{Cost, cost_of, plus}
use Rattle.gates.proofs.Needs.{cost_path}
use Rattle.programs.specs.declared.Order.{Order}
use Rattle.jobs.specs.Job.{Fault, orders, ill_sized, order_fault, fault_at, orders_fault, job_fault, job_cost, order_at}
use Rattle.jobs.specs.CostTable.{table_counts, kind_cost}
use Rattle.jobs.specs.Answers.{refusal, acceptance, judged, check_job, counts_before}
use Rattle.jobs.proofs.Orders.{orders_from, no_more}
use Rattle.jobs.proofs.Sums.{Tabled, rows_right, Below, few, row_count, rows_few}
use Rattle.jobs.proofs.Conditions.{sized}

-- ---- from a fault to the answer

module _ (w : ℕ) (job table : List ℕ) (place : ℕ) where
  answered : (p : Fault) → job_fault w job table ≡ p → check_job w job table ≡ judged p.0 p (job_cost w job table)
  unfolding check_job
  answered p e = ap (λ (q : Fault). judged q.0 q (job_cost w job table)) e

  marked : (p : Fault) → job_fault w job table ≡ p
      → counts_before w job table place ≡ (judged p.0 p (job_cost w (take (place * 4) job) table)).counts
  unfolding counts_before
  marked p e = ap (λ (q : Fault). (judged q.0 q (job_cost w (take (place * 4) job) table)).counts) e

  pub refused : (n i : ℕ) → job_fault w job table ≡ (n, i) → (n ≡ 0 → ⊥)
      → (refusal (n, i) ≡ check_job w job table) × (cost_of 0 0 0 0 ≡ counts_before w job table place)
  unfolding judged
  refused zero i e ne = absurd (ne refl)
  refused (suc n) i e ne = (sym (answered (suc n, i) e), sym (marked (suc n, i) e))

  pub accepted : (k b : Cost) → job_fault w job table ≡ (0, 0) → job_cost w job table ≡ k → b ≡ job_cost w (take (place * 4) job) table
      → (acceptance k ≡ check_job w job table) × (b ≡ counts_before w job table place)
  unfolding judged
  accepted k b e c m = (sym (answered (0, 0) e ∙ ap (judged 0 (0, 0)) c), m ∙ sym (marked (0, 0) e))

sized_fault : (w : ℕ) (job table : List ℕ) → ill_sized job ≡ false
    → job_fault w job table ≡ orders_fault w (keeps_rules table) (orders job) 0
unfolding job_fault
sized_fault w job table e = rw e

pub ill : (w : ℕ) (job table : List ℕ) → ill_sized job ≡ true → job_fault w job table ≡ (2, 0)
unfolding job_fault
ill w job table e = rw e

-- ---- one order

skip : (n i : ℕ) (later : Fault) → n ≡ 0 → fault_at n i later ≡ later
unfolding fault_at
skip zero i later e = refl
skip (suc n) i later e = absurd (omega arith)

stop : (n i : ℕ) (later : Fault) → (n ≡ 0 → ⊥) → fault_at n i later ≡ (n, i)
unfolding fault_at
stop zero i later h = absurd (h refl)
stop (suc n) i later h = refl

-- ---- the walk

-- what stays the same on the way: the job is sized, and the table's rules are judged
pub record Given (job table : List ℕ) (ruled : Bool) : Type 0 where
  pub size : ill_sized job ≡ false
  pub most : length job ≤ 256
  pub fours : length job % 4 ≡ 0
  pub rule : ruled ≡ keeps_rules table

pub given : (job table : List ℕ) {ruled : Bool} → ill_sized job ≡ false → ruled ≡ keeps_rules table → Given job table ruled
given job table e r = record { size = e; most = (sized job e).0; fours = (sized job e).1; rule = r }

-- at the head, with i orders behind it: the faults still to be found are the job's, and the counts so far, with those of the orders to
-- come, are the job's
pub record Going (w : ℕ) (job table : List ℕ) (i : ℕ) (sum : Cost) : Type 0 where
  pub faults : orders_fault w (keeps_rules table) (orders (drop (i * 4) job)) i ≡ orders_fault w (keeps_rules table) (orders job) 0
  pub costs : plus sum (table_counts (length (rows table)) (orders (drop (i * 4) job))) ≡ job_cost w job table
  pub below : Below sum i

module _ (w : ℕ) (job table : List ℕ) where
  pub starts : Tabled w → (sum : Cost) → sum ≡ cost_of 0 0 0 0 → Going w job table 0 sum
  unfolding plus
  starts tabled sum e = record {
    faults = refl;
    costs = rw (e, tabled job table) (cost_path (omega arith) (omega arith) (omega arith) (omega arith));
    below = rw e (omega arith);
  }

  module _ {i : ℕ} {sum : Cost} (g : Going w job table i sum) {ruled : Bool} (t : Given job table ruled) where
    pub done : length job / 4 ≤ i → (job_fault w job table ≡ (0, 0)) × (job_cost w job table ≡ sum)
    unfolding orders_fault plus table_counts
    done h =
        let left = no_more job i h in
        let fine : orders_fault w (keeps_rules table) (orders job) 0 ≡ (0, 0) = sym g.faults ∙ rw left in (
          sized_fault w job table t.size ∙ fine,
          sym g.costs
              ∙ rw left (cost_path (omega arith) (omega arith) (omega arith) (omega arith)),
        )

    module _ (h : i * 4 + 4 ≤ length job) {o : Order} (eo : o ≡ order_at job i) {f : ℕ} (ef : f ≡ order_fault w ruled o) where
      fault_here : orders_fault w (keeps_rules table) (orders (drop (i * 4) job)) i
          ≡ fault_at f i (orders_fault w (keeps_rules table) (orders (drop ((i + 1) * 4) job)) (suc i))
      unfolding orders_fault
      fault_here = rw (orders_from job i h, ef, eo, t.rule)

      pub faulty : (f ≡ 0 → ⊥) → job_fault w job table ≡ (f, i)
      faulty ne = sized_fault w job table t.size ∙ sym g.faults ∙ fault_here ∙ stop f i _ ne

      module _ (e : f ≡ 0) {k : Cost} (ek : k ≡ kind_cost o.kind o.fourth (row_count ruled table)) where
        cost_here : k ≡ kind_cost o.kind o.fourth (length (rows table))
        cost_here = ek ∙ rows_right w ruled (length (rows table)) o (sym ef ∙ e)

        one : Below k 1
        one = rw ek (few o.kind o.fourth (row_count ruled table) (rows_few table ruled t.rule))

        pub few_so_far : Below sum 63 × Below k 1
        few_so_far = let b = g.below in let d = one in let m = t.most in omega arith

        abbrev rest : Cost
        rest = table_counts (length (rows table)) (orders (drop ((i + 1) * 4) job))

        total : plus sum (plus k rest) ≡ job_cost w job table
        unfolding table_counts
        total =
            let e : o ∷ orders (drop ((i + 1) * 4) job) ≡ orders (drop (i * 4) job) = rw eo (sym (orders_from job i h)) in
            ap (plus sum) (ap (λ (x : Cost). plus x rest) cost_here ∙ ap (table_counts (length (rows table))) e)
            ∙ g.costs

        pub turn : {s : Cost} → s ≡ plus sum k → Going w job table (i + 1) s
        unfolding plus
        turn es = record {
          faults =
              ap (orders_fault w (keeps_rules table) (orders (drop ((i + 1) * 4) job))) (add-one i) ∙ sym (fault_here ∙ skip f i _ e)
              ∙ g.faults;
          costs = rw es (cost_path (omega arith) (omega arith) (omega arith) (omega arith)) ∙ total;
          below = let b = g.below in let d = one in rw es (omega arith);
        }
