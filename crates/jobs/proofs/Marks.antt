-- The counts of the orders before a place, taken on the walk over a job's orders. Assumes nothing.
use mathlib.Core.Path.{◌≡◌, sym, ap, ◌∙◌}
use mathlib.Core.Logic.{◌⊎◌, inl, inr, ⊎_elim}
use mathlib.Core.List.{List, [], ◌∷◌}
use Prim.Native.Nat.{ℕ, zero, suc, ◌+◌, ◌*◌, ◌≤◌, ◌<◌}
use native.Mathlib.Omega.{arith}
use lib.ListN.{length, take, drop}
use lib.Seq.{take_all}
use Rattle.words.proofs.Integers.{le_or_lt}
use Rattle.tables.specs.Table.{rows}
use Rattle.gates.specs.Costs.{Cost, cost_of, plus}
use Rattle.gates.proofs.Needs.{cost_path}
use Rattle.jobs.specs.Job.{orders, job_cost}
use Rattle.jobs.specs.CostTable.{table_counts}
use Rattle.jobs.proofs.Sums.{Tabled}
use Rattle.jobs.proofs.Turns.{Going}

-- ---- the orders before an index and those from it on have the job's counts

split : (n : ℕ) (ws : List ℕ) (i : ℕ) → i * 4 ≤ length ws
    → plus (table_counts n (orders (take (i * 4) ws))) (table_counts n (orders (drop (i * 4) ws))) ≡ table_counts n (orders ws)
unfolding orders plus table_counts
split n ws zero h = cost_path (omega arith) (omega arith) (omega arith) (omega arith)
split n [] (suc i) h = absurd (omega arith)
split n (k ∷ []) (suc i) h = absurd (omega arith)
split n (k ∷ d ∷ []) (suc i) h = absurd (omega arith)
split n (k ∷ d ∷ a ∷ []) (suc i) h = absurd (omega arith)
split n (k ∷ d ∷ a ∷ c ∷ ws) (suc i) h =
    let e : suc i * 4 ≡ suc (suc (suc (suc (i * 4)))) = omega arith in
    rw (e, ← split n ws i (omega arith)) (cost_path (omega arith) (omega arith) (omega arith) (omega arith))

cancel : (x y r : Cost) → plus x r ≡ plus y r → x ≡ y
unfolding plus
cancel x y r e =
    let d : x.deals + r.deals ≡ y.deals + r.deals = ap (λ (k : Cost). k.deals) e in
    let s : x.words + r.words ≡ y.words + r.words = ap (λ (k : Cost). k.words) e in
    let a : x.a + r.a ≡ y.a + r.a = ap (λ (k : Cost). k.a) e in
    let b : x.b + r.b ≡ y.b + r.b = ap (λ (k : Cost). k.b) e in
    cost_path (omega arith) (omega arith) (omega arith) (omega arith)

-- ---- on the way

-- the counts kept: those so far while the place lies ahead, and those before the place from then on
pub record Marked (w : ℕ) (job table : List ℕ) (place i : ℕ) (before : Cost) : Type 0 where
  pub ahead : i ≤ place → before ≡ job_cost w (take (i * 4) job) table
  pub behind : place ≤ i → before ≡ job_cost w (take (place * 4) job) table

module _ (w : ℕ) (job table : List ℕ) where
  so_far : Tabled w → {i : ℕ} {sum : Cost} → Going w job table i sum → i * 4 ≤ length job
      → sum ≡ job_cost w (take (i * 4) job) table
  so_far tabled {i} {sum} g h =
      let n = length (rows table) in
      cancel sum (table_counts n (orders (take (i * 4) job))) (table_counts n (orders (drop (i * 4) job)))
      (g.costs ∙ tabled job table ∙ sym (split n job i h))
      ∙ sym (tabled (take (i * 4) job) table)

  none_yet : Tabled w → {sum : Cost} → sum ≡ cost_of 0 0 0 0 → sum ≡ job_cost w (take 0 job) table
  unfolding orders table_counts
  none_yet tabled e = e ∙ sym (tabled [] table)

  module _ (place : ℕ) where
    pub unmarked : Tabled w → (before : Cost) → before ≡ cost_of 0 0 0 0 → Marked w job table place 0 before
    unmarked tabled before e = record {
      ahead = λ h. none_yet tabled e;
      behind = λ h. let z : place ≡ 0 = omega arith in rw z (none_yet tabled e);
    }

    module _ {i : ℕ} {before : Cost} (m : Marked w job table place i before) where
      pub next_mark : Tabled w → {s b : Cost} → Going w job table (i + 1) s → (i + 1) * 4 ≤ length job
          → ((i < place) × (b ≡ s)) ⊎ ((place ≤ i) × (b ≡ before)) → Marked w job table place (i + 1) b
      next_mark tabled g h (inl (l, e)) =
          let n = e ∙ so_far tabled g h in record {
            ahead = λ k. n;
            behind = λ k. let z : place ≡ i + 1 = omega arith in rw z n;
          }
      next_mark tabled g h (inr (l, e)) = record {
        ahead = λ k. absurd (omega arith);
        behind = λ k. e ∙ m.behind l;
      }

      pub all_marked : length job ≤ i * 4 → before ≡ job_cost w (take (place * 4) job) table
      all_marked h =
          ⊎_elim (λ (k : place ≤ i). m.behind k)
          (λ (k : i < place). m.ahead (omega arith)
          ∙ ap (λ (l : List ℕ). job_cost w l table) (take_all (i * 4) job h ∙ sym (take_all (place * 4) job (omega arith))))
          (le_or_lt place i)
