-- Document 01's table of costs holds of every job. Assumes nothing.
use mathlib.Core.Path.{◌≡◌, refl}
use Prim.Native.Nat.{ℕ, zero, suc}
use native.Mathlib.Omega.{arith}
use Rattle.gates.specs.Costs.{plus}
use Rattle.gates.proofs.Needs.{cost_path}
use Rattle.jobs.specs.CostTable.{CostTable, curve_cost, kind_costs, kind_cost}
use Rattle.jobs.proofs.Sums.{of_order, job_counts}

row_more : (mode n : ℕ) → kind_cost 10 mode (suc n) ≡ plus (kind_cost 9 mode n) (kind_cost 10 mode n)
unfolding kind_cost kind_costs curve_cost plus
row_more zero n = cost_path (omega arith) (omega arith) (omega arith) (omega arith)
row_more (suc m) n = cost_path (omega arith) (omega arith) (omega arith) (omega arith)

pub cost_table : CostTable
unfolding kind_cost kind_costs curve_cost
cost_table =
    record {
      order_counts = of_order;
      job_counts = job_counts;
      lines = λ c n. refl;
      eight_exact = refl;
      eight_one_bit = refl;
      row_more = row_more;
    }
