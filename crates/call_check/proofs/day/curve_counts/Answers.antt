use native.Mathlib.Omega.{arith}
use Rattle.gates.proofs.Needs.{cost_path}
use Rattle.jobs.specs.CostTable.{curve_cost}
use Rattle.call_check.proofs.day.curve_counts.Goals as goal

pub returns : goal.returns
unfolding curve_cost
returns c = cost_path (omega arith) (omega arith) (omega arith) (omega arith)
