-- Counts in one number, as the check of a job adds them up. Assumes nothing.
use Rattle.std.specs.Prelude.{◌≡◌, ℕ, ◌*◌, ◌/◌, ◌%◌}
use Rattle.gates.specs.Costs.{Cost, cost_of}
use Rattle.jobs.specs.CostTable.{curve_cost}
use Rattle.job_check.specs.declared.cost.CurveTallies.{CurveTallies}

-- the counts that a tally stands for, 20 bits each for deals, words of A and words of B: at each exchange both hosts
-- speak, and one word of B is used
unfoldable pub tallied : ℕ → Cost
tallied t = cost_of (t / 1099511627776) (2 * (t % 1048576)) (t / 1048576 % 1048576) (t % 1048576)

-- a curve's tallies, on n rows of its table
abbrev pub CurveTallied : CurveTallies → (n : ℕ) → Type 0
CurveTallied c n = (tallied c.exact ≡ curve_cost 0 n) × (tallied c.one_bit ≡ curve_cost 1 n)
