use Rattle.jobs.proofs.Sums.{rows_counted}
use Rattle.job_check.proofs.cost.rows_of.Goals as goal

pub returns-then-ruled : goal.returns-then-ruled
returns-then-ruled c = rw c.if-ruled.true (rows_counted _ _ c.requires c.if-ruled.true).1
