-- An order that a run finishes is one of the job's, and the job met no condition. Assumes nothing.
use Prim.Native.Nat.{ℕ, ◌<◌}
use lib.ListN.{length}
use Rattle.tables.specs.Table.{keeps_rules}
use Rattle.jobs.specs.Job.{orders}
use Rattle.jobs.proofs.Accepted.{Good}
use Rattle.runs.specs.Runs.{Setting, staged, World}
use Rattle.runs.specs.Orders.{order_of, Finishes}
use Rattle.runs.proofs.Chain.{job_orders}
use Rattle.runs.proofs.Opened.{order_good}
use Rattle.runs.proofs.Standing.{in_script}
use Rattle.runs.proofs.Started.{Checked, past_checked}

module _ (w : ℕ) (S : Setting) (q : ℕ) (v : World) (F : Finishes w (staged w S) q v) where
  pub in_job : q < length (orders S.job)
  in_job = rw (job_orders w S.job S.table) at (in_script (staged w S) v F.run q F.finished.one)

  pub checked : Checked (staged w S)
  checked = past_checked (staged w S) v q F.run F.finished.one

  -- the order's kind, registers and parameters keep document 01's conditions
  pub good_order : Good w (keeps_rules S.table) (order_of S q)
  good_order = order_good w S checked.script q in_job
