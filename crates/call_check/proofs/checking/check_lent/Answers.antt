use mathlib.Core.Path.{ap, ◌∙◌}
use native.Mathlib.Omega.{arith}
use Rattle.jobs.specs.Job.{job_cost}
use Rattle.jobs.specs.Refusals.{fault_of}
use Rattle.call_check.proofs.Hosts.{of_host, other_host}
use Rattle.call_check.proofs.checking.check_lent.Goals as goal

pub returns-in-1-clause-fault : goal.returns-in-1-clause-fault
unfolding job_cost
returns-in-1-clause-fault c = of_host _ _ _ _ _ (omega arith) (omega arith) c.check_job.ensures.fault

pub returns-in_default-clause-fault : goal.returns-in_default-clause-fault
returns-in_default-clause-fault c = ap fault_of c.into.ensures ∙ other_host _ _ _ _ (λ l u. omega arith)
