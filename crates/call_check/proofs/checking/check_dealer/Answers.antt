use mathlib.Core.Path.{◌∙◌}
use Rattle.std.proofs.lemmas.Result.{IfOk-weaker}
use Rattle.jobs.specs.Job.{job_cost}
use Rattle.calls.specs.Lent.{dealer_fault}
use Rattle.call_check.specs.Needs.{needs_of}
use Rattle.call_check.proofs.Hosts.{all_before}
use Rattle.call_check.proofs.checking.check_dealer.Goals as goal

pub returns : goal.returns
unfolding dealer_fault needs_of job_cost
returns c = record { fault = c.check_job.ensures.fault; counts = IfOk-weaker c.check_job.result _ _ (λ k e. e ∙ all_before _ _ _) c.check_job.ensures.counts }
