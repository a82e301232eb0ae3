use mathlib.Core.Path.{ap, ◌∙◌}
use Rattle.jobs.specs.Refusals.{fault_found}
use Rattle.jobs.proofs.Refusals.{numbered, exits_with}
use Rattle.calls.proofs.Faults.{or_refused, counts_passed}
use Rattle.call_check.proofs.Hosts.{lists_tell}
use Rattle.call_check.proofs.checking.check_job.Goals as goal

pub returns-in_err-found-clause-fault : goal.returns-in_err-found-clause-fault
returns-in_err-found-clause-fault c =
    let refusal = c.in_err-found.field-0.0 in
    ap fault_found (exits_with c.from_residual.result c.from_residual.ensures.1)
    ∙ or_refused 32 _ _ _ _ _ c.in_err-found.ensures.found (numbered refusal.condition)

pub returns-in_err-check_lists-clause-fault : goal.returns-in_err-check_lists-clause-fault
returns-in_err-check_lists-clause-fault c =
    ap fault_found (exits_with c.from_residual-in_err-check_lists.result c.from_residual-in_err-check_lists.ensures.1)
    ∙ lists_tell 32 _ _ _ _ _ _ _ _ _ c.in_ok-found.ensures.found c.needs_of.ensures c.in_err-check_lists.ensures

pub returns-clause-fault : goal.returns-clause-fault
returns-clause-fault c = lists_tell 32 _ _ _ _ _ _ _ _ _ c.in_ok-found.ensures.found c.needs_of.ensures c.in_ok-check_lists.ensures

pub returns-clause-counts : goal.returns-clause-counts
returns-clause-counts c =
    let s = c.in_ok-found.ensures in
    s.passed ∙ counts_passed 32 _ _ _ _ s.found
