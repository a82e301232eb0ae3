use mathlib.Core.Path.{ap, ◌∙◌}
use Rattle.jobs.specs.Refusals.{number_found}
use Rattle.jobs.proofs.Refusals.{exits_with}
use Rattle.jobs.proofs.Unused.{after_refusal, too_short, long_enough}
use Rattle.job_leftover.specs.Unused.{part_of}
use Rattle.job_leftover.proofs.unused.Goals as goal

pub returns-in_err-counts : goal.returns-in_err-counts
returns-in_err-counts c =
    let e = exits_with c.from_residual.result c.from_residual.ensures.1 in
    let answered = after_refusal 32 _ _ c.args.which c.args.list.now _ _ c.in_err-counts.ensures in
    record { part = ap (λ r. part_of r c.args.list.now) e ∙ answered.0; said = ap number_found e ∙ answered.1 }

pub returns-then-list-first : goal.returns-then-list-first
returns-then-list-first c =
    let answered = too_short 32 _ _ _ _ _ _ c.in_ok-counts.ensures c.need-first.ensures c.if-list-first.true in
    record { part = answered.0; said = answered.1 }

pub returns : goal.returns
returns c =
    let answered = long_enough 32 _ _ _ _ _ _ c.in_ok-counts.ensures c.need-first.ensures c.if-list-first.false in
    record { part = answered.0; said = answered.1 }
