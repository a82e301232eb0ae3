use Rattle.jobs.proofs.Conditions.{target_above, source_above, second_source, one_source}
use Rattle.job_order.proofs.faults.unknown_register.Goals.{then-o-gt15-via-then-o-gt15, then-o-gt15-via-else-o-gt15+then-o-gt15-2}
use Rattle.job_order.proofs.faults.unknown_register.Goals as goal

pub returns-then-o-gt15 : goal.returns-then-o-gt15
returns-then-o-gt15 c =
    elim c.then-o-gt15.branch [
      | then-o-gt15-via-then-o-gt15 w ↦ target_above _ w.if-o-gt15.true
      | then-o-gt15-via-else-o-gt15+then-o-gt15-2 w ↦ source_above _ w.if-o-gt15.false w.if-o-gt15-2.true
    ]

pub returns-in-Add : goal.returns-in-Add
returns-in-Add c = second_source _ c.if-o-gt15.false c.if-o-gt15-2.false c.requires c.in-Add.is

pub returns-in_default : goal.returns-in_default
returns-in_default c =
    let n = c.in_default in
    one_source _ c.if-o-gt15.false c.if-o-gt15-2.false c.requires n.not-Add n.not-Subtract n.not-Product
