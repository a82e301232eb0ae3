use Rattle.lamphiek.proofs.Told.{left_over}
use Rattle.lamphiek.proofs.checking.unused_of.Goals as goal

pub returns : goal.returns
returns c =
    let a = c.args in
    let e = left_over a.job.now a.table.now _ a.list.now _ c.leftover-rest.ensures.part in
    record { count = e.0; part = e.1; said = c.leftover-rest.ensures.said }
