use mathlib.Core.Path.{◌∙◌}
use Rattle.lamphiek.proofs.Told.{check_refused, check_accepted}
use Rattle.lamphiek.proofs.checking.lamphiek_check.Goals as goal

pub returns-in-Err : goal.returns-in-Err
returns-in-Err c =
    let a = c.args in
    let answered = check_refused a.job.now a.table.now a.counts.now _ _ c.in-Err.ensures in
    record { answer = c.turned_down.ensures ∙ answered.0; counts = answered.1 }

pub returns-in-Ok : goal.returns-in-Ok
returns-in-Ok c =
    let a = c.args in
    let answered = check_accepted a.job.now a.table.now a.counts.now _ c.in-Ok.ensures in
    record { answer = answered.0; counts = answered.1 }
