use mathlib.Core.Path.{refl, ap, ◌∙◌}
use native.Mathlib.Omega.{arith}
use Rattle.jobs.specs.Counts.{counted}
use Rattle.jobs.proofs.Refusals.{numbered}
use Rattle.calls.specs.Calls.{refused}
use Rattle.calendars.specs.Quarters.{held}
use Rattle.days.specs.Day.{hours}
use Rattle.days.proofs.Idle.{next_run}
use Rattle.worker.proofs.DayCalls.{same_day, day_lent, start_turned, start_done}
use Rattle.worker.proofs.day.start_day.Goals as goal

pub returns-in-Err : goal.returns-in-Err
returns-in-Err c =
    let a = c.args in
    c.refused.ensures
    ∙ ap (refused _) c.first_state-zeros.ensures
    ∙ start_turned a.host a.table.now a.shares.now (hours a.calendar.now a.weekday) a.masks.now a.deals.now _
    c.in-Err.ensures.fault (numbered c.in-Err.condition)

pub begin-h-requires : goal.begin-h-requires
begin-h-requires c =
    let a = c.args in
    let n = next_run (held c.in-Ok.checked.day.quarters) 0 _ (omega arith) c.next_counted-first.ensures in (
      day_lent a.host a.table.now a.shares.now (hours a.calendar.now a.weekday) a.masks.now a.deals.now _
          c.in-Ok.ensures.fault refl _ c.in-Ok.ensures.day,
      n.1,
      n.2,
      (refl, refl),
    )

pub returns : goal.returns
returns c =
    let a = c.args in
    let H = hours a.calendar.now a.weekday in
    let d = c.in-Ok.checked.day in
    let h = c.begin-h.result in
    let n = next_run (held d.quarters) 0 _ (omega arith) c.next_counted-first.ensures in
    c.answered.ensures
    ∙ rw (c.put.ensures, c.put-2.ensures)
    (start_done a.host a.table.now a.shares.now H a.masks.now a.deals.now _ c.in-Ok.ensures.fault
    (held d.quarters)
    (same_day a.host a.table.now a.shares.now H a.masks.now a.deals.now _ c.in-Ok.ensures.fault refl _ c.in-Ok.ensures.day)
    refl (counted d.curve) c.next_counted-first.result n.1 n.3 h _ _
    c.begin-h.ensures.long.0 c.begin-h.ensures.long.1 (c.begin-h.ensures.halt 0 0))
