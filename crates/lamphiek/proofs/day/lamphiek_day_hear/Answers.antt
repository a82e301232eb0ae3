use mathlib.Core.Path.{ap, ◌∙◌}
use Rattle.calls.specs.Calls as Calls
use Rattle.days.specs.Day.{hours}
use Rattle.days.specs.DayCalls.{day_hear}
use Rattle.lamphiek.specs.Stepping.{spoken, state_left}
use Rattle.lamphiek.proofs.day.lamphiek_day_hear.Goals as goal

pub returns : goal.returns
returns c =
    let h = c in
    let s = h in
    let a = s.args in
    let same = h.hear_day-a.ensures
    ∙ ap (λ (x : Calls.State). day_hear 32 a.host a.table.now a.shares.now (hours a.calendar.now a.weekday) a.masks.now a.deals.now x a.heard)
    s.state_in.ensures in
    record { answer = c.put_answer.ensures.answer ∙ ap spoken same; state = c.put_answer.ensures.state ∙ ap (λ (x : Calls.Answer). state_left x a.state.now) same }
