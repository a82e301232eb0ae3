use mathlib.Core.Path.{ap, ◌∙◌}
use Rattle.calls.specs.Calls as Calls
use Rattle.lamphiek.specs.Stepping.{spoken, state_left}
use Rattle.lamphiek.proofs.day.lamphiek_day_start.Goals as goal

pub returns : goal.returns
returns c =
    let h = c in
    let a = h.args in
    let same = h.start_day-a.ensures in
    record { answer = c.put_answer.ensures.answer ∙ ap spoken same; state = c.put_answer.ensures.state ∙ ap (λ (x : Calls.Answer). state_left x a.state.now) same }
