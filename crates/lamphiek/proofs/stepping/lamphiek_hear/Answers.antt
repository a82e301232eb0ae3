use mathlib.Core.Path.{ap, ◌∙◌}
use Rattle.calls.specs.Scripts.{job_script}
use Rattle.calls.specs.Lent.{lent}
use Rattle.calls.specs.Calls as Calls
use Rattle.lamphiek.specs.Stepping.{spoken, state_left}
use Rattle.lamphiek.proofs.stepping.lamphiek_hear.Goals as goal

pub returns : goal.returns
returns c =
    let h = c in
    let s = h in
    let a = s.args in
    let L = lent a.host (job_script 32 a.job.now a.table.now) a.masks.now a.deals.now in
    let same = h.hear-a.ensures ∙ ap (λ (x : Calls.State). Calls.hear L x a.heard) s.state_in.ensures in
    record { answer = c.put_answer.ensures.answer ∙ ap spoken same; state = c.put_answer.ensures.state ∙ ap (λ (x : Calls.Answer). state_left x a.state.now) same }
