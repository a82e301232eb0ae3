use mathlib.Core.Path.{ap, ◌∙◌}
use Rattle.gates.specs.Hosts.{Pair}
use Rattle.calls.specs.Scripts.{job_script}
use Rattle.calls.specs.Lent.{lent}
use Rattle.calls.specs.Calls as Calls
use Rattle.lamphiek.specs.Stepping.{spoken, state_left}
use Rattle.lamphiek.proofs.stepping.lamphiek_start.Goals as goal

pub returns : goal.returns
returns c =
    let h = c in
    let s = h in
    let a = s.args in
    let L = lent a.host (job_script 32 a.job.now a.table.now) a.masks.now a.deals.now in
    let same = h.start-a.ensures ∙ ap (λ (x : Pair). Calls.start L x) s.registers_in.ensures in
    record { answer = c.put_answer.ensures.answer ∙ ap spoken same; state = c.put_answer.ensures.state ∙ ap (λ (x : Calls.Answer). state_left x a.state.now) same }
