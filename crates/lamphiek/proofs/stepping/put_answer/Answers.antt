use mathlib.Core.Path.{refl, sym, ap, ◌∙◌}
use Rattle.jobs.proofs.Refusals.{numbered}
use Rattle.worker.specs.Answers.{answer_of}
use Rattle.lamphiek.specs.Stepping.{spoken, state_left}
use Rattle.lamphiek.proofs.Told.{not_written, is_written}
use Rattle.lamphiek.proofs.stepping.put_answer.Goals as goal

pub returns-in-Err : goal.returns-in-Err
returns-in-Err c =
    let same = sym c.in-Err.is in record {
      answer = c.turned_down.ensures ∙ ap (λ r. spoken (answer_of r)) same;
      state = not_written _ _ _ (numbered c.in-Err.held.refusal.condition) ∙ ap (λ r. state_left (answer_of r) c.args.state.now) same;
    }

pub returns : goal.returns
returns c =
    let same = sym c.in-Ok.is in record {
      answer = ap (λ r. spoken (answer_of r)) same;
      state = c.put_state.ensures ∙ is_written 0 _ _ refl ∙ ap (λ r. state_left (answer_of r) c.args.state.now) same;
    }
