use mathlib.Core.Path.{refl, sym, ap, ◌∙◌}
use Rattle.jobs.proofs.Refusals.{numbered}
use Rattle.dealer.specs.Answers as Dealer
use Rattle.lamphiek.specs.Stepping.{prepared, masks_left}
use Rattle.lamphiek.proofs.Told.{not_written, is_written}
use Rattle.lamphiek.proofs.stepping.put_prepared.Goals as goal

pub returns-in-Err : goal.returns-in-Err
returns-in-Err c =
    let same = sym c.in-Err.is in record {
      answer = λ b. c.turned_down.ensures ∙ ap (λ r. prepared (Dealer.answer r b)) same;
      masks = λ b. not_written _ _ _ (numbered c.in-Err.refused.refusal.condition) ∙ ap (λ r. masks_left (Dealer.answer r b) c.args.masks.now) same;
    }

pub returns : goal.returns
returns c =
    let same = sym c.in-Ok.is in record {
      answer = λ b. ap (λ r. prepared (Dealer.answer r b)) same;
      masks = λ b. c.put_masks.ensures ∙ is_written 0 _ _ refl ∙ ap (λ r. masks_left (Dealer.answer r b) c.args.masks.now) same;
    }
