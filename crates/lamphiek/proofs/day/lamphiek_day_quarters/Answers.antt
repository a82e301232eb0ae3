use Rattle.std.proofs.Common.{refl, ap, ◌∙◌}
use Rattle.calendars.specs.Answers.{Counted}
use Rattle.calendars.proofs.Refusals.{has_number}
use Rattle.lamphiek.specs.Hours.{quarters_left}
use Rattle.lamphiek.proofs.Told.{not_written, is_written}
use Rattle.lamphiek.proofs.day.lamphiek_day_quarters.Goals as goal

pub returns-in-Ok-clause-quarters : goal.returns-in-Ok-clause-quarters
returns-in-Ok-clause-quarters c =
    let old = c.args.quarters.now in is_written 0 _ old refl ∙ ap (λ (a : Counted). quarters_left a old) c.in-Ok.ensures

pub returns-in-Err-clause-quarters : goal.returns-in-Err-clause-quarters
returns-in-Err-clause-quarters c =
    let old = c.args.quarters.now in not_written _ _ old (has_number _) ∙ ap (λ (a : Counted). quarters_left a old) c.in-Err.ensures
