use Rattle.calendars.proofs.windows.rule.Goals as goal

pub returns : goal.returns
returns c = λ f g q is_open is-cleaning. is_open
