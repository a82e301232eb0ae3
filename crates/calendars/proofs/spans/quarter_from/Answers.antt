use mathlib.Core.Path.{refl}
use Rattle.calendars.proofs.spans.quarter_from.Goals as goal

pub returns : goal.returns
returns c = refl
