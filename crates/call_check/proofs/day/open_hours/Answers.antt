use mathlib.Core.Path.{◌∙◌}
use Rattle.call_check.proofs.Hours.{same_hours}
use Rattle.call_check.proofs.day.open_hours.Goals as goal

pub returns : goal.returns
returns c = same_hours c.counted.result c.map_err.result c.map_err.ensures.cases ∙ c.counted.ensures
