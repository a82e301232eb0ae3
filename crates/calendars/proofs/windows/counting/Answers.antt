use Rattle.calendars.proofs.Marks.{by_rule}
use Rattle.calendars.proofs.windows.counting.Goals as goal

pub returns : goal.returns
returns c = by_rule _ _ _ c.marked-opened.ensures c.marked-cleaned.ensures c.rule.ensures
