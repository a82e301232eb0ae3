use Rattle.std.proofs.Common.{rules}
use borrow.Author.Tests.{tests}
use Rattle.calendars.specs.Calendar.{well_ended}
use Rattle.calendars.proofs.rules.well_ended.Goals as goal

pub returns-then-start-end : goal.returns-then-start-end
unfolding well_ended
returns-then-start-end c = search (rules, tests)

pub returns-else-start-end : goal.returns-else-start-end
unfolding well_ended
returns-else-start-end c = search (rules, tests)
