use Rattle.std.proofs.Common.{rules}
use borrow.Author.Tests.{tests}
use Rattle.calendars.specs.Calendar.{sound_day}
use Rattle.calendars.proofs.rules.sound_day.Goals as goal

pub returns-then-sound_windows : goal.returns-then-sound_windows
unfolding sound_day
returns-then-sound_windows c = search (rules, tests)

pub returns-else-sound_windows : goal.returns-else-sound_windows
unfolding sound_day
returns-else-sound_windows c = search (rules, tests)
