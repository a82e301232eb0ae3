use Rattle.std.proofs.Common.{◌∙◌, rules}
use borrow.Author.Tests.{tests}
use Rattle.calendars.specs.Quarters.{held}
use Rattle.calendars.proofs.Counting.{in_words}
use Rattle.calendars.proofs.bits.counts_at.Goals as goal

pub returns-then-quarter-lt96 : goal.returns-then-quarter-lt96
returns-then-quarter-lt96 c = c.bit_at.ensures ∙ in_words _ _ c.if-quarter-lt96.true

pub returns-else-quarter-lt96 : goal.returns-else-quarter-lt96
unfolding held
returns-else-quarter-lt96 c = search (rules, tests)
