use mathlib.Core.Path.{sym}
use Rattle.calendars.proofs.Packing.{before_none, before_all, shift_fits, before_part}
use Rattle.calendars.proofs.spans.before.Goals as goal

pub returns-then-end-first : goal.returns-then-end-first
returns-then-end-first c = sym (before_none c.args.end c.args.first 32 c.if-end-first.true)

pub returns-then-n-ge32 : goal.returns-then-n-ge32
returns-then-n-ge32 c = before_all c.args.end c.args.first c.if-n-ge32.true

pub overflow_sub-result : goal.overflow_sub-result
overflow_sub-result c = shift_fits c.args.end c.args.first c.if-end-first.false c.if-n-ge32.false

pub returns : goal.returns
returns c = before_part c.args.end c.args.first c.if-end-first.false c.if-n-ge32.false
