use mathlib.Core.Path.{sym}
use Rattle.calendars.proofs.Packing.{span_none, span_fits, span_is}
use Rattle.calendars.proofs.spans.span.Goals as goal

pub returns-then-end-start : goal.returns-then-end-start
returns-then-end-start c = let s = c in sym (span_none s.args.start s.args.end s.args.first 32 c.if-end-start.true)

pub overflow_sub-result : goal.overflow_sub-result
overflow_sub-result c = let s = c in span_fits s.args.start s.args.end s.args.first c.if-end-start.false c.before-2.ensures c.before-3.ensures

pub returns : goal.returns
returns c = let s = c in span_is s.args.start s.args.end s.args.first c.if-end-start.false c.before-2.ensures c.before-3.ensures
