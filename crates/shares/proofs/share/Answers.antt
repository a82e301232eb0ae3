use Rattle.shares.proofs.RoundTrip.{too_low, too_high, accepted}
use Rattle.shares.proofs.share.Goals as goal

pub returns-then-reading-ltminus1073741824 : goal.returns-then-reading-ltminus1073741824
returns-then-reading-ltminus1073741824 c = too_low c.args.reading c.ranges.reading c.args.l1 c.args.l2 c.if-reading-ltminus1073741824.true

pub returns-then-reading-ge1073741824 : goal.returns-then-reading-ge1073741824
returns-then-reading-ge1073741824 c =
    too_high c.args.reading c.ranges.reading c.args.l1 c.args.l2 c.if-reading-ltminus1073741824.false c.if-reading-ge1073741824.true

pub returns : goal.returns
returns c =
    accepted c.args.reading c.ranges.reading c.args.l1 c.args.l2 c.if-reading-ltminus1073741824.false
    c.if-reading-ge1073741824.false
    _ _ _ c.wrapping_add_u32-mask.ensures.value c.word_of.ensures c.wrapping_add_u32-m.ensures.value
