use Rattle.calendars.proofs.Marks.{no_marks, mark}
use Rattle.calendars.proofs.windows.marked.Goals as goal

pub loop-i-init : goal.loop-i-init
loop-i-init c = record { bits = no_marks _ _ _ }

pub loop-i-preserved : goal.loop-i-preserved
loop-i-preserved c =
    let l = c.loop-i in
    let s = c.quarter_from-start.ensures in
    let e = c.quarter_from-end.ensures in
    record { bits = mark _ _ l.i s e _ l.invariant.bits c.span-bits.ensures }
