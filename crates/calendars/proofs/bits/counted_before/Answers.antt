use Rattle.calendars.proofs.Held.{ones_are}
use Rattle.calendars.proofs.bits.counted_before.Goals as goal

pub returns : goal.returns
returns c =
    let a = c.args in
    ones_are a.x a.quarter c.ones_before.ensures.are c.ones_before-2.ensures.are c.ones_before-3.ensures.are
