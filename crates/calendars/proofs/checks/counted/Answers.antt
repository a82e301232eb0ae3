use mathlib.Core.Path.{◌∙◌}
use Rattle.calendars.proofs.Alone.{placed, room, same_quarters}
use Rattle.calendars.proofs.Answering.{broken, kept, none, some_count}
use Rattle.calendars.proofs.checks.counted.Goals as goal

pub returns-then-not-sound : goal.returns-then-not-sound
returns-then-not-sound c = broken _ _ c.sound.ensures c.if-not-sound.true

pub bounds-days-weekday : goal.bounds-days-weekday
bounds-days-weekday c = let a = c.as_chunks.ensures in placed _ a.front a.front_len (kept _ _ c.sound.ensures c.if-not-sound.false)

pub quarters-quarters-requires : goal.quarters-quarters-requires
quarters-quarters-requires c = let a = c.as_chunks.ensures in room _ a.front a.front_len (kept _ _ c.sound.ensures c.if-not-sound.false)

pub returns-then-n-eq0 : goal.returns-then-n-eq0
returns-then-n-eq0 c =
    let a = c.as_chunks.ensures in
    let s = kept _ _ c.sound.ensures c.if-not-sound.false in
    none _ _ c.sound.ensures c.if-not-sound.false (c.quarters-quarters.ensures ∙ same_quarters _ a.front a.front_len s) c.counted_before-n.ensures c.if-n-eq0.true

pub returns : goal.returns
returns c =
    let a = c.as_chunks.ensures in
    let s = kept _ _ c.sound.ensures c.if-not-sound.false in
    some_count _ _ c.sound.ensures c.if-not-sound.false (c.quarters-quarters.ensures ∙ same_quarters _ a.front a.front_len s) c.counted_before-n.ensures c.if-n-eq0.false
