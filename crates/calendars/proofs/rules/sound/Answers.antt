use Rattle.calendars.proofs.Alone.{ill_sized, no_weekday, all_sound}
use Rattle.calendars.proofs.rules.sound.Goals as goal

pub returns-then-calendar-ne182 : goal.returns-then-calendar-ne182
returns-then-calendar-ne182 c = ill_sized _ _ c.if-calendar-ne182.true

pub returns-then-weekday-le6 : goal.returns-then-weekday-le6
returns-then-weekday-le6 c =
    let a = c.as_chunks.ensures in all_sound _ a.front a.front_len c.if-calendar-ne182.false c.sound_days.ensures _ c.if-weekday-le6.true

pub returns-else-weekday-le6 : goal.returns-else-weekday-le6
returns-else-weekday-le6 c = no_weekday _ _ c.if-calendar-ne182.false c.if-weekday-le6.false
