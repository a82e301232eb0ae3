use mathlib.Core.Path.{◌≡◌}
use Rattle.calendars.specs.Ranges.{packed}
use Rattle.calendars.specs.Calendar.{lies}
use Rattle.calendars.proofs.windows.marked.Given as goal

-- the quarters of the windows before i are marked
abbrev pub invariant-loop-i : goal.invariant-loop-i
invariant-loop-i l = record { bits : l.bits ≡ packed (lies l.day l.at l.i) l.first 32 }
