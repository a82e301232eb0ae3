use mathlib.Core.Path.{◌≡◌}
use Prim.Native.Nat.{◌-◌, ◌≤◌, max}
use Rattle.calendars.specs.Ranges.{next}
use Rattle.calendars.specs.Quarters.{held}
use Rattle.calendars.proofs.bits.next_counted.Given as goal

abbrev pub invariant-loop-q : goal.invariant-loop-q
invariant-loop-q l = record {
  same : next (held l.x) l.quarter (96 - l.quarter) ≡ next (held l.x) l.q (96 - l.q);
  within : l.q ≤ max l.quarter 96;
}
