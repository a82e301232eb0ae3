use mathlib.Core.Path.{ap, ◌∙◌}
use Prim.Native.Nat.{ℕ}
use native.Mathlib.Omega.{arith}
use Rattle.programs.specs.Sizes.{times_cost}
use Rattle.jobs.specs.Counts.{counted}
use Rattle.calendars.specs.Quarters.{held}
use Rattle.calendars.proofs.Counting.{number_le}
use Rattle.worker.specs.Days.{used_until}
use Rattle.worker.proofs.day_place.used_before.Goals as goal

pub used_by-requires : goal.used_by-requires
used_by-requires c =
    (c.requires.0, omega (arith, c.counted_before.ensures, number_le (held c.args.day.quarters) 0 c.args.order, c.requires.1))

pub returns : goal.returns
unfolding used_until
returns c =
    c.used_by.ensures ∙ ap (λ (n : ℕ). times_cost n (counted c.args.day.curve)) c.counted_before.ensures
