-- R-4 in a day: at every product with a known value, the masks of its known side are 0 on every host, and the hosts
-- speak document 01's product with g1 = g2 = 0. Assumes nothing.
use Rattle.std.specs.Prelude.{◌≡◌, List, ℕ}
use Rattle.gates.specs.Steps.{at}
use Rattle.calls.specs.Calls.{State}
use Rattle.runs.specs.Runs.{Spoken, Call}
use Rattle.runs.specs.KnownSides.{AtKnown, Sides}
use Rattle.days.specs.Day.{day_script}
use Rattle.day_demands.specs.Settings.{DaySetting, day_staged}
use Rattle.day_demands.specs.Runs.{DayDealer, DayHost, running, day_world, DayRun}

pub record DayKnownSides : Type 0 where
  -- in every run of the day's script, at every width
  pub day : (w : ℕ) (S : DaySetting) → Sides (day_staged w S)
  -- in every run of the day's own calls: the state that the last call returned
  pub host1 : (w : ℕ) (S : DaySetting) (cs : List Call) (z : DayDealer) (buf : List ℕ) (s : State)
      (said : List Spoken) (two : DayHost) → DayRun w S cs (day_world z buf (running s said) two)
      → (k : AtKnown (day_script w S.table 192 S.hours) s) → at s.mask k.a ≡ 0
  pub host2 : (w : ℕ) (S : DaySetting) (cs : List Call) (z : DayDealer) (buf : List ℕ) (one : DayHost) (s : State)
      (said : List Spoken) → DayRun w S cs (day_world z buf one (running s said))
      → (k : AtKnown (day_script w S.table 192 S.hours) s) → at s.mask k.a ≡ 0
