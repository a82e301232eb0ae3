-- A run of a day and the run beside it on a day of the same table and hours: what is kept from call to call. Assumes nothing.
use mathlib.Core.Path.{◌≡◌}
use mathlib.Core.List.{List, map}
use Prim.Native.Nat.{ℕ}
use Rattle.runs.specs.Runs.{Call}
use Rattle.day_demands.specs.Settings.{DaySetting}
use Rattle.day_demands.specs.Runs.{DayWorld, DayRun, day_buffer}
use Rattle.privacy.specs.Privacy.{silent}
use Rattle.privacy.specs.DayPrivacy.{DayEvent, day_calls_of, AllRightlyLent}
use Rattle.privacy.proofs.DayWorlds.{DayTwin, day_twin, DaySame0, DaySame1, DaySame2, day_dealer, day_one, day_two, DayAlike}

module _ (w : ℕ) (S : DaySetting) (twin : DayTwin S) where
  abbrev S' : DaySetting
  S' = day_twin S twin

  -- a host that holds the same, and has seen the same
  abbrev See0 : (u u' : DayWorld) (l l' : List DayEvent) → Type 0
  See0 u u' l l' = DaySame0 S S' → (day_dealer u ≡ day_dealer u') × (day_buffer u ≡ day_buffer u') × (l ≡ l')

  abbrev See1 : (u u' : DayWorld) (l l' : List DayEvent) → Type 0
  See1 u u' l l' = DaySame1 w S S' → (day_one u ≡ day_one u') × (l ≡ l')

  abbrev See2 : (u u' : DayWorld) (l l' : List DayEvent) → Type 0
  See2 u u' l l' = DaySame2 w S S' → (day_two u ≡ day_two u') × (day_buffer u ≡ day_buffer u') × (l ≡ l')

  -- the run r so far, and the run r' beside it
  pub record Now {cs cs' : List Call} {u u' : DayWorld} (r : DayRun w S cs u) (r' : DayRun w S' cs' u') : Type 0 where
    pub silently : map silent cs' ≡ map silent cs
    pub lent : AllRightlyLent w S' r'
    pub alike : DayAlike u u'
    pub see0 : See0 u u' (day_calls_of w S 0 r) (day_calls_of w S' 0 r')
    pub see1 : See1 u u' (day_calls_of w S 1 r) (day_calls_of w S' 1 r')
    pub see2 : See2 u u' (day_calls_of w S 2 r) (day_calls_of w S' 2 r')

  pub record Counterpart {cs : List Call} {u : DayWorld} (r : DayRun w S cs u) : Type 0 where
    pub calls : List Call
    pub to : DayWorld
    pub run : DayRun w S' calls to
    pub now : Now r run

  abbrev pub found : {cs cs' : List Call} {u u' : DayWorld} {r : DayRun w S cs u} (r' : DayRun w S' cs' u') → Now r r' → Counterpart r
  found r' N = record { calls = _; to = _; run = r'; now = N }
