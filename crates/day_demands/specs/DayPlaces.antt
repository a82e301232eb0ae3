-- R-7 in a day: in every run of a day's calls, at every moment, a host's stored places are what the walk gives; and
-- what they tell of the words still to be used. Assumes nothing.
use Rattle.std.specs.Prelude.{◌≡◌, ◌≢◌, List, ℕ, length}
use Rattle.gates.specs.Steps.{origin}
use Rattle.calls.specs.Calls.{State}
use Rattle.runs.specs.Runs.{Spoken, Call}
use Rattle.demands.specs.Conditions.{used_in}
use Rattle.demands.specs.Completed.{Located}
use Rattle.demands.specs.RememberedPlaces.{Remembers, Ran, SameFrom}
use Rattle.days.specs.Day.{Hours, counting, day_steps, day_script}
use Rattle.days.specs.DayCalls.{day_start, day_hear}
use Rattle.day_demands.specs.Settings.{DaySetting}
use Rattle.day_demands.specs.Runs.{DayDealer, DayHost, running, day_world, DayRun}

pub record DayPlaces (w : ℕ) : Type 0 where
  -- at every moment from a host's starting on: the state that it holds; a quarter left out has no steps and counts
  -- nothing
  pub host1 : (S : DaySetting) (cs : List Call) (z : DayDealer) (buf : List ℕ) (s : State) (said : List Spoken)
      (two : DayHost) → DayRun w S cs (day_world z buf (running s said) two)
      → Remembers (day_script w S.table 192 S.hours) s
  pub host2 : (S : DaySetting) (cs : List Call) (z : DayDealer) (buf : List ℕ) (one : DayHost) (s : State)
      (said : List Spoken) → DayRun w S cs (day_world z buf one (running s said))
      → Remembers (day_script w S.table 192 S.hours) s
  -- so a run never meets 18: no hearing of the day has that number on what a host holds, whichever host it names and
  -- whatever list of shares, masks and deals it is lent
  pub never_18_1 : (S : DaySetting) (cs : List Call) (z : DayDealer) (buf : List ℕ) (s : State) (said : List Spoken)
      (two : DayHost) → DayRun w S cs (day_world z buf (running s said) two)
      → (h : ℕ) (L M D : List ℕ) (v : ℕ) → (day_hear w h S.table L S.hours M D s v).number ≢ 18
  pub never_18_2 : (S : DaySetting) (cs : List Call) (z : DayDealer) (buf : List ℕ) (one : DayHost) (s : State)
      (said : List Spoken) → DayRun w S cs (day_world z buf one (running s said))
      → (h : ℕ) (L M D : List ℕ) (v : ℕ) → (day_hear w h S.table L S.hours M D s v).number ≢ 18
  -- ---- what a call uses, in a run or outside one: the words between the stored places that it is given and those that
  -- it returns

  pub started : (h : ℕ) (T L : List ℕ) (H : Hours) (M D : List ℕ) → (day_start w h T L H M D).number ≡ 0
      → Remembers (day_script w T (length L) H) (day_start w h T L H M D).state
  pub heard : (h : ℕ) (T L : List ℕ) (H : Hours) (M D : List ℕ) (s : State) (v : ℕ)
      → (day_hear w h T L H M D s v).number ≡ 0
      → Ran (day_script w T (length L) H) s (day_hear w h T L H M D s v).state
  -- and no others, a hearing but those of its own product or refresh; of all later calls: `later` of
  -- `remembered_places` at the day's script, of which a run of a day's calls is a run (`is_run` of `day_returned`)
  pub starting1 : (T L : List ℕ) (H : Hours) (A A' D D' : List ℕ) → (day_start w 1 T L H A D).number ≡ 0
      → (day_start w 1 T L H A' D').number ≡ 0
      → SameFrom 0 (day_start w 1 T L H A D).state.stored.a A A'
      → day_start w 1 T L H A' D' ≡ day_start w 1 T L H A D
  pub starting2 : (T L : List ℕ) (H : Hours) (B B' D D' : List ℕ) → (day_start w 2 T L H B D).number ≡ 0
      → (day_start w 2 T L H B' D').number ≡ 0
      → SameFrom 0 (day_start w 2 T L H B D).state.stored.b B B'
      → SameFrom 0 (day_start w 2 T L H B D).state.stored.deals D D'
      → day_start w 2 T L H B' D' ≡ day_start w 2 T L H B D
  pub hearing1 : (T L : List ℕ) (H : Hours) (A A' D D' : List ℕ) (s : State) (v : ℕ)
      → (day_hear w 1 T L H A D s v).number ≡ 0 → (day_hear w 1 T L H A' D' s v).number ≡ 0
      → (l : Located (day_steps w T (counting H)) origin s.order s.turn)
      → SameFrom (used_in l.before).a (day_hear w 1 T L H A D s v).state.stored.a A A'
      → day_hear w 1 T L H A' D' s v ≡ day_hear w 1 T L H A D s v
  pub hearing2 : (T L : List ℕ) (H : Hours) (B B' D D' : List ℕ) (s : State) (v : ℕ)
      → (day_hear w 2 T L H B D s v).number ≡ 0 → (day_hear w 2 T L H B' D' s v).number ≡ 0
      → (l : Located (day_steps w T (counting H)) origin s.order s.turn)
      → SameFrom (used_in l.before).b (day_hear w 2 T L H B D s v).state.stored.b B B'
      → SameFrom (used_in l.before).deals (day_hear w 2 T L H B D s v).state.stored.deals D D'
      → day_hear w 2 T L H B' D' s v ≡ day_hear w 2 T L H B D s v
  -- the words spoken so far are as many as words of B used
  pub spoken_start : (h : ℕ) (T L : List ℕ) (H : Hours) (M D : List ℕ) → (day_start w h T L H M D).number ≡ 0
      → (day_start w h T L H M D).spoken ≡ (day_start w h T L H M D).state.stored.b
  pub spoken_hear : (h : ℕ) (T L : List ℕ) (H : Hours) (M D : List ℕ) (s : State) (v : ℕ)
      → (day_hear w h T L H M D s v).number ≡ 0
      → (day_hear w h T L H M D s v).spoken ≡ (day_hear w h T L H M D s v).state.stored.b
