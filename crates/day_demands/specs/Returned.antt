-- R-3: what is proved of every run of a day's own calls: it is a run of the day's script, and what it opens at the
-- day's end. Assumes nothing.
use Rattle.std.specs.Prelude.{◌≡◌, List, ℕ, pos, ◌*ℤ◌}
use Rattle.words.specs.Signed.{floor}
use Rattle.runs.specs.Runs.{World, Call, Run}
use Rattle.runs.specs.Orders.{Words}
use Rattle.demands.specs.Conditions.{PreparationIs}
use Rattle.day_demands.specs.Settings.{DaySetting, day_staged}
use Rattle.day_demands.specs.Numbers.{day_terms}
use Rattle.days.specs.WholeDay.{AllCounted}
use Rattle.day_demands.specs.Opened.{sum_of, above_of, sum_of_all, above_of_all, factor_of, Sheet}
use Rattle.day_demands.specs.Runs.{DayHost, resting, running, DayWorld, day_world, DayCompletes, DayRun, Same}
use Rattle.day_demands.specs.Runs.{day_buffer, day_opened}

-- a completed starting or hearing of hosts 1 and 2 has brought both to the end: "the end is 97 and 0"
abbrev pub AtEnd : DayHost → Type 0
AtEnd (resting s) = ⊥
AtEnd (running s said) = s.order ≡ 97

abbrev pub BothAtEnd : DayWorld → Type 0
BothAtEnd (day_world z buf one two) = AtEnd one × AtEnd two

pub record DayReturned : Type 0 where
  -- every run of a day's calls is a run of its script, with the same calls, and what the hosts hold is what the calls
  -- returned: so all that is proved of the runs of every script holds of it
  pub is_run : (w : ℕ) (S : DaySetting) (cs : List Call) (u : DayWorld) → DayRun w S cs u
      → (v : World) × Run (day_staged w S) cs v × Same u v
  -- and every run of its script is one of a day's calls, with the same calls, a refused one for each refused one
  pub of_run : (w : ℕ) (S : DaySetting) (cs : List Call) (v : World) → Run (day_staged w S) cs v
      → (u : DayWorld) × DayRun w S cs u × Same u v
  -- runs exist: where none of 12, 16, 17, 5, 6 and 7 is met, there are calls of a day that bring both hosts to the end
  pub whole : (S : DaySetting) (buf : List ℕ)
      → PreparationIs (day_terms S.table 192 S.hours) S.A S.B buf 0 0
      → (cs : List Call) × (u : DayWorld) × DayRun 32 S cs u × BothAtEnd u
  -- and a run, with its day accepted, after which no call can complete has brought both hosts to the end
  pub finishes : (S : DaySetting) (cs : List Call) (u : DayWorld) → DayRun 32 S cs u
      → PreparationIs (day_terms S.table 192 S.hours) S.A S.B (day_buffer u) 0 0
      → ((c : Call) (u' : DayWorld) → DayCompletes 32 S c u u' → ⊥)
      → BothAtEnd u
  -- "The opened mean is floor(" factor "× sum / 65536)", and register 1 opens the count, of the masks and states that
  -- the calls returned
  pub mean : (S : DaySetting) → Sheet S → Words 32 (day_staged 32 S)
      → (cs : List Call) (u : DayWorld) → DayRun 32 S cs u → BothAtEnd u
      → day_opened 32 u 0 ≡ (0, floor (pos (factor_of S) *ℤ sum_of S 96) 65536)
  pub count : (S : DaySetting) → Sheet S → Words 32 (day_staged 32 S)
      → (cs : List Call) (u : DayWorld) → DayRun 32 S cs u → BothAtEnd u
      → day_opened 32 u 1 ≡ (0, pos (above_of S 96))
  -- R-6: "A day with all quarters counted gives the old mean.": R-3's, by 682 and of all 96 values, and the old count;
  -- that its calls are the old ones, word for word: `WholeDay` (days/specs/WholeDay.antt)
  pub old_mean : (S : DaySetting) → Sheet S → AllCounted S.hours → Words 32 (day_staged 32 S)
      → (cs : List Call) (u : DayWorld) → DayRun 32 S cs u → BothAtEnd u
      → day_opened 32 u 0 ≡ (0, floor (pos 682 *ℤ sum_of_all S 96) 65536)
  pub old_count : (S : DaySetting) → Sheet S → AllCounted S.hours → Words 32 (day_staged 32 S)
      → (cs : List Call) (u : DayWorld) → DayRun 32 S cs u → BothAtEnd u
      → day_opened 32 u 1 ≡ (0, pos (above_of_all S 96))
