-- R-6 in plain words: what check 16 asks of a calendar, which quarters count, and the check's number. Assumes nothing.
use Rattle.std.specs.Prelude.{◌≡◌, List, ℕ, ◌≤◌, ◌<◌, length}
use Rattle.calendars.specs.Calendar.{open_windows, cleaning_windows, open_at, cleaning_at, start, end}
use Rattle.calendars.specs.Calendar.{first_minute}

-- each of the n windows at a place: its "end is .. after its start", and not "above 1440"
pub record Windows (c : List ℕ) (at n : ℕ) : Type 0 where
  pub after : (k : ℕ) → k < n → start c at k < end c at k
  pub within : (k : ℕ) → k < n → end c at k ≤ 1440

-- a weekday's windows: "up to eight open windows and four cleaning windows"
pub record Weekday (c : List ℕ) (d : ℕ) : Type 0 where
  pub at_most_eight : open_windows c d ≤ 8
  pub at_most_four : cleaning_windows c d ≤ 4
  pub opens : Windows c (open_at d) (open_windows c d)
  pub cleans : Windows c (cleaning_at d) (cleaning_windows c d)

-- what check 16 asks of a calendar and a weekday: the layout's length, no "weekday above 6", and the rules "on any
-- weekday"
pub record Sound (c : List ℕ) (d : ℕ) : Type 0 where
  pub sized : length c ≡ 182
  pub weekday : d ≤ 6
  pub each_day : (e : ℕ) → e ≤ 6 → Weekday c e

-- minute m lies in one of the n windows at a place: "from a minute (included) to a minute (excluded)"
pub record LiesIn (c : List ℕ) (at n m : ℕ) : Type 0 where
  pub window : ℕ
  pub exists : window < n
  pub included : start c at window ≤ m
  pub excluded : m < end c at window

-- quarter q of weekday d "lies in an open window", and in a cleaning window
abbrev pub Open : List ℕ → (d q : ℕ) → Type 0
Open c d q = LiesIn c (open_at d) (open_windows c d) (first_minute q)

abbrev pub Cleaning : List ℕ → (d q : ℕ) → Type 0
Cleaning c d q = LiesIn c (cleaning_at d) (cleaning_windows c d) (first_minute q)

-- "It counts if it lies in an open window"
abbrev pub Counts : List ℕ → (d q : ℕ) → Type 0
Counts c d q = Open c d q

-- the check's number: 16, then 17, "no quarter counted", and 0 for none
pub data HoursNumbered (c : List ℕ) (d : ℕ) : ℕ → Type 0 where
  unsound : (Sound c d → ⊥) → HoursNumbered c d 16
  closed : Sound c d → ((q : ℕ) → q < 96 → Counts c d q → ⊥) → HoursNumbered c d 17
  opened : Sound c d → (q : ℕ) → q < 96 → Counts c d q → HoursNumbered c d 0
