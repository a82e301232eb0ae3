-- What `counted` answers, for every list and every weekday. Assumes nothing.
use Rattle.std.specs.Prelude.{cond, List, [], ◌∷◌, ℕ, ◌≤◌, eqb, Result, Ok, Err}
use Rattle.calendars.specs.declared.Quarters.{Quarters}
use Rattle.calendars.specs.declared.checks.CountedQuarters.{CountedQuarters}
use Rattle.calendars.specs.declared.checks.HoursError.{HoursError}
use Rattle.calendars.specs.declared.checks.HoursError.TheVariants.{UnsoundCalendar, NoQuarter}
use Rattle.calendars.specs.Calendar.{counts, counted_quarters, calendar_number, open_windows, cleaning_windows}
use Rattle.calendars.specs.Quarters.{quarters_where}

-- the check's number, 0 for none; which quarters count, and how many
pub record Counted : Type 0 where
  pub number : ℕ
  pub quarters : Quarters
  pub n : ℕ

-- a number, and all else 0
abbrev pub refused : ℕ → Counted
refused k = record { number = k; quarters = record { words = 0 ∷ 0 ∷ 0 ∷ [] }; n = 0 }

-- which quarters count, and how many
abbrev pub accepted : List ℕ → ℕ → Counted
accepted c d = record { number = 0; quarters = quarters_where (counts c d); n = counted_quarters c d }

unfoldable pub counted : List ℕ → ℕ → Counted
counted c d = cond (eqb (calendar_number c d) 0) (accepted c d) (refused (calendar_number c d))

-- the number of a refusal: 16, then "17, no quarter counted"
abbrev pub number_of : HoursError → ℕ
number_of UnsoundCalendar = 16
number_of NoQuarter = 17

-- the code's answer in numbers and values: the quarters with the number 0, or a number with nothing else
abbrev pub answer_of : Result CountedQuarters HoursError → Counted
answer_of (Ok d) = record { number = 0; quarters = d.quarters; n = d.n }
answer_of (Err e) = refused (number_of e)

-- what a sound weekday has, as far as reading its windows needs it
pub record HasRoom (c : List ℕ) (d : ℕ) : Type 0 where
  pub opens : open_windows c d ≤ 8
  pub cleans : cleaning_windows c d ≤ 4
