-- What the walk of a day goes by, from what its call is lent: the counts of one curve, which quarters count, and how
-- many, and the counts of the whole day. Assumes nothing.
use Rattle.std.specs.Prelude.{◌≡◌, List, ℕ, length, Result, Ok, Err}
use Rattle.tables.specs.Table.{rows}
use Rattle.jobs.specs.CostTable.{curve_cost}
use Rattle.jobs.specs.Counts.{counted}
use Rattle.jobs.specs.declared.Condition.{Condition}
use Rattle.jobs.specs.Refusals.{number_of}
use Rattle.calendars.specs.declared.checks.CountedQuarters.{CountedQuarters}
use Rattle.calendars.specs.Answers as Answers
use Rattle.calendars.specs.Calendar.{counted_quarters}
use Rattle.calendars.specs.Quarters.{quarters_where}
use Rattle.days.specs.Day.{Hours, counting, day_of}
use Rattle.call_check.specs.declared.day.CheckedDay.{CheckedDay}

-- the hours of a weekday, with the call's condition where they are refused, as the calendar's answer
abbrev pub hours_found : Result CountedQuarters Condition → Answers.Counted
hours_found (Ok d) = record { number = 0; quarters = d.quarters; n = d.n }
hours_found (Err c) = Answers.refused (number_of c)

-- of an accepted call
pub record DayIs (table : List ℕ) (H : Hours) (c : CheckedDay) : Type 0 where
  pub curve : counted c.day.curve ≡ curve_cost 0 (length (rows table))
  pub quarters : c.day.quarters ≡ quarters_where (counting H)
  pub n : c.day.n ≡ counted_quarters H.calendar H.weekday
  pub counts : counted c.whole ≡ day_of (counted_quarters H.calendar H.weekday) (curve_cost 0 (length (rows table)))
