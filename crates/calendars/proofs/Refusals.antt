-- What `counted` refuses has a number. Assumes nothing.
use Rattle.std.proofs.Common.{◌≡◌, arith}
use Rattle.calendars.specs.declared.checks.HoursError.{HoursError}
use Rattle.calendars.specs.declared.checks.HoursError.TheVariants.{UnsoundCalendar, NoQuarter}
use Rattle.calendars.specs.Answers.{number_of}

pub has_number : (e : HoursError) → number_of e ≡ 0 → ⊥
has_number UnsoundCalendar z = omega arith
has_number NoQuarter z = omega arith
