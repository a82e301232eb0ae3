-- The conditions as numbers: document 01, "Turned down", R-3, R-6 and R-7. Assumes nothing.
use Rattle.std.specs.Prelude.{ℕ, Option, None, Some, Result, Ok, Err}
use Rattle.jobs.specs.Job.{Fault}
use Rattle.jobs.specs.declared.Condition.{Condition}
use Rattle.jobs.specs.declared.Condition.TheVariants.{OtherHost, IllSized, UnknownKind, UnknownRegister, IllOperand}
use Rattle.jobs.specs.declared.Condition.TheVariants.{ShortMasks, ShortDeals, NoPlace, AtEnd}
use Rattle.jobs.specs.declared.Condition.TheVariants.{IllDayList, UnsoundCalendar, NoQuarter, OtherPlaces}
use Rattle.jobs.specs.declared.Refusal.{Refusal}

-- "Each enum answer has a definition that gives this paper's number"
abbrev pub number_of : Condition → ℕ
-- "1. Starting or stepping names a host other than 1 or 2."
number_of OtherHost = 1
-- "2. The job has no words, more than 256, or a number of words not divisible by 4."
number_of IllSized = 2
-- "3. An order's kind is above 10."
number_of UnknownKind = 3
-- "4. A target or source is above 15."
number_of UnknownRegister = 4
-- "5. A shift or mode lies outside its range, a fourth word due to be 0 is not, or the order is a curve and the table
-- breaks its rules."; R-3: "a faulty table is 5 with index 0"
number_of IllOperand = 5
-- "6. A list that this host uses .. is shorter than the job needs."
number_of ShortMasks = 6
-- "7. The deal list or deal buffer is shorter than the job's deals (hosts 0 and 2)."
number_of ShortDeals = 7
-- "8. The state's place is neither the end nor a product or refresh of this job."
number_of NoPlace = 8
-- "9. Hearing is called at the end."
number_of AtEnd = 9
-- R-3: "12, day list not of 96 shares"
number_of IllDayList = 12
-- R-6: "16, a weekday above 6, or on any weekday too many windows or one whose end is not after its start or is above
-- 1440"
number_of UnsoundCalendar = 16
-- R-6: "17, no quarter counted"
number_of NoQuarter = 17
-- R-7: "18, stored places unequal to the walk's"
number_of OtherPlaces = 18

-- "A refusal gives its number, the order's index"
abbrev pub fault_of : Refusal → Fault
fault_of r = (number_of r.condition, r.index)

-- the number of a condition that may have been met, 0 for none
abbrev pub number_met : Option Condition → ℕ
number_met None = 0
number_met (Some c) = number_of c

-- the number of what a call without an index found, 0 where it went on
abbrev pub number_found : {A : Type 0} → Result A Condition → ℕ
number_found (Ok x) = 0
number_found (Err c) = number_of c

-- the number and the index of what a call found, 0 where it went on
abbrev pub fault_found : {A : Type 0} → Result A Refusal → Fault
fault_found (Ok x) = (0, 0)
fault_found (Err r) = fault_of r
