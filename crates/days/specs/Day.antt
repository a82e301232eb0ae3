-- R-3, the day sheet: "A day is 96 quarter-hour readings, each split." The gates of its orders, its script and its
-- counts; R-6: of the quarters that count. Assumes nothing.
use Rattle.std.specs.Prelude.{Bool, cond, List, [], ◌∷◌, ◌++◌, ℕ, zero, suc, ◌+◌, eqb}
use Rattle.gates.specs.Gates.{Gate, Add, Scale}
use Rattle.gates.specs.Steps.{Step}
use Rattle.gates.specs.Meaning.{job_steps}
use Rattle.gates.specs.Costs.{Cost, plus}
use Rattle.tables.specs.Table.{Row, rows, keeps_rules}
use Rattle.programs.specs.Programs.{t_slot, acc_slot, exact_program}
use Rattle.programs.specs.Orders.{curve_program}
use Rattle.programs.specs.Sizes.{times_cost}
use Rattle.jobs.specs.Job.{Fault}
use Rattle.jobs.specs.CostTable.{kind_cost}
use Rattle.calls.specs.Scripts.{Script}
use Rattle.calendars.specs.Ranges.{number}
use Rattle.calendars.specs.Calendar.{counts, counted_quarters, calendar_number, factor}

-- the slot of quarter q's share: a lane has the host's 96 lent shares behind its 24 registers and kept words
unfoldable pub share_slot : ℕ → ℕ
share_slot q = 24 + q

-- "Every host runs the curve in exact mode on each .. and adds the results": the curve of the quarter's share, into the
-- slot of its own sum, and then, "as a quarter ends, 0 gets the sum .. and 1 the count": the curve leaves R-1's a in
-- slot t, and the last two gates alone write registers
unfoldable pub quarter_program : (w q : ℕ) → List Row → List Gate
quarter_program w q ps =
    curve_program w (share_slot q) acc_slot ps 0 ++ (Add 0 0 acc_slot ∷ Add 1 1 t_slot ∷ [])

-- "It multiplies the sum by" the factor "and takes the exact truncation by 16": kinds 3 and 8, the last gate writes
-- register 0
unfoldable pub mean_program : (w by : ℕ) → List Gate
mean_program w k = Scale acc_slot 0 k ∷ exact_program w 16 acc_slot 0

-- n quarters, from quarter q on, "in day order", those that count by f: "A quarter left out is run by no host, needs no
-- masks or deals", and has no gates
unfoldable pub quarters : (w : ℕ) (f : ℕ → Bool) → List Row → (q n : ℕ) → List (List Gate)
quarters w f ps q zero = []
quarters w f ps q (suc n) = cond (f q) (quarter_program w q ps) [] ∷ quarters w f ps (suc q) n

-- "With n counted quarters, the factor is floor(65536 / n)": of the quarters that count by f
abbrev pub day_factor : (f : ℕ → Bool) → ℕ
day_factor f = factor (number f 0 96)

-- "A place's order is the quarter from 0, then 96 for the mean; the end is 97 and 0.", also where quarters are left out
unfoldable pub day_gates : (w : ℕ) (f : ℕ → Bool) → List Row → List (List Gate)
day_gates w f ps = quarters w f ps 0 96 ++ (mean_program w (day_factor f) ∷ [])

unfoldable pub day_steps : (w : ℕ) (table : List ℕ) (f : ℕ → Bool) → List Step
day_steps w table f = job_steps w (day_gates w f (rows table))

-- R-6: the calendar and the weekday that every call of a day is lent; and which quarters count by them
pub record Hours : Type 0 where
  pub calendar : List ℕ
  pub weekday : ℕ

abbrev pub hours : (calendar : List ℕ) (weekday : ℕ) → Hours
hours c d = record { calendar = c; weekday = d }

abbrev pub counting : Hours → ℕ → Bool
counting H = counts H.calendar H.weekday

-- lent a table, a day list of so many words and hours: "12, day list not of 96 shares", of two words each; "16 ..; 17
-- ..; both after 12"; "a faulty table is 5 with index 0"
unfoldable pub day_fault : (table : List ℕ) (words : ℕ) → Hours → Fault
day_fault table words H =
    cond (eqb words 192)
    (cond (eqb (calendar_number H.calendar H.weekday) 0) (cond (keeps_rules table) (0, 0) (5, 0))
    (calendar_number H.calendar H.weekday, 0)) (12, 0)

-- the slots given at a day's start: registers, kept words and shares
abbrev pub day_script : (w : ℕ) (table : List ℕ) (words : ℕ) → Hours → Script
day_script w table words H =
    record { fault = day_fault table words H; slots = 120; steps = day_steps w table (counting H) }

-- the counts of a day with n counted quarters whose curve has these: n curves and one kind 8; and on a table of k rows,
-- by document 01's table of costs
unfoldable pub day_of : (n : ℕ) → Cost → Cost
day_of n k = plus (times_cost n k) (kind_cost 8 0 0)

abbrev pub day_cost : Hours → (k : ℕ) → Cost
day_cost H k = day_of (counted_quarters H.calendar H.weekday) (kind_cost 10 0 k)
