-- What the code of a day goes by: what it is lent is checked, and a state's place is found. Assumes nothing.
use Rattle.std.specs.Prelude.{◌≡◌, Bool, true, cond, List, ℕ, ◌+◌, ◌^◌, ◌≤◌, ◌<◌, length, drop, Option, None}
use Rattle.tables.specs.Table.{Rules, rows}
use Rattle.gates.specs.Steps.{Cursor, origin}
use Rattle.gates.specs.Costs.{Cost}
use Rattle.jobs.specs.CostTable.{curve_cost}
use Rattle.calls.specs.Places.{found, seek}
use Rattle.walks.specs.Workers.{cursor}
use Rattle.walks.specs.Halts.{steps_from}
use Rattle.programs.specs.Sizes.{times_cost}
use Rattle.calendars.specs.Ranges.{number}
use Rattle.days.specs.Day.{Hours, counting, day_factor, day_gates, day_steps}
use Rattle.programs.specs.declared.GatePlace.{GatePlace}
use Rattle.programs.specs.Orders.{program}
use Rattle.programs.specs.Seek.{sought}
use Rattle.days.specs.Orders.{own_order, is_run, order_words, front}
use Rattle.worker.specs.declared.place.Stand.{Stand}
use Rattle.worker.specs.declared.day_place.Daily.{Daily}
use Rattle.calendars.specs.Quarters.{held}
use Rattle.jobs.specs.Counts.{counted}
use Rattle.worker.specs.Jobs.{Standing, StandIs}

-- few enough that a day of them fits
abbrev pub few_counts : Cost → Type 0
few_counts k = (k.deals ≤ 1000) × (k.words ≤ 1000) × (k.a ≤ 1000) × (k.b ≤ 1000)

-- what the orders before q use, where f tells which quarters count
unfoldable pub used_until : (f : ℕ → Bool) → Cost → (q : ℕ) → Cost
used_until f k q = times_cost (number f 0 q) k

-- before the first gate of an order of a day, with so much used
abbrev pub cost_to : (order : ℕ) → Cost → Cursor
cost_to o k = cursor o 0 k.a k.b k.deals

-- where an order of a day has its x-th product or refresh, among the gates of the code's own order; one that is not run
-- has none
unfoldable pub sought_run : (f : ℕ → Bool) (table : List ℕ) (o x : ℕ) → Option GatePlace
sought_run f T o x = cond (is_run f o) (sought 32 (program 32 (rows T) (own_order o)) x 0 0 0) None

-- a table that keeps the rules, a day list, the counts of one curve, and how many quarters count
pub record DayLent (table shares : List ℕ) (curve : Cost) (f : ℕ → Bool) (n : ℕ) : Type 0 where
  pub ruled : Rules table
  pub listed : length shares ≡ 192
  pub counts : curve ≡ curve_cost 0 (length (rows table))
  pub counted : n ≡ number f 0 96

-- the same quarters count by f and by the hours
abbrev pub SameDay : (f : ℕ → Bool) → Hours → Type 0
SameDay f H = (q : ℕ) → q < 96 → f q ≡ counting H q

-- gate i of the code's own order is the product or refresh at the place (o, x) of the day
pub record DayPlace (table : List ℕ) (f : ℕ → Bool) (o x i a b dealt : ℕ) : Type 0 where
  pub in_day : o ≤ 96
  pub run : is_run f o ≡ true
  pub standing : Standing 32 (order_words o) table 0 i
  pub few_gates : i < 1000
  pub few_turns : x < 1000
  pub few_a : a < 2 ^ 30
  pub few_b : b < 2 ^ 30
  pub few_deals : dealt < 2 ^ 30
  pub is : seek o x (day_steps 32 table f) origin
      ≡ found (steps_from 32 (length (front (day_factor f) o) + i) (drop o (day_gates 32 f (rows table))))
      (cursor o x a b dealt)

-- the code's gate there, of its own order, and the walk's places
abbrev pub DayStandIs : (table : List ℕ) (o : ℕ) → Stand → Type 0
DayStandIs table o s =
    StandIs 32 (rows table) (own_order o) s.at.gate s.at.used.a s.at.used.b s.at.used.deals s

-- of a day as the code has it

abbrev pub Accepted : Daily → Type 0
Accepted d = DayLent d.table.now d.shares.now (counted d.day.curve) (held d.day.quarters) d.day.n

abbrev pub StandsIn : Daily → (order turn : ℕ) → Stand → Type 0
StandsIn d o x s =
    DayPlace d.table.now (held d.day.quarters) o x s.at.gate s.at.used.a s.at.used.b s.at.used.deals
    × DayStandIs d.table.now o s
