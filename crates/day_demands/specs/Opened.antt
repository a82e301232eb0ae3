-- R-3: what a day opens, in every run of it; R-6: by the quarters that count. Assumes nothing.
use Rattle.std.specs.Prelude.{◌≡◌, cond, ◌↔◌, List, ℕ, zero, suc, ◌+◌, ◌*◌, ◌^◌, ◌≤◌, ◌<◌}
use Rattle.std.specs.Prelude.{T, ℤ, pos, neg_ℤ, ◌+ℤ◌, ◌*ℤ◌, length, ◌≤ℤ◌, ◌<ℤ◌}
use Rattle.std.specs.Int.Signed.{lt_z}
use Rattle.words.specs.Signed.{floor, in_range}
use Rattle.shares.specs.Sharing.{hand_out, split}
use Rattle.tables.specs.Table.{Rules, rows}
use Rattle.curves.specs.Curve.{scaled, last_count}
use Rattle.gates.specs.Costs.{cost_of}
use Rattle.calls.specs.Scripts.{script_cost, orders_in, Orderly}
use Rattle.runs.specs.Runs.{Setting, staged, World, opened_after, Accepted}
use Rattle.runs.specs.Orders.{reading, opens, Finishes}
use Rattle.runs.specs.Returned.{opened_now}
use Rattle.demands.specs.Conditions.{PreparationIs}
use Rattle.demands.specs.Demand3.{Exact}
use Rattle.jobs.specs.CostTable.{kind_cost}
use Rattle.calendars.specs.Calendar.{counted_quarters, factor}
use Rattle.calendars.specs.Hours.{Counts, HoursNumbered}
use Rattle.days.specs.Day.{Hours, counting, day_script, day_of, day_cost}
use Rattle.day_demands.specs.Settings.{DaySetting, day_staged, quarter_share, quarter_reading}
use Rattle.day_demands.specs.Numbers.{day_terms}

-- "values the curve gives alone", in exact mode: floor(Y / 4096), and -1 above the last row (R-1)
unfoldable pub curve_alone : (table : List ℕ) → ℤ → ℤ
curve_alone T x = cond (lt_z (pos (last_count (rows T))) x) (neg_ℤ (pos 1)) (floor (scaled (rows T) x) 4096)

-- whether a reading is above the last row, as a number
unfoldable pub is_above : (table : List ℕ) → ℤ → ℕ
is_above T x = cond (lt_z (pos (last_count (rows T))) x) 1 0

-- of the first n quarters: the sum of the values of those that count (`counting`, which is `Counts` by `quarter` of
-- calendars/specs/OpeningHours.antt), where each that is above the last row "enters the sum as -1"; and the number of
-- those above the last row. R-6: "A closed pool's readings should not enter the mean"; a quarter left out "is not
-- counted as above the last row"
unfoldable pub sum_of : DaySetting → (n : ℕ) → ℤ
sum_of S zero = pos 0
sum_of S (suc n) =
    sum_of S n +ℤ cond (counting S.hours n) (curve_alone S.table (quarter_reading 32 S n)) (pos 0)

unfoldable pub above_of : DaySetting → (n : ℕ) → ℕ
above_of S zero = 0
above_of S (suc n) = above_of S n + cond (counting S.hours n) (is_above S.table (quarter_reading 32 S n)) 0

-- R-3's own, of all quarters: "the sum being that of the 96 values the curve gives alone"
unfoldable pub sum_of_all : DaySetting → (n : ℕ) → ℤ
sum_of_all S zero = pos 0
sum_of_all S (suc n) = sum_of_all S n +ℤ curve_alone S.table (quarter_reading 32 S n)

unfoldable pub above_of_all : DaySetting → (n : ℕ) → ℕ
above_of_all S zero = 0
above_of_all S (suc n) = above_of_all S n + is_above S.table (quarter_reading 32 S n)

-- n: "With n counted quarters, the factor is floor(65536 / n)"
abbrev pub quarters_of : DaySetting → ℕ
quarters_of S = counted_quarters S.hours.calendar S.hours.weekday

abbrev pub factor_of : DaySetting → ℕ
factor_of S = factor (quarters_of S)

-- a calendar and a weekday that meet neither 16 nor 17
abbrev pub OpenDay : DaySetting → Type 0
OpenDay S = HoursNumbered S.hours.calendar S.hours.weekday 0

-- of the quarters that count "readings that can be split": from -2^30 to 2^30 - 1
abbrev pub Splittable : DaySetting → Type 0
Splittable S =
    (q : ℕ) → q < 96 → Counts S.hours.calendar S.hours.weekday q
    → T (in_range 32 (quarter_reading 32 S q))

-- every table that keeps the rules, on such hours and readings
pub record Sheet (S : DaySetting) : Type 0 where
  pub table : Rules S.table
  pub open_day : OpenDay S
  pub readings : Splittable S

pub record DayOpens : Type 0 where
  -- after a finished quarter, one that is left out too, register 0 opens the sum so far, and register 1 the number of
  -- counted quarters so far above the last row
  pub sum : (S : DaySetting) → Sheet S → (q : ℕ) (v : World) → q < 96 → Finishes 32 (day_staged 32 S) q v
      → opened_after 32 v q 0 ≡ (0, sum_of S (suc q))
  pub count : (S : DaySetting) → Sheet S → (q : ℕ) (v : World) → q < 96 → Finishes 32 (day_staged 32 S) q v
      → opened_after 32 v q 1 ≡ (0, pos (above_of S (suc q)))
  -- "The opened mean is floor(" factor "× sum / 65536), the sum being that of the" counted quarters' "values the curve
  -- gives alone."
  pub mean : (S : DaySetting) → Sheet S → (v : World) → Finishes 32 (day_staged 32 S) 96 v
      → opened_after 32 v 96 0 ≡ (0, floor (pos (factor_of S) *ℤ sum_of S 96) 65536)
  pub mean_count : (S : DaySetting) → Sheet S → (v : World) → Finishes 32 (day_staged 32 S) 96 v
      → opened_after 32 v 96 1 ≡ (0, pos (above_of S 96))
  -- every other register opens 0, as at the start; its words: `others` (Holdings.antt)
  pub others : (S : DaySetting) (q i : ℕ) (v : World) → Finishes 32 (day_staged 32 S) q v → 1 < i → i < 16
      → opened_after 32 v q i ≡ (0, pos 0)
  -- the same of what the calls returned: where the mean is finished, of the masks and states that the hosts hold
  pub returned_mean : (S : DaySetting) → Sheet S → (v : World) → Finishes 32 (day_staged 32 S) 96 v
      → opened_now 32 120 v 0 ≡ (0, floor (pos (factor_of S) *ℤ sum_of S 96) 65536)
  pub returned_count : (S : DaySetting) → Sheet S → (v : World) → Finishes 32 (day_staged 32 S) 96 v
      → opened_now 32 120 v 1 ≡ (0, pos (above_of S 96))
  -- these are the values that a curve order of a job opens on the same reading
  pub alone : (J : Setting) (q : ℕ) (v : World) → Finishes 32 (staged 32 J) q v → Exact J q
      → T (in_range 32 (reading 32 J q))
      → opens 32 J v q ≡ (0, curve_alone J.table (reading 32 J q))
  -- "A day is 96 quarter-hour readings, each split": where the hosts' words of a quarter are what splitting gave of x,
  -- its reading is x
  pub split_reading : (S : DaySetting) (q : ℕ) (x : ℤ) (l1 l2 : ℕ) → T (in_range 32 x) → l1 < 2 ^ 32 → l2 < 2 ^ 32
      → (split 32 x l1 l2).1 ≡ hand_out (quarter_share S q) → quarter_reading 32 S q ≡ x
  -- no word wraps on the way: a value is -1 to 20000, and the factor times every sum lies within -2^31 to 2^31 - 1
  pub value_low : (S : DaySetting) → Sheet S → (q : ℕ) → q < 96
      → neg_ℤ (pos 1) ≤ℤ curve_alone S.table (quarter_reading 32 S q)
  pub value_high : (S : DaySetting) → Sheet S → (q : ℕ) → q < 96
      → curve_alone S.table (quarter_reading 32 S q) ≤ℤ pos 20000
  pub sum_low : (S : DaySetting) → Sheet S → (n : ℕ) → n ≤ 96
      → neg_ℤ (pos (2 ^ 31)) ≤ℤ (pos (factor_of S) *ℤ sum_of S n)
  pub sum_high : (S : DaySetting) → Sheet S → (n : ℕ) → n ≤ 96
      → (pos (factor_of S) *ℤ sum_of S n) <ℤ pos (2 ^ 31)
  -- n curves and one kind 8, since a quarter left out "needs no masks or deals": deals, words spoken, A and B, by the
  -- table's rows; and of all 96 quarters on the eight rows of the house table
  pub counts : (table : List ℕ) (words : ℕ) (H : Hours)
      → script_cost (day_script 32 table words H) ≡ day_cost H (length (rows table))
  pub house_counts : day_of 96 (kind_cost 10 0 8) ≡ cost_of 11629 23064 23161 11532
  -- "A place's order is the quarter from 0, then 96 for the mean; the end is 97 and 0.": what the laws of every script
  -- ask of a day's
  pub orders : (table : List ℕ) (words : ℕ) (H : Hours) → orders_in (day_script 32 table words H) ≡ 97
  pub orderly : (table : List ℕ) (words : ℕ) (H : Hours) → Orderly (day_script 32 table words H)
  -- a day is accepted with its lists and a buffer exactly where none of 12, 16, 17, 5, 6 and 7 is met; then whole runs
  -- of it exist (`whole`, Returned.antt)
  pub accepted : (S : DaySetting) (buffer : List ℕ)
      → PreparationIs (day_terms S.table 192 S.hours) S.A S.B buffer 0 0
      ↔ Accepted (day_staged 32 S) buffer
