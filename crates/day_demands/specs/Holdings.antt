-- R-3: the very words that hosts 1 and 2 hold of the registers, wherever they stand in a run of a day, and what these
-- open. Assumes nothing.
use Rattle.std.specs.Prelude.{◌≡◌, List, [], ℕ, ◌≤◌, ◌<◌, pos, get_or}
use Rattle.words.specs.Words.{add, mul, numbers}
use Rattle.words.specs.Signed.{signed, shr_signed}
use Rattle.shares.specs.Gates.{value}
use Rattle.tables.specs.Table.{Rules, rows}
use Rattle.curves.specs.Curve.{last_count, above_last}
use Rattle.programs.specs.Opens.{curve_value}
use Rattle.gates.specs.Steps.{at}
use Rattle.gates.specs.Hosts.{Pair}
use Rattle.calls.specs.Calls.{State}
use Rattle.runs.specs.Runs.{Among, Spoken, Dealer, Side, going, world, Call, Run}
use Rattle.calendars.specs.Hours.{Counts}
use Rattle.days.specs.Day.{counting, day_gates}
use Rattle.runs.specs.Orders.{Words, share_before, share_after, value_before, value_after}
use Rattle.day_demands.specs.Settings.{DaySetting, day_staged, quarter_share}
use Rattle.day_demands.specs.Numbers.{day_terms}
use Rattle.day_demands.specs.Opened.{sum_of, above_of, factor_of, Sheet}

-- the word that the share of quarter q opens
abbrev pub quarter_value : DaySetting → (q : ℕ) → ℕ
quarter_value S q = value (numbers 32) (quarter_share S q)

pub record DayHoldings : Type 0 where
  -- "Between two exchanges of an order a state's registers are those before the order.": the state that the last call
  -- returned, at whatever place of a day, has in every register the words of the joint walk just before its order
  pub host1 : (w : ℕ) (S : DaySetting) (cs : List Call) (z : Dealer) (buf : List ℕ) (s : State) (t : List Pair)
      (said : List Spoken) (two : Side) → Run (day_staged w S) cs (world z buf (going s t said) two)
      → (i : ℕ) → i < 16
      → (at s.m i ≡ (share_before (day_staged w S) s.order i).m)
      × (at s.mask i ≡ (share_before (day_staged w S) s.order i).l1)
  pub host2 : (w : ℕ) (S : DaySetting) (cs : List Call) (z : Dealer) (buf : List ℕ) (one : Side) (s : State)
      (t : List Pair) (said : List Spoken) → Run (day_staged w S) cs (world z buf one (going s t said))
      → (i : ℕ) → i < 16
      → (at s.m i ≡ (share_before (day_staged w S) s.order i).m)
      × (at s.mask i ≡ (share_before (day_staged w S) s.order i).l2)
  -- "While order 96 runs, register 0 still holds the sum.": what it opens just before order 96; and before each quarter
  -- the sum so far, and in register 1 the count so far
  pub sum_held : (S : DaySetting) → Sheet S → Words 32 (day_staged 32 S) → (q : ℕ) → q ≤ 96
      → signed 32 (value_before 32 (day_staged 32 S) q 0) ≡ sum_of S q
  pub count_held : (S : DaySetting) → Sheet S → Words 32 (day_staged 32 S) → (q : ℕ) → q ≤ 96
      → signed 32 (value_before 32 (day_staged 32 S) q 1) ≡ pos (above_of S q)
  -- "Registers start at zero", and no register but 0 and 1 is written: the three hosts' words of the others stay 0
  pub others : (S : DaySetting) → Words 32 (day_staged 32 S) → (q i : ℕ) → q ≤ 96 → 1 < i → i < 16
      → share_after (day_staged 32 S) q i ≡ record { m = 0; l1 = 0; l2 = 0 }
  -- "other shares are accepted and open what the steps give": whatever words a counted quarter's share is, register 0
  -- opens what it did and the curve's value more, register 1 R-1's a more, and the mean's steps give theirs
  pub steps_sum : (S : DaySetting) → Words 32 (day_staged 32 S) → Rules S.table → (q : ℕ) → q < 96
      → Counts S.hours.calendar S.hours.weekday q
      → value_after 32 (day_staged 32 S) q 0
      ≡ add 32 (value_before 32 (day_staged 32 S) q 0) (curve_value 32 (rows S.table) 0 (quarter_value S q) 0)
  pub steps_count : (S : DaySetting) → Words 32 (day_staged 32 S) → (q : ℕ) → q < 96
      → Counts S.hours.calendar S.hours.weekday q
      → value_after 32 (day_staged 32 S) q 1
      ≡ add 32 (value_before 32 (day_staged 32 S) q 1)
      (above_last 32 (last_count (rows S.table)) (quarter_value S q))
  pub steps_mean : (S : DaySetting) → Words 32 (day_staged 32 S)
      → value_after 32 (day_staged 32 S) 96 0
      ≡ shr_signed 32 16 (mul 32 (value_before 32 (day_staged 32 S) 96 0) (factor_of S))
  -- R-6, "A quarter left out is run by no host": it has no gates, and on every host the words of every slot, registers
  -- and kept words, are what they were
  pub left_out : (w : ℕ) (S : DaySetting) (q : ℕ) → q < 96
      → (Counts S.hours.calendar S.hours.weekday q → ⊥)
      → (get_or (day_gates w (counting S.hours) (rows S.table)) q [] ≡ [])
      × ((i : ℕ) → share_after (day_staged w S) q i ≡ share_before (day_staged w S) q i)
  -- and no place of the day is in it: a state there is turned down with 8 (`hearing` of `DayNumbers`)
  pub no_place : (S : DaySetting) (q x : ℕ) → q < 96 → (Counts S.hours.calendar S.hours.weekday q → ⊥)
      → Among (q, x) (day_terms S.table 192 S.hours).places → ⊥
