-- R-5: "The curve guarantees are to be had for every table that loads", of every run whose calls are lent a table that
-- was loaded: demand 3 as R-1 changes it, and R-3's mean and count, by the rows in the text's records; and that no such
-- table is a reason to be turned down. Assumes nothing.
use Rattle.std.specs.Prelude.{◌≡◌, ◌↔◌, List, ℕ, ◌*◌, ◌^◌, ◌≤◌, ◌<◌, T, ℤ, pos, neg_ℤ, ◌+ℤ◌, ◌*ℤ◌, length, ◌≤ℤ◌, ◌<ℤ◌}
use Rattle.words.specs.Signed.{floor, wrap, in_range}
use Rattle.truncations.specs.Truncation.{slip}
use Rattle.tables.specs.Table.{rows, house}
use Rattle.curves.specs.Curve.{Quotient, scaled, line, last_count, Near}
use Rattle.curves.specs.Count.{count}
use Rattle.gates.specs.Costs.{Cost}
use Rattle.jobs.specs.Job.{orders}
use Rattle.jobs.specs.CostTable.{table_counts}
use Rattle.jobs.specs.FirstFault.{Numbered}
use Rattle.runs.specs.Runs.{Setting, staged, World, Call, Accepted}
use Rattle.runs.specs.Orders.{Words, order_of, refresh_mask, reading, Finishes, opens}
use Rattle.demands.specs.Demand3.{Exact, OneBit, with_word, eqZ}
use Rattle.demands.specs.ReturnedCurves.{Stays, target_opens}
use Rattle.days.specs.Day.{Hours, day_cost}
use Rattle.day_demands.specs.Settings.{DaySetting, day_staged, quarter_reading}
use Rattle.day_demands.specs.Numbers.{DayNumbered}
use Rattle.day_demands.specs.Opened.{sum_of, above_of, factor_of, OpenDay, Splittable, Sheet}
use Rattle.day_demands.specs.Runs.{DayWorld, DayRun, day_opened}
use Rattle.day_demands.specs.Returned.{BothAtEnd}
use Rattle.table_load.specs.Loading.{records, table_in, loading, lent_on}

-- the calls are lent this table, which the text t gave: "gives the table that the job's calls then take"
pub record LentFrom (t table : List ℕ) : Type 0 where
  pub loads : (loading t).number ≡ 0
  pub lent : table ≡ lent_on (loading t)

-- Y of a reading, C at it, and the last r, by the rows in a text's records
abbrev pub text_Y : (t : List ℕ) → ℤ → ℤ
text_Y t x = scaled (rows (table_in t)) x

abbrev pub text_C : (t : List ℕ) → ℤ → Quotient
text_C t x = line (rows (table_in t)) x

abbrev pub text_last : (t : List ℕ) → ℕ
text_last t = last_count (rows (table_in t))

-- "readings up to the last row": from -2^30 to the last r in the text
pub record UpToLast (t : List ℕ) (x : ℤ) : Type 0 where
  pub from_low : neg_ℤ (pos (2 ^ 30)) ≤ℤ x
  pub to_last : x ≤ℤ pos (text_last t)

-- what is opened of a finished order: as the order leaves its target; where no later order writes that, also as the
-- masks and states that the calls returned now open it
pub data Opened (S : Setting) (q : ℕ) (v : World) : ℕ × ℤ → Type 0 where
  as_left : Finishes 32 (staged 32 S) q v → Opened S q v (opens 32 S v q)
  as_returned : Stays 32 S q v → Opened S q v (target_opens 32 S v q)

-- lists and a buffer that hold what is needed
pub record Suffice (needs : Cost) (A B buffer : List ℕ) : Type 0 where
  pub a : needs.a ≤ length A
  pub b : needs.b ≤ length B
  pub deals : needs.deals ≤ length buffer

-- the same day on another table
abbrev pub on_table : (table : List ℕ) → DaySetting → DaySetting
on_table T S =
    record {
      table = T;
      hours = S.hours;
      A = S.A;
      B = S.B;
      m = S.m;
      l1 = S.l1;
      l2 = S.l2;
      m_day = S.m_day;
      l1_day = S.l1_day;
      l2_day = S.l2_day;
    }

pub record LoadedRuns : Type 0 where
  -- the table is that of the text's records, r and c of each in turn
  pub table_is : (t table : List ℕ) → LentFrom t table → table ≡ table_in t
  -- on it a job has the number and the index, by 2 to 5, that it has on the house table, at every width; and
  -- a day those that it has by 12, 16, 17 and 5
  pub job_numbers : (t table : List ℕ) → LentFrom t table → (w : ℕ) (job : List ℕ) (n i : ℕ)
      → Numbered w job house n i ↔ Numbered w job table n i
  pub day_numbers : (t table : List ℕ) → LentFrom t table → (words : ℕ) (H : Hours) (n i : ℕ)
      → DayNumbered house words H n i ↔ DayNumbered table words H n i
  -- so where that is 0, and the lists suffice by document 01's table of costs, the job is accepted, and all that is
  -- proved of accepted jobs holds: their runs finish (`finishes`, demands/specs/Demand3.antt), and those that `slips`
  -- speaks of exist (`family`, demands/specs/ReturnedCurves.antt)
  pub job_accepted : (t : List ℕ) (S : Setting) (buffer : List ℕ)
      → LentFrom t S.table → Numbered 32 S.job house 0 0
      → Suffice (table_counts (records t) (orders S.job)) S.A S.B buffer
      → Accepted (staged 32 S) buffer
  -- and there are runs that finish every order; of a day, that bring both hosts to its end
  pub job_runs : (t : List ℕ) (S : Setting) (buffer : List ℕ)
      → LentFrom t S.table → Words 32 (staged 32 S) → Numbered 32 S.job house 0 0
      → Suffice (table_counts (records t) (orders S.job)) S.A S.B buffer
      → (v : World) × ((q : ℕ) → q < length (orders S.job) → Finishes 32 (staged 32 S) q v)
  pub day_runs : (t : List ℕ) (S : DaySetting) (buffer : List ℕ) → LentFrom t S.table → OpenDay S
      → Suffice (day_cost S.hours (records t)) S.A S.B buffer
      → (cs : List Call) × (u : DayWorld) × DayRun 32 S cs u × BothAtEnd u
  -- demand 3, as R-1 changes it: "each finished curve order .. opens exactly floor(Y / 4096) in exact mode"
  pub exact : (t : List ℕ) (S : Setting) (q : ℕ) (v : World) (p : ℕ × ℤ)
      → LentFrom t S.table → Opened S q v p → Exact S q → UpToLast t (reading 32 S q)
      → p ≡ (0, floor (text_Y t (reading 32 S q)) 4096)
  -- "In one_bit mode it opens one more exactly when (Y mod 4096) + (L mod 4096) is at least 4096, else the same"
  pub one_bit : (t : List ℕ) (S : Setting) (q : ℕ) (v : World) (p : ℕ × ℤ)
      → LentFrom t S.table → Opened S q v p → OneBit S q → UpToLast t (reading 32 S q)
      → p ≡ (
        0,
        floor (text_Y t (reading 32 S q)) 4096
            +ℤ pos (slip 12 (wrap 12 (text_Y t (reading 32 S q))) (refresh_mask 32 S q)),
      )
  -- "Over the 2^32 values of that refresh's list A word .. exactly (Y mod 4096) × 2^20 give one more."
  pub slips : (t : List ℕ) (S : Setting) (q : ℕ) (v : ℕ → World) (p : ℕ → ℕ × ℤ)
      → LentFrom t S.table → Words 32 (staged 32 S)
      → ((a : ℕ) → a < 2 ^ 32 → Opened (with_word 32 S q a) q (v a) (p a))
      → OneBit S q → UpToLast t (reading 32 S q)
      → count (2 ^ 32) (λ a. eqZ (p a).1 (floor (text_Y t (reading 32 S q)) 4096 +ℤ pos 1))
      ≡ wrap 12 (text_Y t (reading 32 S q)) * 2 ^ 20
  -- "In both modes the value is above C - 2 and below C + 1."
  pub near_exact : (t : List ℕ) (S : Setting) (q : ℕ) (v : World) (p : ℕ × ℤ)
      → LentFrom t S.table → Opened S q v p → Exact S q → UpToLast t (reading 32 S q)
      → Near (text_C t (reading 32 S q)) p.1
  pub near_one_bit : (t : List ℕ) (S : Setting) (q : ℕ) (v : World) (p : ℕ × ℤ)
      → LentFrom t S.table → Opened S q v p → OneBit S q → UpToLast t (reading 32 S q)
      → Near (text_C t (reading 32 S q)) p.1
  -- R-1: "The curve therefore opens -1 for x above the last r", in both modes
  pub above : (t : List ℕ) (S : Setting) (q : ℕ) (v : World) (p : ℕ × ℤ)
      → LentFrom t S.table → Opened S q v p → (order_of S q).kind ≡ 10
      → pos (text_last t) <ℤ reading 32 S q
      → p ≡ (0, neg_ℤ (pos 1))
  -- R-3, R-6: "The opened mean is floor(" factor "× sum / 65536)", and register 1 opens the count, of the masks and
  -- states that the calls returned; the sum and the count are those on the rows in the text's records
  pub mean : (t : List ℕ) (S : DaySetting)
      → LentFrom t S.table → OpenDay S → Splittable S → Words 32 (day_staged 32 S)
      → (cs : List Call) (u : DayWorld) → DayRun 32 S cs u → BothAtEnd u
      → day_opened 32 u 0 ≡ (0, floor (pos (factor_of S) *ℤ sum_of (on_table (table_in t) S) 96) 65536)
  pub day_count : (t : List ℕ) (S : DaySetting)
      → LentFrom t S.table → OpenDay S → Splittable S → Words 32 (day_staged 32 S)
      → (cs : List Call) (u : DayWorld) → DayRun 32 S cs u → BothAtEnd u
      → day_opened 32 u 1 ≡ (0, pos (above_of (on_table (table_in t) S) 96))
  -- what `DayOpens` and `DayReturned` (day_demands/specs) ask of a day's table, hours and readings
  pub sheet : (t : List ℕ) (S : DaySetting) → LentFrom t S.table → OpenDay S → Splittable S → Sheet S
