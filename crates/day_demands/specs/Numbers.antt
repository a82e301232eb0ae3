-- R-3: the number that each call of a day gives, for every input: "Checks: 12, day list not of 96 shares, after 1";
-- "The lists and deals must cover the whole day (6, 7); a faulty table is 5 with index 0."; R-6: "16 ..; 17 ..; both
-- after 12"; R-7: "18 .. after 8". Assumes nothing.
use Rattle.std.specs.Prelude.{◌≡◌, ◌≢◌, List, ℕ, length, replicate}
use Rattle.tables.specs.Table.{Rules, rows}
use Rattle.calendars.specs.Hours.{HoursNumbered}
use Rattle.calls.specs.declared.Stored.{Stored}
use Rattle.calls.specs.Calls.{stored_places, State}
use Rattle.demands.specs.Conditions.{gate_places, walks_places, Terms, Single, PreparationIs, StartIs, HearingIs}
use Rattle.demands.specs.Numbers.{Told, ToldPlaces}
use Rattle.days.specs.Day.{Hours, counting, day_gates, day_cost, day_script}
use Rattle.days.specs.DayCalls.{day_start, day_hear, day_prepare}

-- the conditions that come before 6, of a table, a day list of n words and hours: 12; 16 and 17, which `HoursNumbered`
-- has in R-6's words; 5
pub data DayNumbered (table : List ℕ) (n : ℕ) (H : Hours) : (number index : ℕ) → Type 0 where
  no_day : n ≢ 192 → DayNumbered table n H 12 0
  no_hours : n ≡ 192 → (k : ℕ) → HoursNumbered H.calendar H.weekday k → k ≢ 0
      → DayNumbered table n H k 0
  no_table : n ≡ 192 → HoursNumbered H.calendar H.weekday 0 → (Rules table → ⊥)
      → DayNumbered table n H 5 0
  faultless : n ≡ 192 → HoursNumbered H.calendar H.weekday 0 → Rules table → DayNumbered table n H 0 0

-- what the conditions speak of, of a day: its places are those of the products and refreshes of its counted quarters,
-- in day order, and of the mean
abbrev pub day_terms : (table : List ℕ) (n : ℕ) → Hours → Terms
day_terms table n H =
    record {
      own = DayNumbered table n H;
      needs = day_cost H (length (rows table));
      places = gate_places 0 (day_gates 32 (counting H) (rows table));
      orders = 97;
      walked = walks_places 32 (day_gates 32 (counting H) (rows table));
    }

pub record DayNumbers : Type 0 where
  -- 12, 16, 17, 5, 6, 7
  pub preparing : (T S : List ℕ) (H : Hours) (A B D : List ℕ)
      → PreparationIs (day_terms T (length S) H) A B D (day_prepare 32 T S H A B D).number
      (day_prepare 32 T S H A B D).index
  -- 1, 12, 16, 17, 5, 6, 7
  pub starting : (h : ℕ) (T S : List ℕ) (H : Hours) (M D : List ℕ)
      → StartIs (day_terms T (length S) H) h M D (day_start 32 h T S H M D).number
      (day_start 32 h T S H M D).index
  -- 1, 12, 16, 17, 5, 6, 7, 8, 18, 9
  pub hearing : (h : ℕ) (T S : List ℕ) (H : Hours) (M D : List ℕ) (s : State) (v : ℕ)
      → HearingIs (day_terms T (length S) H) h M D (s.order, s.turn) s.stored
      (day_hear 32 h T S H M D s v).number (day_hear 32 h T S H M D s v).index
  -- each holds of one number and one index
  pub one_preparation : (T S : List ℕ) (H : Hours) (A B D : List ℕ)
      → Single (PreparationIs (day_terms T (length S) H) A B D)
  pub one_start : (h : ℕ) (T S : List ℕ) (H : Hours) (M D : List ℕ)
      → Single (StartIs (day_terms T (length S) H) h M D)
  pub one_hearing : (h : ℕ) (T S : List ℕ) (H : Hours) (M D : List ℕ) (o x : ℕ) (u : Stored)
      → Single (HearingIs (day_terms T (length S) H) h M D (o, x) u)
  -- a day's script is what these terms say, so that its calls are those of `Numbers` (demands)
  pub told : (T : List ℕ) (n : ℕ) (H : Hours) → Told (day_script 32 T n H) (day_terms T n H)
  pub told_places : (T : List ℕ) (n : ℕ) (H : Hours) → ToldPlaces (day_script 32 T n H) (day_terms T n H)
  -- refused: a preparation gives masks of zeros and leaves its buffer, a starting gives a state of zeros, a hearing the
  -- state that it was given; every other number is 0
  pub preparing_unchanged : (T S : List ℕ) (H : Hours) (A B D : List ℕ) → (day_prepare 32 T S H A B D).number ≢ 0
      → ((day_prepare 32 T S H A B D).masks ≡ (replicate 16 0, replicate 16 0))
      × ((day_prepare 32 T S H A B D).buffer ≡ D)
      × ((day_prepare 32 T S H A B D).deals ≡ 0)
  pub starting_unchanged : (h : ℕ) (T S : List ℕ) (H : Hours) (M D : List ℕ)
      → (day_start 32 h T S H M D).number ≢ 0
      → ((day_start 32 h T S H M D).state
      ≡ record { m = replicate 24 0; mask = replicate 24 0; order = 0; turn = 0; stored = stored_places 0 0 0 })
      × ((day_start 32 h T S H M D).spoken ≡ 0) × ((day_start 32 h T S H M D).word ≡ 0)
  pub hearing_unchanged : (h : ℕ) (T S : List ℕ) (H : Hours) (M D : List ℕ) (s : State) (v : ℕ)
      → length s.m ≡ 24 → length s.mask ≡ 24
      → (day_hear 32 h T S H M D s v).number ≢ 0
      → ((day_hear 32 h T S H M D s v).state ≡ s)
      × ((day_hear 32 h T S H M D s v).spoken ≡ 0) × ((day_hear 32 h T S H M D s v).word ≡ 0)
