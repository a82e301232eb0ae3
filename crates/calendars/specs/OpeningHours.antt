-- R-6 of a calendar, for every list and every weekday: the check's number, which quarters count and how many, the
-- factor. Assumes nothing.
use Rattle.std.specs.Prelude.{◌≡◌, true, false, ◌↔◌, ◌≢◌, List, ℕ, ◌+◌, ◌*◌, ◌≤◌, ◌<◌}
use Rattle.calendars.specs.Calendar.{sound, counts, counted_quarters, calendar_number, factor}
use Rattle.calendars.specs.Quarters.{held, tabled}
use Rattle.calendars.specs.Answers.{refused, counted}
use Rattle.calendars.specs.Hours.{Sound, Open, Cleaning, Counts, HoursNumbered}

pub record OpeningHours : Type 0 where
  -- the test of check 16 is what document 02 says, and so is the test of a quarter
  pub rules : (c : List ℕ) (d : ℕ) → (sound c d ≡ true) ↔ Sound c d
  pub quarter : (c : List ℕ) (d q : ℕ) → (counts c d q ≡ true) ↔ Counts c d q
  -- "It counts if it lies in an open window", be it in a cleaning window too; "otherwise, or if in a cleaning window
  -- only, it is left out"
  pub open_counts : (c : List ℕ) (d q : ℕ) → Open c d q → counts c d q ≡ true
  pub otherwise : (c : List ℕ) (d q : ℕ) → (Open c d q → ⊥) → counts c d q ≡ false
  pub cleaning_only : (c : List ℕ) (d q : ℕ) → Cleaning c d q → (Open c d q → ⊥) → counts c d q ≡ false
  -- the number of the checks, and that each calendar and weekday has one
  pub numbered : (c : List ℕ) (d : ℕ) → HoursNumbered c d (calendar_number c d)
  pub one_number : (c : List ℕ) (d m n : ℕ) → HoursNumbered c d m → HoursNumbered c d n → m ≡ n
  -- `counted` answers it; beside a number all else is 0
  pub answers : (c : List ℕ) (d : ℕ) → (counted c d).number ≡ calendar_number c d
  pub refusal : (c : List ℕ) (d : ℕ) → (counted c d).number ≢ 0 → counted c d ≡ refused (counted c d).number
  -- quarter q's bit is 1 exactly where q counts, and n is their number
  pub bits : (c : List ℕ) (d : ℕ) → (counted c d).number ≡ 0 → (q : ℕ) → q < 96
      → (held (counted c d).quarters q ≡ true) ↔ Counts c d q
  pub how_many : (c : List ℕ) (d : ℕ) → (counted c d).number ≡ 0 → (counted c d).n ≡ counted_quarters c d
  pub from_1_to_96 : (c : List ℕ) (d : ℕ) → calendar_number c d ≡ 0
      → (1 ≤ counted_quarters c d) × (counted_quarters c d ≤ 96)
  -- "the factor is floor(65536 / n) from a table for n from 1 to 96"
  pub factor_is : (n : ℕ) → 1 ≤ n → n ≤ 96
      → (tabled n ≡ factor n) × (factor n * n ≤ 65536) × (65536 < (factor n + 1) * n)
  -- all 96 quarters count: n is 96, and the factor is R-3's 682
  pub all_counted : (c : List ℕ) (d : ℕ) → Sound c d → ((q : ℕ) → q < 96 → Counts c d q)
      → (calendar_number c d ≡ 0) × (counted_quarters c d ≡ 96) × (factor 96 ≡ 682)
