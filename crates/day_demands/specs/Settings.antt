-- R-3: the runs of a day are the runs of its script (runs/specs/Runs.antt), on lanes that have the quarters' shares
-- behind the registers and kept words. Assumes nothing.
use Rattle.std.specs.Prelude.{◌≡◌, List, [], ◌∷◌, ◌++◌, ℕ, ◌+◌, ℤ, length, replicate}
use Rattle.std.proofs.Common.{◌∙◌, ap, length-append}
use Rattle.words.specs.Words.{numbers}
use Rattle.words.specs.Signed.{signed}
use Rattle.shares.specs.Gates.{Share, value}
use Rattle.gates.specs.Steps.{Lane, at}
use Rattle.runs.specs.Runs.{Stage}
use Rattle.days.specs.Day.{Hours, day_script}

-- the table, the calendar and the weekday (R-6), the mask lists, and the 96 shares that the readings were split into:
-- host 0 has l1 and l2, host 1 m and l1, host 2 m and l2
pub record DaySetting : Type 0 where
  pub table : List ℕ
  pub hours : Hours
  pub A : List ℕ
  pub B : List ℕ
  pub m : Lane
  pub l1 : Lane
  pub l2 : Lane
  pub m_day : length m ≡ 96
  pub l1_day : length l1 ≡ 96
  pub l2_day : length l2 ≡ 96

-- a host's day list, "96 shares of two words each": of its first and its second words
unfoldable pub day_list : (first second : Lane) → List ℕ
day_list [] ys = []
day_list (x ∷ xs) [] = []
day_list (x ∷ xs) (y ∷ ys) = x ∷ y ∷ day_list xs ys

-- "Registers start at zero"
abbrev pub behind_zeros : Lane → Lane
behind_zeros l = replicate 24 0 ++ l

pub behind_full : (l : Lane) → length l ≡ 96 → length (behind_zeros l) ≡ 120
behind_full l e = length-append (replicate 24 0) l ∙ ap (λ (n : ℕ). 24 + n) e

-- the day's stage
abbrev pub day_staged : ℕ → DaySetting → Stage
day_staged w S =
    record {
      script = day_script w S.table 192 S.hours;
      A = S.A;
      B = S.B;
      rm = behind_zeros S.m;
      r1 = behind_zeros S.l1;
      r2 = behind_zeros S.l2;
      rm_full = behind_full S.m S.m_day;
      r1_full = behind_full S.l1 S.l1_day;
      r2_full = behind_full S.l2 S.l2_day;
    }

-- the share of quarter q, and its reading: what it opens
abbrev pub quarter_share : DaySetting → (q : ℕ) → Share ℕ
quarter_share S q = record { m = at S.m q; l1 = at S.l1 q; l2 = at S.l2 q }

unfoldable pub quarter_reading : (w : ℕ) → DaySetting → (q : ℕ) → ℤ
quarter_reading w S q = signed w (value (numbers w) (quarter_share S q))
