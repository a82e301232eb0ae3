-- A day with all quarters counted has R-3's factor, sum and count. Assumes nothing.
use mathlib.Core.Path.{◌≡◌, refl, ap, ap₂, ◌∙◌}
use mathlib.Core.Bool.{Bool, true, cond}
use Prim.Native.Nat.{ℕ, zero, suc, ◌+◌, ◌≤◌, ◌<◌}
use native.Mathlib.Omega.{arith}
use lib.IntN.{ℤ, pos, ◌+ℤ◌}
use Rattle.calendars.specs.Calendar.{factor}
use Rattle.calendars.proofs.OpeningHours.{opening_hours}
use Rattle.days.specs.Day.{counting}
use Rattle.days.specs.WholeDay.{AllCounted}
use Rattle.day_demands.specs.Settings.{DaySetting, quarter_reading}
use Rattle.day_demands.specs.Opened.{curve_alone, is_above, sum_of, above_of, sum_of_all, above_of_all, factor_of}
use Rattle.day_demands.proofs.Sums.{tested}

module _ (S : DaySetting) (all : AllCounted S.hours) where
  pub old_factor : factor_of S ≡ 682
  old_factor =
      let a = opening_hours.all_counted S.hours.calendar S.hours.weekday all.sound all.counted in
      ap factor a.1 ∙ a.2

  counted : (q : ℕ) → q < 96 → counting S.hours q ≡ true
  counted q h = (tested S q).1 (all.counted q h)

  pub old_sum : (n : ℕ) → n ≤ 96 → sum_of S n ≡ sum_of_all S n
  unfolding sum_of sum_of_all
  old_sum zero h = refl
  old_sum (suc n) h =
      ap₂ (λ (z : ℤ) (b : Bool). z +ℤ cond b (curve_alone S.table (quarter_reading 32 S n)) (pos 0)) (old_sum n (omega arith))
      (counted n (omega arith))

  pub old_above : (n : ℕ) → n ≤ 96 → above_of S n ≡ above_of_all S n
  unfolding above_of above_of_all
  old_above zero h = refl
  old_above (suc n) h =
      ap₂ (λ (k : ℕ) (b : Bool). k + cond b (is_above S.table (quarter_reading 32 S n)) 0) (old_above n (omega arith)) (counted n (omega arith))
