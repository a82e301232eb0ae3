-- The house table keeps the rules, and its slopes: each by one computation over the whole table. Assumes nothing.
use mathlib.Core.Path.{◌≡◌, refl, sym, ap, ◌∙◌}
use mathlib.Core.List.{List, [], ◌∷◌}
use Prim.Native.Nat.{ℕ, zero, suc, ◌<◌}
use native.Mathlib.Omega.{arith}
use lib.Dec.{T}
use lib.IntN.{ℤ, pos}
use lib.ListN.{length, get_or}
use Rattle.words.specs.Signed.{floor}
use Rattle.tables.specs.Table.{Row, rows, paired, row_fits, rises, keeps_rules, row_at, Rules, slope, slopes, house}
use Rattle.tables.proofs.Rows.{rules}

-- the segment after each row has the slope that stands at the row's index
slope_at : (ps : List Row) (k : ℕ) → suc k < length ps → get_or (slopes ps) k (pos 0) ≡ slope (row_at ps k) (row_at ps (suc k))
unfolding slopes
slope_at [] k l = absurd (omega arith)
slope_at (p ∷ []) k l = absurd (omega arith)
slope_at (p ∷ q ∷ ps) zero l = refl
slope_at (p ∷ q ∷ ps) (suc k) l = slope_at (q ∷ ps) k (omega arith)

pub house_keeps_rules : T (keeps_rules house)
unfolding keeps_rules paired rows rises row_fits house
house_keeps_rules = tt

house_rules : Rules house
house_rules = (rules house).0 house_keeps_rules

abbrev pub house_slopes : List ℤ
house_slopes = pos 4000 ∷ pos 4320 ∷ pos 4640 ∷ pos 4960 ∷ pos 5520 ∷ pos 6000 ∷ pos 5461 ∷ []

slopes_of_house : slopes (rows house) ≡ house_slopes
unfolding slopes slope floor rows house
slopes_of_house = refl

eight_rows : length (rows house) ≡ 8
unfolding rows house
eight_rows = refl

-- at each of its seven segments
module _ (k : ℕ) (h : k < 7) where
  pub house_rises : (row_at (rows house) k).r < (row_at (rows house) (suc k)).r
  house_rises = house_rules.count_rises k (omega (arith, eight_rows))

  pub house_slope : slope (row_at (rows house) k) (row_at (rows house) (suc k)) ≡ get_or house_slopes k (pos 0)
  house_slope = sym (slope_at (rows house) k (omega (arith, eight_rows))) ∙ ap (λ (l : List ℤ). get_or l k (pos 0)) slopes_of_house
