-- The words of a table by the rows: the first term, the slopes about a row, and their change. Assumes nothing.
use Rattle.std.proofs.Common.{◌≡◌, ℕ, zero, suc, ◌+◌, ◌-◌, ◌*◌, ◌/◌, ◌%◌, ◌^◌, ◌<◌, ◌≤◌, List, [], ◌∷◌, length, get_or, ℤ, pos, sym, refl, ap, ◌∙◌, ap₂, arith, to_z-of_z, w64, SFits, to_z, of_z}
use native.Mathlib.Nat.{zero-mod}
use lib.ListN.{get_or-eq_default}
use Rattle.words.specs.Words.{sub, mul}
use Rattle.words.specs.Signed.{wrap}
use Rattle.tables.specs.Table.{Row, row, rows, row_at, slope, slopes}
use Rattle.curves.specs.Curve.{last_count}
use Rattle.curves.proofs.Wrapping.{wrap_minus}
use Rattle.program_fetch.specs.Pieces.{change}
use Rattle.programs.proofs.CurveGates.{rows_count}

row_words : (ws : List ℕ) (j : ℕ) → j < length (rows ws) → row_at (rows ws) j ≡ row (get_or ws (2 * j) 0) (get_or ws (2 * j + 1) 0)
unfolding rows
row_words [] j h = absurd (omega arith)
row_words (r ∷ []) j h = absurd (omega arith)
row_words (r ∷ c ∷ ws) zero h = refl
row_words (r ∷ c ∷ ws) (suc j) h =
    let e : 2 * suc j ≡ suc (suc (2 * j)) = omega arith in
    let f : suc (suc (2 * j)) + 1 ≡ suc (suc (2 * j + 1)) = omega arith in
    row_words ws j (omega arith) ∙ rw (e, f)

slope_inside : (ps : List Row) (j : ℕ) → suc j < length ps → get_or (slopes ps) j (pos 0) ≡ slope (row_at ps j) (row_at ps (suc j))
unfolding slopes
slope_inside [] j h = absurd (omega arith)
slope_inside (p ∷ []) j h = absurd (omega arith)
slope_inside (p ∷ q ∷ ps) zero h = refl
slope_inside (p ∷ q ∷ ps) (suc j) h = slope_inside (q ∷ ps) j (omega arith)

slope_past : (ps : List Row) (j : ℕ) → length ps ≤ suc j → pos 0 ≡ get_or (slopes ps) j (pos 0)
unfolding slopes
slope_past [] j h = refl
slope_past (p ∷ []) j h = refl
slope_past (p ∷ q ∷ ps) zero h = absurd (omega arith)
slope_past (p ∷ q ∷ ps) (suc j) h = slope_past (q ∷ ps) j (omega arith)

-- the same of the words themselves
module _ (ws : List ℕ) where
  pub no_first_term : (w : ℕ) → length ws < 2 → 0 ≡ 4096 * (row_at (rows ws) 0).c % 2 ^ w
  no_first_term w h =
      let e : length (rows ws) ≡ 0 = omega (arith, rows_count ws) in
      sym (zero-mod (2 ^ w)) ∙ ap (λ (p : Row). 4096 * p.c % 2 ^ w) (sym (get_or-eq_default (rows ws) (row 0 0) {n = 0} (omega arith)))

  pub some_first_term : (w : ℕ) → 2 ≤ length ws → mul w 4096 (get_or ws 1 0) ≡ 4096 * (row_at (rows ws) 0).c % 2 ^ w
  unfolding mul
  some_first_term w h = ap (λ (p : Row). 4096 * p.c % 2 ^ w) (sym (row_words ws 0 (omega (arith, rows_count ws))))

  module _ (j : ℕ) where
    pub count_at : j < length ws / 2 → get_or ws (2 * j) 0 ≡ (row_at (rows ws) j).r
    count_at h = ap (λ (p : Row). p.r) (sym (row_words ws j (omega (arith, rows_count ws))))

    pub no_count : length ws / 2 ≤ j → 0 ≡ (row_at (rows ws) j).r
    no_count h = ap (λ (p : Row). p.r) (sym (get_or-eq_default (rows ws) (row 0 0) {n = j} (omega (arith, rows_count ws))))

    pub no_slope_after : length ws / 2 ≤ suc j → pos 0 ≡ get_or (slopes (rows ws)) j (pos 0)
    no_slope_after h = slope_past (rows ws) j (omega (arith, rows_count ws))

    pub some_slope_after : suc j < length ws / 2
        → slope (row (get_or ws (2 * j) 0) (get_or ws (2 * j + 1) 0)) (row (get_or ws (2 * j + 2) 0) (get_or ws (2 * j + 3) 0))
        ≡ get_or (slopes (rows ws)) j (pos 0)
    some_slope_after h =
        let l : suc j < length (rows ws) = omega (arith, rows_count ws) in
        let e : 2 * suc j ≡ 2 * j + 2 = omega arith in
        let f : 2 * j + 2 + 1 ≡ 2 * j + 3 = omega arith in
        let q : row_at (rows ws) (suc j) ≡ row (get_or ws (2 * j + 2) 0) (get_or ws (2 * j + 3) 0) = row_words ws (suc j) l ∙ rw (e, f) in
        sym (slope_inside (rows ws) j l ∙ ap₂ slope (row_words ws j (omega arith)) q)

-- the last row's count is that of the last row
last_row : (ps : List Row) → (row_at ps (length ps - 1)).r ≡ last_count ps
unfolding last_count
last_row [] = refl
last_row (p ∷ []) = refl
last_row (p ∷ q ∷ ps) =
    let e : suc (suc (length ps)) - 1 ≡ suc (suc (length ps) - 1) = omega arith in
    ap (λ (j : ℕ). (row_at (p ∷ q ∷ ps) j).r) e ∙ last_row (q ∷ ps)

pub last_counted : (ws : List ℕ) (j : ℕ) {n : ℕ} → length ws / 2 - 1 ≡ j → n ≡ (row_at (rows ws) j).r → n ≡ last_count (rows ws)
last_counted ws j e h =
    let k : j ≡ length (rows ws) - 1 = omega (arith, rows_count ws) in
    h ∙ ap (λ (j : ℕ). (row_at (rows ws) j).r) k ∙ last_row (rows ws)

pub some_slope_before : (ss : List ℤ) (j : ℕ) → (j ≡ 0 → ⊥) → get_or ss (j - 1) (pos 0) ≡ get_or (pos 0 ∷ ss) j (pos 0)
some_slope_before ss zero n = absurd (n refl)
some_slope_before ss (suc j) n = let e : suc j - 1 ≡ j = omega arith in rw e

-- the change of slope is a difference of words
pub changed : (w : ℕ) (ps : List Row) (j : ℕ) {y z : ℤ} {a b n : ℕ} → SFits w64 y → SFits w64 z
    → y ≡ get_or (slopes ps) j (pos 0) → z ≡ get_or (pos 0 ∷ slopes ps) j (pos 0)
    → a ≡ wrap w (to_z w64 (of_z w64 y)) → b ≡ wrap w (to_z w64 (of_z w64 z)) → n ≡ sub w a b
    → n ≡ change w ps j
unfolding change
changed w ps j {y} {z} {a} {b} {n} sy sz hy hz ha hb e =
    e ∙ ap₂ (sub w) (ha ∙ ap (wrap w) (to_z-of_z sy ∙ hy)) (hb ∙ ap (wrap w) (to_z-of_z sz ∙ hz))
    ∙ sym (wrap_minus w _ _)
