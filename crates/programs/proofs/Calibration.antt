-- What a curve order opens on every table that keeps the rules: from -2^30 to the last row's count floor(Y / 4096), in one_bit mode that
-- plus the slip; above it -1. Assumes nothing.
use mathlib.Core.Path.{◌≡◌, ap, ◌∙◌}
use mathlib.Core.Bool.{Bool, true, false, ◌&&◌}
use mathlib.Core.List.{List}
use Prim.Native.Nat.{ℕ, zero, suc, ◌-◌, ◌^◌, ◌≤◌, ◌<◌}
use native.Mathlib.Nat.{lt_of_lt_of_le}
use native.Mathlib.Omega.{arith}
use lib.Dec.{T, leb, le→leb, lt→ltb}
use lib.IntN.{ℤ, pos, negsuc, ◌+ℤ◌}
use lib.Signed.{◌≤ℤ◌, ◌<ℤ◌, mag}
use lib.Pow.{pow_mono, pow_pos}
use Rattle.words.specs.Signed.{floor, signed, wrap, shr_signed, in_range}
use Rattle.truncations.specs.Truncation.{one_bit, slip}
use Rattle.words.proofs.Integers.{neg_pos}
use Rattle.words.proofs.Signed.{signed_shr, wrap_lt}
use Rattle.words.proofs.Words.{sub_lt}
use Rattle.tables.specs.Table.{rows, keeps_rules}
use Rattle.curves.specs.Curve.{scaled, last_count, word_curve, saturated}
use Rattle.curves.proofs.Curve.{scaled_mag}
use Rattle.curves.proofs.WordCurve.{in_range_reads}
use Rattle.curves.proofs.Above.{above_one, not_above, saturated_zero, saturated_minus}
use Rattle.curves.proofs.Segments.{same_sum, scaled_lt}
use Rattle.programs.specs.Opens.{truncated, curve_value}
use Rattle.programs.proofs.Readings.{one_bit_reads}

-- a number of a size below 2^27 is in range
small_range : (w : ℕ) → 29 ≤ w → (z : ℤ) → mag z < 2 ^ 27 → T (in_range w z)
unfolding in_range
small_range w o z h = go z (lt_of_lt_of_le h (pow_mono {i = 27} {j = w - 2} (omega arith)))
  where
    and_true : (b : Bool) → T b → T (b && true)
    and_true true t = tt
    and_true false t = absurd t

    go : (z : ℤ) → mag z < 2 ^ (w - 2) → T (in_range w z)
    go (pos n) l = rw (neg_pos (2 ^ (w - 2)) (pow_pos (w - 2))) (lt→ltb n (2 ^ (w - 2)) l)
    go (negsuc n) l =
        rw (neg_pos (2 ^ (w - 2)) (pow_pos (w - 2)))
        (and_true (leb n (2 ^ (w - 2) - 1)) (le→leb n (2 ^ (w - 2) - 1) (omega arith)))

pub truncated_lt : (w mode v R : ℕ) → truncated w mode v R < 2 ^ w
unfolding truncated one_bit shr_signed
truncated_lt w zero v R = wrap_lt w _
truncated_lt w (suc m) v R = sub_lt w _ _

module _ (w : ℕ) (o : 29 ≤ w) (ws : List ℕ) (keeps : T (keeps_rules ws)) (x : ℕ) (hx : x < 2 ^ w) where
  -- the last row's count
  abbrev last_r : ℕ
  last_r = last_count (rows ws)

  -- the sum of words
  abbrev v : ℕ
  v = word_curve w (rows ws) x

  v_lt : v < 2 ^ w
  v_lt = rw (same_sum w (rows ws) x) (scaled_lt w (rows ws) x)

  -- above the last row: -1, whatever the mode and the mask
  pub above_curve : (mode R : ℕ) → pos last_r <ℤ signed w x → signed w (curve_value w (rows ws) mode x R) ≡ negsuc 0
  unfolding curve_value
  above_curve mode R l =
      ap (λ (a : ℕ). signed w (saturated w a (truncated w mode v R))) (above_one w last_r x (omega arith) hx l)
      ∙ saturated_minus w (truncated w mode v R) (omega arith) (truncated_lt w mode v R)

  -- a reading from -2^30 to the last row's count
  module _ (t : T (in_range w (signed w x))) (l : signed w x ≤ℤ pos last_r) where
    -- Y of what x reads
    abbrev Y : ℤ
    Y = scaled (rows ws) (signed w x)

    reads : signed w v ≡ Y
    reads = in_range_reads w (omega arith) ws keeps x hx t

    Y_small : mag Y < 2 ^ 27
    Y_small = scaled_mag ws keeps (signed w x)

    -- the value stays
    value_stays : (mode R : ℕ) → curve_value w (rows ws) mode x R ≡ truncated w mode v R
    unfolding curve_value
    value_stays mode R =
        ap (λ (a : ℕ). saturated w a (truncated w mode v R)) (not_above w (omega arith) ws keeps x hx t l)
        ∙ saturated_zero w (truncated w mode v R) (omega arith) (truncated_lt w mode v R)

    -- exact mode: floor(Y / 4096)
    pub exact_curve : (R : ℕ) → signed w (curve_value w (rows ws) 0 x R) ≡ floor Y 4096
    unfolding truncated
    exact_curve R =
        ap (signed w) (value_stays 0 R) ∙ signed_shr w 12 v (omega arith) v_lt ∙ ap (λ (z : ℤ). floor z 4096) reads

    -- one_bit mode: one more exactly when (Y mod 4096) + (R mod 4096) is at least 4096, R the sum of the refresh's two mask words
    pub one_bit_curve : (R m : ℕ) → R < 2 ^ w
        → signed w (curve_value w (rows ws) (suc m) x R) ≡ floor Y 4096 +ℤ pos (slip 12 (wrap 12 Y) R)
    unfolding truncated
    one_bit_curve R m h =
        ap (signed w) (value_stays (suc m) R)
        ∙ one_bit_reads w 12 v R (omega arith) (omega arith) v_lt h (rw reads (small_range w o Y Y_small))
        ∙ ap (λ (z : ℤ). floor z 4096 +ℤ pos (slip 12 (wrap 12 z) R)) reads
