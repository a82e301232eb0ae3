-- What std's conversions of signed numbers give in `signed_reading` and `word_of`. Assumes nothing.
use Rattle.std.proofs.Common.{◌≡◌, ℕ, suc, ◌-◌, ◌^◌, ◌<◌, ◌≤◌, ℤ, pos, negsuc, nat_abs, sym, refl, ap, ◌∙◌, arith, w32, Fits, to_z}
use Rattle.std.proofs.Math.Facts.{to_z_pos, to_z-neg}
use Rattle.std.specs.Int.{int_rem_euclid}
use native.Mathlib.Decide.{dec_lt}
use Rattle.words.specs.Signed.{signed, wrap}
use Rattle.words.proofs.Integers.{sub_below}
use Rattle.words.proofs.Signed.{signed_low, signed_high}

-- the signed type of a word's size holds its reading
pub cast_reads : (x : ℕ) → Fits w32 x → to_z w32 x ≡ signed 32 x
cast_reads x f =
    elim (dec_lt x (2 ^ 31)) [
      | yes h ↦ to_z_pos w32 h ∙ sym (signed_low 32 x h)
      | no n ↦
          let l : 2 ^ 31 ≤ x = omega (arith, n) in
          let e : x ≡ 2 ^ 32 - suc (4294967296 - suc x) = omega (arith, f.fits) in
          let b : 4294967296 - suc x < 2 ^ 31 = omega (arith, l) in
          ap (to_z w32) e ∙ to_z-neg w32 (4294967296 - suc x) b
          ∙ sym (signed_high 32 x l ∙ sub_below x 4294967296 (omega (arith, f.fits)))
    ]

-- the remainder that is not negative is the word
pub rem_word : (z : ℤ) → nat_abs (int_rem_euclid z (pos 4294967296)) ≡ wrap 32 z
unfolding wrap
rem_word (pos n) = refl
rem_word (negsuc n) = omega arith
