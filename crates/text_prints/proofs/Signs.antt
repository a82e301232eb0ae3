-- What the machine's 64-bit signed numbers show in `put_column` and `answer_text`. Assumes nothing.
use mathlib.Core.Path.{◌≡◌, refl}
use mathlib.Core.Bool.{true, false}
use mathlib.Core.List.{◌∷◌}
use Prim.Native.Nat.{ℕ, suc, ◌≤◌}
use native.Mathlib.Omega.{arith}
use borrow.Author.Tests.{ltb-true}
use lib.IntN.{ℤ, pos, negsuc, nat_abs}
use lib.Signed.{lt_z}
use lib.ListN.{length}
use mir.Syntax.{w32, w64}
use mir.Val.{Fits, SFits, of_z, to_z}
use mir.ValLaws.{to_z-of_z}
use Rattle.std.proofs.lemmas.Bool.{true≢false}
use Rattle.text_prints.specs.Printed.{shown, signed_shown}
use Rattle.text_prints.proofs.Decimals.{shown_length}

-- ---- put_column

minus_digits : (z : ℤ) → lt_z z (pos 0) ≡ true → 45 ∷ shown (nat_abs z) ≡ signed_shown z
unfolding signed_shown
minus_digits (pos n) t = absurd (omega (arith, ltb-true n 0 t))
minus_digits (negsuc n) t = refl

plain_digits : (z : ℤ) → lt_z z (pos 0) ≡ false → shown (nat_abs z) ≡ signed_shown z
unfolding signed_shown
plain_digits (pos n) t = refl
plain_digits (negsuc n) t = absurd (true≢false t)

-- a number as the machine holds it
abbrev held : ℤ → ℤ
held z = to_z w64 (of_z w64 z)

module _ (z : ℤ) (h : SFits w64 z) (n : ℕ) (e : n ≡ nat_abs (held z)) where
  pub shows_negative : lt_z (held z) (pos 0) ≡ true → 45 ∷ shown n ≡ signed_shown z
  shows_negative t = rw (e, to_z-of_z w64 z h) (minus_digits z (rw (to_z-of_z w64 z h) at t))

  pub shows_positive : lt_z (held z) (pos 0) ≡ false → shown n ≡ signed_shown z
  shows_positive t = rw (e, to_z-of_z w64 z h) (plain_digits z (rw (to_z-of_z w64 z h) at t))

-- ---- answer_text

pub shows_word : (n : ℕ) (z : ℤ) → Fits w32 n → z ≡ pos n → signed_shown (held z) ≡ shown n
unfolding signed_shown
shows_word n z h e = rw (e, to_z-of_z w64 (pos n) (record { sfits = omega arith }))

pub signed_length : (z : ℤ) → SFits w64 z → length (signed_shown z) ≤ 20
unfolding signed_shown
signed_length (pos n) h = omega (arith, shown_length 18 n (omega (arith, h.sfits)))
signed_length (negsuc n) h = omega (arith, shown_length 18 (suc n) (omega (arith, h.sfits)))
