-- What the machine's 64-bit signed operations give in `signed`. Assumes nothing.
use mathlib.Core.Path.{◌≡◌, sym, ap, ◌∙◌}
use mathlib.Core.Bool.{Bool, true, false}
use Prim.Native.Nat.{ℕ, zero, suc, ◌^◌, ◌<◌}
use native.Mathlib.Omega.{arith}
use lib.IntN.{pos, neg_ℤ, ◌-ℤ◌, +ℤ_idl}
use mir.Syntax.{w64}
use mir.Val.{SFits, of_z, to_z}
use mir.ValLaws.{to_z_pos, to_z-of_z}
use Rattle.text_lines.specs.Lines.{with_sign}

opposite_fits : (n : ℕ) → n < 2 ^ 63 → SFits w64 (neg_ℤ (pos n))
opposite_fits zero h = record { sfits = omega arith }
opposite_fits (suc n) h = record { sfits = omega arith }

module _ (n : ℕ) (h : n < 10 ^ 10) where
  opposite : pos 0 -ℤ to_z w64 n ≡ neg_ℤ (pos n)
  opposite = +ℤ_idl (neg_ℤ (to_z w64 n)) ∙ ap neg_ℤ (to_z_pos w64 n (omega arith))

  pub minus_fits : SFits w64 (pos 0 -ℤ to_z w64 n)
  minus_fits = rw opposite (opposite_fits n (omega arith))

  pub minus : (b : Bool) → b ≡ true → to_z w64 (of_z w64 (pos 0 -ℤ to_z w64 n)) ≡ with_sign b n
  unfolding with_sign
  minus b t = to_z-of_z w64 (pos 0 -ℤ to_z w64 n) minus_fits ∙ opposite ∙ ap (λ (b : Bool). with_sign b n) (sym t)

  pub plus : (b : Bool) → b ≡ false → to_z w64 n ≡ with_sign b n
  unfolding with_sign
  plus b t = to_z_pos w64 n (omega arith) ∙ ap (λ (b : Bool). with_sign b n) (sym t)
