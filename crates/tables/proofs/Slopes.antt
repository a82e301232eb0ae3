-- What the function `slope` computes: a quotient of natural numbers on each side of 0. Assumes nothing.
use mathlib.Core.Path.{◌≡◌, sym, ap, ◌∙◌}
use Prim.Native.Nat.{ℕ, zero, suc, ◌+◌, ◌-◌, ◌*◌, ◌/◌, ◌^◌, ◌≤◌, ◌<◌}
use native.Mathlib.Nat.{div-le_self, lt_of_le_of_lt, add-mul-div_right}
use native.Mathlib.Numerals.{add-one}
use native.Mathlib.Omega.{arith}
use borrow.Author.Tests.{lt-ltb, le-ltb}
use lib.IntN.{pos, neg_ℤ, ◌-ℤ◌, +ℤ_idl}
use lib.Signed.{mag}
use mir.Syntax.{w64}
use mir.Val.{SFits, of_z, to_z}
use mir.ValLaws.{to_z_pos, to_z-of_z}
use Rattle.words.specs.Signed.{floor}
use Rattle.words.proofs.Integers.{sub_ge, sub_below}
use Rattle.tables.specs.Table.{row, slope}

-- a quotient and its negative fit the machine's 64 bits
pub quotient_small : (n m : ℕ) → n < 2 ^ 63 → n / m < 2 ^ 63
quotient_small n m h = lt_of_le_of_lt (div-le_self n m) h

negative_fits : (q : ℕ) → q < 2 ^ 63 → SFits w64 (pos 0 -ℤ to_z w64 q)
negative_fits q h = rw (to_z_pos w64 q h, +ℤ_idl (neg_ℤ (pos q))) (record { sfits = go q h })
  where
    go : (n : ℕ) → n < 2 ^ 63 → mag (neg_ℤ (pos n)) < 2 ^ 63
    go zero l = l
    go (suc n) l = omega arith

module _ (r c r' c' : ℕ) where
  pub slope_level : r' ≤ r → pos 0 ≡ slope (row r c) (row r' c')
  unfolding slope
  slope_level h = rw (le-ltb r r' h)

  -- the quotients that the code takes: rounded down where c rises, and up where it falls
  abbrev risen : ℕ
  risen = (c' - c) * 4096 / (r' - r)

  abbrev fallen : ℕ
  fallen = ((c - c') * 4096 + (r' - r - 1)) / (r' - r)

  slope_risen : r < r' → c ≤ c' → slope (row r c) (row r' c') ≡ pos risen
  unfolding slope floor
  slope_risen h k =
      let e : c' * 4096 - c * 4096 ≡ (c' - c) * 4096 = omega arith in
      rw (lt-ltb r r' h, sub_ge (c' * 4096) (c * 4096) (omega arith), e)

  slope_fallen : r < r' → c' < c → slope (row r c) (row r' c') ≡ neg_ℤ (pos fallen)
  unfolding slope floor
  slope_fallen h k =
      let n : ℕ = c * 4096 - suc (c' * 4096) in
      let e : (c - c') * 4096 + (r' - r - 1) ≡ n + 1 * (r' - r) = omega arith in
      let d : fallen ≡ suc (n / (r' - r)) = ap (λ (x : ℕ). x / (r' - r)) e ∙ add-mul-div_right n 1 (omega arith) ∙ add-one (n / (r' - r)) in
      rw (lt-ltb r r' h, sub_below (c' * 4096) (c * 4096) (omega arith)) (ap (λ (x : ℕ). neg_ℤ (pos x)) (sym d))

  pub fallen_fits : fallen < 2 ^ 63 → SFits w64 (pos 0 -ℤ to_z w64 fallen)
  fallen_fits = negative_fits fallen

  pub risen_is : risen < 2 ^ 63 → r < r' → c ≤ c' → to_z w64 risen ≡ slope (row r c) (row r' c')
  risen_is m h k = to_z_pos w64 risen m ∙ sym (slope_risen h k)

  pub fallen_is : fallen < 2 ^ 63 → r < r' → c' < c → to_z w64 (of_z w64 (pos 0 -ℤ to_z w64 fallen)) ≡ slope (row r c) (row r' c')
  fallen_is m h k =
      to_z-of_z w64 (pos 0 -ℤ to_z w64 fallen) (negative_fits fallen m) ∙ +ℤ_idl (neg_ℤ (to_z w64 fallen)) ∙ ap neg_ℤ (to_z_pos w64 fallen m)
      ∙ sym (slope_fallen h k)
