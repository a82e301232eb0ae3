-- R-1's last steps: a is 1 above the last row, and 0 from its count down to where the difference would wrap; with it -1 is left, or the
-- value. Assumes nothing.
use mathlib.Core.Path.{◌≡◌, refl, sym, ap, ◌∙◌}
use mathlib.Core.Bool.{Bool, true, false, cond}
use mathlib.Core.List.{List}
use Prim.Native.Nat.{ℕ, zero, suc, ◌+◌, ◌-◌, ◌*◌, ◌%◌, ◌^◌, ◌≤◌, ◌<◌}
use native.Mathlib.Nat.{mod-add-mod, mod-eq_of_lt, add-mod_right, le_refl}
use native.Mathlib.Omega.{arith}
use lib.Dec.{T, leb→le, ltb→lt, leb-suc-zero}
use lib.IntN.{ℤ, pos, negsuc, ◌+ℤ◌, ◌-ℤ◌, ◌*ℤ◌}
use lib.Pow.{pow_mono}
use lib.Signed.{◌≤ℤ◌, ◌<ℤ◌, lt_z, mag}
use Rattle.words.specs.Words.{add, sub, neg, mul, numbers}
use Rattle.words.specs.Signed.{signed, wrap, in_range}
use Rattle.words.proofs.Solver.{◌⊕◌, ◌⊖◌, ◌⊗◌, ⊝, `0, `1, solve}
use Rattle.words.proofs.Below.{number_carrier, solve_below}
use Rattle.words.proofs.Integers.{sub_ge, sub_below}
use Rattle.words.proofs.Signed.{halves, signed_high, mag_signed, wrap_signed, signed_wrap}
use Rattle.tables.specs.Table.{rows, keeps_rules}
use Rattle.curves.specs.Curve.{last_count, above_last, saturated}
use Rattle.curves.proofs.Integers.{integers, integer_ring, minus}
use Rattle.curves.proofs.Wrapping.{wrap_minus}
use Rattle.curves.proofs.WordCurve.{in_range_far}

pub sub_mod : (w a b : ℕ) → sub w (a % 2 ^ w) b ≡ sub w a b
unfolding sub
sub_mod w a b = mod-add-mod a (2 ^ w) (2 ^ w - b)

-- ---- a

module _ (w r x : ℕ) (one : 1 ≤ w) (hx : x < 2 ^ w) where
  -- where last r - x does not wrap
  difference_reads : mag (pos r -ℤ signed w x) < 2 ^ (w - 1) → above_last w r x ≡ cond (lt_z (pos r -ℤ signed w x) (pos 0)) 1 0
  unfolding above_last wrap
  difference_reads m = ap (λ (z : ℤ). cond (lt_z z (pos 0)) 1 0) (ap (signed w) e ∙ signed_wrap w (pos r -ℤ signed w x) one m)
    where
      e : sub w r x ≡ wrap w (pos r -ℤ signed w x)
      e = sym (wrap_minus w (pos r) (signed w x) ∙ ap (sub w (r % 2 ^ w)) (wrap_signed w x hx) ∙ sub_mod w r x)

  -- above the last row, up to the largest number
  pub above_one : pos r <ℤ signed w x → above_last w r x ≡ 1
  above_one l = go (signed w x) refl l (mag_signed w x one hx)
    where
      go : (z : ℤ) → signed w x ≡ z → pos r <ℤ z → mag z < 2 ^ (w - 1) → above_last w r x ≡ 1
      go (pos n) e l m =
          let k : r < n = ltb→lt r n l.lt in
          let d : pos r -ℤ signed w x ≡ negsuc (n - suc r) = ap (λ (z : ℤ). pos r -ℤ z) e ∙ minus r n ∙ sub_below r n k in
          difference_reads (rw d (omega arith)) ∙ rw d
      go (negsuc n) e l m = absurd l.lt

  -- from the last row's count down, as far as the difference does not wrap
  pub above_zero : signed w x ≤ℤ pos r → r + suc (mag (signed w x)) < 2 ^ (w - 1) → above_last w r x ≡ 0
  above_zero l m = go (signed w x) refl l m
    where
      go : (z : ℤ) → signed w x ≡ z → z ≤ℤ pos r → r + suc (mag z) < 2 ^ (w - 1) → above_last w r x ≡ 0
      go (pos n) e l m =
          let d : pos r -ℤ signed w x ≡ pos (r - n) = ap (λ (z : ℤ). pos r -ℤ z) e ∙ minus r n ∙ sub_ge r n (leb→le n r l.le) in
          difference_reads (rw d (omega arith)) ∙ rw (d, leb-suc-zero (r - n))
      go (negsuc n) e l m =
          let d : pos r -ℤ signed w x ≡ pos (r + suc n) = ap (λ (z : ℤ). pos r -ℤ z) e in
          difference_reads (rw d (omega arith)) ∙ rw (d, leb-suc-zero (r + suc n))

-- of a table that keeps the rules, for a reading from -2^30 to the last row's count
pub not_above : (w : ℕ) → 28 ≤ w → (ws : List ℕ) → T (keeps_rules ws) → (x : ℕ) → x < 2 ^ w → T (in_range w (signed w x))
    → signed w x ≤ℤ pos (last_count (rows ws)) → above_last w (last_count (rows ws)) x ≡ 0
not_above w o ws keeps x hx t l =
    let r : ℕ = last_count (rows ws) in
    above_zero w r x (omega arith) hx l (in_range_far w o ws keeps x t r (le_refl r))

-- it is a digit
pub above_digit : (w r x : ℕ) → above_last w r x ≤ 1
unfolding above_last
above_digit w r x = go (lt_z (signed w (sub w r x)) (pos 0))
  where
    go : (b : Bool) → cond b 1 0 ≤ 1
    go true = omega arith
    go false = omega arith

-- ---- what is left of the value v

module _ (w v : ℕ) (one : 1 ≤ w) (hv : v < 2 ^ w) where
  small : 1 % 2 ^ w ≡ 1
  small = mod-eq_of_lt (omega (arith, pow_mono one))

  minus_one : signed w (neg w 1) ≡ negsuc 0
  unfolding neg
  minus_one =
      let n : 2 ^ w ≡ 2 ^ (w - 1) + 2 ^ (w - 1) = halves w one in
      let p : 2 ^ 0 ≤ 2 ^ (w - 1) = pow_mono {i = 0} {j = w - 1} (omega arith) in
      let e : 2 ^ w - suc (2 ^ w - 1) ≡ 0 = omega arith in
      let m : (2 ^ w - 1) % 2 ^ w ≡ 2 ^ w - 1 = mod-eq_of_lt (omega arith) in
      rw m
      (signed_high w (2 ^ w - 1) (omega arith) ∙ sub_below (2 ^ w - 1) (2 ^ w) (omega arith) ∙ ap negsuc e)

  no_product : (y : ℕ) → sub w v (mul w 0 y) ≡ v
  unfolding mul sub
  no_product y =
      let e : 0 * y ≡ 0 = omega arith in
      let o : 0 % 2 ^ w ≡ 0 = mod-eq_of_lt (omega (arith, pow_mono one)) in
      let f : v + (2 ^ w - 0) ≡ v + 2 ^ w = omega arith in
      rw (e, o, f) (add-mod_right v (2 ^ w) ∙ mod-eq_of_lt hv)

  -- where a is 0 the value itself, and where it is 1 -1
  pub saturated_zero : saturated w 0 v ≡ v
  unfolding saturated
  saturated_zero = no_product _

  saturated_one : saturated w 1 v ≡ neg w 1
  unfolding saturated
  saturated_one =
      ap (λ (o : ℕ). sub w v (mul w o (add w v o))) (sym small)
      ∙ solve_below w (numbers w) (number_carrier w) 1 (λ v. (v ⊖ `1 ⊗ (v ⊕ `1), ⊝ `1)) refl v hv ∙ ap (neg w) small

  pub saturated_minus : signed w (saturated w 1 v) ≡ negsuc 0
  saturated_minus = ap (signed w) saturated_one ∙ minus_one

  -- "subtracts the product of a with the value plus 1", on whole numbers
  pub saturated_reads : (a : ℕ) → a ≤ 1 → signed w (saturated w a v) ≡ signed w v -ℤ pos a *ℤ (signed w v +ℤ pos 1)
  saturated_reads zero h =
      ap (signed w) saturated_zero ∙ solve integers integer_ring 1 (λ v. (v, v ⊖ `0 ⊗ (v ⊕ `1))) refl (signed w v)
  saturated_reads (suc zero) h =
      saturated_minus ∙ solve integers integer_ring 1 (λ v. (⊝ `1, v ⊖ `1 ⊗ (v ⊕ `1))) refl (signed w v)
  saturated_reads (suc (suc a)) h = absurd (omega arith)
