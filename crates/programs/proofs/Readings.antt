-- The words that the kinds open, as whole numbers of the signed readings of their sources, at any width. Assumes nothing.
use mathlib.Core.Path.{◌≡◌, refl, sym, ap, ap₂, ◌∙◌}
use mathlib.Core.Bool.{Bool, true, false, cond}
use mathlib.Core.Logic.{⊎_elim}
use Prim.Native.Nat.{ℕ, zero, suc, ◌+◌, ◌-◌, ◌%◌, ◌^◌, ◌≤◌, ◌<◌}
use native.Mathlib.Nat.{mod-eq_of_lt, add-mod-mod, lt_of_le_of_lt}
use native.Mathlib.Omega.{arith}
use lib.Dec.{T, leb, lit≤}
use lib.IntN.{ℤ, pos, negsuc, neg_ℤ, ◌+ℤ◌, ◌-ℤ◌, ◌*ℤ◌}
use lib.Signed.{mag}
use lib.Pow.{pow_pos}
use Rattle.words.specs.Words.{add, sub, neg, mul, numbers}
use Rattle.words.specs.Signed.{floor, signed, wrap, shr_signed, in_range}
use Rattle.truncations.specs.Truncation.{large_slack, one_bit, slip}
use Rattle.words.proofs.Solver.{exprs}
use Rattle.words.proofs.Below.{number_carrier, solve_below}
use Rattle.words.proofs.Integers.{le_or_lt, sub_ge, sub_below}
use Rattle.words.proofs.Words.{mul_mod_mod, add_lt}
use Rattle.words.proofs.Signed.{halves, signed_wrap, wrap_signed, wrap_lt, in_range_mag, mag_floor, mag_signed}
use Rattle.truncations.proofs.Truncation.{one_bit_floor}
use Rattle.curves.specs.Curve.{relu, relu_word}
use Rattle.curves.proofs.Wrapping.{wrap_add, wrap_minus, wrap_neg, wrap_mul, word_low}

-- ---- kinds 0 to 4: modulo 2^w

module _ (w x : ℕ) (hx : x < 2 ^ w) where
  module _ (y : ℕ) (hy : y < 2 ^ w) where
    pub sum_reads : add w x y ≡ wrap w (signed w x +ℤ signed w y)
    sum_reads = sym (wrap_add w (signed w x) (signed w y) ∙ ap₂ (add w) (wrap_signed w x hx) (wrap_signed w y hy))

    pub difference_reads : sub w x y ≡ wrap w (signed w x -ℤ signed w y)
    difference_reads = sym (wrap_minus w (signed w x) (signed w y) ∙ ap₂ (sub w) (wrap_signed w x hx) (wrap_signed w y hy))

    pub product_reads : mul w x y ≡ wrap w (signed w x *ℤ signed w y)
    product_reads = sym (wrap_mul w (signed w x) (signed w y) ∙ ap₂ (mul w) (wrap_signed w x hx) (wrap_signed w y hy))

  -- a constant, whatever its size
  pub plus_reads : (c : ℕ) → add w x c ≡ wrap w (signed w x +ℤ pos c)
  unfolding add wrap
  plus_reads c = sym (wrap_add w (signed w x) (pos c) ∙ ap (λ (n : ℕ). add w n (c % 2 ^ w)) (wrap_signed w x hx) ∙ add-mod-mod x c (2 ^ w))

  pub times_reads : (c : ℕ) → mul w x c ≡ wrap w (signed w x *ℤ pos c)
  unfolding mul wrap
  times_reads c = sym (wrap_mul w (signed w x) (pos c) ∙ ap (λ (n : ℕ). mul w n (c % 2 ^ w)) (wrap_signed w x hx) ∙ mul_mod_mod x c (2 ^ w))

-- ---- kind 6: its two floors, of -L and of m = x + L

pub neg_reads : (w L : ℕ) → L < 2 ^ w → neg w L ≡ wrap w (neg_ℤ (pos L))
unfolding wrap
neg_reads w L h = sym (wrap_neg w (pos L) ∙ ap (neg w) (mod-eq_of_lt h))

pub slack_reads : (w k x L : ℕ) → x < 2 ^ w → L < 2 ^ w
    → large_slack w k (add w x L) L
    ≡ wrap w (floor (signed w (wrap w (neg_ℤ (pos L)))) (2 ^ k) +ℤ floor (signed w (wrap w (signed w x +ℤ pos L))) (2 ^ k))
unfolding large_slack shr_signed
slack_reads w k x L hx hL =
    ap₂ (λ (n m : ℕ). add w (wrap w (floor (signed w n) (2 ^ k))) (wrap w (floor (signed w m) (2 ^ k)))) (neg_reads w L hL)
    (plus_reads w x hx L)
    ∙ sym (wrap_add w (floor (signed w (wrap w (neg_ℤ (pos L)))) (2 ^ k)) (floor (signed w (wrap w (signed w x +ℤ pos L))) (2 ^ k)))

-- ---- kind 9

pub relu_reads : (w x : ℕ) → 1 ≤ w → x < 2 ^ w → signed w (relu_word w x) ≡ relu (signed w x)
unfolding relu_word relu
relu_reads w x o h = signed_wrap w (relu (signed w x)) o (lt_of_le_of_lt (mag_relu (signed w x)) (mag_signed w x o h))
  where
    mag_relu : (z : ℤ) → mag (relu z) ≤ mag z
    mag_relu (pos n) = omega arith
    mag_relu (negsuc n) = omega arith

-- ---- kind 7, in range

mag_one : (z : ℤ) (s n : ℕ) → mag z < n → s ≤ 1 → mag (z +ℤ pos s) < suc n
mag_one (pos m) s n h l = omega arith
mag_one (negsuc m) zero n h l = rw (sub_below 0 (suc m) (omega arith)) (omega arith)
mag_one (negsuc m) (suc s) n h l =
    ⊎_elim (λ (k : suc m ≤ suc s). rw (sub_ge (suc s) (suc m) k) (omega arith))
    (λ (k : suc s < suc m). rw (sub_below (suc s) (suc m) k) (omega arith)) (le_or_lt (suc m) (suc s))

module _ (w k x L : ℕ) (ow : 2 ≤ w) (kw : k ≤ w - 2) (hx : x < 2 ^ w) (hL : L < 2 ^ w) (ranged : T (in_range w (signed w x))) where
  abbrev s : ℕ
  s = slip k (wrap k (signed w x)) L

  slip_most : s ≤ 1
  unfolding slip
  slip_most = go (leb (2 ^ k) (wrap k (signed w x) % 2 ^ k + L % 2 ^ k))
    where
      go : (b : Bool) → cond b 1 0 ≤ 1
      go true = lit≤ tt
      go false = lit≤ tt

  -- x mod 2^k is that of its reading
  slip_of : slip k x L ≡ s
  unfolding slip
  slip_of =
      let e : x % 2 ^ k ≡ wrap k (signed w x) = word_low w k x (omega arith) hx in
      let f : wrap k (signed w x) % 2 ^ k ≡ wrap k (signed w x) = mod-eq_of_lt (wrap_lt k (signed w x)) in
      rw (e, f)

  back : sub w (add w x L) L ≡ x
  back = solve_below w (numbers w) (number_carrier w) 2 (λ x l. (exprs.sub (exprs.add x l) l, x)) refl x hx L hL

  one_bit_word : one_bit w k (add w x L) L ≡ add w (shr_signed w k x) (slip k x L)
  one_bit_word = one_bit_floor w k (add w x L) L ow kw (add_lt w x L) hL (rw back ranged) ∙ rw back

  -- "floor(x / 2^k), plus 1 exactly when (x mod 2^k) + (L mod 2^k) is at least 2^k"
  pub one_bit_reads : signed w (one_bit w k (add w x L) L) ≡ floor (signed w x) (2 ^ k) +ℤ pos s
  unfolding shr_signed wrap
  one_bit_reads =
      let d : 2 ^ w ≡ 2 ^ (w - 1) + 2 ^ (w - 1) = halves w (omega arith) in
      let i : w - 1 - 1 ≡ w - 2 = omega arith in
      let q : 2 ^ (w - 1) ≡ 2 ^ (w - 2) + 2 ^ (w - 2) = rw i at (halves (w - 1) (omega arith)) in
      let p : 0 < 2 ^ (w - 2) = pow_pos (w - 2) in
      let m : mag (floor (signed w x) (2 ^ k) +ℤ pos s) < suc (2 ^ (w - 2)) =
      mag_one (floor (signed w x) (2 ^ k)) s (2 ^ (w - 2))
      (lt_of_le_of_lt (mag_floor (signed w x) (2 ^ k)) (in_range_mag w (signed w x) ranged)) slip_most in
      let e : slip k x L ≡ wrap w (pos s) = slip_of ∙ sym (mod-eq_of_lt {n = s} {m = 2 ^ w} (omega (arith, slip_most))) in
      ap (signed w) (one_bit_word ∙ ap (add w (wrap w (floor (signed w x) (2 ^ k)))) e
      ∙ sym (wrap_add w (floor (signed w x) (2 ^ k)) (pos s)))
      ∙ signed_wrap w (floor (signed w x) (2 ^ k) +ℤ pos s) (omega arith) (omega arith)
