-- The prefix adder: bit i of the last G is the carry out of bit i, and the sign is the sum's top bit. Assumes nothing.
use mathlib.Core.Path.{◌≡◌, refl, sym, ap, ◌∙◌}
use mathlib.Core.Bool.{Bool, true, false, cond}
use mathlib.Core.List.{List, [], ◌∷◌}
use mathlib.Core.Logic.{⊎_elim, ◌↔◌}
use Prim.Native.Nat.{ℕ, zero, suc, ◌+◌, ◌-◌, ◌%◌, ◌^◌, ◌≤◌, ◌<◌, min}
use native.Mathlib.Nat.{zero-min, min-zero}
use native.Mathlib.Omega.{arith}
use borrow.Author.Tests.{ltb-false}
use lib.Dec.{ltb}
use lib.Bits.{bit_and, bit_xor, differ}
use lib.IntN.{pos}
use lib.Signed.{lt_z}
use Rattle.words.specs.Words.{bit, shl, add, sub, neg}
use Rattle.words.specs.Signed.{signed}
use Rattle.truncations.specs.Adder.{carry, update, doubled, distances, updates, run, carries, products, sign}
use Rattle.words.proofs.Digits.{table}
use Rattle.words.proofs.Bits.{bit_lt, bit-and, bit-xor, bit_mod, bit_shl_low, bit_shl_high}
use Rattle.words.proofs.Integers.{le_or_lt}
use Rattle.words.proofs.Words.{sub_is, sub_lt}
use Rattle.words.proofs.Signed.{top_bit}
use Rattle.truncations.proofs.Carries.{carry_lt, carry_zero, carry_suc, carry_one, bit_add}

-- composition of two windows, digit by digit
compose : (g p g' p' c : ℕ) → g < 2 → p < 2 → g' < 2 → p' < 2 → c < 2
    → differ g (min p (differ g' (min p' c))) ≡ differ (differ g (min p g')) (min (min p p') c)
compose g p g' p' c hg hp hg' hp' hc =
    table 5 (λ g p g' p' c. differ g (min p (differ g' (min p' c)))) (λ g p g' p' c. differ (differ g (min p g')) (min (min p p') c)) tt
    g hg p hp g' hg' p' hp' c hc

-- G and P after a distance
unfoldable spread : ℕ → ℕ → ℕ → ℕ → ℕ
spread w d g p = bit_xor g (bit_and p (shl w d g))

unfoldable narrow : ℕ → ℕ → ℕ → ℕ
narrow w d p = bit_and p (shl w d p)

differ_zero : (x : ℕ) → differ x 0 ≡ x
differ_zero zero = refl
differ_zero (suc x) = refl

module _ (w m n : ℕ) where
  -- g and p say how the carry out of each bit comes from the carry d bits below
  Window : ℕ → ℕ → ℕ → Type 0
  Window d g p = (i : ℕ) → i < w → carry m n (suc i) ≡ differ (bit g i) (min (bit p i) (carry m n (suc i - d)))

  first : Window 1 (bit_and m n) (bit_xor m n)
  unfolding Window
  first i h =
      let e : suc i - 1 ≡ i = omega arith in
      rw (bit-and, bit-xor, e) (carry_suc m n i)

  step : (d g p : ℕ) → Window d g p → Window (d + d) (spread w d g p) (narrow w d p)
  unfolding Window spread narrow
  step d g p W i h =
      rw (bit-xor, bit-and p (shl w d g) i, bit-and p (shl w d p) i, W i h)
      (⊎_elim
      (λ (k : d ≤ i).
      let e : d + (i - d) ≡ i = omega arith in
      let c : suc i - d ≡ suc (i - d) = omega arith in
      let f : suc (i - d) - d ≡ suc i - (d + d) = omega arith in
      rw (
        c,
        W (i - d) (omega arith),
        f,
        rw e at (bit_shl_high w d g (i - d) (omega arith)),
        rw e at (bit_shl_high w d p (i - d) (omega arith)),
      )
      (compose _ _ _ _ _ (bit_lt g i) (bit_lt p i) (bit_lt g (i - d)) (bit_lt p (i - d)) (carry_lt m n (suc i - (d + d)))))
      (λ (k : i < d).
      let c : suc i - d ≡ 0 = omega arith in
      simp (c, carry_zero, bit_shl_low w d g i h k, bit_shl_low w d p i h k, min-zero, zero-min, differ_zero))
      (le_or_lt d i))

  last : (d g p : ℕ) → w ≤ d → Window d g p → (i : ℕ) → i < w → bit g i ≡ carry m n (suc i)
  unfolding Window
  last d g p l W i h =
      let e : suc i - d ≡ 0 = omega arith in
      sym (W i h ∙ rw (e, carry_zero, min-zero, differ_zero))

  -- P omitted at the last distance leaves G as it is
  distance : (d : ℕ) (ds : List ℕ) (g p : ℕ) → (run w (updates (d ∷ ds)) (g, p)).0 ≡ (run w (updates ds) (spread w d g p, narrow w d p)).0
  unfolding run updates update spread narrow
  distance d [] g p = refl
  distance d (e ∷ ds) g p = refl

  all : (f d g p : ℕ) → 1 ≤ d → w ≤ d + f → Window d g p → (i : ℕ) → i < w
      → bit (run w (updates (doubled f d w)) (g, p)).0 i ≡ carry m n (suc i)
  unfolding doubled run updates
  all zero d g p o l W i h = last d g p (omega arith) W i h
  all (suc f) d g p o l W i h =
      go (ltb d w) refl (all f (d + d) (spread w d g p) (narrow w d p) (omega arith) (omega arith) (step d g p W) i h)
    where
      go : (b : Bool) → ltb d w ≡ b → bit (run w (updates (doubled f (d + d) w)) (spread w d g p, narrow w d p)).0 i ≡ carry m n (suc i)
          → bit (run w (updates (cond b (d ∷ doubled f (d + d) w) [])) (g, p)).0 i ≡ carry m n (suc i)
      go true t r = ap (λ (x : ℕ). bit x i) (distance d (doubled f (d + d) w) g p) ∙ r
      go false t r = last d g p (ltb-false d w t) W i h

-- bit i of the last G is the carry out of bit i of m + n
pub carries_bit : (w m n i : ℕ) → i < w → bit (carries w m n) i ≡ carry m n (suc i)
unfolding carries distances
carries_bit w m n = all w m n w 1 (bit_and m n) (bit_xor m n) (omega arith) (omega arith) (first w m n)

-- bit i of the last G is 1 exactly where the parts of m and n up to bit i overflow
pub carries_one : (w m n i : ℕ) → i < w → bit (carries w m n) i ≡ 1 ↔ 2 ^ suc i ≤ m % 2 ^ suc i + n % 2 ^ suc i
carries_one w m n i h = rw (carries_bit w m n i h) (carry_one m n (suc i))

-- "For distances 1, 2, 4, 8, 16 .. That makes ten products."
pub distances_32 : distances 32 ≡ 1 ∷ 2 ∷ 4 ∷ 8 ∷ 16 ∷ []
unfolding distances doubled
distances_32 = refl

pub products_32 : products 32 ≡ 10
unfolding products distances doubled updates
products_32 = refl

-- the sign is the top bit of m + n
pub sign_bit : (w m n : ℕ) → 2 ≤ w → sign w m n ≡ bit (add w m n) (w - 1)
unfolding sign add
sign_bit w m n h =
    let e : suc (w - 2) ≡ w - 1 = omega arith in
    rw (carries_bit w m n (w - 2) (omega arith), e, bit-xor, bit_mod (m + n) w (w - 1) (omega arith), bit_add)
    (table 3 (λ a b c. bit_xor (differ a b) c) (λ a b c. differ (differ a b) c) tt _ (bit_lt m (w - 1)) _ (bit_lt n (w - 1))
    _ (carry_lt m n (w - 1)))

-- the sign s of x = m - L is 1 exactly where x reads negative
pub sign_negative : (w m L : ℕ) → 2 ≤ w → sign w m (neg w L) ≡ cond (lt_z (signed w (sub w m L)) (pos 0)) 1 0
sign_negative w m L h = sign_bit w m (neg w L) h ∙ rw (← sub_is w m L) (top_bit w (sub w m L) (omega arith) (sub_lt w m L))
