-- How many of the quarters that are held as bits come before one. Assumes nothing.
use mathlib.Core.Path.{◌≡◌, refl, sym, ap, ◌∙◌}
use mathlib.Core.Bool.{Bool, true, false, ◌&&◌}
use Prim.Native.Nat.{ℕ, ◌+◌, ◌-◌, ◌*◌, ◌≤◌, ◌<◌}
use native.Mathlib.Omega.{arith}
use borrow.Author.Tests.{lt-ltb, le-ltb, ltb-true, ltb-false}
use lib.Bits.{bit_and}
use lib.Count.{ones}
use lib.Dec.{ltb, eqb}
use lib.ListN.{get_or}
use Rattle.words.specs.Words.{bit}
use Rattle.calendars.specs.declared.Quarters.{Quarters}
use Rattle.calendars.specs.Ranges.{number, packed}
use Rattle.calendars.specs.Quarters.{held}
use Rattle.calendars.proofs.Packing.{packed_masked, packed_ones}
use Rattle.calendars.proofs.Counting.{number_le, number_add, number_alike, number_none, number_of_words, in_word, in_none}

-- a test of the numbers below one is a test of none beyond it
number_below : (f : ℕ → Bool) (n m : ℕ) → ((k : ℕ) → m ≤ k → f k ≡ false) → number (λ k. f k && ltb k n) 0 m ≡ number f 0 n
number_below f n m beyond = go (ltb n m) refl
  where
    cut : ℕ → Bool
    cut k = f k && ltb k n

    kept : (k : ℕ) → k < n → cut k ≡ f k
    kept k l = rw (lt-ltb k n l) (and_true (f k))
      where
        and_true : (b : Bool) → (b && true) ≡ b
        and_true true = refl
        and_true false = refl

    gone : (k : ℕ) → n ≤ k → cut k ≡ false
    gone k l = rw (le-ltb k n l) (and_false (f k))
      where
        and_false : (b : Bool) → (b && false) ≡ false
        and_false true = refl
        and_false false = refl

    go : (b : Bool) → ltb n m ≡ b → number cut 0 m ≡ number f 0 n
    go true t =
        let l : n < m = ltb-true n m t in
        let a : n + (m - n) ≡ m = omega arith in
        let p : number cut 0 (n + (m - n)) ≡ number cut 0 n + number cut (0 + n) (m - n) = number_add cut 0 n (m - n) in
        let r : number cut 0 n ≡ number f 0 n = number_alike cut f 0 n (λ k h. kept (0 + k) (omega arith)) in
        let z : number cut (0 + n) (m - n) ≡ 0 = number_none cut (0 + n) (m - n) (λ k h. gone (0 + n + k) (omega arith)) in
        ap (number cut 0) (sym a) ∙ p ∙ omega (arith, r, z)
    go false t =
        let l : m ≤ n = ltb-false n m t in
        let a : m + (n - m) ≡ n = omega arith in
        let p : number f 0 (m + (n - m)) ≡ number f 0 m + number f (0 + m) (n - m) = number_add f 0 m (n - m) in
        let r : number cut 0 m ≡ number f 0 m = number_alike cut f 0 m (λ k h. kept (0 + k) (omega arith)) in
        let z : number f (0 + m) (n - m) ≡ 0 = number_none f (0 + m) (n - m) (λ k h. beyond (0 + m + k) (omega arith)) in
        sym (ap (number f 0) (sym a) ∙ p ∙ omega (arith, r, z))

pub ones_few : (w q : ℕ) (g : ℕ → Bool) {r : ℕ} → r ≡ ones (bit_and w (packed g q 32)) → r ≤ 32
ones_few w q g is_r =
    let f : ℕ → Bool = λ k. eqb (bit w (k - q)) 1 in
    let p : bit_and w (packed g q 32) ≡ packed (λ k. f k && g k) q 32
    = packed_masked f g q 32 w (λ i l. let a : q + i - q ≡ i = omega arith in rw a) in
    omega (arith, is_r ∙ ap ones p ∙ packed_ones (λ k. f k && g k) q 32, number_le (λ k. f k && g k) q 32)

module _ (x : Quarters) (q : ℕ) where
  abbrev both : ℕ → Bool
  both k = held x k && ltb k q

  -- what the function `ones_before` answers of word k
  word_ones : (k : ℕ) → k < 3 → {r : ℕ} → r ≡ ones (bit_and (get_or x.words k 0) (packed (λ j. ltb j q) (32 * k) 32))
      → r ≡ number both (32 * k) 32
  word_ones k h e =
      e ∙ ap ones (packed_masked (held x) (λ j. ltb j q) (32 * k) 32 (get_or x.words k 0) (λ i l. in_word x k i h l))
      ∙ packed_ones both (32 * k) 32

  pub ones_are : {u v w : ℕ} → u ≡ ones (bit_and (get_or x.words 0 0) (packed (λ k. ltb k q) 0 32))
      → v ≡ ones (bit_and (get_or x.words 1 0) (packed (λ k. ltb k q) 32 32))
      → w ≡ ones (bit_and (get_or x.words 2 0) (packed (λ k. ltb k q) 64 32)) → u + v + w ≡ number (held x) 0 q
  ones_are is_u is_v is_w =
      let s = number_of_words both in
      omega (arith, word_ones 0 (omega arith) is_u, word_ones 1 (omega arith) is_v, word_ones 2 (omega arith) is_w, s)
      ∙ number_below (held x) q 96 (λ k l. sym (in_none x k l))
