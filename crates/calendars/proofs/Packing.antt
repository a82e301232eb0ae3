-- Tests of a run of numbers as bits: single bits, sums of digits, or, and; the bits of a span. Assumes nothing.
use mathlib.Core.Path.{◌≡◌, refl, sym, ap, ap₂, subst, ◌∙◌}
use mathlib.Core.Bool.{Bool, true, false, ◌&&◌, ◌||◌}
use Prim.Native.Nat.{ℕ, zero, suc, ◌+◌, ◌-◌, ◌*◌, ◌/◌, ◌%◌, ◌^◌, min, max, ◌≤◌, ◌<◌}
use native.Mathlib.Nat.{pow-suc, div-div-eq-div-mul, mul_comm}
use native.Mathlib.Omega.{arith}
use borrow.Author.Tests.{lt-ltb, le-ltb, le-leb, lt-leb, ltb-true, ltb-false, leb-true, leb-false, eqb-true, eqb-false}
use lib.Bits.{bit_and, bit_or, and_step, or_step, and_zero_r, or_zero_l}
use lib.Count.{ones, ones_step}
use lib.Dec.{leb, ltb, eqb}
use lib.Pow.{pow_pos, shl_exact}
use Rattle.words.specs.Words.{bit}
use Rattle.calendars.specs.Ranges.{digit, number, packed}
use Rattle.calendars.specs.Calendar.{holds}

half : (b : Bool) (x : ℕ) → (digit b + 2 * x) / 2 ≡ x
half true x = omega arith
half false x = omega arith

last : (b : Bool) (x : ℕ) → (digit b + 2 * x) % 2 ≡ digit b
last true x = omega arith
last false x = omega arith

bit_zero : (w : ℕ) → bit w 0 ≡ w % 2
unfolding bit
bit_zero w = let a : w / 1 ≡ w = omega arith in rw a

bit_suc : (w i : ℕ) → bit w (suc i) ≡ bit (w / 2) i
unfolding bit
bit_suc w i = rw (pow-suc 2 i, mul_comm (2 ^ i) 2, ← div-div-eq-div-mul w 2 (2 ^ i))

module _ (f : ℕ → Bool) where
  pub bit_packed : (q n i : ℕ) → i < n → bit (packed f q n) i ≡ digit (f (q + i))
  unfolding packed
  bit_packed q zero i l = absurd (omega arith)
  bit_packed q (suc n) zero l =
      let a : q + 0 ≡ q = omega arith in
      rw (a, bit_zero (digit (f q) + 2 * packed f (suc q) n)) (last (f q) (packed f (suc q) n))
  bit_packed q (suc n) (suc i) l =
      let a : q + suc i ≡ suc q + i = omega arith in
      rw (a, bit_suc (digit (f q) + 2 * packed f (suc q) n) i, half (f q) (packed f (suc q) n))
      (bit_packed (suc q) n i (omega arith))

  pub packed_all : (q n : ℕ) → ((k : ℕ) → k < n → f (q + k) ≡ true) → suc (packed f q n) ≡ 2 ^ n
  unfolding packed
  packed_all q zero h = refl
  packed_all q (suc n) h =
      let a : q + 0 ≡ q = omega arith in
      let e : f q ≡ true = rw a at (h 0 (omega arith)) in
      let r : suc (packed f (suc q) n) ≡ 2 ^ n
      = packed_all (suc q) n (λ k l. let b : q + suc k ≡ suc q + k = omega arith in rw b at (h (suc k) (omega arith))) in
      rw (e, pow-suc 2 n) (omega arith)

  pub packed_ones : (q n : ℕ) → ones (packed f q n) ≡ number f q n
  unfolding packed number ones
  packed_ones q zero = refl
  packed_ones q (suc n) =
      ones_step (digit (f q) + 2 * packed f (suc q) n)
      ∙ ap₂ (λ (x y : ℕ). x + ones y) (last (f q) (packed f (suc q) n)) (half (f q) (packed f (suc q) n))
      ∙ ap (λ (x : ℕ). digit (f q) + x) (packed_ones (suc q) n)

  pub packed_none : (q n : ℕ) → ((k : ℕ) → q ≤ k → f k ≡ false) → packed f q n ≡ 0
  unfolding packed
  packed_none q zero h = refl
  packed_none q (suc n) h =
      let r : packed f (suc q) n ≡ 0 = packed_none (suc q) n (λ k l. h k (omega arith)) in
      rw (h q (omega arith), r)

module _ (f g : ℕ → Bool) where
  pub packed_same : ((k : ℕ) → f k ≡ g k) → (q n : ℕ) → packed f q n ≡ packed g q n
  unfolding packed
  packed_same h q zero = refl
  packed_same h q (suc n) = ap₂ (λ (x : Bool) (y : ℕ). digit x + 2 * y) (h q) (packed_same h (suc q) n)

  pub packed_or : (q n : ℕ) → bit_or (packed f q n) (packed g q n) ≡ packed (λ k. f k || g k) q n
  unfolding packed
  packed_or q zero = or_zero_l 0
  packed_or q (suc n) =
      let x : ℕ = packed f (suc q) n in
      let y : ℕ = packed g (suc q) n in
      or_step (digit (f q) + 2 * x) (digit (g q) + 2 * y)
      ∙ ap₂ (λ (u v : ℕ). u * 2 + v) (ap₂ bit_or (half (f q) x) (half (g q) y) ∙ packed_or (suc q) n) (ap₂ max (last (f q) x) (last (g q) y) ∙ one (f q) (g q))
      ∙ flip (packed (λ k. f k || g k) (suc q) n) (digit (f q || g q))
    where
      one : (a b : Bool) → max (digit a) (digit b) ≡ digit (a || b)
      one true true = refl
      one true false = refl
      one false true = refl
      one false false = refl

      flip : (u v : ℕ) → u * 2 + v ≡ v + 2 * u
      flip u v = omega arith

  -- a third test that holds where either does, and not both do
  pub packed_sum : (h : ℕ → Bool) → ((k : ℕ) → digit (f k) + digit (g k) ≡ digit (h k)) → (q n : ℕ) → packed f q n + packed g q n ≡ packed h q n
  unfolding packed
  packed_sum h e q zero = omega arith
  packed_sum h e q (suc n) = omega (arith, packed_sum h e (suc q) n, e q)

-- ---- a word whose bits are f's, of those that g holds of

parity : (x : ℕ) (b : Bool) → x < 2 → eqb x 1 ≡ b → x ≡ digit b
parity x true h e = eqb-true x 1 e
parity zero false h e = refl
parity (suc zero) false h e = absurd (eqb-false 1 1 e refl)
parity (suc (suc x)) false h e = absurd (omega arith)

pub packed_masked : (f g : ℕ → Bool) (q n w : ℕ) → ((i : ℕ) → i < n → eqb (bit w i) 1 ≡ f (q + i))
    → bit_and w (packed g q n) ≡ packed (λ k. f k && g k) q n
unfolding packed
packed_masked f g q zero w h = and_zero_r w
packed_masked f g q (suc n) w h =
    let y : ℕ = packed g (suc q) n in
    and_step w (digit (g q) + 2 * y)
    ∙ ap₂ (λ (u v : ℕ). u * 2 + v) (ap (bit_and (w / 2)) (half (g q) y) ∙ packed_masked f g (suc q) n (w / 2) later)
    (ap₂ min lowest (last (g q) y) ∙ one (f q) (g q))
    ∙ flip (packed (λ k. f k && g k) (suc q) n) (digit (f q && g q))
  where
    lowest : w % 2 ≡ digit (f q)
    lowest =
        let a : q + 0 ≡ q = omega arith in
        let e : eqb (bit w 0) 1 ≡ f (q + 0) = h 0 (omega arith) in
        parity (w % 2) (f q) (omega arith) (rw (a, bit_zero w) at e)

    later : (i : ℕ) → i < n → eqb (bit (w / 2) i) 1 ≡ f (suc q + i)
    later i l =
        let a : q + suc i ≡ suc q + i = omega arith in
        let e : eqb (bit w (suc i)) 1 ≡ f (q + suc i) = h (suc i) (omega arith) in
        rw (a, bit_suc w i) at e

    one : (a b : Bool) → min (digit a) (digit b) ≡ digit (a && b)
    one true true = refl
    one true false = refl
    one false true = refl
    one false false = refl

    flip : (u v : ℕ) → u * 2 + v ≡ v + 2 * u
    flip u v = omega arith

-- ---- the numbers before one

pub before_none : (x q n : ℕ) → x ≤ q → packed (λ k. ltb k x) q n ≡ 0
before_none x q n h = packed_none (λ k. ltb k x) q n (λ k l. le-ltb k x (omega arith))

pub before_some : (q n m : ℕ) → m ≤ n → suc (packed (λ k. ltb k (q + m)) q n) ≡ 2 ^ m
unfolding packed
before_some q n zero h = let a : q + 0 ≡ q = omega arith in rw (a, before_none q q n (omega arith))
before_some q zero (suc m) h = absurd (omega arith)
before_some q (suc n) (suc m) h =
    let a : q + suc m ≡ suc q + m = omega arith in
    let r : suc (packed (λ k. ltb k (q + suc m)) (suc q) n) ≡ 2 ^ m =
    subst (λ (z : ℕ). suc (packed (λ k. ltb k z) (suc q) n) ≡ 2 ^ m) (sym a) (before_some (suc q) n m (omega arith)) in
    rw (lt-ltb q (q + suc m) (omega arith), pow-suc 2 m) (omega arith)

-- ---- a span

span_digit : (s e k : ℕ) → s ≤ e → digit (leb s k && ltb k e) + digit (ltb k s) ≡ digit (ltb k e)
span_digit s e k h = go (ltb k s) refl
  where
    go : (b : Bool) → ltb k s ≡ b → digit (leb s k && ltb k e) + digit (ltb k s) ≡ digit (ltb k e)
    go true t = let l : k < s = ltb-true k s t in rw (t, lt-leb s k l, lt-ltb k e (omega arith))
    go false t = let l : s ≤ k = ltb-false k s t in rw (t, le-leb s k l) (omega arith)

pub span_sum : (s e q n : ℕ) → s ≤ e → packed (λ k. leb s k && ltb k e) q n + packed (λ k. ltb k s) q n ≡ packed (λ k. ltb k e) q n
span_sum s e q n h = packed_sum (λ k. leb s k && ltb k e) (λ k. ltb k s) (λ k. ltb k e) (λ k. span_digit s e k h) q n

pub span_none : (s e q n : ℕ) → e ≤ s → packed (λ k. leb s k && ltb k e) q n ≡ 0
span_none s e q n h = packed_none (λ k. leb s k && ltb k e) q n (λ k l. go k (ltb k e) refl)
  where
    go : (k : ℕ) (b : Bool) → ltb k e ≡ b → (leb s k && ltb k e) ≡ false
    go k true t = let l : k < e = ltb-true k e t in rw (lt-leb s k (omega arith))
    go k false t = rw t (and_false (leb s k))
      where
        and_false : (b : Bool) → (b && false) ≡ false
        and_false true = refl
        and_false false = refl

-- the quarters that begin in a window are a span
pub quarters_held : (s e q : ℕ) → (leb ((s + 14) / 15) q && ltb q ((e + 14) / 15)) ≡ holds s e (15 * q)
unfolding holds
quarters_held s e q = ap₂ ◌&&◌ (low (leb s (15 * q)) refl) (high (ltb (15 * q) e) refl)
  where
    low : (b : Bool) → leb s (15 * q) ≡ b → leb ((s + 14) / 15) q ≡ leb s (15 * q)
    low true t = let l : s ≤ 15 * q = leb-true s (15 * q) t in le-leb ((s + 14) / 15) q (omega arith) ∙ sym t
    low false t = let l : 15 * q < s = leb-false s (15 * q) t in lt-leb ((s + 14) / 15) q (omega arith) ∙ sym t

    high : (b : Bool) → ltb (15 * q) e ≡ b → ltb q ((e + 14) / 15) ≡ ltb (15 * q) e
    high true t = let l : 15 * q < e = ltb-true (15 * q) e t in lt-ltb q ((e + 14) / 15) (omega arith) ∙ sym t
    high false t = let l : e ≤ 15 * q = ltb-false (15 * q) e t in le-ltb q ((e + 14) / 15) (omega arith) ∙ sym t

-- ---- what the functions `before` and `span` compute

module _ (x q : ℕ) where
  pub before_all : 32 ≤ x - q → 4294967295 ≡ packed (λ k. ltb k x) q 32
  before_all h = omega (arith, packed_all (λ k. ltb k x) q 32 (λ k l. lt-ltb (q + k) x (omega arith)))

  module _ (h : q < x) (l : x - q < 32) where
    shifted : (1 * 2 ^ (x - q)) % 2 ^ 32 ≡ 1 * 2 ^ (x - q)
    shifted = shl_exact 1 (x - q) 32 (omega arith) (omega arith)

    pub shift_fits : 1 ≤ (1 * 2 ^ (x - q)) % 2 ^ 32
    shift_fits = rw shifted (omega (arith, pow_pos (x - q)))

    pub before_part : (1 * 2 ^ (x - q)) % 2 ^ 32 - 1 ≡ packed (λ k. ltb k x) q 32
    before_part =
        let a : q + (x - q) ≡ x = omega arith in
        let r : suc (packed (λ k. ltb k x) q 32) ≡ 2 ^ (x - q) = rw a at (before_some q 32 (x - q) (omega arith)) in
        rw shifted (omega arith)

module _ (s e q : ℕ) (h : s < e) {to from : ℕ} (is_to : to ≡ packed (λ k. ltb k e) q 32) (is_from : from ≡ packed (λ k. ltb k s) q 32) where
  pub span_fits : from ≤ to
  span_fits = omega (arith, span_sum s e q 32 (omega arith))

  pub span_is : to - from ≡ packed (λ k. leb s k && ltb k e) q 32
  span_is = omega (arith, span_sum s e q 32 (omega arith))
