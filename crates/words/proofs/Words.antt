-- The two commutative rings of words of w bits: sums and products modulo 2^w, and xor and `and`, bit by bit. Assumes nothing.
use Rattle.std.proofs.Common.{◌≡◌, ℕ, ◌+◌, ◌-◌, ◌*◌, ◌/◌, ◌%◌, ◌^◌, ◌<◌, min, sym, refl, ap, ◌∙◌, add-zero as +-zero, le_of_lt, add_assoc as +_assoc, mod-lt, mod-eq_of_lt, mul_assoc as *-assoc, mul_comm as *-comm, add-sub_of_le, add_comm as +_comm, div-add-mod', mul-one as *-one, mul-add as *-add, arith, pow_pos}
use mathlib.Core.HLevel.{Σ_prop_path}
use native.Mathlib.Nat.{mod-add-mod, add-mod-mod}
use native.Mathlib.Nat.{mod_self, mul-add-mod_self_right}
use native.Mathlib.Bridge.{le_prop}
use lib.Bits.{bit_and, bit_xor, differ, and_comm, xor_comm, xor_zero_r, xor_self, and_mask, xor_lt, and_lt}
use lib.Pow.{ones_lt}
use Rattle.words.proofs.Digits.{table}
use Rattle.words.proofs.Bits.{bit_lt, bit-and, bit-xor, eq_by_bits}
use Rattle.words.specs.Ring.{Ops, Ring}
use Rattle.words.specs.Words.{add, sub, neg, mul, bit}
use Rattle.words.proofs.Solver.{exprs, solve}

-- a number of w bits
abbrev pub Word : ℕ → Type 0
Word w = (n : ℕ) × (n < 2 ^ w)

pub word_path : {m : ℕ} {x y : (n : ℕ) × (n < m)} → x.0 ≡ y.0 → x ≡ y
word_path e = Σ_prop_path (λ n. le_prop) e

pub mod_mul_mod : (a b m : ℕ) → (a % m * b) % m ≡ a * b % m
mod_mul_mod a b m =
    let e : a * b ≡ a / m * b * m + a % m * b = omega (arith, ap (λ (x : ℕ). x * b) (div-add-mod' a m)) in
    rw e (sym (mul-add-mod_self_right (a / m * b) m (a % m * b)))

pub mul_mod_mod : (a b m : ℕ) → (a * (b % m)) % m ≡ a * b % m
mul_mod_mod a b m = rw (*-comm a (b % m), *-comm a b) (mod_mul_mod b a m)

-- ---- the words modulo 2 ^ w

module _ (w : ℕ) where
  pub add_lt : (a b : ℕ) → add w a b < 2 ^ w
  unfolding add
  add_lt a b = mod-lt (a + b) (pow_pos w)

  pub sub_lt : (a b : ℕ) → sub w a b < 2 ^ w
  unfolding sub
  sub_lt a b = mod-lt (a + (2 ^ w - b)) (pow_pos w)

  pub neg_lt : (a : ℕ) → neg w a < 2 ^ w
  unfolding neg
  neg_lt a = mod-lt (2 ^ w - a) (pow_pos w)

  pub mul_lt : (a b : ℕ) → mul w a b < 2 ^ w
  unfolding mul
  mul_lt a b = mod-lt (a * b) (pow_pos w)

  pub add_assoc : (a b c : ℕ) → add w (add w a b) c ≡ add w a (add w b c)
  unfolding add
  add_assoc a b c = simp (mod-add-mod, add-mod-mod, +_assoc)

  pub add_comm : (a b : ℕ) → add w a b ≡ add w b a
  unfolding add
  add_comm a b = ap (λ (n : ℕ). n % 2 ^ w) (+_comm a b)

  pub add-zero : (a : ℕ) → a < 2 ^ w → add w a 0 ≡ a
  unfolding add
  add-zero a h = rw (+-zero, mod-eq_of_lt h)

  pub add_neg : (a : ℕ) → a < 2 ^ w → add w a (neg w a) ≡ 0
  unfolding add neg
  add_neg a h = rw (add-mod-mod, add-sub_of_le (le_of_lt h)) (mod_self (2 ^ w))

  pub sub_is : (a b : ℕ) → sub w a b ≡ add w a (neg w b)
  unfolding add sub neg
  sub_is a b = sym (add-mod-mod a (2 ^ w - b) (2 ^ w))

  pub mul_assoc : (a b c : ℕ) → mul w (mul w a b) c ≡ mul w a (mul w b c)
  unfolding mul
  mul_assoc a b c = simp (mod_mul_mod, mul_mod_mod, *-assoc)

  pub mul_comm : (a b : ℕ) → mul w a b ≡ mul w b a
  unfolding mul
  mul_comm a b = ap (λ (n : ℕ). n % 2 ^ w) (*-comm a b)

  pub mul-one : (a : ℕ) → a < 2 ^ w → mul w a (1 % 2 ^ w) ≡ a
  unfolding mul
  mul-one a h = simp (mul_mod_mod, *-one, mod-eq_of_lt h)

  pub mul-add : (a b c : ℕ) → mul w a (add w b c) ≡ add w (mul w a b) (mul w a c)
  unfolding mul add
  mul-add a b c = simp (mul_mod_mod, mod-add-mod, add-mod-mod, *-add)

  -- the operations `numbers w`, on words
  abbrev pub number_words : Ops (Word w)
  number_words = record {
    add = λ x y. (add w x.0 y.0, add_lt x.0 y.0);
    sub = λ x y. (sub w x.0 y.0, sub_lt x.0 y.0);
    mul = λ x y. (mul w x.0 y.0, mul_lt x.0 y.0);
    neg = λ x. (neg w x.0, neg_lt x.0);
    nil = (0, pow_pos w);
    one = (1 % 2 ^ w, mod-lt 1 (pow_pos w));
  }

  pub number_ring : Ring number_words
  number_ring = record {
    add_assoc = λ x y z. word_path (add_assoc x.0 y.0 z.0);
    add_comm = λ x y. word_path (add_comm x.0 y.0);
    add_nil = λ x. word_path (add-zero x.0 x.1);
    add_neg = λ x. word_path (add_neg x.0 x.1);
    sub_is = λ x y. word_path (sub_is x.0 y.0);
    mul_assoc = λ x y z. word_path (mul_assoc x.0 y.0 z.0);
    mul_comm = λ x y. word_path (mul_comm x.0 y.0);
    mul-one = λ x. word_path (mul-one x.0 x.1);
    mul-add = λ x y z. word_path (mul-add x.0 y.0 z.0);
  }

-- ---- the words bit by bit

module _ (w : ℕ) where
  pub word_by_bits : (x y : Word w) → ((i : ℕ) → i < w → bit x.0 i ≡ bit y.0 i) → x ≡ y
  word_by_bits x y h = word_path (eq_by_bits w x.0 y.0 x.1 y.1 h)

  abbrev pub xor : Word w → Word w → Word w
  xor x y = (bit_xor x.0 y.0, xor_lt w x.0 y.0 x.1 y.1)

  abbrev pub and : Word w → Word w → Word w
  and x y = (bit_and x.0 y.0, and_lt w x.0 y.0 x.1 y.1)

  -- a law of three words is a table of three digits
  module _ (x y z : Word w) where
    pub xor_assoc : xor (xor x y) z ≡ xor x (xor y z)
    xor_assoc =
        word_by_bits (xor (xor x y) z) (xor x (xor y z)) (λ i h. simp bit-xor
        (table 3 (λ a b c. differ (differ a b) c) (λ a b c. differ a (differ b c)) tt _ (bit_lt x.0 i) _ (bit_lt y.0 i) _
        (bit_lt z.0 i)))

    pub and_assoc : and (and x y) z ≡ and x (and y z)
    and_assoc =
        word_by_bits (and (and x y) z) (and x (and y z)) (λ i h. simp bit-and
        (table 3 (λ a b c. min (min a b) c) (λ a b c. min a (min b c)) tt _ (bit_lt x.0 i) _ (bit_lt y.0 i) _ (bit_lt z.0 i)))

    pub and_xor : and x (xor y z) ≡ xor (and x y) (and x z)
    and_xor =
        word_by_bits (and x (xor y z)) (xor (and x y) (and x z)) (λ i h. simp (bit-and, bit-xor)
        (table 3 (λ a b c. min a (differ b c)) (λ a b c. differ (min a b) (min a c)) tt _ (bit_lt x.0 i) _ (bit_lt y.0 i) _
        (bit_lt z.0 i)))

  -- the operations `bits w`, on words
  abbrev pub bit_words : Ops (Word w)
  bit_words = record {
    add = xor;
    sub = xor;
    mul = and;
    neg = λ x. x;
    nil = (0, pow_pos w);
    one = (2 ^ w - 1, ones_lt w);
  }

  pub bit_ring : Ring bit_words
  bit_ring = record {
    add_assoc = xor_assoc;
    add_comm = λ x y. word_path (xor_comm x.0 y.0);
    add_nil = λ x. word_path (xor_zero_r x.0);
    add_neg = λ x. word_path (xor_self x.0);
    sub_is = λ x y. refl;
    mul_assoc = and_assoc;
    mul_comm = λ x y. word_path (and_comm x.0 y.0);
    mul-one = λ x. word_path (and_mask x.0 w ∙ mod-eq_of_lt x.1);
    mul-add = and_xor;
  }

-- ---- what a wrapping difference is known by

sub_ring : {A : Type 0} (O : Ops A) → Ring O → (r b : A) → r ≡ O.sub (O.add r b) b
sub_ring O R = solve O R 2 (λ r b. (r, exprs.sub (exprs.add r b) b)) refl

pub sub_of : (w r b : ℕ) {a : ℕ} → r < 2 ^ w → b < 2 ^ w → add w r b ≡ a → r ≡ sub w a b
sub_of w r b hr hb e = ap (λ (x : Word w). x.0) (sub_ring (number_words w) (number_ring w) (r, hr) (b, hb)) ∙ ap (λ (x : ℕ). sub w x b) e
