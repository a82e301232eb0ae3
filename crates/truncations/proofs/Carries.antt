-- The carries of a sum m + n: each from the bits and the carry below it, and what they say of the sum's bits and high part.
-- Assumes nothing.
use mathlib.Core.Path.{◌≡◌, sym, ap, ◌∙◌}
use mathlib.Core.Logic.{◌↔◌}
use Prim.Native.Nat.{ℕ, suc, ◌+◌, ◌-◌, ◌*◌, ◌/◌, ◌%◌, ◌^◌, ◌≤◌, ◌<◌, min}
use native.Mathlib.Nat.{mod-lt, mod-eq_of_lt, mod-one, div-div-eq-div-mul, pow-suc, div-lt_iff_lt-mul, le-div_iff_mul-le, div-mul-le_self}
use native.Mathlib.Nat.{mul-add-div_right, mul_assoc, zero-lt-suc}
use native.Mathlib.Omega.{arith}
use lib.Bits.{differ}
use lib.Pow.{pow_pos, pow-add, split}
use lib.Arith.{digits_div}
use Rattle.words.specs.Words.{bit}
use Rattle.truncations.specs.Adder.{carry}
use Rattle.words.proofs.Digits.{table}
use Rattle.words.proofs.Bits.{bit_lt, mod_suc_pow}

pub carry_zero : (m n : ℕ) → carry m n 0 ≡ 0
unfolding carry
carry_zero m n = rw (mod-one m, mod-one n)

pub carry_lt : (m n k : ℕ) → carry m n k < 2
unfolding carry
carry_lt m n k =
    (div-lt_iff_lt-mul (pow_pos k)).1 (omega (arith, mod-lt m (pow_pos k), mod-lt n (pow_pos k)))

-- the digits of a full adder
full : (a b c : ℕ) → a < 2 → b < 2 → c < 2 → (a + b + c) / 2 ≡ differ (min a b) (min (differ a b) c)
full a b c ha hb hc = table 3 (λ a b c. (a + b + c) / 2) (λ a b c. differ (min a b) (min (differ a b) c)) tt a ha b hb c hc

-- the next carry is the number of ones among two bits and a carry, halved
carry_half : (m n k : ℕ) → carry m n (suc k) ≡ (bit m k + bit n k + carry m n k) / 2
unfolding carry
carry_half m n k =
    let e : m % 2 ^ suc k + n % 2 ^ suc k
    ≡ (bit m k + bit n k + (m % 2 ^ k + n % 2 ^ k) / 2 ^ k) * 2 ^ k + (m % 2 ^ k + n % 2 ^ k) % 2 ^ k =
    omega (arith, mod_suc_pow m k, mod_suc_pow n k, split (m % 2 ^ k + n % 2 ^ k) k) in
    rw (e, pow-suc 2 k, ← div-div-eq-div-mul _ (2 ^ k) 2, digits_div _ (mod-lt (m % 2 ^ k + n % 2 ^ k) (pow_pos k)))

pub carry_suc : (m n k : ℕ) → carry m n (suc k) ≡ differ (min (bit m k) (bit n k)) (min (differ (bit m k) (bit n k)) (carry m n k))
carry_suc m n k = carry_half m n k ∙ full _ _ _ (bit_lt m k) (bit_lt n k) (carry_lt m n k)

-- the carry is 1 exactly where the low parts overflow
pub carry_one : (m n k : ℕ) → carry m n k ≡ 1 ↔ 2 ^ k ≤ m % 2 ^ k + n % 2 ^ k
unfolding carry
carry_one m n k = (
  (λ (e : (m % 2 ^ k + n % 2 ^ k) / 2 ^ k ≡ 1). omega (arith, rw e at (div-mul-le_self (m % 2 ^ k + n % 2 ^ k) (2 ^ k)))),
  (λ h.
      let a : 1 ≤ (m % 2 ^ k + n % 2 ^ k) / 2 ^ k = (le-div_iff_mul-le (pow_pos k)).1 (omega arith) in
      let b : (m % 2 ^ k + n % 2 ^ k) / 2 ^ k < 2 = carry_lt m n k in
      omega arith),
)

-- the high part of a sum
pub shr_add : (m n k : ℕ) → (m + n) / 2 ^ k ≡ m / 2 ^ k + n / 2 ^ k + carry m n k
unfolding carry
shr_add m n k =
    let e : m + n ≡ (m / 2 ^ k + n / 2 ^ k) * 2 ^ k + (m % 2 ^ k + n % 2 ^ k) = omega (arith, split m k, split n k) in
    rw e (mul-add-div_right (pow_pos k) (m / 2 ^ k + n / 2 ^ k) (m % 2 ^ k + n % 2 ^ k))

-- the high part of a sum that wraps: b1 is the carry into bit k, and b2 the carry out of the word
pub truncate : (w k m n : ℕ) → m < 2 ^ w → n < 2 ^ w → k ≤ w
    → (m + n) % 2 ^ w / 2 ^ k + carry m n w * 2 ^ (w - k) ≡ m / 2 ^ k + n / 2 ^ k + carry m n k
unfolding carry
truncate w k m n hm hn l =
    let e : w - k + k ≡ w = omega arith in
    let s : carry m n w * 2 ^ (w - k) * 2 ^ k + (m + n) % 2 ^ w ≡ m + n =
    rw (mul_assoc, ← pow-add 2 (w - k) k, e, mod-eq_of_lt hm, mod-eq_of_lt hn) (split (m + n) w) in
    let t : (m + n) / 2 ^ k ≡ carry m n w * 2 ^ (w - k) + (m + n) % 2 ^ w / 2 ^ k =
    sym (ap (λ (y : ℕ). y / 2 ^ k) s) ∙ mul-add-div_right (pow_pos k) (carry m n w * 2 ^ (w - k)) ((m + n) % 2 ^ w) in
    omega (arith, t, shr_add m n k)

-- bit i of a sum
pub bit_add : (m n i : ℕ) → bit (m + n) i ≡ differ (differ (bit m i) (bit n i)) (carry m n i)
unfolding bit
bit_add m n i =
    let e : (m / 2 ^ i + n / 2 ^ i + carry m n i) % 2 ≡ (m / 2 ^ i % 2 + n / 2 ^ i % 2 + carry m n i) % 2 = omega arith in
    ap (λ (x : ℕ). x % 2) (shr_add m n i) ∙ e
    ∙ table 3 (λ a b c. (a + b + c) % 2) (λ a b c. differ (differ a b) c) tt
    _ (mod-lt (m / 2 ^ i) (zero-lt-suc 1)) _ (mod-lt (n / 2 ^ i) (zero-lt-suc 1)) _ (carry_lt m n i)
