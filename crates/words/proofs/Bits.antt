-- Bits of a number: of its and, its xor, its shift; and two numbers of w bits with the same bits are equal. Assumes nothing.
use Rattle.std.proofs.Common.{◌≡◌, ℕ, zero, suc, ◌+◌, ◌-◌, ◌*◌, ◌/◌, ◌%◌, ◌^◌, ◌<◌, min, sym, ap, ◌∙◌, le_refl, lt_of_le_of_lt, mod-lt, mod-eq_of_lt, zero-lt-suc, mul_assoc, one-add, arith, pow-add, shr-shr}
use native.Mathlib.Nat.{mod-one, mul-mod_left, le-suc, min-le_left}
use lib.Bits.{bit_and, bit_xor, differ, and_step, xor_step, and_shr, xor_shr}
use lib.Pow.{mod-pow-add, mod-mod-pow, shl-shr, field}
use lib.Arith.{digits_mod}
use Rattle.words.specs.Words.{bit, shl}
use Rattle.words.proofs.Digits.{digit_ind}

pub bit_lt : (x i : ℕ) → bit x i < 2
unfolding bit
bit_lt x i = mod-lt (x / 2 ^ i) (zero-lt-suc 1)

differ_lt : (x y : ℕ) → x < 2 → y < 2 → differ x y < 2
differ_lt x y h k =
    digit_ind (λ x. differ x y < 2) k (digit_ind (λ y. differ 1 y < 2) (le_refl 2) (le-suc 1) y k) x h

pub bit-and : (a b i : ℕ) → bit (bit_and a b) i ≡ min (bit a i) (bit b i)
unfolding bit
bit-and a b i = rw (and_shr, and_step (a / 2 ^ i) (b / 2 ^ i)) (digits_mod _ (lt_of_le_of_lt (min-le_left _ _) (bit_lt a i)))

pub bit-xor : (a b i : ℕ) → bit (bit_xor a b) i ≡ differ (bit a i) (bit b i)
unfolding bit
bit-xor a b i = rw (xor_shr, xor_step (a / 2 ^ i) (b / 2 ^ i)) (digits_mod _ (differ_lt _ _ (bit_lt a i) (bit_lt b i)))

-- the low w bits of x are bits of x
pub bit_mod : (x w i : ℕ) → i < w → bit (x % 2 ^ w) i ≡ bit x i
unfolding bit
bit_mod x w i h =
    let e : w ≡ (w - suc i + 1) + i = omega arith in
    rw e (ap (λ (y : ℕ). y % 2) (field x (w - suc i + 1) i) ∙ mod-mod-pow (x / 2 ^ i) (w - suc i) 1)

pub bit_shl_low : (w d x i : ℕ) → i < w → i < d → bit (shl w d x) i ≡ 0
unfolding bit shl
bit_shl_low w d x i h k =
    let e : d ≡ (d - suc i + 1) + i = omega arith in
    bit_mod (x * 2 ^ d) w i h
    ∙ rw (
      e,
      pow-add 2 (d - suc i + 1) i,
      pow-add 2 (d - suc i) 1,
      ← mul_assoc x (2 ^ (d - suc i) * 2) (2 ^ i),
      shl-shr (x * (2 ^ (d - suc i) * 2)) i,
      ← mul_assoc x (2 ^ (d - suc i)) 2,
    )
    (mul-mod_left (x * 2 ^ (d - suc i)) 2)

pub bit_shl_high : (w d x i : ℕ) → d + i < w → bit (shl w d x) (d + i) ≡ bit x i
unfolding bit shl
bit_shl_high w d x i h =
    bit_mod (x * 2 ^ d) w (d + i) h ∙ rw (← shr-shr (x * 2 ^ d) d i, shl-shr x d)

pub mod_suc_pow : (n k : ℕ) → n % 2 ^ suc k ≡ bit n k * 2 ^ k + n % 2 ^ k
unfolding bit
mod_suc_pow n k = rw (← one-add k) (mod-pow-add n 1 k)

-- the same w low bits
pub mod_by_bits : (w a b : ℕ) → ((i : ℕ) → i < w → bit a i ≡ bit b i) → a % 2 ^ w ≡ b % 2 ^ w
mod_by_bits zero a b h = mod-one a ∙ sym (mod-one b)
mod_by_bits (suc w) a b h =
    rw (mod_suc_pow a w, mod_suc_pow b w, h w (le_refl (suc w)), mod_by_bits w a b (λ i l. h i (omega arith)))

pub eq_by_bits : (w a b : ℕ) → a < 2 ^ w → b < 2 ^ w → ((i : ℕ) → i < w → bit a i ≡ bit b i) → a ≡ b
eq_by_bits w a b ha hb h = sym (mod-eq_of_lt ha) ∙ mod_by_bits w a b h ∙ mod-eq_of_lt hb
