-- What the machine's shifts and masks of words give, for every distance. Assumes nothing.
use mathlib.Core.Path.{◌≡◌, sym, ap, ◌∙◌}
use Prim.Native.Nat.{ℕ, suc, ◌+◌, ◌-◌, ◌*◌, ◌/◌, ◌%◌, ◌^◌, ◌≤◌, ◌<◌}
use native.Mathlib.Nat.{mul-mod_left, mul_assoc, one-mul, mod-eq_of_lt, div-eq_of_lt, div-le_self, lt_of_lt_of_le, lt_of_le_of_lt}
use native.Mathlib.Omega.{arith}
use lib.Bits.{bit_and, and_mask}
use lib.Pow.{pow_pos, pow-add, pow_mono, pow-lt}
use Rattle.words.specs.Words.{shl, shr}
use Rattle.words.specs.Signed.{floor, wrap, shr_signed}
use Rattle.words.proofs.Integers.{sub_below}
use Rattle.words.proofs.Signed.{signed_low, signed_high}

-- ---- shifts past the word

pub shl_past : (w d x : ℕ) → w ≤ d → shl w d x ≡ 0
unfolding shl
shl_past w d x h =
    let e : d ≡ d - w + w = omega arith in
    rw (e, pow-add 2 (d - w) w, ← mul_assoc x (2 ^ (d - w)) (2 ^ w)) (mul-mod_left (x * 2 ^ (d - w)) (2 ^ w))

pub shr_past : (w k x : ℕ) → w ≤ k → x < 2 ^ w → shr k x ≡ 0
unfolding shr
shr_past w k x h l = div-eq_of_lt (lt_of_lt_of_le l (pow_mono h))

-- ---- the low j bits

pub ones : (w j : ℕ) → j < w → (1 * 2 ^ j) % 2 ^ w ≡ 2 ^ j
ones w j h = rw (one-mul (2 ^ j)) (mod-eq_of_lt (pow-lt h))

pub ones_positive : (w j : ℕ) → j < w → 1 ≤ (1 * 2 ^ j) % 2 ^ w
ones_positive w j h = rw (ones w j h) (pow_pos j)

pub low_masked : (w x j : ℕ) → j < w → bit_and x ((1 * 2 ^ j) % 2 ^ w - 1) ≡ x % 2 ^ j
low_masked w x j h = ap (λ (n : ℕ). bit_and x (n - 1)) (ones w j h) ∙ and_mask x j

pub low_whole : (w x j : ℕ) → w ≤ j → x < 2 ^ w → x % 2 ^ j ≡ x
low_whole w x j h l = mod-eq_of_lt (lt_of_lt_of_le l (pow_mono h))

-- ---- the signed floor

pub floor_positive : (w k x : ℕ) → x < 2 ^ (w - 1) → x < 2 ^ w → shr k x ≡ shr_signed w k x
unfolding shr shr_signed floor wrap
floor_positive w k x h l =
    rw (signed_low w x h) (sym (mod-eq_of_lt (lt_of_le_of_lt (div-le_self x (2 ^ k)) l)))

-- of a word that reads negative, by way of -1 - x
pub floor_negative : (w k x : ℕ) → 2 ^ (w - 1) ≤ x → x < 2 ^ w → 2 ^ w - 1 - shr k (2 ^ w - 1 - x) ≡ shr_signed w k x
unfolding shr shr_signed floor wrap
floor_negative w k x h l =
    let e : 2 ^ w - suc x ≡ 2 ^ w - 1 - x = omega arith in
    let q : (2 ^ w - 1 - x) / 2 ^ k ≤ 2 ^ w - 1 - x = div-le_self (2 ^ w - 1 - x) (2 ^ k) in
    rw (signed_high w x h, sub_below x (2 ^ w) l, e, mod-eq_of_lt {n = (2 ^ w - 1 - x) / 2 ^ k} {m = 2 ^ w} (omega arith)) (omega arith)
