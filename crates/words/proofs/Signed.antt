-- Laws of a word's signed reading and of floors as words. Assumes nothing.
use Rattle.std.proofs.Common.{◌≡◌, ℕ, suc, ◌+◌, ◌-◌, ◌*◌, ◌/◌, ◌%◌, ◌^◌, ◌<◌, ◌≤◌, true, cond, T, ltb, leb, ◌⊎◌, ℤ, pos, negsuc, neg_ℤ, sym, ap, ◌∙◌, inl, inr, ⊎_elim, lt_of_le_of_lt, mod-lt, mod-eq_of_lt, pow-suc, div-add-mod', div-le_self, arith, ltb→lt, leb→le, pow_pos, le-ltb, lt-ltb}
use native.Mathlib.Nat.{mod-add-mod, add-mod-mod, add-mod_right, mul-add-mod_self_right}
use native.Mathlib.Nat.{div-eq_of_lt}
use lib.Arith.{digits_div}
use lib.Dec.{leb-suc-zero}
use lib.IntN.{sub_ℕ}
use lib.Signed.{mag, le_z, lt_z}
use Rattle.words.specs.Words.{add, sub, bit}
use Rattle.words.specs.Signed.{floor, signed, wrap, shr_signed, in_range}
use Rattle.words.proofs.Digits.{both}
use Rattle.words.proofs.Words.{sub_of}
use Rattle.words.proofs.Integers.{le_or_lt, neg_pos, sub_ge, sub_below, sub_same, floor_sub}

-- 2^w is twice the word's half
pub halves : (w : ℕ) → 1 ≤ w → 2 ^ w ≡ 2 ^ (w - 1) + 2 ^ (w - 1)
halves w h =
    let e : suc (w - 1) ≡ w = omega arith in
    ap (λ (x : ℕ). 2 ^ x) (sym e) ∙ pow-suc 2 (w - 1) ∙ omega arith

-- ---- the signed reading, and the word of a number

pub signed_low : (w x : ℕ) → x < 2 ^ (w - 1) → signed w x ≡ pos x
unfolding signed
signed_low w x h = rw (lt-ltb x (2 ^ (w - 1)) h)

pub signed_high : (w x : ℕ) → 2 ^ (w - 1) ≤ x → signed w x ≡ sub_ℕ x (2 ^ w)
unfolding signed
signed_high w x h = rw (le-ltb x (2 ^ (w - 1)) h)

pub wrap_lt : (w : ℕ) (z : ℤ) → wrap w z < 2 ^ w
unfolding wrap
wrap_lt w (pos n) = mod-lt n (pow_pos w)
wrap_lt w (negsuc n) = let h : n % 2 ^ w < 2 ^ w = mod-lt n (pow_pos w) in omega arith

-- the word of a difference
pub wrap_sub : (w a b : ℕ) → wrap w (sub_ℕ a b) ≡ sub w (a % 2 ^ w) (b % 2 ^ w)
unfolding wrap add
wrap_sub w a b =
    sub_of w (wrap w (sub_ℕ a b)) (b % 2 ^ w) (wrap_lt w (sub_ℕ a b)) (mod-lt b (pow_pos w))
    (add-mod-mod (wrap w (sub_ℕ a b)) b (2 ^ w)
    ∙ ⊎_elim
    (λ (l : b ≤ a).
    let e : a - b + b ≡ a = omega arith in
    rw (sub_ge a b l, mod-add-mod (a - b) (2 ^ w) b, e))
    (λ (l : a < b).
    let t : (b - suc a) % 2 ^ w < 2 ^ w = mod-lt (b - suc a) (pow_pos w) in
    let e : 2 ^ w - suc ((b - suc a) % 2 ^ w) + b ≡ ((b - suc a) / 2 ^ w + 1) * 2 ^ w + a =
    omega (arith, div-add-mod' (b - suc a) (2 ^ w)) in
    rw (sub_below a b l, e) (mul-add-mod_self_right ((b - suc a) / 2 ^ w + 1) (2 ^ w) a))
    (le_or_lt b a))

-- a word is the word of its reading
pub wrap_signed : (w x : ℕ) → x < 2 ^ w → wrap w (signed w x) ≡ x
unfolding wrap
wrap_signed w x h =
    ⊎_elim
    (λ (l : 2 ^ (w - 1) ≤ x).
    rw (signed_high w x l, sub_below x (2 ^ w) h)
    (let e : (2 ^ w - suc x) % 2 ^ w ≡ 2 ^ w - suc x = mod-eq_of_lt (omega arith) in omega arith))
    (λ (l : x < 2 ^ (w - 1)). rw (signed_low w x l) (mod-eq_of_lt h))
    (le_or_lt (2 ^ (w - 1)) x)

-- a number from -2^(w-1) to 2^(w-1) - 1 is the reading of its word
pub signed_wrap : (w : ℕ) (z : ℤ) → 1 ≤ w → mag z < 2 ^ (w - 1) → signed w (wrap w z) ≡ z
unfolding wrap
signed_wrap w (pos n) o h = rw (mod-eq_of_lt {n = n} {m = 2 ^ w} (omega (arith, halves w o))) (signed_low w n h)
signed_wrap w (negsuc n) o h =
    let d : 2 ^ w ≡ 2 ^ (w - 1) + 2 ^ (w - 1) = halves w o in
    rw (mod-eq_of_lt {n = n} {m = 2 ^ w} (omega arith))
    (signed_high w (2 ^ w - suc n) (omega arith) ∙ sub_below (2 ^ w - suc n) (2 ^ w) (omega arith) ∙ ap negsuc (omega arith))

-- ---- the reading by way of a bias: c added first, and taken away as a number

-- where x + c wraps exactly if x reads negative
pub biased : (w x c : ℕ) → x < 2 ^ w → c < 2 ^ w → (x < 2 ^ (w - 1) → x + c < 2 ^ w) → (2 ^ (w - 1) ≤ x → 2 ^ w ≤ x + c)
    → signed w x ≡ sub_ℕ (add w x c) c
unfolding add
biased w x c hx hc f g =
    ⊎_elim
    (λ (l : 2 ^ (w - 1) ≤ x).
    let k : 2 ^ w ≤ x + c = g l in
    let e : x + c ≡ x + c - 2 ^ w + 2 ^ w = omega arith in
    let m : (x + c) % 2 ^ w ≡ x + c - 2 ^ w =
    ap (λ (n : ℕ). n % 2 ^ w) e ∙ add-mod_right (x + c - 2 ^ w) (2 ^ w) ∙ mod-eq_of_lt (omega arith) in
    rw (m, signed_high w x l) (sub_same x (2 ^ w) (x + c - 2 ^ w) c (omega arith)))
    (λ (l : x < 2 ^ (w - 1)).
    rw (mod-eq_of_lt {n = x + c} {m = 2 ^ w} (f l), signed_low w x l) (sym (sub_ge (x + c) c (omega arith) ∙ ap pos (omega arith))))
    (le_or_lt (2 ^ (w - 1)) x)

pub biased_half : (w x : ℕ) → 1 ≤ w → x < 2 ^ w → signed w x ≡ sub_ℕ (add w x (2 ^ (w - 1))) (2 ^ (w - 1))
biased_half w x o h =
    let d : 2 ^ w ≡ 2 ^ (w - 1) + 2 ^ (w - 1) = halves w o in
    let p : 0 < 2 ^ (w - 1) = pow_pos (w - 1) in
    biased w x (2 ^ (w - 1)) h (omega arith) (λ l. omega arith) (λ l. omega arith)

-- a number in range is n or -(n + 1), for an n below 2^(w-2)
pub in_range_mag : (w : ℕ) (z : ℤ) → T (in_range w z) → mag z < 2 ^ (w - 2)
unfolding in_range
in_range_mag w (pos n) t = ltb→lt n (2 ^ (w - 2)) (both (le_z (neg_ℤ (pos (2 ^ (w - 2)))) (pos n)) (ltb n (2 ^ (w - 2))) t).1
in_range_mag w (negsuc n) t =
    let p : 0 < 2 ^ (w - 2) = pow_pos (w - 2) in
    let u : T (leb n (2 ^ (w - 2) - 1)) = rw (neg_pos (2 ^ (w - 2)) p) at (both (le_z (neg_ℤ (pos (2 ^ (w - 2)))) (negsuc n)) true t).0 in
    omega (arith, leb→le n (2 ^ (w - 2) - 1) u)

-- a word in range is below 2^(w-2), or at most 2^(w-2) below 2^w
in_range_word : (w x : ℕ) → x < 2 ^ w → T (in_range w (signed w x)) → (x < 2 ^ (w - 2)) ⊎ (2 ^ w ≤ x + 2 ^ (w - 2))
in_range_word w x h t =
    ⊎_elim
    (λ (l : 2 ^ (w - 1) ≤ x).
    let u : 2 ^ w - suc x < 2 ^ (w - 2) = rw (signed_high w x l, sub_below x (2 ^ w) h) at (in_range_mag w (signed w x) t) in
    inr (omega arith))
    (λ (l : x < 2 ^ (w - 1)). inl (rw (signed_low w x l) at (in_range_mag w (signed w x) t)))
    (le_or_lt (2 ^ (w - 1)) x)

quarters : (w : ℕ) → 2 ≤ w → 2 ^ (w - 1) ≡ 2 ^ (w - 2) + 2 ^ (w - 2)
quarters w h =
    let e : w - 1 - 1 ≡ w - 2 = omega arith in
    rw e at (halves (w - 1) (omega arith))

-- so a bias of 2^(w-2) serves a word in range, and gives one without top bit
pub in_range_biased : (w x : ℕ) → 2 ≤ w → x < 2 ^ w → T (in_range w (signed w x)) → signed w x ≡ sub_ℕ (add w x (2 ^ (w - 2))) (2 ^ (w - 2))
in_range_biased w x o h t =
    let d : 2 ^ w ≡ 2 ^ (w - 1) + 2 ^ (w - 1) = halves w (omega arith) in
    let q : 2 ^ (w - 1) ≡ 2 ^ (w - 2) + 2 ^ (w - 2) = quarters w o in
    let p : 0 < 2 ^ (w - 2) = pow_pos (w - 2) in
    biased w x (2 ^ (w - 2)) h (omega arith) (λ l. omega arith)
    (λ l. ⊎_elim (λ (k : x < 2 ^ (w - 2)). absurd (omega arith)) (λ (k : 2 ^ w ≤ x + 2 ^ (w - 2)). k) (in_range_word w x h t))

pub in_range_low : (w x : ℕ) → 2 ≤ w → x < 2 ^ w → T (in_range w (signed w x)) → add w x (2 ^ (w - 2)) < 2 ^ (w - 1)
unfolding add
in_range_low w x o h t =
    let d : 2 ^ w ≡ 2 ^ (w - 1) + 2 ^ (w - 1) = halves w (omega arith) in
    let q : 2 ^ (w - 1) ≡ 2 ^ (w - 2) + 2 ^ (w - 2) = quarters w o in
    ⊎_elim
    (λ (k : x < 2 ^ (w - 2)). rw (mod-eq_of_lt {n = x + 2 ^ (w - 2)} {m = 2 ^ w} (omega arith)) (omega arith))
    (λ (k : 2 ^ w ≤ x + 2 ^ (w - 2)).
    let e : x + 2 ^ (w - 2) ≡ x + 2 ^ (w - 2) - 2 ^ w + 2 ^ w = omega arith in
    let m : (x + 2 ^ (w - 2)) % 2 ^ w ≡ x + 2 ^ (w - 2) - 2 ^ w =
    ap (λ (n : ℕ). n % 2 ^ w) e ∙ add-mod_right (x + 2 ^ (w - 2) - 2 ^ w) (2 ^ w) ∙ mod-eq_of_lt (omega arith) in
    rw m (omega arith))
    (in_range_word w x h t)

-- the floor of a biased reading
pub shr_biased : (w k x y c : ℕ) → signed w x ≡ sub_ℕ y (c * 2 ^ k) → shr_signed w k x ≡ sub w (y / 2 ^ k % 2 ^ w) (c % 2 ^ w)
unfolding shr_signed
shr_biased w k x y c e = rw (e, floor_sub y c (2 ^ k) (pow_pos k)) (wrap_sub w (y / 2 ^ k) c)

-- ---- floors

pub mag_floor : (z : ℤ) (m : ℕ) → mag (floor z m) ≤ mag z
unfolding floor
mag_floor (pos n) m = div-le_self n m
mag_floor (negsuc n) m = div-le_self n m

pub mag_signed : (w x : ℕ) → 1 ≤ w → x < 2 ^ w → mag (signed w x) < 2 ^ (w - 1)
mag_signed w x o h =
    ⊎_elim
    (λ (l : 2 ^ (w - 1) ≤ x). rw (signed_high w x l, sub_below x (2 ^ w) h) (omega (arith, halves w o)))
    (λ (l : x < 2 ^ (w - 1)). rw (signed_low w x l) l)
    (le_or_lt (2 ^ (w - 1)) x)

-- the signed reading of `shr_signed` is the floor of the signed reading
pub signed_shr : (w k x : ℕ) → 1 ≤ w → x < 2 ^ w → signed w (shr_signed w k x) ≡ floor (signed w x) (2 ^ k)
unfolding shr_signed
signed_shr w k x o h =
    signed_wrap w (floor (signed w x) (2 ^ k)) o (lt_of_le_of_lt (mag_floor (signed w x) (2 ^ k)) (mag_signed w x o h))

-- ---- the sign

pub top_bit : (w x : ℕ) → 1 ≤ w → x < 2 ^ w → bit x (w - 1) ≡ cond (lt_z (signed w x) (pos 0)) 1 0
unfolding bit
top_bit w x o h =
    ⊎_elim
    (λ (l : 2 ^ (w - 1) ≤ x).
    let e : x ≡ 1 * 2 ^ (w - 1) + (x - 2 ^ (w - 1)) = omega arith in
    let q : x / 2 ^ (w - 1) ≡ 1 = ap (λ (n : ℕ). n / 2 ^ (w - 1)) e ∙ digits_div 1 (omega (arith, halves w o)) in
    rw (signed_high w x l, sub_below x (2 ^ w) h, q))
    (λ (l : x < 2 ^ (w - 1)). rw (signed_low w x l, leb-suc-zero x, div-eq_of_lt l))
    (le_or_lt (2 ^ (w - 1)) x)
