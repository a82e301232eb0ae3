-- What kinds 6, 7 and 8 give for x = m - L, at any width; and a bit made a number. Assumes nothing.
use mathlib.Core.Path.{◌≡◌, refl, sym, ap, ap₂, ◌∙◌}
use mathlib.Core.Bool.{Bool, true, false, cond}
use Prim.Native.Nat.{ℕ, suc, ◌+◌, ◌-◌, ◌*◌, ◌/◌, ◌%◌, ◌^◌, ◌≤◌, ◌<◌}
use native.Mathlib.Nat.{mod-lt, mod-eq_of_lt, mod-add-mod, add-mod-mod, add-mul-mod_self_right, div-eq_of_lt, lt_trans, lt_of_le_of_lt}
use native.Mathlib.Omega.{arith}
use borrow.Author.Tests.{leb-true, leb-false}
use lib.Dec.{T, leb}
use lib.Bits.{bit_xor, differ}
use lib.Pow.{pow_pos, pow-add, pow-lt, pow_mono, mod-mod-pow, field, shr_le}
use lib.IntN.{sub_ℕ, ◌+ℤ◌}
use Rattle.words.specs.Ring.{Ops, Ring}
use Rattle.words.specs.Words.{add, sub, neg, mul, bit, shr}
use Rattle.words.specs.Signed.{floor, signed, wrap, shr_signed, in_range}
use Rattle.truncations.specs.Adder.{carry, carries}
use Rattle.truncations.specs.Truncation.{bit_number, large_slack, one_bit, slip, exact}
use Rattle.words.proofs.Digits.{digit_ind, table}
use Rattle.words.proofs.Solver.{exprs, solve}
use Rattle.words.proofs.Bits.{bit_lt, bit_mod}
use Rattle.words.proofs.Words.{Word, word_path, mul_mod_mod, number_words, number_ring, add_lt, sub_lt, neg_lt, mul_lt, sub_of}
use Rattle.truncations.proofs.Carries.{carry_lt, carry_one, truncate, bit_add, shr_add}
use Rattle.truncations.proofs.Adder.{carries_bit}
use Rattle.words.proofs.Integers.{sub_add, floor_sub}
use Rattle.words.proofs.Signed.{halves, biased_half, shr_biased, wrap_sub, in_range_biased, in_range_low}

-- a sum of which a part is taken away
pub take_away : (w q t : ℕ) {s : ℕ} → q < 2 ^ w → q + t ≡ s → sub w (s % 2 ^ w) (t % 2 ^ w) ≡ q
unfolding add
take_away w q t h e = sym (sub_of w q (t % 2 ^ w) h (mod-lt t (pow_pos w)) (add-mod-mod q t (2 ^ w) ∙ ap (λ (x : ℕ). x % 2 ^ w) e))

shr_lt : (w k x : ℕ) → x < 2 ^ w → x / 2 ^ k < 2 ^ w
shr_lt w k x h = lt_of_le_of_lt (shr_le x k) h

-- 2^t is 2^(t-k) times 2^k
apart : (t k : ℕ) → k ≤ t → 2 ^ (t - k) * 2 ^ k ≡ 2 ^ t
apart t k h =
    let e : t - k + k ≡ t = omega arith in
    sym (pow-add 2 (t - k) k) ∙ ap (λ (n : ℕ). 2 ^ n) e

-- floor(signed(x) / 2^k) from x biased by 2^t
shr_from : (w k t x : ℕ) → k ≤ t → t < w → signed w x ≡ sub_ℕ (add w x (2 ^ t)) (2 ^ t)
    → sub w (add w x (2 ^ t) / 2 ^ k) (2 ^ (t - k)) ≡ shr_signed w k x
shr_from w k t x kt tw e =
    let c : signed w x ≡ sub_ℕ (add w x (2 ^ t)) (2 ^ (t - k) * 2 ^ k) = rw (apart t k kt) e in
    let hq : add w x (2 ^ t) / 2 ^ k < 2 ^ w = shr_lt w k (add w x (2 ^ t)) (add_lt w x (2 ^ t)) in
    let hc : 2 ^ (t - k) < 2 ^ w = pow-lt (omega arith) in
    sym (shr_biased w k x (add w x (2 ^ t)) (2 ^ (t - k)) c ∙ ap₂ (sub w) (mod-eq_of_lt hq) (mod-eq_of_lt hc))

-- ---- kind 8

-- the sum of the floors, with the two carries, is the floor of the sum
floors : (w k m n : ℕ) → 1 ≤ k → k < w → m < 2 ^ w → n < 2 ^ w
    → sub w (add w (add w (n / 2 ^ k) (m / 2 ^ k)) (bit (carries w m n) (k - 1))) (mul w (bit (carries w m n) (w - 1)) (2 ^ (w - k)))
    ≡ add w m n / 2 ^ k
unfolding add mul
floors w k m n ok kw hm hn =
    let e : suc (k - 1) ≡ k = omega arith in
    let f : suc (w - 1) ≡ w = omega arith in
    let b1 : bit (carries w m n) (k - 1) ≡ carry m n k = rw e at (carries_bit w m n (k - 1) (omega arith)) in
    let b2 : bit (carries w m n) (w - 1) ≡ carry m n w = rw f at (carries_bit w m n (w - 1) (omega arith)) in
    rw (b1, b2, mod-add-mod (n / 2 ^ k + m / 2 ^ k) (2 ^ w) (carry m n k))
    (take_away w ((m + n) % 2 ^ w / 2 ^ k) (carry m n w * 2 ^ (w - k)) (shr_lt w k _ (mod-lt (m + n) (pow_pos w)))
    (omega (arith, truncate w k m n hm hn (omega arith))))

-- m biased, and n, sum to x biased
move_bias : {A : Type 0} (O : Ops A) → Ring O → (m h l : A) → O.add (O.add m h) (O.neg l) ≡ O.add (O.sub m l) h
move_bias O R = solve O R 3 (λ m h l. (exprs.add (exprs.add m h) (exprs.neg l), exprs.add (exprs.sub m l) h)) refl

-- "opens floor(x / 2^k) for every x": for every m and every L
pub exact_floor : (w k m L : ℕ) → 1 ≤ k → k < w → m < 2 ^ w → L < 2 ^ w → exact w k m L ≡ shr_signed w k (sub w m L)
unfolding exact shr
exact_floor w k m L ok kw hm hL =
    let hh : 2 ^ (w - 1) < 2 ^ w = pow-lt (omega arith) in
    let x : ℕ = sub w m L in
    let e : add w (add w m (2 ^ (w - 1))) (neg w L) ≡ add w x (2 ^ (w - 1)) =
    ap (λ (y : Word w). y.0) (move_bias (number_words w) (number_ring w) (m, hm) (2 ^ (w - 1), hh) (L, hL)) in
    ap (λ (y : ℕ). sub w y (2 ^ (w - 1 - k))) (floors w k (add w m (2 ^ (w - 1))) (neg w L) ok kw (add_lt w m (2 ^ (w - 1))) (neg_lt w L))
    ∙ rw e (shr_from w k (w - 1) x (omega arith) (omega arith) (biased_half w x (omega arith) (sub_lt w m L)))

-- ---- a bit made a number

-- mq + Lq - 2 mq Lq is mq xor Lq
pub bit_number_xor : (w : ℕ) → 2 ≤ w → (a : ℕ) → a < 2 → (b : ℕ) → b < 2 → bit_number w a b ≡ bit_xor a b
unfolding bit_number add mul
bit_number_xor w h =
    digit_ind (λ a. (b : ℕ) → b < 2 → bit_number w a b ≡ bit_xor a b)
    (digit_ind (λ b. bit_number w 0 b ≡ bit_xor 0 b) (digits 0 0 0 (omega arith) refl) (digits 0 1 1 (omega arith) refl))
    (digit_ind (λ b. bit_number w 1 b ≡ bit_xor 1 b) (digits 1 0 1 (omega arith) refl) (digits 1 1 0 (omega arith) refl))
  where
    wide : 2 < 2 ^ w
    wide = omega (arith, pow_mono h)

    digits : (a b q : ℕ) → q ≤ 1 → q + 2 * (a * b) ≡ a + b → bit_number w a b ≡ q
    digits a b q l e = rw (mul_mod_mod 2 (a * b) (2 ^ w)) (take_away w q (2 * (a * b)) (omega (arith, wide)) e)

-- ---- kind 7

-- what kind 7 adds is the carry into bit k of x + L
pub slip_carry : (k x L : ℕ) → slip k x L ≡ carry x L k
unfolding slip carry
slip_carry k x L = go (leb (2 ^ k) (x % 2 ^ k + L % 2 ^ k)) refl
  where
    go : (b : Bool) → leb (2 ^ k) (x % 2 ^ k + L % 2 ^ k) ≡ b → cond b 1 0 ≡ carry x L k
    go true t = sym ((carry_one x L k).1 (leb-true _ _ t))
    go false t = sym (div-eq_of_lt (leb-false _ _ t))

-- the low k bits of the low v bits
pub low_low : (v k n : ℕ) → k ≤ v → n % 2 ^ v % 2 ^ k ≡ n % 2 ^ k
low_low v k n h =
    let e : v - k + k ≡ v = omega arith in
    rw e at (mod-mod-pow n (v - k) k)

-- a bias of 2^t leaves the bits below t alone
bias_low : (w t k x : ℕ) → k ≤ t → t < w → add w x (2 ^ t) % 2 ^ k ≡ x % 2 ^ k
unfolding add
bias_low w t k x kt tw =
    low_low w k (x + 2 ^ t) (omega arith)
    ∙ ap (λ (y : ℕ). (x + y) % 2 ^ k) (sym (apart t k kt)) ∙ add-mul-mod_self_right x (2 ^ (t - k)) (2 ^ k)

bias_carry : (w t k m n : ℕ) → k ≤ t → t < w → carry (add w m (2 ^ t)) (add w n (2 ^ t)) k ≡ carry m n k
unfolding carry
bias_carry w t k m n kt tw = rw (bias_low w t k m kt tw, bias_low w t k n kt tw)

carry_low : (v k y L : ℕ) → k ≤ v → carry y (L % 2 ^ v) k ≡ carry y L k
unfolding carry
carry_low v k y L h = rw (low_low v k L h)

-- the top bits of y + L and of L differ by the carry, where y has no top bit
top_bits : (w y L : ℕ) → 2 ≤ w → y < 2 ^ (w - 1) → bit_number w (bit (add w y L) (w - 1)) (bit L (w - 1)) ≡ carry y L (w - 1)
unfolding add bit
top_bits w y L h hy =
    bit_number_xor w h (bit (add w y L) (w - 1)) (bit_lt (add w y L) (w - 1)) (bit L (w - 1)) (bit_lt L (w - 1))
    ∙ ap (λ (b : ℕ). bit_xor b (bit L (w - 1))) (bit_mod (y + L) w (w - 1) (omega arith) ∙ bit_add y L (w - 1))
    ∙ ap (λ (b : ℕ). bit_xor (differ (differ (b % 2) (bit L (w - 1))) (carry y L (w - 1))) (bit L (w - 1))) (div-eq_of_lt hy)
    ∙ table 2 (λ l c. bit_xor (differ (differ 0 l) c) l) (λ l c. c) tt _ (bit_lt L (w - 1)) _ (carry_lt y L (w - 1))

-- c' + b 2^(w-1-k) = floor(y / 2^k) + r' + the carry into bit k, for m' = y + L
one_bit_sum : (w k y L : ℕ) → 2 ≤ w → k ≤ w - 1 → y < 2 ^ (w - 1)
    → add w y L / 2 ^ k % 2 ^ (w - 1 - k) + bit_number w (bit (add w y L) (w - 1)) (bit L (w - 1)) * 2 ^ (w - 1 - k)
    ≡ y / 2 ^ k + L / 2 ^ k % 2 ^ (w - 1 - k) + carry y L k
unfolding add
one_bit_sum w k y L h kw hy =
    let v : ℕ = w - 1 in
    let e : v - k + k ≡ v = omega arith in
    let fm : (y + L) % 2 ^ w / 2 ^ k % 2 ^ (v - k) ≡ (y + L % 2 ^ v) % 2 ^ v / 2 ^ k =
    sym (field ((y + L) % 2 ^ w) (v - k) k)
    ∙ rw (e, low_low w v (y + L) (omega arith)) (ap (λ (n : ℕ). n / 2 ^ k) (sym (add-mod-mod y L (2 ^ v)))) in
    let fl : L / 2 ^ k % 2 ^ (v - k) ≡ L % 2 ^ v / 2 ^ k = sym (field L (v - k) k) ∙ rw e in
    rw (top_bits w y L h hy, fm, fl, ← carry_low v v y L (omega arith), ← carry_low v k y L kw)
    (truncate v k y (L % 2 ^ v) hy (mod-lt L (pow_pos v)) kw)

-- the same sum, as the word c' - r' + t - h
regroup : {A : Type 0} (O : Ops A) → Ring O → (c r t h q s : A) → O.add c t ≡ O.add (O.add q r) s
    → O.sub (O.add (O.sub c r) t) h ≡ O.add (O.sub q h) s
regroup {A} O R c r t h q s e =
    solve O R 4 (λ c r t h. (exprs.sub (exprs.add (exprs.sub c r) t) h, exprs.sub (exprs.sub (exprs.add c t) r) h)) refl c r t h
    ∙ ap (λ (u : A). O.sub (O.sub u r) h) e
    ∙ solve O R 4 (λ q r s h. (exprs.sub (exprs.sub (exprs.add (exprs.add q r) s) r) h, exprs.add (exprs.sub q h) s)) refl q r s h

one_bit_word : (w k y L : ℕ) → 2 ≤ w → k ≤ w - 2 → y < 2 ^ (w - 1)
    → sub w
    (add w (sub w (add w y L / 2 ^ k % 2 ^ (w - 1 - k)) (L / 2 ^ k % 2 ^ (w - 1 - k)))
    (mul w (bit_number w (bit (add w y L) (w - 1)) (bit L (w - 1))) (2 ^ (w - 1 - k))))
    (2 ^ (w - 2 - k))
    ≡ add w (sub w (y / 2 ^ k) (2 ^ (w - 2 - k))) (carry y L k)
unfolding add mul
one_bit_word w k y L ow kw hy =
    let t : ℕ = 2 ^ (w - 1 - k) in
    let ht : t < 2 ^ w = pow-lt (omega arith) in
    let hh : 2 ^ (w - 2 - k) < 2 ^ w = pow-lt (omega arith) in
    let hy' : y < 2 ^ w = omega (arith, halves w (omega arith)) in
    let c : Word w = (add w y L / 2 ^ k % t, lt_trans (mod-lt (add w y L / 2 ^ k) (pow_pos (w - 1 - k))) ht) in
    let r : Word w = (L / 2 ^ k % t, lt_trans (mod-lt (L / 2 ^ k) (pow_pos (w - 1 - k))) ht) in
    let b : ℕ = bit_number w (bit (add w y L) (w - 1)) (bit L (w - 1)) in
    let q : Word w = (y / 2 ^ k, shr_lt w k y hy') in
    let s : Word w = (carry y L k, omega (arith, carry_lt y L k, pow_mono ow)) in
    ap (λ (n : Word w). n.0)
    (regroup (number_words w) (number_ring w) c r (mul w b t, mul_lt w b t) (2 ^ (w - 2 - k), hh) q s
    (word_path
    (add-mod-mod c.0 (b * t) (2 ^ w) ∙ ap (λ (n : ℕ). n % 2 ^ w) (one_bit_sum w k y L ow (omega arith) hy)
    ∙ sym (mod-add-mod (q.0 + r.0) (2 ^ w) s.0))))

-- m biased is x biased, plus L
bias_back : {A : Type 0} (O : Ops A) → Ring O → (m h l : A) → O.add m h ≡ O.add (O.add (O.sub m l) h) l
bias_back O R = solve O R 3 (λ m h l. (exprs.add m h, exprs.add (exprs.add (exprs.sub m l) h) l)) refl

-- "For x from -2^30 to 2^30 - 1 it opens floor(x / 2^k), plus 1 exactly when (x mod 2^k) + (L mod 2^k) is at least 2^k": for every L
pub one_bit_floor : (w k m L : ℕ) → 2 ≤ w → k ≤ w - 2 → m < 2 ^ w → L < 2 ^ w → T (in_range w (signed w (sub w m L)))
    → one_bit w k m L ≡ add w (shr_signed w k (sub w m L)) (slip k (sub w m L) L)
unfolding one_bit shr carry
one_bit_floor w k m L ow kw hm hL r =
    let x : ℕ = sub w m L in
    let y : ℕ = add w x (2 ^ (w - 2)) in
    let hh : 2 ^ (w - 2) < 2 ^ w = pow-lt (omega arith) in
    let e : add w m (2 ^ (w - 2)) ≡ add w y L =
    ap (λ (n : Word w). n.0) (bias_back (number_words w) (number_ring w) (m, hm) (2 ^ (w - 2), hh) (L, hL)) in
    let s : slip k x L ≡ carry y L k =
    slip_carry k x L ∙ ap (λ (n : ℕ). (n + L % 2 ^ k) / 2 ^ k) (sym (bias_low w (w - 2) k x kw (omega arith))) in
    rw (e, s, ← shr_from w k (w - 2) x kw (omega arith) (in_range_biased w x ow (sub_lt w m L) r))
    (one_bit_word w k y L ow kw (in_range_low w x ow (sub_lt w m L) r))

-- ---- kind 6

-- (p - h) + (q - h) + c = (p + q + c) - (h + h)
gather : {A : Type 0} (O : Ops A) → Ring O → (p q h c : A)
    → O.add (O.add (O.sub q h) (O.sub p h)) c ≡ O.sub (O.add (O.add p q) c) (O.add h h)
gather O R =
    solve O R 4 (λ p q h c. (
      exprs.add (exprs.add (exprs.sub q h) (exprs.sub p h)) c,
      exprs.sub (exprs.add (exprs.add p q) c) (exprs.add h h),
    )) refl

-- the sum of two floors and a carry, of words M and N that are biased by 2^(w-1)
slack_biased : (w k M N : ℕ) → k < w → M < 2 ^ w → N < 2 ^ w
    → add w (add w (sub w (N / 2 ^ k) (2 ^ (w - 1 - k))) (sub w (M / 2 ^ k) (2 ^ (w - 1 - k)))) (carry M N k)
    ≡ wrap w (floor (sub_ℕ (M + N) (2 ^ (w - 1) + 2 ^ (w - 1))) (2 ^ k))
unfolding add
slack_biased w k M N kw hM hN =
    let h : ℕ = 2 ^ (w - 1 - k) in
    let hh : h < 2 ^ w = pow-lt (omega arith) in
    let c : Word w = (carry M N k, omega (arith, carry_lt M N k, pow_mono {i = 1} {j = w} (omega arith))) in
    let e : 2 ^ (w - 1) + 2 ^ (w - 1) ≡ (h + h) * 2 ^ k = omega (arith, apart (w - 1) k (omega arith)) in
    ap (λ (n : Word w). n.0)
    (gather (number_words w) (number_ring w) (M / 2 ^ k, shr_lt w k M hM) (N / 2 ^ k, shr_lt w k N hN) (h, hh) c)
    ∙ ap (λ (n : ℕ). sub w n ((h + h) % 2 ^ w))
    (mod-add-mod (M / 2 ^ k + N / 2 ^ k) (2 ^ w) (carry M N k) ∙ ap (λ (n : ℕ). n % 2 ^ w) (sym (shr_add M N k)))
    ∙ sym (ap (λ (n : ℕ). wrap w (floor (sub_ℕ (M + N) n) (2 ^ k))) e
    ∙ ap (wrap w) (floor_sub (M + N) (h + h) (2 ^ k) (pow_pos k)) ∙ wrap_sub w ((M + N) / 2 ^ k) (h + h))

slack_sum : (w k m n : ℕ) → k < w → m < 2 ^ w → n < 2 ^ w
    → add w (add w (shr_signed w k n) (shr_signed w k m)) (carry m n k) ≡ wrap w (floor (signed w m +ℤ signed w n) (2 ^ k))
slack_sum w k m n kw hm hn =
    let t : ℕ = w - 1 in
    let bm : signed w m ≡ sub_ℕ (add w m (2 ^ t)) (2 ^ t) = biased_half w m (omega arith) hm in
    let bn : signed w n ≡ sub_ℕ (add w n (2 ^ t)) (2 ^ t) = biased_half w n (omega arith) hn in
    rw (
      ← shr_from w k t m (omega arith) (omega arith) bm,
      ← shr_from w k t n (omega arith) (omega arith) bn,
      bm,
      bn,
      sub_add (add w m (2 ^ t)) (2 ^ t) (add w n (2 ^ t)) (2 ^ t),
      ← bias_carry w t k m n (omega arith) (omega arith),
    )
    (slack_biased w k (add w m (2 ^ t)) (add w n (2 ^ t)) kw (add_lt w m (2 ^ t)) (add_lt w n (2 ^ t)))

-- What the steps of kind 6 give, for every m and L: the floor of signed(m) + signed(-L), which is x or off by 2^w, less the carry out of
-- the low k bits
pub large_slack_floor : (w k m L : ℕ) → k < w → m < 2 ^ w → L < 2 ^ w
    → add w (large_slack w k m L) (carry m (neg w L) k) ≡ wrap w (floor (signed w m +ℤ signed w (neg w L)) (2 ^ k))
unfolding large_slack
large_slack_floor w k m L kw hm hL = slack_sum w k m (neg w L) kw hm (neg_lt w L)
