-- Document 01, "Orders", kinds 6, 7 and 8: the words that their steps give for m and L, where x = m - L.
-- Assumes nothing.
use Rattle.std.specs.Prelude.{cond, ℕ, ◌+◌, ◌-◌, ◌%◌, ◌^◌, leb}
use Rattle.words.specs.Words.{add, sub, neg, mul, bit, shr}
use Rattle.words.specs.Signed.{shr_signed}
use Rattle.truncations.specs.Adder.{carries}

-- "A bit q = mq xor Lq becomes a number: .. mq + Lq - 2 × mq × Lq"
unfoldable pub bit_number : ℕ → ℕ → ℕ → ℕ
bit_number w mq Lq = sub w (add w mq Lq) (mul w 2 (mul w mq Lq))

-- kind 6, large slack: "deal floor(signed(-L) / 2^k), plus known floor(signed(m) / 2^k)"
unfoldable pub large_slack : (w k m L : ℕ) → ℕ
large_slack w k m L = add w (shr_signed w k (neg w L)) (shr_signed w k m)

-- kind 7, one_bit: "add 2^30 to m"; r' of L, c' of m and the xor b of their top bits, as the word
-- "c' - r' + b × 2^(31-k) - 2^(30-k)"
unfoldable pub one_bit : (w k m L : ℕ) → ℕ
one_bit w k m L =
    let m' : ℕ = add w m (2 ^ (w - 2)) in
    let c' : ℕ = shr k m' % 2 ^ (w - 1 - k) in
    let r' : ℕ = shr k L % 2 ^ (w - 1 - k) in
    let b : ℕ = bit_number w (bit m' (w - 1)) (bit L (w - 1)) in
    sub w (add w (sub w c' r') (mul w b (2 ^ (w - 1 - k)))) (2 ^ (w - 2 - k))

-- 1 exactly when "(x mod 2^k) + (L mod 2^k) is at least 2^k", else 0: what kind 7 adds to the floor
unfoldable pub slip : (k x L : ℕ) → ℕ
slip k x L = cond (leb (2 ^ k) (x % 2 ^ k + L % 2 ^ k)) 1 0

-- kind 8, exact: "add 2^31 to m"; floors of n = -L and of m, unsigned; bits k-1 (b1) and 31 (b2) of G, as the word
-- "sum + b1 - b2 × 2^(32-k) - 2^(31-k)"
unfoldable pub exact : (w k m L : ℕ) → ℕ
exact w k m L =
    let m' : ℕ = add w m (2 ^ (w - 1)) in
    let n : ℕ = neg w L in
    let b1 : ℕ = bit (carries w m' n) (k - 1) in
    let b2 : ℕ = bit (carries w m' n) (w - 1) in
    sub w (sub w (add w (add w (shr k n) (shr k m')) b1) (mul w b2 (2 ^ (w - k)))) (2 ^ (w - 1 - k))
