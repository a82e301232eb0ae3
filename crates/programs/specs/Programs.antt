-- Document 01, "Adder, bits and sign", "Orders" and "The curve", R-1 and R-4: the gates of each kind, in order. Slot x
-- is the source, d the target. Assumes nothing.
use Rattle.std.specs.Prelude.{List, [], ◌∷◌, ◌++◌, ℕ, zero, suc, ◌-◌, ◌*◌, ◌%◌, ◌^◌, ℤ, pos}
use Rattle.words.specs.Words.{neg}
use Rattle.truncations.specs.Adder.{Update, generate, propagate, distances, updates}
use Rattle.gates.specs.Gates.{Field, Signed, OfSum, OfNegated, OfBits, Gate, Add, Sub, Xor, Mul, And, Refresh, Scale}
use Rattle.gates.specs.Gates.{MulKnown, AndKnown, Plus, Up, Bit, Const, Public, Deal, DealBits}
use Rattle.tables.specs.Table.{Row}
use Rattle.curves.specs.Curve.{slope_after, coefficient}

-- the temporaries
abbrev pub n_slot : ℕ
n_slot = 16

abbrev pub p_slot : ℕ
p_slot = 17

abbrev pub g_slot : ℕ
g_slot = 18

abbrev pub s_slot : ℕ
s_slot = 19

abbrev pub t_slot : ℕ
t_slot = 20

abbrev pub y_slot : ℕ
y_slot = 21

abbrev pub acc_slot : ℕ
acc_slot = 22

abbrev pub res_slot : ℕ
res_slot = 23

-- one product of the adder, with its shift: "G becomes G xor (P and (G shifted up)), then P becomes P and
-- (P shifted up)"
unfoldable pub update_gates : Update → List Gate → List Gate
update_gates (generate D) rest = Up s_slot g_slot D ∷ And t_slot p_slot s_slot ∷ Xor g_slot g_slot t_slot ∷ rest
update_gates (propagate D) rest = Up s_slot p_slot D ∷ And p_slot p_slot s_slot ∷ rest

unfoldable pub rounds : List Update → List Gate
rounds [] = []
rounds (u ∷ us) = update_gates u (rounds us)

-- "The adder deals n as bits, takes m as known bits, P = m xor n, G = m and n"; the top bit of m xor n is kept in n's
-- slot, for the sign. R-4: G is "a product with a known value"
unfoldable pub adder : (w x : ℕ) → List Gate
adder w x =
    DealBits n_slot x ∷ Public p_slot x (Field 0 w) ∷ AndKnown g_slot p_slot n_slot
    ∷ Xor p_slot p_slot n_slot ∷ Bit n_slot p_slot (w - 1)
    ∷ rounds (updates (distances w))

-- "A bit q = mq xor Lq becomes a number: deal Lq, known mq, one product, mq + Lq - 2 × mq × Lq": the bit in slot t;
-- R-4: the product is with a known value
unfoldable pub to_number : (w : ℕ) → List Gate
to_number w =
    Deal s_slot t_slot OfBits ∷ Public p_slot t_slot (Field 0 w) ∷ MulKnown t_slot p_slot s_slot
    ∷ Scale t_slot t_slot 2
    ∷ Add p_slot p_slot s_slot ∷ Sub t_slot p_slot t_slot ∷ []

-- "Sign s: bit 31 of (m xor n), xor bit 30 of G", made a number in slot t
unfoldable pub sign_program : (w x : ℕ) → List Gate
sign_program w x = adder w x ++ (Bit t_slot g_slot (w - 2) ∷ Xor t_slot t_slot n_slot ∷ to_number w)

-- kind 9: "sign to number, then product of x with 1 - s"
unfoldable pub relu_program : (w x d : ℕ) → List Gate
relu_program w x d = sign_program w x ++ (Const s_slot 1 ∷ Sub s_slot s_slot t_slot ∷ Mul d x s_slot ∷ [])

-- kind 6
unfoldable pub slack_program : (k x d : ℕ) → List Gate
slack_program k x d =
    Deal n_slot x (OfNegated (Signed k)) ∷ Public p_slot x (Signed k) ∷ Add d n_slot p_slot ∷ []

-- kind 7: "c' - r' + b × 2^(31-k) - 2^(30-k)"; R-4: b's product is with a known value, bit 31 of m
unfoldable pub one_bit_program : (w k x d : ℕ) → List Gate
one_bit_program w k x d =
    Plus y_slot x (2 ^ (w - 2)) ∷ Deal n_slot y_slot (OfSum (Field k (w - 1 - k)))
    ∷ Deal p_slot y_slot (OfSum (Field (w - 1) 1))
    ∷ Public g_slot y_slot (Field k (w - 1 - k)) ∷ Public s_slot y_slot (Field (w - 1) 1)
    ∷ MulKnown t_slot s_slot p_slot ∷ Scale t_slot t_slot 2
    ∷ Add p_slot s_slot p_slot ∷ Sub p_slot p_slot t_slot ∷ Scale p_slot p_slot (2 ^ (w - 1 - k))
    ∷ Sub g_slot g_slot n_slot
    ∷ Add g_slot g_slot p_slot ∷ Plus d g_slot (neg w (2 ^ (w - 2 - k))) ∷ []

-- kind 8: "sum + b1 - b2 × 2^(32-k) - 2^(31-k)"
unfoldable pub exact_program : (w k x d : ℕ) → List Gate
exact_program w k x d =
    (Plus y_slot x (2 ^ (w - 1)) ∷ Deal res_slot y_slot (OfNegated (Field k w)) ∷ Public t_slot y_slot (Field k w)
    ∷ Add res_slot res_slot t_slot ∷ adder w y_slot)
    ++ (Bit t_slot g_slot (k - 1) ∷ to_number w)
    ++ (Add res_slot res_slot t_slot ∷ Bit t_slot g_slot (w - 1) ∷ to_number w)
    ++ (Scale t_slot t_slot (2 ^ (w - k) % 2 ^ w) ∷ Sub res_slot res_slot t_slot
    ∷ Plus d res_slot (neg w (2 ^ (w - 1 - k))) ∷ [])

-- the ReLU of x - r, times the change of slope at r, added to the sum
unfoldable pub row_program : (w x r coefficient : ℕ) → List Gate
row_program w x r k =
    (Plus y_slot x (neg w r) ∷ relu_program w y_slot res_slot)
    ++ (Scale res_slot res_slot k ∷ Add acc_slot acc_slot res_slot ∷ [])

-- "Each row's ReLU runs in row order"
unfoldable pub rows_program : (w x : ℕ) (before : ℤ) → List Row → List Gate
rows_program w x s [] = []
rows_program w x s (p ∷ ps) = row_program w x p.r (coefficient w s p ps) ++ rows_program w x (slope_after p ps) ps

unfoldable pub sum_program : (w x : ℕ) → List Row → List Gate
sum_program w x [] = Const acc_slot 0 ∷ []
sum_program w x (p ∷ ps) = Const acc_slot (4096 * p.c % 2 ^ w) ∷ rows_program w x (pos 0) (p ∷ ps)

-- the sum truncated, in its own slot: "then kind 8 with k = 12, or kind 5 and kind 7 with k = 12"
unfoldable pub truncation : (w mode : ℕ) → List Gate
truncation w zero = exact_program w 12 acc_slot acc_slot
truncation w (suc m) = Refresh acc_slot acc_slot ∷ one_bit_program w 12 acc_slot acc_slot

-- R-1: "(last r - x)", in slot y
unfoldable pub saturation_head : (last_r x : ℕ) → List Gate
saturation_head r x = Const y_slot r ∷ Sub y_slot y_slot x ∷ []

-- "subtracts the product of a with the value plus 1": a stays in slot t, and the last gate alone writes the target
unfoldable pub saturation_end : (d : ℕ) → List Gate
saturation_end d = Plus res_slot acc_slot 1 ∷ Mul res_slot t_slot res_slot ∷ Sub d acc_slot res_slot ∷ []

-- "After the truncation it takes the sign of (last r - x), makes it a number a, and subtracts .."
unfoldable pub saturation : (w last_r x d : ℕ) → List Gate
saturation w r x d = saturation_head r x ++ (sign_program w y_slot ++ saturation_end d)
