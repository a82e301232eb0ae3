-- Document 01, "Adder, bits and sign": the prefix adder on two words m and n, bit by bit. Assumes nothing.
use Rattle.std.specs.Prelude.{cond, List, [], ◌∷◌, ℕ, zero, suc, ◌+◌, ◌-◌, ◌/◌, ◌%◌, ◌^◌, ltb, length}
use Rattle.std.specs.Int.Bits.{bit_and, bit_xor}
use Rattle.words.specs.Words.{bit, shl}

-- the carry into bit k of m + n, which is the carry out of bit k - 1
unfoldable pub carry : ℕ → ℕ → ℕ → ℕ
carry m n k = (m % 2 ^ k + n % 2 ^ k) / 2 ^ k

-- one product of the adder, at a distance: "G becomes G xor (P and (G shifted up)), then P becomes P and
-- (P shifted up)"
pub data Update : Type 0 where
  generate propagate : (distance : ℕ) → Update

-- on the pair of G and P
unfoldable pub update : ℕ → Update → ℕ × ℕ → ℕ × ℕ
update w (generate d) s = (bit_xor s.0 (bit_and s.1 (shl w d s.0)), s.1)
update w (propagate d) s = (s.0, bit_and s.1 (shl w d s.1))

-- d, 2d, 4d, .. as far as they are below w
unfoldable pub doubled : (most d w : ℕ) → List ℕ
doubled zero d w = []
doubled (suc n) d w = cond (ltb d w) (d ∷ doubled n (d + d) w) []

-- "For distances 1, 2, 4, 8, 16"
unfoldable pub distances : ℕ → List ℕ
distances w = doubled w 1 w

-- both updates of a distance "from the old values", so G first; "P is omitted" at the last distance
unfoldable pub updates : List ℕ → List Update
updates [] = []
updates (d ∷ []) = generate d ∷ []
updates (d ∷ e ∷ ds) = generate d ∷ propagate d ∷ updates (e ∷ ds)

unfoldable pub run : ℕ → List Update → ℕ × ℕ → ℕ × ℕ
run w [] s = s
run w (u ∷ us) s = run w us (update w u s)

-- "P = m xor n, G = m and n", and then the last G
unfoldable pub carries : ℕ → ℕ → ℕ → ℕ
carries w m n = (run w (updates (distances w)) (bit_and m n, bit_xor m n)).0

-- G = m and n is a product, and so is every update
unfoldable pub products : ℕ → ℕ
products w = suc (length (updates (distances w)))

-- "Sign s: bit 31 of (m xor n), xor bit 30 of G"
unfoldable pub sign : ℕ → ℕ → ℕ → ℕ
sign w m n = bit_xor (bit (bit_xor m n) (w - 1)) (bit (carries w m n) (w - 2))
