-- Whole numbers and words: a word's signed reading, the word of a number, and floors. Assumes nothing.
use Rattle.std.specs.Prelude.{ℕ, suc, ◌-◌, ◌/◌, ◌%◌, ◌^◌, Bool, cond, ◌&&◌, ℤ}
use Rattle.std.specs.Prelude.{pos, negsuc, neg_ℤ, int_le, int_lt, nat_lt}
use Rattle.std.proofs.Math.IntN.{sub_ℕ}

-- floor(z / m): "floor goes towards minus infinity" (`negsuc n` is -(n + 1))
unfoldable pub floor : ℤ → ℕ → ℤ
floor (pos n) m = pos (n / m)
floor (negsuc n) m = negsuc (n / m)

-- "A word's signed reading runs from -2^31 to 2^31 - 1": x, or x - 2^w from 2^(w-1) on
unfoldable pub signed : ℕ → ℕ → ℤ
signed w x = cond (nat_lt x (2 ^ (w - 1))) (pos x) (sub_ℕ x (2 ^ w))

-- the word that is z modulo 2^w
unfoldable pub wrap : ℕ → ℤ → ℕ
wrap w (pos n) = n % 2 ^ w
wrap w (negsuc n) = 2 ^ w - suc (n % 2 ^ w)

-- floor(signed(x) / 2^k), as a word again
unfoldable pub shr_signed : ℕ → ℕ → ℕ → ℕ
shr_signed w k x = wrap w (floor (signed w x) (2 ^ k))

-- z is "from -2^30 to 2^30 - 1" (condition 11; kinds 7 and 10)
unfoldable pub in_range : ℕ → ℤ → Bool
in_range w z = int_le (neg_ℤ (pos (2 ^ (w - 2)))) z && int_lt z (pos (2 ^ (w - 2)))
