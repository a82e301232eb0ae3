-- A test of the n numbers q, q + 1, .., q + n - 1: whether it holds of each, of some, of how many, of which first, and
-- its outcomes as bits. Assumes nothing.
use Rattle.std.specs.Prelude.{Bool, true, false, ◌&&◌, ◌||◌, cond, ℕ, zero, suc, ◌+◌, ◌*◌}

-- of each of them
unfoldable pub every : (f : ℕ → Bool) (q n : ℕ) → Bool
every f q zero = true
every f q (suc n) = f q && every f (suc q) n

-- of at least one of them
unfoldable pub some : (f : ℕ → Bool) (q n : ℕ) → Bool
some f q zero = false
some f q (suc n) = f q || some f (suc q) n

abbrev pub digit : Bool → ℕ
digit b = cond b 1 0

-- of how many of them
unfoldable pub number : (f : ℕ → Bool) (q n : ℕ) → ℕ
number f q zero = 0
number f q (suc n) = digit (f q) + number f (suc q) n

-- the first of them that it holds of, or the number behind them
unfoldable pub next : (f : ℕ → Bool) (q n : ℕ) → ℕ
next f q zero = q
next f q (suc n) = cond (f q) q (next f (suc q) n)

-- bit i is 1 where it holds of q + i
unfoldable pub packed : (f : ℕ → Bool) (q n : ℕ) → ℕ
packed f q zero = 0
packed f q (suc n) = digit (f q) + 2 * packed f (suc q) n
