-- How many numbers pass a test. Assumes nothing.
use Rattle.std.specs.Prelude.{Bool, cond, ℕ, zero, suc, ◌+◌}

-- of the numbers below n, those that pass ("Over the 2^32 values of that refresh's list A word .. exactly ..",
-- demand 3)
unfoldable pub count : ℕ → (ℕ → Bool) → ℕ
count zero f = 0
count (suc n) f = count n f + cond (f n) 1 0
