-- Document 01, "The curve", and R-1: the scaled sum Y and the exact line C on whole numbers, where nothing wraps; the
-- sum that the hosts form of words, and what they give above the last row. Assumes nothing.
use Rattle.std.specs.Prelude.{cond, List, [], ◌∷◌, ℕ, ◌-◌, ◌*◌, ◌<◌, ℤ, pos, negsuc, ◌+ℤ◌, ◌-ℤ◌, ◌*ℤ◌, ◌<ℤ◌}
use Rattle.std.proofs.Math.IntN.{sub_ℕ}
use Rattle.std.specs.Int.Signed.{le_z, lt_z}
use Rattle.words.specs.Words.{add, sub, mul}
use Rattle.words.specs.Signed.{signed, wrap}
use Rattle.tables.specs.Table.{Row, slope}

-- "ReLU is the larger of its number and 0"
unfoldable pub relu : ℤ → ℤ
relu (pos n) = pos n
relu (negsuc n) = pos 0

-- "sum over segments of S × (ReLU(x - r) - ReLU(x - next r))"
unfoldable pub segments : List Row → ℤ → ℤ
segments [] x = pos 0
segments (p ∷ []) x = pos 0
segments (p ∷ q ∷ ps) x =
    slope p q *ℤ (relu (x -ℤ pos p.r) -ℤ relu (x -ℤ pos q.r)) +ℤ segments (q ∷ ps) x

-- "Y = 4096 × first c + sum over segments"
unfoldable pub scaled : List Row → ℤ → ℤ
scaled [] x = pos 0
scaled (p ∷ ps) x = pos (4096 * p.c) +ℤ segments (p ∷ ps) x

-- a quotient of whole numbers
pub record Quotient : Type 0 where
  pub numerator : ℤ
  pub denominator : ℕ

abbrev pub whole : ℕ → Quotient
whole n = record { numerator = pos n; denominator = 1 }

-- "between two rows c + (next c - c) × (x - r) / (next r - r)"
abbrev pub between : Row → Row → ℤ → Quotient
between p q x =
    record {
      numerator = pos (p.c * (q.r - p.r)) +ℤ sub_ℕ q.c p.c *ℤ (x -ℤ pos p.r);
      denominator = q.r - p.r;
    }

-- the line from a row on, for x above it
unfoldable pub line_from : List Row → ℤ → Quotient
line_from [] x = whole 0
line_from (p ∷ []) x = whole p.c
line_from (p ∷ q ∷ ps) x = cond (lt_z x (pos q.r)) (between p q x) (line_from (q ∷ ps) x)

-- C: "the first c for x up to the first r, the last c from the last r on", and the line between
unfoldable pub line : List Row → ℤ → Quotient
line [] x = whole 0
line (p ∷ ps) x = cond (le_z x (pos p.r)) (whole p.c) (line_from (p ∷ ps) x)

-- "the value is above C - 2 and below C + 1" (demand 3), each side times C's denominator, which is above 0
pub record Near (C : Quotient) (v : ℤ) : Type 0 where
  pub positive : 0 < C.denominator
  pub above : (C.numerator -ℤ pos (2 * C.denominator)) <ℤ (v *ℤ pos C.denominator)
  pub below : (v *ℤ pos C.denominator) <ℤ (C.numerator +ℤ pos C.denominator)

-- the last row's count
unfoldable pub last_count : List Row → ℕ
last_count [] = 0
last_count (p ∷ []) = p.r
last_count (p ∷ q ∷ ps) = last_count (q ∷ ps)

-- ---- the same sum, of words and row by row: each row's ReLU times the change of slope there, 0 before the first row
-- and after the last

-- the slope after a row
unfoldable pub slope_after : Row → List Row → ℤ
slope_after p [] = pos 0
slope_after p (q ∷ ps) = slope p q

-- what a row's ReLU is multiplied by
unfoldable pub coefficient : (w : ℕ) (before : ℤ) → Row → List Row → ℕ
coefficient w s p ps = wrap w (slope_after p ps -ℤ s)

-- the ReLU of a word
unfoldable pub relu_word : ℕ → ℕ → ℕ
relu_word w x = wrap w (relu (signed w x))

unfoldable pub word_sum : (w : ℕ) (before : ℤ) → List Row → (x sum : ℕ) → ℕ
word_sum w s [] x sum = sum
word_sum w s (p ∷ ps) x sum = word_sum w (slope_after p ps) ps x
    (add w sum (mul w (relu_word w (sub w x p.r)) (coefficient w s p ps)))

-- the sum that the hosts form of x, modulo 2^w
unfoldable pub word_curve : ℕ → List Row → ℕ → ℕ
word_curve w [] x = 0
word_curve w (p ∷ ps) x = word_sum w (pos 0) (p ∷ ps) x (4096 * p.c)

-- ---- R-1: what a curve gives above the last row

-- a: "takes the sign of (last r - x), makes it a number": 1 where that word reads negative, and else 0
unfoldable pub above_last : (w last_r x : ℕ) → ℕ
above_last w r x = cond (lt_z (signed w (sub w r x)) (pos 0)) 1 0

-- "and subtracts the product of a with the value plus 1"
unfoldable pub saturated : (w a value : ℕ) → ℕ
saturated w a v = sub w v (mul w a (add w v 1))

-- ---- document 01's own sum of words, segment by segment: for every x, in range or not, and any rows

-- "sum over segments of S × (ReLU(x - r) - ReLU(x - next r))", each operation modulo 2^w
unfoldable pub word_segments : (w : ℕ) → List Row → (x : ℕ) → ℕ
word_segments w [] x = 0
word_segments w (p ∷ []) x = 0
word_segments w (p ∷ q ∷ ps) x =
    add w (mul w (wrap w (slope p q)) (sub w (relu_word w (sub w x p.r)) (relu_word w (sub w x q.r))))
    (word_segments w (q ∷ ps) x)

-- "4096 × first c + sum over segments"
unfoldable pub word_scaled : (w : ℕ) → List Row → (x : ℕ) → ℕ
word_scaled w [] x = 0
word_scaled w (p ∷ ps) x = add w (mul w 4096 p.c) (word_segments w (p ∷ ps) x)
