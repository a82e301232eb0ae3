-- The word that each order opens, from what its sources opened just before it and, for kinds 6, 7 and 10, the masks.
-- Assumes nothing.
use Rattle.std.specs.Prelude.{List, [], ◌∷◌, ℕ, zero, suc, get_or}
use Rattle.words.specs.Words.{add, sub, mul}
use Rattle.words.specs.Signed.{shr_signed}
use Rattle.truncations.specs.Truncation.{large_slack, one_bit}
use Rattle.tables.specs.Table.{Row}
use Rattle.curves.specs.Curve.{last_count, relu_word, word_curve, above_last, saturated}
use Rattle.programs.specs.declared.Order.{Order}

-- "then kind 8 with k = 12, or kind 5 and kind 7 with k = 12": the sum v, truncated exactly, or by one bit with the
-- refresh's mask R
unfoldable pub truncated : (w mode v R : ℕ) → ℕ
truncated w zero v R = shr_signed w 12 v
truncated w (suc m) v R = one_bit w 12 (add w v R) R

-- the curve of x: the sum of words, truncated, and R-1's last steps
unfoldable pub curve_value : (w : ℕ) → List Row → (mode x R : ℕ) → ℕ
curve_value w ps mode x R =
    saturated w (above_last w (last_count ps) x) (truncated w mode (word_curve w ps x) R)

-- each kind's, in the kinds' order, with fourth word c: x and y are what the first and the second source opened, L is
-- the mask of the first (m = x + L)
unfoldable pub values : (w : ℕ) → List Row → (c x y L R : ℕ) → List ℕ
values w ps c x y L R =
    add w x y ∷ sub w x y ∷ add w x c ∷ mul w x c ∷ mul w x y ∷ x
    ∷ large_slack w c (add w x L) L ∷ one_bit w c (add w x L) L ∷ shr_signed w c x ∷ relu_word w x
    ∷ curve_value w ps c x R ∷ []

unfoldable pub order_value : (w : ℕ) → List Row → Order → (x y L R : ℕ) → ℕ
order_value w ps o x y L R = get_or (values w ps o.fourth x y L R) o.kind 0
