-- The sum that the hosts form of words, row by row, is document 01's sum over segments of words: at every width, for every x and whatever
-- the rows.
-- By summation by parts on words, where nothing is asked of what wraps. Assumes nothing.
use mathlib.Core.Path.{◌≡◌, refl, sym, ap, ◌∙◌}
use mathlib.Core.List.{List, [], ◌∷◌}
use Prim.Native.Nat.{ℕ, ◌*◌, ◌%◌, ◌^◌, ◌<◌}
use native.Mathlib.Nat.{mod-add-mod}
use lib.IntN.{ℤ, pos, ◌-ℤ◌}
use lib.Pow.{pow_pos}
use Rattle.words.specs.Words.{add, sub, mul, numbers}
use Rattle.words.specs.Signed.{wrap}
use Rattle.words.proofs.Solver.{◌⊕◌, ◌⊖◌, ◌⊗◌, `0}
use Rattle.words.proofs.Below.{number_carrier, solve_below}
use Rattle.words.proofs.Words.{add_lt, mul_lt}
use Rattle.words.proofs.Signed.{wrap_lt}
use Rattle.tables.specs.Table.{Row, slope}
use Rattle.curves.specs.Curve.{slope_after, coefficient, relu_word, word_sum, word_curve, word_segments, word_scaled}
use Rattle.curves.proofs.Wrapping.{wrap_minus, nothing}

module _ (w x : ℕ) where
  -- a row's ReLU
  abbrev at_row : Row → ℕ
  at_row p = relu_word w (sub w x p.r)

  relu_lt : (p : Row) → at_row p < 2 ^ w
  unfolding relu_word
  relu_lt p = wrap_lt w _

  segments_lt : (ps : List Row) → word_segments w ps x < 2 ^ w
  unfolding word_segments
  segments_lt [] = pow_pos w
  segments_lt (p ∷ []) = pow_pos w
  segments_lt (p ∷ q ∷ ps) = add_lt w _ _

  by_parts : (s : ℤ) (p : Row) (ps : List Row) (n : ℕ) → n < 2 ^ w
      → word_sum w s (p ∷ ps) x n ≡ add w (sub w n (mul w (wrap w s) (at_row p))) (word_segments w (p ∷ ps) x)
  unfolding word_sum word_segments slope_after coefficient
  by_parts s p [] n h =
      ap (λ (c : ℕ). add w n (mul w (at_row p) c)) (wrap_minus w (pos 0) s ∙ ap (λ (z : ℕ). sub w z (wrap w s)) (nothing w))
      ∙ solve_below w (numbers w) (number_carrier w) 3 (λ n a s. (n ⊕ a ⊗ (`0 ⊖ s), n ⊖ s ⊗ a ⊕ `0)) refl n h (at_row p) (relu_lt p)
      (wrap w s) (wrap_lt w s)
  by_parts s p (q ∷ ps) n h =
      let t : ℤ = slope p q in
      by_parts t q ps (add w n (mul w (at_row p) (wrap w (t -ℤ s)))) (add_lt w n _)
      ∙ ap (λ (c : ℕ). add w (sub w (add w n (mul w (at_row p) c)) (mul w (wrap w t) (at_row q))) (word_segments w (q ∷ ps) x))
      (wrap_minus w t s)
      ∙ solve_below w (numbers w) (number_carrier w) 6 (λ n s t a b g. (n ⊕ a ⊗ (t ⊖ s) ⊖ t ⊗ b ⊕ g, n ⊖ s ⊗ a ⊕ (t ⊗ (a ⊖ b) ⊕ g))) refl
      n h (wrap w s) (wrap_lt w s) (wrap w t) (wrap_lt w t) (at_row p) (relu_lt p) (at_row q) (relu_lt q) (word_segments w (q ∷ ps) x)
      (segments_lt (q ∷ ps))

  -- the first sum may be a number above the words
  first_mod : (s : ℤ) (p : Row) (ps : List Row) (n : ℕ) → word_sum w s (p ∷ ps) x n ≡ word_sum w s (p ∷ ps) x (n % 2 ^ w)
  unfolding word_sum add
  first_mod s p ps n = ap (word_sum w (slope_after p ps) ps x) (sym (mod-add-mod n (2 ^ w) _))

-- the two sums are the same word: no rule of the table, no range of x and no width is asked for
pub same_sum : (w : ℕ) (ps : List Row) (x : ℕ) → word_curve w ps x ≡ word_scaled w ps x
unfolding word_curve word_scaled mul
same_sum w [] x = refl
same_sum w (p ∷ ps) x =
    let n : ℕ = mul w 4096 p.c in
    first_mod w x (pos 0) p ps (4096 * p.c) ∙ by_parts w x (pos 0) p ps n (mul_lt w 4096 p.c)
    ∙ ap (λ (z : ℕ). add w (sub w n (mul w z (at_row w x p))) (word_segments w (p ∷ ps) x)) (nothing w)
    ∙ solve_below w (numbers w) (number_carrier w) 3 (λ n a g. (n ⊖ `0 ⊗ a ⊕ g, n ⊕ g)) refl n (mul_lt w 4096 p.c) (at_row w x p)
    (relu_lt w x p)
    (word_segments w (p ∷ ps) x) (segments_lt w x (p ∷ ps))

-- and it is a word
pub scaled_lt : (w : ℕ) (ps : List Row) (x : ℕ) → word_scaled w ps x < 2 ^ w
unfolding word_scaled
scaled_lt w [] x = pow_pos w
scaled_lt w (p ∷ ps) x = add_lt w _ _
