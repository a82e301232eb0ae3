-- The sum of words, row by row, reads as Y: by summation by parts on whole numbers, and then word by word. Assumes nothing.
use mathlib.Core.Path.{◌≡◌, refl, sym, ap, ap₂, ◌∙◌}
use mathlib.Core.List.{List, [], ◌∷◌}
use Prim.Native.Nat.{ℕ, suc, ◌+◌, ◌-◌, ◌*◌, ◌^◌, ◌≤◌, ◌<◌}
use native.Mathlib.Nat.{mod-eq_of_lt, lt_of_lt_of_le}
use native.Mathlib.Omega.{arith}
use lib.Dec.{T}
use lib.IntN.{ℤ, pos, ◌+ℤ◌, ◌-ℤ◌, ◌*ℤ◌}
use lib.Signed.{mag}
use lib.Pow.{pow_mono}
use Rattle.words.specs.Words.{add, sub, mul}
use Rattle.words.specs.Signed.{signed, wrap, in_range}
use Rattle.words.proofs.Solver.{◌⊕◌, ◌⊖◌, ◌⊗◌, `0, solve}
use Rattle.words.proofs.Signed.{wrap_signed, signed_wrap, in_range_mag, halves}
use Rattle.tables.specs.Table.{Row, rows, keeps_rules, slope}
use Rattle.curves.specs.Curve.{relu, segments, scaled, last_count, slope_after, coefficient, relu_word, word_sum, word_curve}
use Rattle.curves.proofs.Integers.{integers, integer_ring}
use Rattle.curves.proofs.Wrapping.{wrap_add, wrap_minus, wrap_mul, mag_minus}
use Rattle.tables.proofs.Rows.{Fits, Rising, head_fits, for_table}
use Rattle.curves.proofs.Scaled.{last_above, last_at_most}
use Rattle.curves.proofs.Curve.{scaled_mag}

-- the word x of z, where z - r is in range for every row
module _ (w x : ℕ) (z : ℤ) (o : 28 ≤ w) (is : x ≡ wrap w z) where
  relu_at : (r : ℕ) → r ≤ 4095 → mag (z -ℤ pos r) < 2 ^ (w - 1) → relu_word w (sub w x r) ≡ wrap w (relu (z -ℤ pos r))
  unfolding relu_word wrap
  relu_at r h m =
      let small : r < 2 ^ w = omega (arith, pow_mono o) in
      let e : sub w x r ≡ wrap w (z -ℤ pos r) = sym (wrap_minus w z (pos r) ∙ ap₂ (sub w) (sym is) (mod-eq_of_lt small)) in
      ap (λ (y : ℕ). wrap w (relu (signed w y))) e ∙ ap (λ (y : ℤ). wrap w (relu y)) (signed_wrap w (z -ℤ pos r) (omega arith) m)

  -- one row's part
  row_part : (s : ℤ) (p : Row) (ps : List Row) → Fits p → mag (z -ℤ pos p.r) < 2 ^ (w - 1) → (y : ℤ)
      → add w (wrap w y) (mul w (relu_word w (sub w x p.r)) (coefficient w s p ps))
      ≡ wrap w (y +ℤ relu (z -ℤ pos p.r) *ℤ (slope_after p ps -ℤ s))
  unfolding coefficient
  row_part s p ps h m y =
      ap (λ (n : ℕ). add w (wrap w y) (mul w n (wrap w (slope_after p ps -ℤ s)))) (relu_at p.r h.0 m)
      ∙ ap (add w (wrap w y)) (sym (wrap_mul w (relu (z -ℤ pos p.r)) (slope_after p ps -ℤ s)))
      ∙ sym (wrap_add w y (relu (z -ℤ pos p.r) *ℤ (slope_after p ps -ℤ s)))

  by_parts : (s : ℤ) (p : Row) (ps : List Row) → Rising p ps → ((r : ℕ) → r ≤ last_count (p ∷ ps) → mag (z -ℤ pos r) < 2 ^ (w - 1))
      → (y : ℤ)
      → word_sum w s (p ∷ ps) x (wrap w y) ≡ wrap w (y -ℤ s *ℤ relu (z -ℤ pos p.r) +ℤ segments (p ∷ ps) z)
  unfolding word_sum segments last_count slope_after
  by_parts s p [] h m y =
      row_part s p [] h (m p.r (last_above p [] h)) y
      ∙ ap (wrap w) (solve integers integer_ring 3 (λ y s a. (y ⊕ a ⊗ (`0 ⊖ s), y ⊖ s ⊗ a ⊕ `0)) refl y s (relu (z -ℤ pos p.r)))
  by_parts s p (q ∷ ps) h m y =
      let a : ℤ = relu (z -ℤ pos p.r) in
      let b : ℤ = relu (z -ℤ pos q.r) in
      ap (word_sum w (slope p q) (q ∷ ps) x) (row_part s p (q ∷ ps) h.0 (m p.r (last_above p (q ∷ ps) h)) y)
      ∙ by_parts (slope p q) q ps h.2 m (y +ℤ a *ℤ (slope p q -ℤ s))
      ∙ ap (wrap w)
      (solve integers integer_ring 6 (λ y s t a b g. (y ⊕ a ⊗ (t ⊖ s) ⊖ t ⊗ b ⊕ g, y ⊖ s ⊗ a ⊕ (t ⊗ (a ⊖ b) ⊕ g))) refl y s (slope p q) a b
      (segments (q ∷ ps) z))

  word_of_scaled : (p : Row) (ps : List Row) → Rising p ps → ((r : ℕ) → r ≤ last_count (p ∷ ps) → mag (z -ℤ pos r) < 2 ^ (w - 1))
      → word_curve w (p ∷ ps) x ≡ wrap w (scaled (p ∷ ps) z)
  unfolding word_curve scaled wrap
  word_of_scaled p ps h m =
      let f : Fits p = head_fits p ps h in
      let small : 4096 * p.c < 2 ^ w = omega (arith, pow_mono o) in
      ap (word_sum w (pos 0) (p ∷ ps) x) (sym (mod-eq_of_lt small)) ∙ by_parts (pos 0) p ps h m (pos (4096 * p.c))
      ∙ ap (wrap w) (solve integers integer_ring 3 (λ y a g. (y ⊖ `0 ⊗ a ⊕ g, y ⊕ g)) refl (pos (4096 * p.c)) (relu (z -ℤ pos p.r))
      (segments (p ∷ ps) z))

module _ (w : ℕ) (o : 28 ≤ w) (ws : List ℕ) (keeps : T (keeps_rules ws)) (x : ℕ) where
  reads : ((r : ℕ) → r ≤ last_count (rows ws) → mag (signed w x -ℤ pos r) < 2 ^ (w - 1)) → x < 2 ^ w
      → (word_curve w (rows ws) x ≡ wrap w (scaled (rows ws) (signed w x)))
      × (signed w (word_curve w (rows ws) x) ≡ scaled (rows ws) (signed w x))
  reads m h = (
    e,
    ap (signed w) e ∙ signed_wrap w Y (omega arith)
        (lt_of_lt_of_le (scaled_mag ws keeps (signed w x)) (pow_mono {i = 27} {j = w - 1} (omega arith))),
  )
    where
      Y : ℤ
      Y = scaled (rows ws) (signed w x)

      e : word_curve w (rows ws) x ≡ wrap w Y
      e =
          for_table (λ ps. ((r : ℕ) → r ≤ last_count ps → mag (signed w x -ℤ pos r) < 2 ^ (w - 1))
          → word_curve w ps x ≡ wrap w (scaled ps (signed w x)))
          (word_of_scaled w x (signed w x) o (sym (wrap_signed w x h))) ws keeps m

  -- for a word in range, which is far from wrapping at any row
  pub in_range_far : T (in_range w (signed w x)) → (r : ℕ) → r ≤ last_count (rows ws) → r + suc (mag (signed w x)) < 2 ^ (w - 1)
  in_range_far t r l =
      let e : w - 1 - 1 ≡ w - 2 = omega arith in
      let q : 2 ^ (w - 1) ≡ 2 ^ (w - 2) + 2 ^ (w - 2) = rw e at (halves (w - 1) (omega arith)) in
      let g : 2 ^ 26 ≤ 2 ^ (w - 2) = pow_mono {i = 26} {j = w - 2} (omega arith) in
      omega (arith, in_range_mag w (signed w x) t, last_at_most ws keeps)

  in_range_rows : T (in_range w (signed w x)) → (r : ℕ) → r ≤ last_count (rows ws) → mag (signed w x -ℤ pos r) < 2 ^ (w - 1)
  in_range_rows t r l = omega (arith, mag_minus (signed w x) r, in_range_far t r l)

  pub in_range_reads : x < 2 ^ w → T (in_range w (signed w x)) → signed w (word_curve w (rows ws) x) ≡ scaled (rows ws) (signed w x)
  in_range_reads h t = (reads (in_range_rows t) h).1
