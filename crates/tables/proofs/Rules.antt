-- A table's rules, word by word. Assumes nothing.
use mathlib.Core.Path.{◌≡◌, refl, sym, ◌∙◌}
use mathlib.Core.Logic.{◌↔◌}
use mathlib.Core.Bool.{Bool, true, false, ◌&&◌, cond}
use mathlib.Core.List.{List, [], ◌∷◌}
use Prim.Native.Nat.{ℕ, zero, suc, ◌+◌, ◌*◌, ◌/◌, ◌%◌, ◌≤◌, ◌<◌}
use native.Mathlib.Omega.{arith}
use borrow.Author.Tests.{ltb-true, ltb-false, le-leb, eqb-true, eqb-false, leb-true}
use lib.Dec.{eqb, leb, ltb}
use lib.ListN.{length, get_or}
use Rattle.std.specs.List.{IsAllAdjacentAnswer}
use Rattle.std.specs.Simd.{first_chunks}
use Rattle.tables.specs.Table.{row_of, row_at, rows, paired, rises, keeps_rules}

-- ---- `counts_rise`

pub rise_answer : (rs : List (List ℕ)) (b : Bool) → IsAllAdjacentAnswer (λ x y r. r ≡ ltb (get_or x 0 0) (get_or y 0 0)) rs b
    → (b ≡ true) ↔ ((k : ℕ) → k + 1 < length rs → (row_of rs k).r < (row_of rs (k + 1)).r)
rise_answer rs true h = (λ _ k l. ltb-true _ _ (sym (h k [] l)), λ _. refl)
rise_answer rs false h =
    (λ x. cc, λ all. let below = all h.0 h.1 in let above = ltb-false _ _ (sym (h.2 [])) in absurd (omega arith))

-- ---- `keeps_rules`

-- nothing is over, or something, by whether the part behind the rows is empty
pub none_over : {m n : ℕ} {b : Bool} → b ≡ eqb n 0 → b ≡ true → n ≡ m → m ≡ 0
none_over p e l = sym l ∙ eqb-true _ _ (sym p ∙ e)

pub some_over : {m n : ℕ} {b : Bool} → b ≡ eqb n 0 → b ≡ false → n ≡ m → m ≡ 0 → ⊥
some_over p e l z = eqb-false _ _ (sym p ∙ e) (l ∙ z)

pub counted : (n : ℕ) {b : Bool} → b ≡ (leb 2 n && leb n 16) → b ≡ true → (2 ≤ n) × (n ≤ 16)
counted n p e = go (leb 2 n) (leb n 16) refl refl (sym p ∙ e)
  where
    go : (x y : Bool) → leb 2 n ≡ x → leb n 16 ≡ y → (x && y) ≡ true → (2 ≤ n) × (n ≤ 16)
    go true true d f g = (leb-true _ _ d, leb-true _ _ f)
    go true false d f g = cc
    go false true d f g = cc
    go false false d f g = cc

-- two words to a row, and one over where they are not paired
pub words_of_rows : (ws : List ℕ) → length ws ≡ 2 * length (rows ws) + cond (paired ws) 0 1
unfolding rows paired
words_of_rows [] = refl
words_of_rows (r ∷ []) = refl
words_of_rows (r ∷ c ∷ ws) = omega (arith, words_of_rows ws)

module _ (ws : List ℕ) where
  pub odd_words : (length ws % 2 ≡ 0 → ⊥) → false ≡ keeps_rules ws
  unfolding keeps_rules
  odd_words h = go (paired ws) refl
    where
      go : (b : Bool) → paired ws ≡ b → false ≡ keeps_rules ws
      go true e = let f : length ws ≡ 2 * length (rows ws) + 0 = rw e at (words_of_rows ws) in absurd (h (omega arith))
      go false e = rw e

  module _ (even : length ws % 2 ≡ 0) where
    all_paired : (paired ws ≡ true) × (length ws ≡ 2 * length (rows ws))
    all_paired = go (paired ws) refl
      where
        go : (b : Bool) → paired ws ≡ b → (paired ws ≡ true) × (length ws ≡ 2 * length (rows ws))
        go true e = (e, let f : length ws ≡ 2 * length (rows ws) + 0 = rw e at (words_of_rows ws) in omega arith)
        go false e = let f : length ws ≡ 2 * length (rows ws) + 1 = rw e at (words_of_rows ws) in absurd (omega arith)

    -- the rows, cut off two words at a time
    pub rows_cut : length (rows ws) ≡ length ws / 2
    rows_cut = omega (arith, all_paired)

    pub miscounted : {n : ℕ} {b : Bool} → n ≡ length ws / 2 → b ≡ (leb 2 n && leb n 16) → b ≡ false → false ≡ keeps_rules ws
    unfolding keeps_rules
    miscounted l p e = rw (all_paired.0, rows_cut, ← l, ← p, e)

    pub enough : 4 ≤ length ws → length ws ≤ 32 → rises (rows ws) ≡ keeps_rules ws
    unfolding keeps_rules
    enough h k =
        rw (
          all_paired.0,
          le-leb 2 (length (rows ws)) (omega (arith, all_paired)),
          le-leb (length (rows ws)) 16 (omega (arith, all_paired)),
        )

-- row k of the first n
pub cut_row : (n : ℕ) (ws : List ℕ) → 2 * n ≤ length ws → (k : ℕ) → k < n → row_at (rows ws) k ≡ row_of (first_chunks 2 n ws) k
unfolding rows
cut_row zero ws h k l = absurd (omega arith)
cut_row (suc n) [] h k l = absurd (omega arith)
cut_row (suc n) (r ∷ []) h k l = absurd (omega arith)
cut_row (suc n) (r ∷ c ∷ ws) h zero l = refl
cut_row (suc n) (r ∷ c ∷ ws) h (suc k) l = cut_row n ws (omega arith) k (omega arith)
