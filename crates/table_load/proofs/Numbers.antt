-- The number of a loading is that of the text's first broken condition. Assumes nothing.
use mathlib.Core.Path.{◌≡◌, refl, sym, ap, ◌∙◌, subst}
use mathlib.Core.Bool.{Bool, true, false}
use mathlib.Core.List.{List}
use Prim.Native.Nat.{ℕ, zero, suc, ◌+◌, ◌*◌, ◌%◌, ◌<◌}
use native.Mathlib.Nat.{add-zero, zero-add}
use native.Mathlib.Omega.{arith}
use borrow.Author.Tests.{eq-eqb}
use lib.Dec.{T, eqb, eqb→eq}
use lib.ListN.{length}
use Rattle.words.proofs.Digits.{both}
use Rattle.tables.specs.Table.{row, rows, rises, keeps_rules, row_at, Rules}
use Rattle.tables.proofs.Rules.{enough}
use Rattle.tables.proofs.Rows.{is_true, is_T, rules}
use Rattle.table_load.specs.Loading.{Loaded}
use Rattle.table_load.specs.Loading.{byte, records, has_mark, count_of, value_of, marks, words, marked, two_to_sixteen}
use Rattle.table_load.specs.Loading.{table_in, loading}
use Rattle.table_load.specs.Texts.{Marked, TwoToSixteen, Sound, TextNumbered, faultless, unmarked, miscounted, unsound}
use Rattle.table_load.proofs.Reading.{apart, two_each, two_to_sixteen_is, two_to_sixteen_of}
use Rattle.table_load.proofs.Reading.{mark_right, broken_13, broken_14, broken_15, none_broken}

-- ---- record by record

abbrev Mark : List ℕ → ℕ → Type 0
Mark t k = (byte t (6 * k) ≡ 195) × (byte t (6 * k + 1) ≡ 90)

mark_of : (t : List ℕ) (k : ℕ) → T (has_mark t k) → Mark t k
mark_of t k h =
    let b : T (eqb (byte t (6 * k)) 195) × T (eqb (byte t (6 * k + 1)) 90) = both (eqb (byte t (6 * k)) 195) (eqb (byte t (6 * k + 1)) 90) h in
    (eqb→eq (byte t (6 * k)) 195 b.0, eqb→eq (byte t (6 * k + 1)) 90 b.1)

-- of n records from record k on, the j-th of them
behind : (k j : ℕ) → suc k + j ≡ k + suc j
behind k j = omega arith

marks_each : (n k : ℕ) (t : List ℕ) → T (marks n k t) → (j : ℕ) → j < n → Mark t (k + j)
unfolding marks
marks_each zero k t m j h = absurd (omega arith)
marks_each (suc n) k t m zero h =
    subst (Mark t) (sym (add-zero k)) (mark_of t k (both (has_mark t k) (marks n (suc k) t) m).0)
marks_each (suc n) k t m (suc j) h =
    subst (Mark t) (behind k j) (marks_each n (suc k) t (both (has_mark t k) (marks n (suc k) t) m).1 j (omega arith))

marks_all : (n k : ℕ) (t : List ℕ) → ((j : ℕ) → j < n → Mark t (k + j)) → marks n k t ≡ true
unfolding marks
marks_all zero k t h = refl
marks_all (suc n) k t h =
    let first : Mark t k = subst (Mark t) (add-zero k) (h 0 (omega arith)) in
    rw (← mark_right t k first.0 first.1) (marks_all n (suc k) t (λ j l. subst (Mark t) (sym (behind k j)) (h (suc j) (omega arith))))

words_each : (n k : ℕ) (t : List ℕ) (j : ℕ) → j < n → row_at (rows (words n k t)) j ≡ row (count_of t (k + j)) (value_of t (k + j))
unfolding words rows
words_each zero k t j l = absurd (omega arith)
words_each (suc n) k t zero l = rw (add-zero k)
words_each (suc n) k t (suc j) l =
    words_each n (suc k) t j (omega arith) ∙ ap (λ (i : ℕ). row (count_of t i) (value_of t i)) (behind k j)

one_each : (n k : ℕ) (t : List ℕ) → length (rows (words n k t)) ≡ n
unfolding words rows
one_each zero k t = refl
one_each (suc n) k t = omega (arith, one_each n (suc k) t)

-- ---- each test and its condition

module _ (t : List ℕ) where
  pub marked_of : Marked t → marked t ≡ true
  unfolding marked
  marked_of m =
      let each : (j : ℕ) → j < records t → Mark t (0 + j) =
      λ j l. subst (Mark t) (sym (zero-add j)) (m.first j l, m.second j l) in
      rw (eq-eqb (length t % 6) 0 (omega (arith, m.whole)), marks_all (records t) 0 t each)

  pub marked_is : marked t ≡ true → Marked t
  unfolding marked
  marked_is e =
      let a : T (eqb (length t % 6) 0) × T (marks (records t) 0 t) = both (eqb (length t % 6) 0) (marks (records t) 0 t) (is_T e) in
      let each : (j : ℕ) → j < records t → Mark t j =
      λ j l. subst (Mark t) (zero-add j) (marks_each (records t) 0 t a.1 j l) in
      record {
        whole = omega (arith, eqb→eq (length t % 6) 0 a.0);
        first = λ k l. (each k l).0;
        second = λ k l. (each k l).1;
      }

  pub rows_are : length (rows (table_in t)) ≡ records t
  rows_are = one_each (records t) 0 t

  -- row k is that of record k
  pub row_of : (k : ℕ) → k < records t → row_at (rows (table_in t)) k ≡ row (count_of t k) (value_of t k)
  row_of k l = words_each (records t) 0 t k l ∙ ap (λ (i : ℕ). row (count_of t i) (value_of t i)) (zero-add k)

  module _ (h : TwoToSixteen t) where
    pub tested : rises (rows (table_in t)) ≡ keeps_rules (table_in t)
    tested =
        let l : length (table_in t) ≡ 2 * records t = two_each (records t) 0 t in
        enough (table_in t) (omega (arith, l)) (omega (arith, l, h.0)) (omega (arith, l, h.1))

    pub sound_of : Sound t → rises (rows (table_in t)) ≡ true
    sound_of s = tested ∙ is_true _ ((rules (table_in t)).1 (record {
      whole_rows = omega (arith, two_each (records t) 0 t, rows_are);
      at_least = omega (arith, h.0, rows_are);
      at_most = omega (arith, h.1, rows_are);
      count_fits = λ k l. rw (row_of k (omega (arith, rows_are))) (s.count_fits k (omega (arith, rows_are)));
      value_fits = λ k l. rw (row_of k (omega (arith, rows_are))) (s.value_fits k (omega (arith, rows_are)));
      count_rises = λ k l.
          rw (row_of k (omega (arith, rows_are)), row_of (suc k) (omega (arith, rows_are))) (s.count_rises k (omega (arith, rows_are)));
    }))

    pub sound_is : rises (rows (table_in t)) ≡ true → Sound t
    sound_is e =
        let r : Rules (table_in t) = (rules (table_in t)).0 (is_T (sym tested ∙ e)) in
        record {
          count_fits = λ k l. rw (row_of k l) at (r.count_fits k (omega (arith, rows_are)));
          value_fits = λ k l. rw (row_of k l) at (r.value_fits k (omega (arith, rows_are)));
          count_rises = λ k l. rw (row_of k (omega arith), row_of (suc k) l) at (r.count_rises k (omega (arith, rows_are)));
        }

  -- ---- the number

  -- the number of an answer
  number_is : {a : Loaded} → a ≡ loading t → TextNumbered t a.number → TextNumbered t (loading t).number
  number_is e n = subst (λ (x : Loaded). TextNumbered t x.number) e n

  pub numbered : TextNumbered t (loading t).number
  numbered = by_marks (marked t) refl
    where
      by_rows : Marked t → marked t ≡ true → two_to_sixteen (records t) ≡ true → (h : TwoToSixteen t) → (b : Bool) → rises (rows (table_in t)) ≡ b
          → TextNumbered t (loading t).number
      by_rows m e f h true d = number_is (none_broken t e f d) (faultless m h (sound_is h d))
      by_rows m e f h false d = number_is (broken_15 t e f d) (unsound m h (λ s. apart (sym d ∙ sound_of h s)))

      by_count : Marked t → marked t ≡ true → (b : Bool) → two_to_sixteen (records t) ≡ b → TextNumbered t (loading t).number
      by_count m e true d = by_rows m e d (two_to_sixteen_is (records t) d) (rises (rows (table_in t))) refl
      by_count m e false d = number_is (broken_14 t e d) (miscounted m (λ h. apart (sym d ∙ two_to_sixteen_of (records t) h.0 h.1)))

      by_marks : (b : Bool) → marked t ≡ b → TextNumbered t (loading t).number
      by_marks true e = by_count (marked_is e) e (two_to_sixteen (records t)) refl
      by_marks false e = number_is (broken_13 t e) (unmarked (λ m. apart (sym e ∙ marked_of m)))

  pub one_number : (m n : ℕ) → TextNumbered t m → TextNumbered t n → m ≡ n
  one_number m n (faultless a b c) (faultless a' b' c') = refl
  one_number m n (faultless a b c) (unmarked x) = absurd (x a)
  one_number m n (faultless a b c) (miscounted a' x) = absurd (x b)
  one_number m n (faultless a b c) (unsound a' b' x) = absurd (x c)
  one_number m n (unmarked x) (faultless a b c) = absurd (x a)
  one_number m n (unmarked x) (unmarked y) = refl
  one_number m n (unmarked x) (miscounted a y) = absurd (x a)
  one_number m n (unmarked x) (unsound a b y) = absurd (x a)
  one_number m n (miscounted a x) (faultless a' b c) = absurd (x b)
  one_number m n (miscounted a x) (unmarked y) = absurd (y a)
  one_number m n (miscounted a x) (miscounted a' y) = refl
  one_number m n (miscounted a x) (unsound a' b y) = absurd (x b)
  one_number m n (unsound a b x) (faultless a' b' c) = absurd (x c)
  one_number m n (unsound a b x) (unmarked y) = absurd (y a)
  one_number m n (unsound a b x) (miscounted a' y) = absurd (y b)
  one_number m n (unsound a b x) (unsound a' b' y) = refl
