-- A text read record by record: the mark and the row of one, the loop of `read_records`, the answers of `load`. Assumes
-- nothing.
use mathlib.Core.Path.{◌≡◌, refl, sym, ap, ◌∙◌}
use mathlib.Core.Bool.{Bool, true, false, ◌&&◌}
use mathlib.Core.List.{List, [], ◌∷◌, ◌++◌}
use Prim.Native.Nat.{ℕ, zero, suc, ◌+◌, ◌-◌, ◌*◌, ◌%◌, ◌≤◌, ◌<◌}
use native.Mathlib.Nat.{zero-add, zero-sub, sub-zero, suc-sub-suc}
use native.Mathlib.Numerals.{add-one}
use native.Mathlib.Omega.{arith}
use borrow.Author.Tests.{le-leb, eq-eqb, ne_eqb}
use lib.Dec.{T, leb, leb→le}
use lib.ListN.{length, take, drop, set, replicate, get_or}
use lib.Seq.{take_at, sets, sets-eq, get_or-drop}
use Rattle.std.proofs.lemmas.List.{get_or-take}
use Rattle.std.specs.Simd.{first_chunks}
use Rattle.words.proofs.Digits.{both}
use Rattle.tables.specs.Table.{rows, rises, keeps_rules}
use Rattle.tables.proofs.Rules.{enough}
use Rattle.tables.proofs.Rows.{is_T}
use Rattle.table_load.specs.Loading.{Loaded}
use Rattle.table_load.specs.Loading.{byte, records, has_mark, count_of, value_of, marks, words, marked}
use Rattle.table_load.specs.Loading.{two_to_sixteen, table_in, padded, loaded, refused, loading}

pub apart : false ≡ true → ⊥
apart e = is_T e

-- ---- `read_record`

module _ (t : List ℕ) (k : ℕ) where
  pub mark_right : byte t (6 * k) ≡ 195 → byte t (6 * k + 1) ≡ 90 → true ≡ has_mark t k
  mark_right d e = rw (eq-eqb (byte t (6 * k)) 195 d, eq-eqb (byte t (6 * k + 1)) 90 e)

-- byte j of record k, and what is read in it
record_byte : (n k j : ℕ) (t : List ℕ) → k < n → j < 6 → get_or (get_or (first_chunks 6 n t) k []) j 0 ≡ byte t (6 * k + j)
record_byte zero k j t h l = absurd (omega arith)
record_byte (suc n) zero j t h l = get_or-take 6 t j 0 l ∙ ap (byte t) (sym (zero-add j))
record_byte (suc n) (suc k) j t h l =
    let e : 6 + (6 * k + j) ≡ 6 * suc k + j = omega arith in
    record_byte n k j (drop 6 t) (omega arith) l ∙ get_or-drop 6 t (6 * k + j) 0 ∙ ap (byte t) e

module _ (t : List ℕ) (k : ℕ) (h : k < records t) {rs : List (List ℕ)} (cut : rs ≡ first_chunks 6 (records t) t) where
  at_byte : (j : ℕ) → j < 6 → byte (get_or rs k []) j ≡ byte t (6 * k + j)
  at_byte j l = rw cut (record_byte (records t) k j t h l)

  pub mark_read : has_mark (get_or rs k []) 0 ≡ has_mark t k
  mark_read = let e : 6 * k + 0 ≡ 6 * k = omega arith in rw (at_byte 0 (omega arith), at_byte 1 (omega arith), e)

  pub count_read : count_of (get_or rs k []) 0 ≡ count_of t k
  count_read = rw (at_byte 2 (omega arith), at_byte 3 (omega arith))

  pub value_read : value_of (get_or rs k []) 0 ≡ value_of t k
  value_read = rw (at_byte 4 (omega arith), at_byte 5 (omega arith))

-- ---- `read_records`: a turn of the loop, at record k of n

module _ (t : List ℕ) where
  module _ (n k : ℕ) (h : k < n) where
    left : n - k ≡ suc (n - (k + 1))
    left = omega arith

    marks_at : marks (n - k) k t ≡ (has_mark t k && marks (n - (k + 1)) (k + 1) t)
    unfolding marks
    marks_at = rw (left, add-one k)

    words_at : words (n - k) k t ≡ count_of t k ∷ value_of t k ∷ words (n - (k + 1)) (k + 1) t
    unfolding words
    words_at = rw (left, add-one k)

  pub cut_short : (length t % 6 ≡ 0 → ⊥) → marked t ≡ false
  unfolding marked
  cut_short h = rw (ne_eqb (length t % 6) 0 h)

  module _ (whole : length t % 6 ≡ 0) (k : ℕ) (so_far : marks (records t) 0 t ≡ marks (records t - k) k t) where
    module _ (h : k < records t) where
      next : {b : Bool} → has_mark t k ≡ b → marks (records t) 0 t ≡ (b && marks (records t - (k + 1)) (k + 1) t)
      next e = so_far ∙ marks_at (records t) k h ∙ rw e

      pub mark_wrong : has_mark t k ≡ false → marked t ≡ false
      unfolding marked
      mark_wrong e = rw (eq-eqb (length t % 6) 0 whole, next e)

      pub go_on : has_mark t k ≡ true → marks (records t) 0 t ≡ marks (records t - (k + 1)) (k + 1) t
      go_on e = next e

    pub all_right : records t ≤ k → marked t ≡ true
    unfolding marked marks
    all_right h =
        let e : records t - k ≡ 0 = omega arith in
        let m : marks (records t) 0 t ≡ true = so_far ∙ ap (λ (x : ℕ). marks x k t) e in
        rw (eq-eqb (length t % 6) 0 whole, m)

  -- two words more in the table
  pub two_more : (n k : ℕ) → k < n → (table : List ℕ)
      → sets (set (set table (2 * k) (count_of t k)) (2 * k + 1) (value_of t k)) (2 * (k + 1)) (words (n - (k + 1)) (k + 1) t)
      ≡ sets table (2 * k) (words (n - k) k t)
  two_more n k h table =
      let p : 2 * k + 1 ≡ suc (2 * k) = omega arith in
      let q : 2 * (k + 1) ≡ suc (suc (2 * k)) = omega arith in
      rw (words_at n k h, p, q)

  pub all_rows : (n k : ℕ) (table first : List ℕ) → n ≤ k → sets table (2 * k) (words (n - k) k t) ≡ sets first 0 (words n 0 t)
      → table ≡ sets first 0 (words n 0 t)
  unfolding words
  all_rows n k table first h so_far =
      let e : n - k ≡ 0 = omega arith in
      let none : words (n - k) k t ≡ [] = ap (λ (x : ℕ). words x k t) e in
      sym (ap (λ (vs : List ℕ). sets table (2 * k) vs) none) ∙ so_far

-- two words to a record
pub two_each : (n k : ℕ) (t : List ℕ) → length (words n k t) ≡ 2 * n
unfolding words
two_each zero k t = refl
two_each (suc n) k t = omega (arith, two_each n (suc k) t)

-- ---- `two_to_sixteen`

pub at_least_two : (n : ℕ) → 2 ≤ n → leb n 16 ≡ two_to_sixteen n
unfolding two_to_sixteen
at_least_two n h = rw (le-leb 2 n h)

pub two_to_sixteen_is : (n : ℕ) → two_to_sixteen n ≡ true → (2 ≤ n) × (n ≤ 16)
unfolding two_to_sixteen
two_to_sixteen_is n e =
    let h : T (leb 2 n) × T (leb n 16) = both (leb 2 n) (leb n 16) (is_T e) in
    (leb→le 2 n h.0, leb→le n 16 h.1)

pub two_to_sixteen_of : (n : ℕ) → 2 ≤ n → n ≤ 16 → two_to_sixteen n ≡ true
two_to_sixteen_of n h k = sym (at_least_two n h) ∙ le-leb n 16 k

-- ---- `load`

zeros_left : (m n : ℕ) → drop {A = ℕ} m (replicate n 0) ≡ replicate (n - m) 0
zeros_left zero n = rw (sub-zero n)
zeros_left (suc m) zero = rw (zero-sub (suc m))
zeros_left (suc m) (suc n) = zeros_left m n ∙ rw (suc-sub-suc n m)

module _ (t : List ℕ) where
  pub broken_13 : marked t ≡ false → refused 13 ≡ loading t
  unfolding loading
  broken_13 e = rw e

  pub broken_14 : marked t ≡ true → two_to_sixteen (records t) ≡ false → refused 14 ≡ loading t
  unfolding loading
  broken_14 m e = rw (m, e)

  pub broken_15 : marked t ≡ true → two_to_sixteen (records t) ≡ true → rises (rows (table_in t)) ≡ false → refused 15 ≡ loading t
  unfolding loading
  broken_15 m n e = rw (m, n, e)

  pub none_broken : marked t ≡ true → two_to_sixteen (records t) ≡ true → rises (rows (table_in t)) ≡ true → loaded (table_in t) ≡ loading t
  unfolding loading
  none_broken m n e = rw (m, n, e)

  -- the answers, from what the code has found
  module _ (right : marked t ≡ true) where
    pub answer_14 : {d : Bool} → d ≡ two_to_sixteen (records t) → d ≡ false → refused 14 ≡ loading t
    answer_14 p e = broken_14 right (sym p ∙ e)

    module _ {d : Bool} (number_right : d ≡ two_to_sixteen (records t)) (enough_rows : d ≡ true)
        {table : List ℕ} (filled : table ≡ sets (replicate 32 0) 0 (table_in t)) where
      pub rows_between : (2 ≤ records t) × (records t ≤ 16)
      rows_between = two_to_sixteen_is (records t) (sym number_right ∙ enough_rows)

      held : table ≡ padded (table_in t)
      unfolding padded
      held =
          filled ∙ sets-eq (table_in t) (replicate 32 0) 0 (omega (arith, two_each (records t) 0 t, rows_between))
          ∙ ap (λ (x : ℕ). table_in t ++ drop x (replicate 32 0)) (zero-add (length (table_in t)))
          ∙ ap (λ (l : List ℕ). table_in t ++ l) (zeros_left (length (table_in t)) 32)

      module _ {e : Bool} (tested : e ≡ keeps_rules (take (2 * records t) table)) where
        -- the test of the words that are lent is that of the rows
        rows_tested : rises (rows (table_in t)) ≡ e
        unfolding padded
        rows_tested =
            let l : length (table_in t) ≡ 2 * records t = two_each (records t) 0 t in
            enough (table_in t) (omega (arith, l)) (omega (arith, l, rows_between)) (omega (arith, l, rows_between))
            ∙ sym (tested ∙ ap (λ (x : List ℕ). keeps_rules (take (2 * records t) x)) held
            ∙ ap keeps_rules (take_at (table_in t) _ (2 * records t) l))

        pub answer_15 : e ≡ false → refused 15 ≡ loading t
        answer_15 f = broken_15 right (sym number_right ∙ enough_rows) (rows_tested ∙ f)

        pub answer_0 : e ≡ true → ◌≡◌ {A = Loaded} (record { number = 0; table = table; len = 2 * records t }) (loading t)
        answer_0 f = rw (held, ← two_each (records t) 0 t) (none_broken right (sym number_right ∙ enough_rows) (rows_tested ∙ f))
