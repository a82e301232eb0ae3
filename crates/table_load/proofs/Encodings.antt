-- The texts that load, and the tables that they give. Assumes nothing.
use mathlib.Core.Path.{◌≡◌, refl, sym, ap, ◌∙◌, subst}
use mathlib.Core.Bool.{true, ◌&&◌}
use mathlib.Core.List.{List, [], ◌∷◌}
use mathlib.Core.Logic.{◌↔◌}
use Prim.Native.Nat.{ℕ, zero, suc, ◌+◌, ◌*◌, ◌/◌, ◌%◌, ◌<◌}
use native.Mathlib.Omega.{arith}
use borrow.Author.Tests.{eq-eqb}
use lib.Dec.{T, eqb, eqb→eq}
use lib.ListN.{length, drop}
use lib.Seq.{get_or-drop, take-append_seam}
use Rattle.words.proofs.Digits.{both}
use Rattle.tables.specs.Table.{Row, rows, rises, Rules}
use Rattle.tables.proofs.Rules.{enough}
use Rattle.tables.proofs.Rows.{is_true, is_T, rules, Rising, for_table}
use Rattle.table_load.specs.Loading.{Loaded}
use Rattle.table_load.specs.Loading.{byte, records, marks, words, marked, table_in}
use Rattle.table_load.specs.Loading.{padded, loaded, loading, lent_on}
use Rattle.table_load.specs.Texts.{Bytes, Marked, TwoToSixteen, Sound, TextNumbered, faultless, unmarked, miscounted, unsound}
use Rattle.table_load.specs.Texts.{encode}
use Rattle.table_load.proofs.Reading.{two_to_sixteen_of, none_broken}
use Rattle.table_load.proofs.Numbers.{marked_of, sound_of, tested, numbered}

-- ---- the records behind the first are those of the text behind it

-- byte j of record k + 1
behind : (t : List ℕ) (k j : ℕ) → byte (drop 6 t) (6 * k + j) ≡ byte t (6 * suc k + j)
behind t k j = let e : 6 + (6 * k + j) ≡ 6 * suc k + j = omega arith in get_or-drop 6 t (6 * k + j) 0 ∙ ap (λ (x : ℕ). byte t x) e

behind_first : (t : List ℕ) (k : ℕ) → byte (drop 6 t) (6 * k) ≡ byte t (6 * suc k)
behind_first t k = let e : 6 + 6 * k ≡ 6 * suc k = omega arith in get_or-drop 6 t (6 * k) 0 ∙ ap (λ (x : ℕ). byte t x) e

marks_behind : (n k : ℕ) (t : List ℕ) → marks n (suc k) t ≡ marks n k (drop 6 t)
unfolding marks
marks_behind zero k t = refl
marks_behind (suc n) k t = rw (behind_first t k, behind t k 1, marks_behind n (suc k) t)

words_behind : (n k : ℕ) (t : List ℕ) → words n (suc k) t ≡ words n k (drop 6 t)
unfolding words
words_behind zero k t = refl
words_behind (suc n) k t = rw (behind t k 2, behind t k 3, behind t k 4, behind t k 5, words_behind n (suc k) t)

-- ---- from a table to its text

six_each : (ps : List Row) → length (encode ps) ≡ 6 * length ps
unfolding encode
six_each [] = refl
six_each (p ∷ ps) = omega (arith, six_each ps)

text_marks : (ps : List Row) → marks (length ps) 0 (encode ps) ≡ true
unfolding encode marks
text_marks [] = refl
text_marks (p ∷ ps) = marks_behind (length ps) 0 (encode (p ∷ ps)) ∙ text_marks ps

text_words : (ws : List ℕ) → length ws ≡ 2 * length (rows ws) → words (length (rows ws)) 0 (encode (rows ws)) ≡ ws
unfolding encode words rows
text_words [] l = refl
text_words (r ∷ []) l = absurd (omega arith)
text_words (r ∷ c ∷ ws) l =
    let d : r % 256 + 256 * (r / 256) ≡ r = omega arith in
    let e : c % 256 + 256 * (c / 256) ≡ c = omega arith in
    rw (d, e) (ap (λ (v : List ℕ). r ∷ c ∷ v) (words_behind (length (rows ws)) 0 (encode (rows (r ∷ c ∷ ws))) ∙ text_words ws (omega arith)))

-- ---- from a text to its table

-- marked records of bytes are the text of their own table
text_of : (n : ℕ) (t : List ℕ) → length t ≡ 6 * n → T (marks n 0 t) → Bytes t → t ≡ encode (rows (words n 0 t))
unfolding encode words rows marks
text_of zero [] l m b = refl
text_of zero (x ∷ t) l m b = absurd (omega arith)
text_of (suc n) [] l m b = absurd (omega arith)
text_of (suc n) (x ∷ []) l m b = absurd (omega arith)
text_of (suc n) (x ∷ y ∷ []) l m b = absurd (omega arith)
text_of (suc n) (x ∷ y ∷ r ∷ []) l m b = absurd (omega arith)
text_of (suc n) (x ∷ y ∷ r ∷ r' ∷ []) l m b = absurd (omega arith)
text_of (suc n) (x ∷ y ∷ r ∷ r' ∷ c ∷ []) l m b = absurd (omega arith)
text_of (suc n) (x ∷ y ∷ r ∷ r' ∷ c ∷ c' ∷ t) l m b =
    let s : List ℕ = x ∷ y ∷ r ∷ r' ∷ c ∷ c' ∷ t in
    let h : T (eqb x 195 && eqb y 90) × T (marks n 1 s) = both (eqb x 195 && eqb y 90) (marks n 1 s) m in
    let k : T (eqb x 195) × T (eqb y 90) = both (eqb x 195) (eqb y 90) h.0 in
    let r_low : (r + 256 * r') % 256 ≡ r = omega (arith, b 2) in
    let r_high : (r + 256 * r') / 256 ≡ r' = omega (arith, b 2) in
    let c_low : (c + 256 * c') % 256 ≡ c = omega (arith, b 4) in
    let c_high : (c + 256 * c') / 256 ≡ c' = omega (arith, b 4) in
    let rest : t ≡ encode (rows (words n 1 s)) =
    text_of n t (omega arith) (subst T (marks_behind n 0 s) h.1) (λ i. b (suc (suc (suc (suc (suc (suc i)))))))
    ∙ ap (λ (v : List ℕ). encode (rows v)) (sym (words_behind n 0 s)) in
    λ i. eqb→eq x 195 k.0 i ∷ eqb→eq y 90 k.1 i ∷ sym r_low i ∷ sym r_high i ∷ sym c_low i ∷ sym c_high i ∷ rest i

-- ---- the bytes of a text

six : (p : Row) (s : List ℕ) → p.r < 65536 → p.c < 65536 → Bytes s → Bytes (195 ∷ 90 ∷ p.r % 256 ∷ p.r / 256 ∷ p.c % 256 ∷ p.c / 256 ∷ s)
six p s h k b zero = omega arith
six p s h k b (suc zero) = omega arith
six p s h k b (suc (suc zero)) = omega arith
six p s h k b (suc (suc (suc zero))) = omega arith
six p s h k b (suc (suc (suc (suc zero)))) = omega arith
six p s h k b (suc (suc (suc (suc (suc zero))))) = omega arith
six p s h k b (suc (suc (suc (suc (suc (suc i)))))) = b i

rising_bytes : (p : Row) (ps : List Row) → Rising p ps → Bytes (encode (p ∷ ps))
unfolding encode
rising_bytes p [] h = six p [] (omega (arith, h.0)) (omega (arith, h.1)) (λ i. omega arith)
rising_bytes p (q ∷ ps) h = six p (encode (q ∷ ps)) (omega (arith, h.0.0)) (omega (arith, h.0.1)) (rising_bytes q ps h.2)

-- ---- every table that keeps the rules has a text, and is what its text loads

module _ (ws : List ℕ) (r : Rules ws) where
  rows_rise : rises (rows ws) ≡ true
  rows_rise =
      enough ws (omega (arith, r.whole_rows)) (omega (arith, r.whole_rows, r.at_least)) (omega (arith, r.whole_rows, r.at_most))
      ∙ is_true _ ((rules ws).1 r)

  records_are : records (encode (rows ws)) ≡ length (rows ws)
  records_are = omega (arith, six_each (rows ws))

  text_marked : marked (encode (rows ws)) ≡ true
  unfolding marked
  text_marked = rw (eq-eqb (length (encode (rows ws)) % 6) 0 (omega (arith, six_each (rows ws))), records_are, text_marks (rows ws))

  words_are : table_in (encode (rows ws)) ≡ ws
  words_are = ap (λ (n : ℕ). words n 0 (encode (rows ws))) records_are ∙ text_words ws r.whole_rows

  pub text_bytes : Bytes (encode (rows ws))
  text_bytes = for_table (λ ps. Bytes (encode ps)) rising_bytes ws ((rules ws).1 r)

  pub text_loads : loading (encode (rows ws)) ≡ loaded ws
  text_loads =
      sym (none_broken (encode (rows ws)) text_marked
      (two_to_sixteen_of _ (omega (arith, records_are, r.at_least)) (omega (arith, records_are, r.at_most)))
      (ap (λ (l : List ℕ). rises (rows l)) words_are ∙ rows_rise))
      ∙ ap {B = Loaded} (λ (l : List ℕ). loaded l) words_are

-- the words that an answer lends on are the table's
pub lent : (ws : List ℕ) → lent_on (loaded ws) ≡ ws
unfolding padded
lent ws = take-append_seam ws _

-- ---- and no other text loads

unbroken : {t : List ℕ} {n : ℕ} → TextNumbered t n → n ≡ 0 → Marked t × TwoToSixteen t × Sound t
unbroken (faultless m h s) e = (m, h, s)
unbroken (unmarked x) e = absurd (omega arith)
unbroken (miscounted m x) e = absurd (omega arith)
unbroken (unsound m h x) e = absurd (omega arith)

module _ (t : List ℕ) (zero_given : (loading t).number ≡ 0) where
  fine : Marked t × TwoToSixteen t × Sound t
  fine = unbroken (numbered t) zero_given

  marks_right : T (marks (records t) 0 t)
  unfolding marked
  marks_right = (both (eqb (length t % 6) 0) (marks (records t) 0 t) (is_T (marked_of t fine.0))).1

  table_kept : Rules (table_in t)
  table_kept = (rules (table_in t)).0 (is_T (sym (tested t fine.1) ∙ sound_of t fine.1 fine.2))

  table_loaded : loading t ≡ loaded (table_in t)
  table_loaded =
      sym (none_broken t (marked_of t fine.0) (two_to_sixteen_of (records t) fine.1.0 fine.1.1) (sound_of t fine.1 fine.2))

  -- the words lent on are those of the text's records
  pub lent_in : lent_on (loading t) ≡ table_in t
  lent_in = ap (λ (a : Loaded). lent_on a) table_loaded ∙ lent (table_in t)

  -- so what is proved of every table that keeps the rules holds for every table that loads
  pub kept : Rules (lent_on (loading t))
  kept = subst Rules (sym lent_in) table_kept

  module _ (b : Bytes t) where
    is_text : t ≡ encode (rows (table_in t))
    is_text = text_of (records t) t fine.0.whole marks_right b

-- a text loads exactly where it is that of a table that keeps the rules
pub loads_exactly : (t : List ℕ) → Bytes t → ((loading t).number ≡ 0) ↔ ((ws : List ℕ) × Rules ws × (t ≡ encode (rows ws)))
loads_exactly t b = (
  λ z. (table_in t, table_kept t z, is_text t z b),
  λ h. ap (λ (x : List ℕ). (loading x).number) h.2 ∙ ap (λ (a : Loaded). a.number) (text_loads h.0 h.1),
)

-- and gives that table and no other
pub gives : (t : List ℕ) → Bytes t → (ws : List ℕ) → (loading t ≡ loaded ws) ↔ (Rules ws × (t ≡ encode (rows ws)))
gives t b ws = (there, λ h. ap loading h.1 ∙ text_loads ws h.0)
  where
    there : loading t ≡ loaded ws → Rules ws × (t ≡ encode (rows ws))
    there e =
        let z : (loading t).number ≡ 0 = ap (λ (a : Loaded). a.number) e in
        let same : table_in t ≡ ws = sym (lent_in t z) ∙ ap (λ (a : Loaded). lent_on a) e ∙ lent ws in
        (subst Rules same (table_kept t z), is_text t z b ∙ ap (λ (l : List ℕ). encode (rows l)) same)
