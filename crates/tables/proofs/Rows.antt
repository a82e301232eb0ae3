-- The test of a table's rules and the rules in plain words; and what a law of rising rows needs. Assumes nothing.
use mathlib.Core.Path.{◌≡◌, refl, sym, ap, subst, ◌∙◌}
use mathlib.Core.Bool.{Bool, true, false, ◌&&◌}
use mathlib.Core.List.{List, [], ◌∷◌}
use mathlib.Core.Logic.{◌↔◌}
use Prim.Native.Nat.{ℕ, zero, suc, ◌+◌, ◌*◌, ◌/◌, ◌%◌, ◌≤◌, ◌<◌}
use native.Mathlib.Numerals.{add-one}
use native.Mathlib.Omega.{arith}
use lib.Dec.{T, leb, ltb, leb→le, ltb→lt, le→leb, lt→ltb}
use lib.ListN.{length, get_or}
use Rattle.std.proofs.lemmas.List.{get_or_default}
use Rattle.std.specs.List.{All}
use Rattle.std.specs.Simd.{first_chunks}
use Rattle.words.proofs.Digits.{both}
use Rattle.tables.specs.Table.{Row, rows, paired, row_fits, rises, keeps_rules, row_at, row_in, row_of, Rules}
use Rattle.tables.proofs.Rules.{words_of_rows, rows_cut, cut_row}

-- ---- rising rows, from a first one on

abbrev pub Fits : Row → Type 0
Fits p = (p.r ≤ 4095) × (p.c ≤ 20000)

abbrev pub Rising : Row → List Row → Type 0
Rising p [] = Fits p
Rising p (q ∷ ps) = Fits p × (p.r < q.r) × Rising q ps

fits_of : (p : Row) → T (row_fits p) → Fits p
unfolding row_fits
fits_of p t =
    let b : T (leb p.r 4095) × T (leb p.c 20000) = both (leb p.r 4095) (leb p.c 20000) t in
    (leb→le p.r 4095 b.0, leb→le p.c 20000 b.1)

and : (a b : Bool) → T a → T b → T (a && b)
and true b s t = t
and false b s t = absurd s

fits_test : (p : Row) → Fits p → T (row_fits p)
unfolding row_fits
fits_test p h = and (leb p.r 4095) (leb p.c 20000) (le→leb p.r 4095 h.0) (le→leb p.c 20000 h.1)

pub rising_of : (p : Row) (ps : List Row) → T (rises (p ∷ ps)) → Rising p ps
unfolding rises
rising_of p [] t = fits_of p t
rising_of p (q ∷ ps) t =
    let b : T (row_fits p && ltb p.r q.r) × T (rises (q ∷ ps)) = both (row_fits p && ltb p.r q.r) (rises (q ∷ ps)) t in
    let a : T (row_fits p) × T (ltb p.r q.r) = both (row_fits p) (ltb p.r q.r) b.0 in
    (fits_of p a.0, ltb→lt p.r q.r a.1, rising_of q ps b.1)

rising_test : (p : Row) (ps : List Row) → Rising p ps → T (rises (p ∷ ps))
unfolding rises
rising_test p [] h = fits_test p h
rising_test p (q ∷ ps) h =
    and (row_fits p && ltb p.r q.r) (rises (q ∷ ps))
    (and (row_fits p) (ltb p.r q.r) (fits_test p h.0) (lt→ltb p.r q.r h.1)) (rising_test q ps h.2)

pub head_fits : (p : Row) (ps : List Row) → Rising p ps → Fits p
head_fits p [] h = h
head_fits p (q ∷ ps) h = h.0

-- ---- row by row

pub fits_at : (p : Row) (ps : List Row) → Rising p ps → (k : ℕ) → k < length (p ∷ ps) → Fits (row_at (p ∷ ps) k)
fits_at p ps h zero l = head_fits p ps h
fits_at p [] h (suc k) l = absurd (omega arith)
fits_at p (q ∷ ps) h (suc k) l = fits_at q ps h.2 k (omega arith)

pub rises_at : (p : Row) (ps : List Row) → Rising p ps → (k : ℕ) → suc k < length (p ∷ ps)
    → (row_at (p ∷ ps) k).r < (row_at (p ∷ ps) (suc k)).r
rises_at p [] h k l = absurd (omega arith)
rises_at p (q ∷ ps) h zero l = h.1
rises_at p (q ∷ ps) h (suc k) l = rises_at q ps h.2 k (omega arith)

rising_by_rows : (p : Row) (ps : List Row) → ((k : ℕ) → k < length (p ∷ ps) → Fits (row_at (p ∷ ps) k))
    → ((k : ℕ) → suc k < length (p ∷ ps) → (row_at (p ∷ ps) k).r < (row_at (p ∷ ps) (suc k)).r) → Rising p ps
rising_by_rows p [] f g = f 0 (omega arith)
rising_by_rows p (q ∷ ps) f g =
    (f 0 (omega arith), g 0 (omega arith), rising_by_rows q ps (λ k l. f (suc k) (omega arith)) (λ k l. g (suc k) (omega arith)))

-- ---- the test and the rules

record Tested (ws : List ℕ) : Type 0 where
  even : T (paired ws)
  at_least : T (leb 2 (length (rows ws)))
  at_most : T (leb (length (rows ws)) 16)
  rise : T (rises (rows ws))

tested : (ws : List ℕ) → T (keeps_rules ws) → Tested ws
unfolding keeps_rules
tested ws t =
    let n : ℕ = length (rows ws) in
    let a : T (paired ws && leb 2 n && leb n 16) × T (rises (rows ws)) = both (paired ws && leb 2 n && leb n 16) (rises (rows ws)) t in
    let b : T (paired ws && leb 2 n) × T (leb n 16) = both (paired ws && leb 2 n) (leb n 16) a.0 in
    let d : T (paired ws) × T (leb 2 n) = both (paired ws) (leb 2 n) b.0 in
    record { even = d.0; at_least = d.1; at_most = b.1; rise = a.1 }

-- a law of rising rows is one of every table that keeps the rules
pub for_table : (P : List Row → Type 0) → ((p : Row) (ps : List Row) → Rising p ps → P (p ∷ ps)) → (ws : List ℕ) → T (keeps_rules ws)
    → P (rows ws)
for_table P h ws t = go (rows ws) (leb→le 2 (length (rows ws)) (tested ws t).at_least) (tested ws t).rise
  where
    go : (ps : List Row) → 2 ≤ length ps → T (rises ps) → P ps
    go [] l s = absurd (omega arith)
    go (p ∷ ps) l s = h p ps (rising_of p ps s)

rules_of : (ws : List ℕ) → T (keeps_rules ws) → Rules ws
rules_of ws t = record {
  whole_rows = whole (paired ws) refl (tested ws t).even;
  at_least = leb→le 2 (length (rows ws)) (tested ws t).at_least;
  at_most = leb→le (length (rows ws)) 16 (tested ws t).at_most;
  count_fits = λ k l. (fit k l).0;
  value_fits = λ k l. (fit k l).1;
  count_rises = for_table (λ ps. (k : ℕ) → suc k < length ps → (row_at ps k).r < (row_at ps (suc k)).r) rises_at ws t;
}
  where
    fit : (k : ℕ) → k < length (rows ws) → Fits (row_at (rows ws) k)
    fit = for_table (λ ps. (k : ℕ) → k < length ps → Fits (row_at ps k)) fits_at ws t

    whole : (b : Bool) → paired ws ≡ b → T b → length ws ≡ 2 * length (rows ws)
    whole true e s = let f : length ws ≡ 2 * length (rows ws) + 0 = rw e at (words_of_rows ws) in omega arith
    whole false e s = absurd s

test_of : (ws : List ℕ) → Rules ws → T (keeps_rules ws)
unfolding keeps_rules
test_of ws h =
    let n : ℕ = length (rows ws) in
    and (paired ws && leb 2 n && leb n 16) (rises (rows ws))
    (and (paired ws && leb 2 n) (leb n 16) (and (paired ws) (leb 2 n) (even (paired ws) refl) (le→leb 2 n h.at_least))
    (le→leb n 16 h.at_most))
    (rise (rows ws) h.at_least (λ k l. (h.count_fits k l, h.value_fits k l)) h.count_rises)
  where
    even : (b : Bool) → paired ws ≡ b → T b
    even true e = tt
    even false e =
        let f : length ws ≡ 2 * length (rows ws) + 1 = rw e at (words_of_rows ws) in
        let g : length ws ≡ 2 * length (rows ws) = h.whole_rows in
        absurd (omega arith)

    rise : (ps : List Row) → 2 ≤ length ps → ((k : ℕ) → k < length ps → Fits (row_at ps k))
        → ((k : ℕ) → suc k < length ps → (row_at ps k).r < (row_at ps (suc k)).r) → T (rises ps)
    rise [] l f g = absurd (omega arith)
    rise (p ∷ ps) l f g = rising_test p ps (rising_by_rows p ps f g)

-- `keeps_rules` tests exactly the rules in plain words
pub rules : (ws : List ℕ) → T (keeps_rules ws) ↔ Rules ws
rules ws = (rules_of ws, test_of ws)

-- ---- the code's test, by the rows that it cuts off

same : (a b : Bool) → (a ≡ true → T b) → (T b → a ≡ true) → a ≡ b
same true true f g = refl
same true false f g = absurd (f refl)
same false true f g = g tt
same false false f g = refl

pub is_true : (b : Bool) → T b → b ≡ true
is_true true t = refl
is_true false t = absurd t

pub is_T : {b : Bool} → b ≡ true → T b
is_T e = subst T (sym e) tt

module _ (ws : List ℕ) {rs : List (List ℕ)} (cut : rs ≡ first_chunks 2 (length ws / 2) ws) (many : length rs ≡ length ws / 2)
    (even : length ws % 2 ≡ 0) where
  row_is : (k : ℕ) → k < length rs → row_at (rows ws) k ≡ row_of rs k
  row_is k l = rw cut (cut_row (length ws / 2) ws (omega arith) k (omega arith))

  count_is : (k : ℕ) → k < length rs → (row_at (rows ws) k).r ≡ (row_of rs k).r
  count_is k l = ap (λ (p : Row). p.r) (row_is k l)

  row_count : length (rows ws) ≡ length rs
  row_count = rows_cut ws even ∙ sym many

  module _ {f : Bool} (fit : (f ≡ true) ↔ All (λ p. row_fits (row_in p) ≡ true) rs) where
    pub misfit : f ≡ false → f ≡ keeps_rules ws
    misfit e = same f (keeps_rules ws) (λ t. cc) (λ t. fit.1 (λ k d l. at k d l (rules_of ws t)))
      where
        at : (k : ℕ) (d : List ℕ) → k < length rs → Rules ws → row_fits (row_in (get_or rs k d)) ≡ true
        at k d l r =
            let i : k < length (rows ws) = omega (arith, row_count) in
            let same_row = get_or_default rs k d [] l in
            rw same_row (rw (← row_is k l) (is_true _ (fits_test _ (r.count_fits k i, r.value_fits k i))))

    module _ (fits : f ≡ true) {b : Bool}
        (rise : (b ≡ true) ↔ ((k : ℕ) → k + 1 < length rs → (row_of rs k).r < (row_of rs (k + 1)).r)) where
      pub by_rise : 2 ≤ length rs → length rs ≤ 16 → b ≡ keeps_rules ws
      by_rise h m = same b (keeps_rules ws) (λ t. test_of ws (kept (rise.0 t))) (λ t. rise.1 (risen (rules_of ws t)))
        where
          kept : ((k : ℕ) → k + 1 < length rs → (row_of rs k).r < (row_of rs (k + 1)).r) → Rules ws
          kept r = record {
            whole_rows = omega (arith, rows_cut ws even);
            at_least = omega (arith, row_count);
            at_most = omega (arith, row_count);
            count_fits = λ k l. (fits_at_row k l).0;
            value_fits = λ k l. (fits_at_row k l).1;
            count_rises = λ k l.
                let i : k + 1 < length rs = omega (arith, row_count) in
                let more : (row_of rs k).r < (row_of rs (suc k)).r = rw (add-one k) at (r k i) in
                omega (arith, more, count_is k (omega arith), count_is (suc k) (omega arith));
          }
            where
              fits_at_row : (k : ℕ) → k < length (rows ws) → Fits (row_at (rows ws) k)
              fits_at_row k l =
                  let i : k < length rs = omega (arith, row_count) in
                  rw (row_is k i) (fits_of _ (is_T (fit.0 fits k [] i)))

          risen : Rules ws → (k : ℕ) → k + 1 < length rs → (row_of rs k).r < (row_of rs (k + 1)).r
          risen r k l =
              let more = r.count_rises k (omega (arith, row_count)) in
              rw (add-one k) (omega (arith, more, count_is k (omega arith), count_is (suc k) (omega arith)))
