-- The steps of reading a line, from left to right. Assumes nothing.
use mathlib.Core.Path.{◌≡◌, refl, sym, ◌∙◌}
use mathlib.Core.Logic.{◌⊎◌, inl, inr}
use mathlib.Core.Bool.{Bool, true, false, ◌&&◌, cond}
use mathlib.Core.List.{List, [], ◌∷◌}
use Prim.Native.Nat.{ℕ, ◌+◌, ◌-◌, ◌*◌, ◌^◌, ◌≤◌, ◌<◌}
use native.Mathlib.Nat.{pow-suc, pow-le-pow_right}
use native.Mathlib.Numerals.{add-one}
use native.Mathlib.Omega.{arith}
use borrow.Author.Tests.{le-leb, lt-leb, lt-ltb, le-ltb}
use lib.Dec.{eqb, leb, eqb-suc-zero}
use lib.ListN.{length, get_or, take, drop, drop_of_length-le}
use lib.Pointwise.{pointwise}
use lib.Seq.{drop-cons}
use Rattle.std.proofs.lemmas.Bool.{true≢false}
use Rattle.std.specs.Char.{is_ascii_digit}
use Rattle.text_lines.specs.Lines.{Parsed, malformed, asking, with_sign, digits, after_sign, after_space, after_letter, from_letter, parsed}

-- whether a list begins with a prefix, as the library's `strip_prefix` asks
abbrev begins : (prefix s : List ℕ) → Bool
begins prefix s = pointwise eqb (take (length prefix) s) prefix

-- ---- the letter and the space, and the minus

-- "E" or "S" and then a space, byte by byte or as one prefix
letter_space : (x y m : Parsed) (d f e : Bool) → cond d (cond e x m) (cond f (cond e y m) m)
    ≡ cond (d && (e && true)) x (cond (f && (e && true)) y m)
letter_space x y m true f true = refl
letter_space x y m true true false = refl
letter_space x y m true false false = refl
letter_space x y m false true true = refl
letter_space x y m false true false = refl
letter_space x y m false false e = refl

letter_alone : (x y m : Parsed) (d f : Bool) → cond d m (cond f m m) ≡ cond (d && false) x (cond (f && false) y m)
letter_alone x y m true true = refl
letter_alone x y m true false = refl
letter_alone x y m false true = refl
letter_alone x y m false false = refl

pub by_prefix : (s : List ℕ) → from_letter s
    ≡ cond (begins (69 ∷ 32 ∷ []) s) (after_space 0 (drop 2 s)) (cond (begins (83 ∷ 32 ∷ []) s) (after_space 1 (drop 2 s)) malformed)
unfolding from_letter after_letter
by_prefix [] = refl
by_prefix (a ∷ []) = letter_alone (after_space 0 []) (after_space 1 []) malformed (eqb a 69) (eqb a 83)
by_prefix (a ∷ b ∷ s) = letter_space (after_space 0 s) (after_space 1 s) malformed (eqb a 69) (eqb a 83) (eqb b 32)

none : (mode : ℕ) → malformed ≡ after_sign mode false []
unfolding after_sign
none mode = refl

pub by_minus : (mode : ℕ) (s : List ℕ) → after_space mode s
    ≡ cond (begins (45 ∷ []) s) (after_sign mode true (drop 1 s)) (after_sign mode false s)
unfolding after_space
by_minus mode [] = none mode
by_minus mode (b ∷ s) = go (eqb b 45)
  where
    go : (d : Bool) → cond d (after_sign mode true s) (after_sign mode false (b ∷ s))
        ≡ cond (d && true) (after_sign mode true s) (after_sign mode false (b ∷ s))
    go true = refl
    go false = refl

pub long : (s : List ℕ) → 64 < length s → malformed ≡ parsed s
unfolding parsed
long s h = rw (lt-ltb 64 (length s) h)

pub short : (s : List ℕ) → length s ≤ 64 → parsed s ≡ from_letter s
unfolding parsed
short s h = rw (le-ltb 64 (length s) h)

-- ---- the digits

some : (mode : ℕ) (minus : Bool) (s : List ℕ) → eqb (length s) 0 ≡ false → length s ≤ 10 → after_sign mode minus s ≡ digits mode minus 0 s
unfolding after_sign
some mode minus [] f h = absurd (true≢false f)
some mode minus (b ∷ s) f h = rw (le-leb 1 (length (b ∷ s)) (omega arith), le-leb (length (b ∷ s)) 10 h)

-- none, or more than ten
pub miscounted : (mode : ℕ) (minus : Bool) (s : List ℕ) (e : Bool) → e ≡ eqb (length s) 0
    → (e ≡ true) ⊎ ((e ≡ false) × (10 < length s)) → malformed ≡ after_sign mode minus s
unfolding after_sign
miscounted mode minus [] e k h = refl
miscounted mode minus (b ∷ s) e k (inl t) = absurd (true≢false (sym t ∙ k ∙ eqb-suc-zero (length s)))
miscounted mode minus (b ∷ s) e k (inr h) = rw (le-leb 1 (length (b ∷ s)) (omega arith), lt-leb (length (b ∷ s)) 10 h.1)

module _ (mode : ℕ) (minus : Bool) (n : ℕ) (s : List ℕ) (i : ℕ) where
  next : i < length s → digits mode minus n (drop i s)
      ≡ cond (leb 48 (get_or s i 0) && leb (get_or s i 0) 57) (digits mode minus (n * 10 + (get_or s i 0 - 48)) (drop (i + 1) s)) malformed
  unfolding digits
  next h = rw (add-one i, drop-cons s i 0 h)

  pub not_digit : i < length s → is_ascii_digit (get_or s i 0) ≡ false → digits mode minus n (drop i s) ≡ malformed
  not_digit h f = rw (next h, f)

  pub digit : i < length s → is_ascii_digit (get_or s i 0) ≡ true
      → digits mode minus n (drop i s) ≡ digits mode minus (n * 10 + (get_or s i 0 - 48)) (drop (i + 1) s)
  digit h t = rw (next h, t)

  pub ended : length s ≤ i → digits mode minus n (drop i s) ≡ asking mode (with_sign minus n)
  unfolding digits
  ended l = rw (drop_of_length-le s l)

  -- what the digits from i on show is what all of them do
  pub all : eqb (length s) 0 ≡ false → length s ≤ 10 → digits mode minus n (drop i s) ≡ digits mode minus 0 s → {p : Parsed}
      → digits mode minus n (drop i s) ≡ p → p ≡ after_sign mode minus s
  all f h e q = sym (some mode minus s f h ∙ sym e ∙ q)

-- ---- the number's size

pub grown : (n d i : ℕ) → n < 10 ^ i → d < 10 → n * 10 + d < 10 ^ (i + 1)
grown n d i h k = rw (add-one i, pow-suc 10 i) (omega arith)

pub bounded : (n i l : ℕ) → i ≤ l → l ≤ 10 → n < 10 ^ i → n < 10 ^ 10
bounded n i l k m h = omega (arith, pow-le-pow_right {n = 10} (omega arith) {i = i} {j = 10} (omega arith))
