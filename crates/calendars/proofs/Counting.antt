-- The laws of R-6's definitions, for the crates above: how many of a run and which first, the quarters as bits, the
-- factor, and what `counted` answers. Assumes nothing.
use mathlib.Core.Path.{◌≡◌, refl, sym, ap, ◌∙◌}
use mathlib.Core.Bool.{Bool, true, false, cond}
use mathlib.Core.List.{List}
use Prim.Native.Nat.{ℕ, zero, suc, ◌+◌, ◌*◌, ◌/◌, ◌%◌, ◌≤◌, ◌<◌}
use native.Mathlib.Nat.{div-mul-le_self, div-lt_iff_lt-mul}
use native.Mathlib.Numerals.{add-one}
use native.Mathlib.Omega.{arith}
use borrow.Author.Tests.{lt-ltb, le-ltb, eqb-true, eqb-false, ne_eqb}
use lib.Dec.{eqb}
use lib.ListN.{get_or}
use Rattle.words.specs.Words.{bit}
use Rattle.calendars.specs.declared.Quarters.{Quarters}
use Rattle.calendars.specs.Ranges.{digit, number, next, packed}
use Rattle.calendars.specs.Calendar.{calendar_number, factor}
use Rattle.calendars.specs.Quarters.{held, quarters_where}
use Rattle.calendars.specs.Answers.{refused, accepted, counted}
use Rattle.calendars.proofs.Packing.{bit_packed}

-- ---- how many

digit_le : (b : Bool) → digit b ≤ 1
digit_le true = omega arith
digit_le false = omega arith

module _ (f : ℕ → Bool) where
  pub number_le : (q n : ℕ) → number f q n ≤ n
  unfolding number
  number_le q zero = omega arith
  number_le q (suc n) = omega (arith, digit_le (f q), number_le (suc q) n)

  -- a run in parts
  pub number_add : (q m n : ℕ) → number f q (m + n) ≡ number f q m + number f (q + m) n
  unfolding number
  number_add q zero n = let a : zero + n ≡ n = omega arith in let b : q + zero ≡ q = omega arith in rw (a, b) (omega arith)
  number_add q (suc m) n =
      let a : suc m + n ≡ suc (m + n) = omega arith in
      let b : q + suc m ≡ suc q + m = omega arith in
      rw (a, b, number_add (suc q) m n) (omega arith)

  pub number_more : (n : ℕ) → number f 0 (suc n) ≡ number f 0 n + digit (f n)
  unfolding number
  number_more n =
      let a : 0 + n ≡ n = omega arith in
      let s : number f 0 (n + 1) ≡ number f 0 n + (digit (f n) + 0) = rw a at (number_add 0 n 1) in
      ap (number f 0) (sym (add-one n)) ∙ omega (arith, s)

  -- the 96 quarters, word by word
  pub number_of_words : number f 0 96 ≡ number f 0 32 + number f 32 32 + number f 64 32
  number_of_words = number_add 0 64 32 ∙ ap (λ (x : ℕ). x + number f 64 32) (number_add 0 32 32)

pub number_alike : (f g : ℕ → Bool) (q n : ℕ) → ((k : ℕ) → k < n → f (q + k) ≡ g (q + k)) → number f q n ≡ number g q n
unfolding number
number_alike f g q zero h = refl
number_alike f g q (suc n) h =
    let a : q + 0 ≡ q = omega arith in
    let e : f q ≡ g q = rw a at (h 0 (omega arith)) in
    let r : number f (suc q) n ≡ number g (suc q) n
    = number_alike f g (suc q) n (λ k l. let b : q + suc k ≡ suc q + k = omega arith in rw b at (h (suc k) (omega arith))) in
    rw (e, r)

number_of : (b : Bool) (q n : ℕ) → number (λ k. b) q n ≡ digit b * n
unfolding number
number_of b q zero = omega arith
number_of true q (suc n) = omega (arith, number_of true (suc q) n)
number_of false q (suc n) = omega (arith, number_of false (suc q) n)

module _ (f : ℕ → Bool) (q n : ℕ) where
  pub number_all : ((k : ℕ) → k < n → f (q + k) ≡ true) → number f q n ≡ n
  number_all h = omega (arith, number_alike f (λ k. true) q n h, number_of true q n)

  pub number_none : ((k : ℕ) → k < n → f (q + k) ≡ false) → number f q n ≡ 0
  number_none h = omega (arith, number_alike f (λ k. false) q n h, number_of false q n)

-- ---- which first

pub next_from : (f : ℕ → Bool) (q n : ℕ) → (q ≤ next f q n) × (next f q n ≤ q + n)
unfolding next
next_from f q zero = (omega arith, omega arith)
next_from f q (suc n) = go (f q) (next f (suc q) n) (next_from f (suc q) n)
  where
    go : (b : Bool) (x : ℕ) → (suc q ≤ x) × (x ≤ suc q + n) → (q ≤ cond b q x) × (cond b q x ≤ q + suc n)
    go true x h = (omega arith, omega arith)
    go false x h = (omega (arith, h.0), omega (arith, h.1))

pub next_skips : (f : ℕ → Bool) (q n k : ℕ) → q ≤ k → k < next f q n → f k ≡ false
unfolding next
next_skips f q zero k h l = absurd (omega arith)
next_skips f q (suc n) k h l = go (f q) refl (eqb k q) refl l (next_skips f (suc q) n k)
  where
    go : (b : Bool) → f q ≡ b → (t : Bool) → eqb k q ≡ t → k < cond b q (next f (suc q) n)
        → (suc q ≤ k → k < next f (suc q) n → f k ≡ false) → f k ≡ false
    go true e t s l later = absurd (omega arith)
    go false e true s l later = ap f (eqb-true k q s) ∙ e
    go false e false s l later = later (above (eqb-false k q s)) l
      where
        above : (k ≡ q → ⊥) → suc q ≤ k
        above ne = omega (arith, ne)

pub next_holds : (f : ℕ → Bool) (q n : ℕ) → next f q n < q + n → f (next f q n) ≡ true
unfolding next
next_holds f q zero l = absurd (omega arith)
next_holds f q (suc n) l = go (f q) refl (next f (suc q) n) l (next_holds f (suc q) n)
  where
    go : (b : Bool) → f q ≡ b → (x : ℕ) → cond b q x < q + suc n → (x < suc q + n → f x ≡ true) → f (cond b q x) ≡ true
    go true e x l later = e
    go false e x l later = later (omega arith)

-- ---- a quarter, by the word that its bit is in

module _ (x : Quarters) (q : ℕ) where
  pub in_words : q < 96 → eqb (bit (get_or x.words (q / 32) 0) (q % 32)) 1 ≡ held x q
  unfolding held
  in_words h = rw (lt-ltb q 96 h)

  pub in_none : 96 ≤ q → false ≡ held x q
  unfolding held
  in_none l = rw (le-ltb q 96 l)

-- bit i of word k
pub in_word : (x : Quarters) (k i : ℕ) → k < 3 → i < 32 → eqb (bit (get_or x.words k 0) i) 1 ≡ held x (32 * k + i)
in_word x k i h l =
    let word : (32 * k + i) / 32 ≡ k = omega arith in
    let place : (32 * k + i) % 32 ≡ i = omega arith in
    rw (word, place) at (in_words x (32 * k + i) (omega arith))

-- the bits of a test are the test
module _ (f : ℕ → Bool) where
  word_where : (k : ℕ) → k < 3 → get_or (quarters_where f).words k 0 ≡ packed f (32 * k) 32
  word_where zero h = refl
  word_where (suc zero) h = refl
  word_where (suc (suc zero)) h = refl
  word_where (suc (suc (suc k))) h = absurd (omega arith)

  pub held_where : (q : ℕ) → q < 96 → held (quarters_where f) q ≡ f q
  held_where q h =
      let e : 32 * (q / 32) + q % 32 ≡ q = omega arith in
      let w : bit (get_or (quarters_where f).words (q / 32) 0) (q % 32) ≡ digit (f q)
      = ap (λ (x : ℕ). bit x (q % 32)) (word_where (q / 32) (omega arith))
      ∙ bit_packed f (32 * (q / 32)) 32 (q % 32) (omega arith) ∙ ap (λ (x : ℕ). digit (f x)) e in
      sym (in_words (quarters_where f) q h) ∙ ap (λ (x : ℕ). eqb x 1) w ∙ digit_is (f q)
    where
      digit_is : (b : Bool) → eqb (digit b) 1 ≡ b
      digit_is true = refl
      digit_is false = refl

-- ---- the factor

module _ (n : ℕ) (h : 1 ≤ n) (l : n ≤ 96) where
  pub factor_bound : factor n * n ≤ 65536
  unfolding factor
  factor_bound = div-mul-le_self 65536 n

  pub factor_above : 65536 < (factor n + 1) * n
  unfolding factor
  factor_above = (div-lt_iff_lt-mul h).0 (omega arith)

-- R-3's
pub whole_factor : factor 96 ≡ 682
unfolding factor
whole_factor = refl

-- ---- what `counted` answers

module _ (c : List ℕ) (d : ℕ) where
  pub answered : calendar_number c d ≡ 0 → counted c d ≡ accepted c d
  unfolding counted
  answered e = rw e

  pub turned : (calendar_number c d ≡ 0 → ⊥) → counted c d ≡ refused (calendar_number c d)
  unfolding counted
  turned h = rw (ne_eqb (calendar_number c d) 0 h)
