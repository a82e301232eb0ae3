-- The word of a number: sums, differences and products go over to words. Assumes nothing.
use mathlib.Core.Path.{◌≡◌, refl, sym, ap, ap₂, ◌∙◌}
use mathlib.Core.Logic.{⊎_elim}
use Prim.Native.Nat.{ℕ, zero, suc, ◌+◌, ◌-◌, ◌*◌, ◌/◌, ◌%◌, ◌^◌, ◌≤◌, ◌<◌}
use native.Mathlib.Nat.{mod-lt, mod-add-mod, add-mod-mod, mod-eq_of_lt, zero-mul, div-lt_iff_lt-mul, div-add-mod'}
use native.Mathlib.Omega.{arith}
use lib.IntN.{ℤ, pos, negsuc, neg_ℤ, ◌+ℤ◌, ◌-ℤ◌, ◌*ℤ◌, +ℤ_invr, +ℤ_one, -ℤ_one, zero-*ℤ, suc_ℤ-*ℤ, pred_ℤ-*ℤ}
use lib.Signed.{mag}
use lib.Pow.{pow_pos, pow-add}
use lib.Arith.{digits_mod}
use Rattle.words.specs.Words.{add, sub, neg, mul}
use Rattle.words.specs.Signed.{signed, wrap}
use Rattle.words.proofs.Solver.{◌⊕◌, ◌⊖◌, ◌⊗◌, `1, solve, neg_unique}
use Rattle.words.proofs.Words.{Word, word_path, number_words, number_ring, sub_is}
use Rattle.words.proofs.Integers.{le_or_lt, sub_ge, sub_below, sub_add}
use Rattle.truncations.proofs.Truncation.{low_low}
use Rattle.words.proofs.Signed.{wrap_lt, wrap_sub, wrap_signed}
use Rattle.curves.proofs.Integers.{steps, up, down, up_down, minus}

module _ (w : ℕ) where
  residue : ℕ → Word w
  residue n = (n % 2 ^ w, mod-lt n (pow_pos w))

  word : ℤ → Word w
  word z = (wrap w z, wrap_lt w z)

  residue_add : (a b : ℕ) → (a + b) % 2 ^ w ≡ add w (a % 2 ^ w) (b % 2 ^ w)
  unfolding add
  residue_add a b = sym (mod-add-mod a (2 ^ w) (b % 2 ^ w) ∙ add-mod-mod a b (2 ^ w))

  pub wrap_add : (a b : ℤ) → wrap w (a +ℤ b) ≡ add w (wrap w a) (wrap w b)
  unfolding residue
  wrap_add a b =
      ap (wrap w) (ap₂ ◌+ℤ◌ (up_down a) (up_down b) ∙ sub_add (up a) (down a) (up b) (down b))
      ∙ wrap_sub w (up a + up b) (down a + down b)
      ∙ ap₂ (sub w) (residue_add (up a) (up b)) (residue_add (down a) (down b))
      ∙ ap (λ (x : Word w). x.0)
      (solve (number_words w) (number_ring w) 4 (λ a b c d. (a ⊕ c ⊖ (b ⊕ d), a ⊖ b ⊕ (c ⊖ d))) refl (residue (up a)) (residue (down a))
      (residue (up b)) (residue (down b)))
      ∙ sym (ap₂ (add w) (apart a) (apart b))
    where
      apart : (z : ℤ) → wrap w z ≡ sub w (up z % 2 ^ w) (down z % 2 ^ w)
      apart z = ap (wrap w) (up_down z) ∙ wrap_sub w (up z) (down z)

  pub nothing : wrap w (pos 0) ≡ 0
  unfolding wrap
  nothing = mod-eq_of_lt (pow_pos w)

  pub wrap_neg : (a : ℤ) → wrap w (neg_ℤ a) ≡ neg w (wrap w a)
  unfolding word
  wrap_neg a =
      ap (λ (x : Word w). x.0)
      (neg_unique (number_words w) (number_ring w) (word a) (word (neg_ℤ a))
      (word_path (sym (wrap_add a (neg_ℤ a)) ∙ ap (wrap w) (+ℤ_invr a) ∙ nothing)))

  pub wrap_minus : (a b : ℤ) → wrap w (a -ℤ b) ≡ sub w (wrap w a) (wrap w b)
  wrap_minus a b = wrap_add a (neg_ℤ b) ∙ ap (add w (wrap w a)) (wrap_neg b) ∙ sym (sub_is w (wrap w a) (wrap w b))

  pub wrap_mul : (a b : ℤ) → wrap w (a *ℤ b) ≡ mul w (wrap w a) (wrap w b)
  unfolding word wrap mul
  wrap_mul a b =
      steps (λ z. wrap w (z *ℤ b) ≡ mul w (wrap w z) (wrap w b))
      (ap (wrap w) (zero-*ℤ b) ∙ nothing
      ∙ sym (ap (λ (x : ℕ). x * wrap w b % 2 ^ w) nothing ∙ ap (λ (x : ℕ). x % 2 ^ w) (zero-mul (wrap w b)) ∙ nothing))
      (λ z h.
      ap (wrap w) (suc_ℤ-*ℤ z b) ∙ wrap_add (z *ℤ b) b ∙ ap (λ (x : ℕ). add w x (wrap w b)) h
      ∙ ap (λ (x : Word w). x.0) (solve (number_words w) (number_ring w) 2 (λ z b. (z ⊗ b ⊕ b, (z ⊕ `1) ⊗ b)) refl (word z) (word b))
      ∙ ap (λ (x : ℕ). mul w x (wrap w b)) (sym (wrap_add z (pos 1)) ∙ ap (wrap w) (+ℤ_one z)))
      (λ z h.
      ap (wrap w) (pred_ℤ-*ℤ z b) ∙ wrap_minus (z *ℤ b) b ∙ ap (λ (x : ℕ). sub w x (wrap w b)) h
      ∙ ap (λ (x : Word w). x.0) (solve (number_words w) (number_ring w) 2 (λ z b. (z ⊗ b ⊖ b, (z ⊖ `1) ⊗ b)) refl (word z) (word b))
      ∙ ap (λ (x : ℕ). mul w x (wrap w b)) (sym (wrap_minus z (pos 1)) ∙ ap (wrap w) (-ℤ_one z)))
      a

pub mag_minus : (z : ℤ) (r : ℕ) → mag (z -ℤ pos r) ≤ mag z + r
mag_minus (pos n) r =
    ⊎_elim
    (λ (l : r ≤ n). rw (minus n r, sub_ge n r l) (omega arith))
    (λ (l : n < r). rw (minus n r, sub_below n r l) (omega arith))
    (le_or_lt r n)
mag_minus (negsuc n) zero = rw (sub_below 0 (suc n) (omega arith)) (omega arith)
mag_minus (negsuc n) (suc r) = omega arith

-- ---- the low bits of a word

-- of the word of z they are the word of z, of fewer bits
pub wrap_low : (w k : ℕ) (z : ℤ) → k ≤ w → wrap w z % 2 ^ k ≡ wrap k z
unfolding wrap
wrap_low w k (pos n) h = low_low w k n h
wrap_low w k (negsuc n) h =
    let m : ℕ = n % 2 ^ w in
    let c : ℕ = 2 ^ (w - k) in
    let q : ℕ = m / 2 ^ k in
    let p : 2 ^ w ≡ c * 2 ^ k = ap (λ (x : ℕ). 2 ^ x) (omega arith) ∙ pow-add 2 (w - k) k in
    let l : m < c * 2 ^ k = omega (arith, mod-lt n (pow_pos w)) in
    let i : q < c = (div-lt_iff_lt-mul (pow_pos k)).1 l in
    let r : m % 2 ^ k < 2 ^ k = mod-lt m (pow_pos k) in
    let e : c ≡ c - suc q + suc q = omega arith in
    let d : 2 ^ w - suc m ≡ (c - suc q) * 2 ^ k + (2 ^ k - suc (m % 2 ^ k)) =
    omega (arith, ap (λ (x : ℕ). x * 2 ^ k) e, div-add-mod' m (2 ^ k)) in
    ap (λ (x : ℕ). x % 2 ^ k) d ∙ digits_mod (c - suc q) (omega arith) ∙ ap (λ (x : ℕ). 2 ^ k - suc x) (low_low w k n h)

pub word_low : (w k x : ℕ) → k ≤ w → x < 2 ^ w → x % 2 ^ k ≡ wrap k (signed w x)
word_low w k x h l = ap (λ (y : ℕ). y % 2 ^ k) (sym (wrap_signed w x l)) ∙ wrap_low w k (signed w x) h
