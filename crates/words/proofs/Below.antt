-- Identities of the numbers below 2^w, under operations that a commutative ring of words carries: `solve_below`, for numbers and for bits
-- at once. Assumes nothing.
use Rattle.std.proofs.Common.{◌≡◌, ℕ, zero, suc, ◌^◌, ◌<◌, List, [], ◌∷◌, get_or, sym, refl, ap, ◌∙◌, ap₂}
use Rattle.words.specs.Ring.{Ops, Ring}
use Rattle.words.specs.Words.{numbers, bits}
use Rattle.words.proofs.Solver.{Expr, var, ◌⊕◌, ◌⊖◌, ◌⊗◌, ⊝, `0, `1, Eqn, sides, eval, norm, solve_at}
use Rattle.words.proofs.Words.{Word, number_words, number_ring, bit_words, bit_ring}

-- the operations O on numbers are a ring's on words of w bits
pub record Carrier (w : ℕ) (O : Ops ℕ) : Type 0 where
  pub ops : Ops (Word w)
  pub ring : Ring ops
  pub add_is : (x y : Word w) → (ops.add x y).0 ≡ O.add x.0 y.0
  pub sub_is : (x y : Word w) → (ops.sub x y).0 ≡ O.sub x.0 y.0
  pub mul_is : (x y : Word w) → (ops.mul x y).0 ≡ O.mul x.0 y.0
  pub neg_is : (x : Word w) → (ops.neg x).0 ≡ O.neg x.0
  pub nil_is : ops.nil.0 ≡ O.nil
  pub one_is : ops.one.0 ≡ O.one

pub number_carrier : (w : ℕ) → Carrier w (numbers w)
number_carrier w =
    record {
      ops = number_words w;
      ring = number_ring w;
      add_is = λ x y. refl;
      sub_is = λ x y. refl;
      mul_is = λ x y. refl;
      neg_is = λ x. refl;
      nil_is = refl;
      one_is = refl;
    }

pub bit_carrier : (w : ℕ) → Carrier w (bits w)
bit_carrier w =
    record {
      ops = bit_words w;
      ring = bit_ring w;
      add_is = λ x y. refl;
      sub_is = λ x y. refl;
      mul_is = λ x y. refl;
      neg_is = λ x. refl;
      nil_is = refl;
      one_is = refl;
    }

abbrev numbers_of : (w : ℕ) → List (Word w) → List ℕ
numbers_of w [] = []
numbers_of w (x ∷ ρ) = x.0 ∷ numbers_of w ρ

-- P of every k numbers below 2^w
abbrev pub EveryBelow : (w k : ℕ) → (List ℕ → Type 0) → Type 0
EveryBelow w zero P = P []
EveryBelow w (suc k) P = (x : ℕ) → x < 2 ^ w → EveryBelow w k (λ ρ. P (x ∷ ρ))

every_below : (w k : ℕ) (P : List ℕ → Type 0) → ((ρ : List (Word w)) → P (numbers_of w ρ)) → EveryBelow w k P
every_below w zero P h = h []
every_below w (suc k) P h = λ x l. every_below w k (λ ρ. P (x ∷ ρ)) (λ ρ. h ((x, l) ∷ ρ))

module _ (w : ℕ) (O : Ops ℕ) (C : Carrier w O) where
  open C use {ops, ring}

  read_var : (ρ : List (Word w)) (i : ℕ) → (get_or ρ i ops.nil).0 ≡ get_or (numbers_of w ρ) i O.nil
  read_var [] i = C.nil_is
  read_var (x ∷ ρ) zero = refl
  read_var (x ∷ ρ) (suc i) = read_var ρ i

  -- an expression of words is the expression of their numbers
  read : (ρ : List (Word w)) (e : Expr) → (eval ops ρ e).0 ≡ eval O (numbers_of w ρ) e
  read ρ (var i) = read_var ρ i
  read ρ (e ⊕ f) = C.add_is (eval ops ρ e) (eval ops ρ f) ∙ ap₂ O.add (read ρ e) (read ρ f)
  read ρ (e ⊖ f) = C.sub_is (eval ops ρ e) (eval ops ρ f) ∙ ap₂ O.sub (read ρ e) (read ρ f)
  read ρ (e ⊗ f) = C.mul_is (eval ops ρ e) (eval ops ρ f) ∙ ap₂ O.mul (read ρ e) (read ρ f)
  read ρ (⊝ e) = C.neg_is (eval ops ρ e) ∙ ap O.neg (read ρ e)
  read ρ `0 = C.nil_is
  read ρ `1 = C.one_is

  below : (ρ : List (Word w)) (e f : Expr) → norm e ≡ norm f → eval O (numbers_of w ρ) e ≡ eval O (numbers_of w ρ) f
  below ρ e f h = sym (read ρ e) ∙ ap (λ (x : Word w). x.0) (solve_at ops ring ρ e f h) ∙ read ρ f

  -- an identity of k numbers below 2^w, by `refl`, where both sides have one normal form
  pub solve_below : (k : ℕ) (b : Eqn k) → norm (sides k 0 b).0 ≡ norm (sides k 0 b).1
      → EveryBelow w k (λ ρ. eval O ρ (sides k 0 b).0 ≡ eval O ρ (sides k 0 b).1)
  solve_below k b h =
      every_below w k (λ ρ. eval O ρ (sides k 0 b).0 ≡ eval O ρ (sides k 0 b).1) (λ ρ. below ρ (sides k 0 b).0 (sides k 0 b).1 h)
