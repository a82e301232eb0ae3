-- The conditions of document 01, "Turned down", test by test. Assumes nothing.
use mathlib.Core.Path.{◌≡◌, refl, sym, ap, ◌∙◌, subst}
use mathlib.Core.Logic.{◌⊎◌, inl, inr}
use mathlib.Core.Bool.{Bool, true, false, not, ◌||◌}
use mathlib.Core.List.{List}
use Prim.Native.Nat.{ℕ, ◌%◌, ◌≤◌, ◌<◌}
use native.Mathlib.Omega.{arith}
use borrow.Author.Tests.{lt-ltb, le-ltb, ltb-false, eq-eqb, ne_eqb, eqb-true, not-false}
use lib.Dec.{eqb, ltb}
use lib.ListN.{length, get_or}
use Rattle.programs.specs.declared.Order.{Order}
use Rattle.programs.specs.declared.kind.Kind.{Kind}
use Rattle.programs.specs.declared.kind.Kind.TheVariants.{Add, Subtract, AddConstant, TimesConstant, Product, Refresh}
use Rattle.programs.specs.declared.kind.Kind.TheVariants.{Slack, OneBit, Exact, Relu, Curve}
use Rattle.programs.specs.Kinds.{kind_number}
use Rattle.jobs.specs.Job.{ill_sized, unknown_kind, two_sources, unknown_register, ill_fourths, ill_fourth, order_fault}
use Rattle.jobs.proofs.Accepted.{or_false}

-- ---- condition 2

module _ (job : List ℕ) where
  pub no_words : length job ≡ 0 → true ≡ ill_sized job
  unfolding ill_sized
  no_words e = rw (eq-eqb (length job) 0 e)

  pub too_many : (length job ≡ 0 → ⊥) → 256 < length job → true ≡ ill_sized job
  unfolding ill_sized
  too_many z h = rw (ne_eqb (length job) 0 z, lt-ltb 256 (length job) h)

  pub by_fours : (length job ≡ 0 → ⊥) → length job ≤ 256 → not (eqb (length job % 4) 0) ≡ ill_sized job
  unfolding ill_sized
  by_fours z h = rw (ne_eqb (length job) 0 z, le-ltb 256 (length job) h)

  pub sized : ill_sized job ≡ false → (length job ≤ 256) × (length job % 4 ≡ 0)
  unfolding ill_sized
  sized e =
      let a = or_false (eqb (length job) 0 || ltb 256 (length job)) (not (eqb (length job % 4) 0)) e in
      let b = or_false (eqb (length job) 0) (ltb 256 (length job)) a.0 in
      (ltb-false 256 (length job) b.1, eqb-true (length job % 4) 0 (not-false (eqb (length job % 4) 0) a.1))

-- ---- condition 4

-- the kinds whose fourth word is a second source
two : (k : Kind) → (k ≡ Add) ⊎ ((k ≡ Subtract) ⊎ (k ≡ Product)) → two_sources (kind_number k) ≡ true
unfolding two_sources
two k (inl h) = rw h
two k (inr (inl h)) = rw h
two k (inr (inr h)) = rw h

one : (k : Kind) → (k ≡ Add → ⊥) → (k ≡ Subtract → ⊥) → (k ≡ Product → ⊥) → two_sources (kind_number k) ≡ false
unfolding two_sources
one Add a b d = absurd (a refl)
one Subtract a b d = absurd (b refl)
one AddConstant a b d = refl
one TimesConstant a b d = refl
one Product a b d = absurd (d refl)
one Refresh a b d = refl
one Slack a b d = refl
one OneBit a b d = refl
one Exact a b d = refl
one Relu a b d = refl
one Curve a b d = refl

module _ (o : Order) where
  pub target_above : 15 < o.target → true ≡ unknown_register o
  unfolding unknown_register
  target_above h = rw (lt-ltb 15 o.target h)

  pub source_above : o.target ≤ 15 → 15 < o.source → true ≡ unknown_register o
  unfolding unknown_register
  source_above t h = rw (le-ltb 15 o.target t, lt-ltb 15 o.source h)

  module _ (t : o.target ≤ 15) (s : o.source ≤ 15) where
    pub second_source : {k : Kind} → kind_number k ≡ o.kind → (k ≡ Add) ⊎ ((k ≡ Subtract) ⊎ (k ≡ Product))
        → ltb 15 o.fourth ≡ unknown_register o
    unfolding unknown_register
    second_source e h = rw (le-ltb 15 o.target t, le-ltb 15 o.source s, ap two_sources (sym e) ∙ two _ h)

    pub one_source : {k : Kind} → kind_number k ≡ o.kind → (k ≡ Add → ⊥) → (k ≡ Subtract → ⊥) → (k ≡ Product → ⊥)
        → false ≡ unknown_register o
    unfolding unknown_register
    one_source e a b d = rw (le-ltb 15 o.target t, le-ltb 15 o.source s, ap two_sources (sym e) ∙ one _ a b d)

-- ---- condition 5

module _ (w : ℕ) (ruled : Bool) (o : Order) (k : Kind) (e : kind_number k ≡ o.kind) where
  pub fourth_of : {j : Kind} → k ≡ j → {b : Bool} → b ≡ get_or (ill_fourths w ruled o.fourth) (kind_number j) false
      → b ≡ ill_fourth w ruled o
  unfolding ill_fourth
  fourth_of h q = q ∙ ap (λ n. get_or (ill_fourths w ruled o.fourth) n false) (ap kind_number (sym h) ∙ e)

-- of the kinds whose fourth word is a register or any constant
module _ (w : ℕ) (ruled : Bool) (o : Order) where
  pub any_fourth : (k : Kind) → kind_number k ≡ o.kind → (k ≡ Refresh → ⊥) → (k ≡ Slack → ⊥) → (k ≡ OneBit → ⊥) → (k ≡ Exact → ⊥)
      → (k ≡ Relu → ⊥) → (k ≡ Curve → ⊥) → false ≡ ill_fourth w ruled o
  unfolding ill_fourths
  any_fourth Add e a b d f g h = fourth_of w ruled o Add e refl refl
  any_fourth Subtract e a b d f g h = fourth_of w ruled o Subtract e refl refl
  any_fourth AddConstant e a b d f g h = fourth_of w ruled o AddConstant e refl refl
  any_fourth TimesConstant e a b d f g h = fourth_of w ruled o TimesConstant e refl refl
  any_fourth Product e a b d f g h = fourth_of w ruled o Product e refl refl
  any_fourth Refresh e a b d f g h = absurd (a refl)
  any_fourth Slack e a b d f g h = absurd (b refl)
  any_fourth OneBit e a b d f g h = absurd (d refl)
  any_fourth Exact e a b d f g h = absurd (f refl)
  any_fourth Relu e a b d f g h = absurd (g refl)
  any_fourth Curve e a b d f g h = absurd (h refl)

-- ---- the first of 3, 4 and 5

known : (k : Kind) → kind_number k ≤ 10
known Add = omega arith
known Subtract = omega arith
known AddConstant = omega arith
known TimesConstant = omega arith
known Product = omega arith
known Refresh = omega arith
known Slack = omega arith
known OneBit = omega arith
known Exact = omega arith
known Relu = omega arith
known Curve = omega arith

module _ (w : ℕ) (ruled : Bool) (o : Order) where
  pub fault_3 : 10 < o.kind → 3 ≡ order_fault w ruled o
  unfolding order_fault unknown_kind
  fault_3 h = rw (lt-ltb 10 o.kind h)

  module _ (k : Kind) (ek : kind_number k ≡ o.kind) {r : Bool} (er : r ≡ unknown_register o) where
    pub fault_4 : r ≡ true → 4 ≡ order_fault w ruled o
    unfolding order_fault unknown_kind
    fault_4 e = rw (le-ltb 10 o.kind (subst (λ n. n ≤ 10) ek (known k)), ← er, e)

    module _ (registers : r ≡ false) {f : Bool} (ef : f ≡ ill_fourth w ruled o) where
      pub fault_5 : f ≡ true → 5 ≡ order_fault w ruled o
      unfolding order_fault unknown_kind
      fault_5 e = rw (le-ltb 10 o.kind (subst (λ n. n ≤ 10) ek (known k)), ← er, registers, ← ef, e)

      pub no_fault : f ≡ false → 0 ≡ order_fault w ruled o
      unfolding order_fault unknown_kind
      no_fault e = rw (le-ltb 10 o.kind (subst (λ n. n ≤ 10) ek (known k)), ← er, registers, ← ef, e)
