-- Each test of specs/Job.antt is the condition of document 01 in plain words, in both directions. Assumes nothing.
use mathlib.Core.Path.{◌≡◌, refl, subst}
use mathlib.Core.Bool.{Bool, true, false, not, ◌&&◌, ◌||◌}
use mathlib.Core.List.{List}
use mathlib.Core.Logic.{◌↔◌, ◌≢◌, ◌⊎◌, inl, inr, ⊎_elim}
use Prim.Native.Nat.{ℕ, zero, suc, ◌-◌, ◌%◌, ◌<◌}
use native.Mathlib.Omega.{arith}
use lib.Dec.{T, T_not, not_T, eqb, ltb, eqb→eq, eqb_refl, ltb→lt, lt→ltb}
use lib.ListN.{length, get_or}
use Rattle.tables.specs.Table.{keeps_rules, Rules}
use Rattle.tables.proofs.Rows.{rules}
use Rattle.gates.specs.Costs.{Cost}
use Rattle.programs.specs.declared.Order.{Order}
use Rattle.jobs.specs.declared.Which.{Which}
use Rattle.jobs.specs.declared.Which.TheVariants.{ListA, ListB}
use Rattle.jobs.specs.Job.{ill_sized, unknown_kind, two_sources, unknown_register, no_shift, ill_fourths, ill_fourth, short_a}
use Rattle.jobs.specs.Job.{short_b}
use Rattle.jobs.specs.Answers.{need, short}
use Rattle.jobs.specs.FirstFault.{IllSized, no_words, above_256, not_by_4, NoShift, Meets, kind_above, target_above, source_above}
use Rattle.jobs.specs.FirstFault.{second_above, refresh_not_0, relu_not_0}
use Rattle.jobs.specs.FirstFault.{slack_shift, one_bit_shift, exact_shift, curve_mode, curve_table}

-- ---- tests, part by part

less : (a b : ℕ) → T (ltb a b) ↔ (a < b)
less a b = (ltb→lt a b, lt→ltb a b)

same : (a b : ℕ) → T (eqb a b) ↔ (a ≡ b)
same a b = (eqb→eq a b, λ e. subst (λ (k : ℕ). T (eqb a k)) e (eqb_refl a))

module _ {A : Type 0} where
  negated : (a : Bool) → T a ↔ A → T (not a) ↔ (A → ⊥)
  negated a p = (λ t x. T_not a t (p.1 x), λ f. not_T a (λ t. f (p.0 t)))

  module _ {B : Type 0} where
    either : (a b : Bool) → T a ↔ A → T b ↔ B → T (a || b) ↔ (A ⊎ B)
    either true b p q = (λ t. inl (p.0 tt), λ s. tt)
    either false b p q = (λ t. inr (q.0 t), ⊎_elim (λ x. absurd (p.1 x)) q.1)

    both : (a b : Bool) → T a ↔ A → T b ↔ B → T (a && b) ↔ (A × B)
    both true b p q = (λ t. (p.0 tt, q.0 t), λ s. q.1 s.1)
    both false b p q = (λ t. absurd t, λ s. p.1 s.0)

-- ---- condition 2

pub size_plainly : (job : List ℕ) → T (ill_sized job) ↔ IllSized job
unfolding ill_sized
size_plainly job = (λ t. tells (tested.0 t), λ p. tested.1 (asks p))
  where
    tested : T (eqb (length job) 0 || ltb 256 (length job) || not (eqb (length job % 4) 0))
        ↔ (((length job ≡ 0) ⊎ (256 < length job)) ⊎ (length job % 4 ≢ 0))
    tested =
        either (eqb (length job) 0 || ltb 256 (length job)) (not (eqb (length job % 4) 0))
        (either (eqb (length job) 0) (ltb 256 (length job)) (same (length job) 0) (less 256 (length job)))
        (negated (eqb (length job % 4) 0) (same (length job % 4) 0))

    tells : ((length job ≡ 0) ⊎ (256 < length job)) ⊎ (length job % 4 ≢ 0) → IllSized job
    tells (inl (inl h)) = no_words h
    tells (inl (inr h)) = above_256 h
    tells (inr h) = not_by_4 h

    asks : IllSized job → ((length job ≡ 0) ⊎ (256 < length job)) ⊎ (length job % 4 ≢ 0)
    asks (no_words h) = inl (inl h)
    asks (above_256 h) = inl (inr h)
    asks (not_by_4 h) = inr h

-- ---- the conditions of an order

module _ (w : ℕ) (table : List ℕ) (o : Order) where
  -- they are 3, 4 and 5
  pub of_orders : {n : ℕ} → Meets w table o n → (n ≡ 3) ⊎ (n ≡ 4) ⊎ (n ≡ 5)
  of_orders (kind_above h) = inl refl
  of_orders (target_above h) = inr (inl refl)
  of_orders (source_above h) = inr (inl refl)
  of_orders (second_above k h) = inr (inl refl)
  of_orders (refresh_not_0 k h) = inr (inr refl)
  of_orders (relu_not_0 k h) = inr (inr refl)
  of_orders (slack_shift k h) = inr (inr refl)
  of_orders (one_bit_shift k h) = inr (inr refl)
  of_orders (exact_shift k h) = inr (inr refl)
  of_orders (curve_mode k h) = inr (inr refl)
  of_orders (curve_table k h) = inr (inr refl)

  -- ---- 3

  pub kind_plainly : T (unknown_kind o) ↔ Meets w table o 3
  unfolding unknown_kind
  kind_plainly = (λ t. kind_above (ltb→lt 10 o.kind t), λ p. asks p refl)
    where
      asks : {n : ℕ} → Meets w table o n → n ≡ 3 → T (ltb 10 o.kind)
      asks (kind_above h) e = lt→ltb 10 o.kind h
      asks (target_above h) e = absurd (omega arith)
      asks (source_above h) e = absurd (omega arith)
      asks (second_above k h) e = absurd (omega arith)
      asks (refresh_not_0 k h) e = absurd (omega arith)
      asks (relu_not_0 k h) e = absurd (omega arith)
      asks (slack_shift k h) e = absurd (omega arith)
      asks (one_bit_shift k h) e = absurd (omega arith)
      asks (exact_shift k h) e = absurd (omega arith)
      asks (curve_mode k h) e = absurd (omega arith)
      asks (curve_table k h) e = absurd (omega arith)

  -- ---- 4

  abbrev Sources : Type 0
  Sources = ((o.kind ≡ 0) ⊎ (o.kind ≡ 1)) ⊎ (o.kind ≡ 4)

  abbrev Registers : Type 0
  Registers = ((15 < o.target) ⊎ (15 < o.source)) ⊎ (Sources × (15 < o.fourth))

  registers : T (unknown_register o) ↔ Registers
  unfolding unknown_register two_sources
  registers =
      let k : ℕ = o.kind in
      either (ltb 15 o.target || ltb 15 o.source) ((eqb k 0 || eqb k 1 || eqb k 4) && ltb 15 o.fourth)
      (either (ltb 15 o.target) (ltb 15 o.source) (less 15 o.target) (less 15 o.source))
      (both (eqb k 0 || eqb k 1 || eqb k 4) (ltb 15 o.fourth)
      (either (eqb k 0 || eqb k 1) (eqb k 4) (either (eqb k 0) (eqb k 1) (same k 0) (same k 1)) (same k 4)) (less 15 o.fourth))

  pub register_plainly : T (unknown_register o) ↔ Meets w table o 4
  register_plainly = (λ t. tells (registers.0 t), λ p. registers.1 (asks p refl))
    where
      tells : Registers → Meets w table o 4
      tells (inl (inl h)) = target_above h
      tells (inl (inr h)) = source_above h
      tells (inr (inl (inl k), h)) = second_above (inl k) h
      tells (inr (inl (inr k), h)) = second_above (inr (inl k)) h
      tells (inr (inr k, h)) = second_above (inr (inr k)) h

      asks : {n : ℕ} → Meets w table o n → n ≡ 4 → Registers
      asks (kind_above h) e = absurd (omega arith)
      asks (target_above h) e = inl (inl h)
      asks (source_above h) e = inl (inr h)
      asks (second_above (inl k) h) e = inr (inl (inl k), h)
      asks (second_above (inr (inl k)) h) e = inr (inl (inr k), h)
      asks (second_above (inr (inr k)) h) e = inr (inr k, h)
      asks (refresh_not_0 k h) e = absurd (omega arith)
      asks (relu_not_0 k h) e = absurd (omega arith)
      asks (slack_shift k h) e = absurd (omega arith)
      asks (one_bit_shift k h) e = absurd (omega arith)
      asks (exact_shift k h) e = absurd (omega arith)
      asks (curve_mode k h) e = absurd (omega arith)
      asks (curve_table k h) e = absurd (omega arith)

  -- ---- 5

  not_0 : T (not (eqb o.fourth 0)) ↔ (o.fourth ≢ 0)
  not_0 = negated (eqb o.fourth 0) (same o.fourth 0)

  outside : (n : ℕ) → T (no_shift o.fourth n) ↔ NoShift o.fourth n
  outside n = either (eqb o.fourth 0) (ltb n o.fourth) (same o.fourth 0) (less n o.fourth)

  curve : T (ltb 1 o.fourth || not (keeps_rules table)) ↔ ((1 < o.fourth) ⊎ (Rules table → ⊥))
  curve = either (ltb 1 o.fourth) (not (keeps_rules table)) (less 1 o.fourth) (negated (keeps_rules table) (rules table))

  abbrev fourth_test : (k : ℕ) → Bool
  fourth_test k = get_or (ill_fourths w (keeps_rules table) o.fourth) k false

  fourth_tells : (k : ℕ) → o.kind ≡ k → T (fourth_test k) → Meets w table o 5
  unfolding ill_fourths
  fourth_tells zero e t = absurd t
  fourth_tells (suc zero) e t = absurd t
  fourth_tells (suc (suc zero)) e t = absurd t
  fourth_tells (suc (suc (suc zero))) e t = absurd t
  fourth_tells (suc (suc (suc (suc zero)))) e t = absurd t
  fourth_tells (suc (suc (suc (suc (suc zero))))) e t = refresh_not_0 e (not_0.0 t)
  fourth_tells (suc (suc (suc (suc (suc (suc zero)))))) e t = slack_shift e ((outside (w - 1)).0 t)
  fourth_tells (suc (suc (suc (suc (suc (suc (suc zero))))))) e t = one_bit_shift e ((outside (w - 2)).0 t)
  fourth_tells (suc (suc (suc (suc (suc (suc (suc (suc zero)))))))) e t = exact_shift e ((outside (w - 1)).0 t)
  fourth_tells (suc (suc (suc (suc (suc (suc (suc (suc (suc zero))))))))) e t = relu_not_0 e (not_0.0 t)
  fourth_tells (suc (suc (suc (suc (suc (suc (suc (suc (suc (suc zero)))))))))) e t = ⊎_elim (curve_mode e) (curve_table e) (curve.0 t)
  fourth_tells (suc (suc (suc (suc (suc (suc (suc (suc (suc (suc (suc k))))))))))) e t = absurd t

  fourth_asks : {n : ℕ} → Meets w table o n → n ≡ 5 → T (fourth_test o.kind)
  unfolding ill_fourths
  fourth_asks (kind_above h) e = absurd (omega arith)
  fourth_asks (target_above h) e = absurd (omega arith)
  fourth_asks (source_above h) e = absurd (omega arith)
  fourth_asks (second_above k h) e = absurd (omega arith)
  fourth_asks (refresh_not_0 k h) e = rw k (not_0.1 h)
  fourth_asks (relu_not_0 k h) e = rw k (not_0.1 h)
  fourth_asks (slack_shift k h) e = rw k ((outside (w - 1)).1 h)
  fourth_asks (one_bit_shift k h) e = rw k ((outside (w - 2)).1 h)
  fourth_asks (exact_shift k h) e = rw k ((outside (w - 1)).1 h)
  fourth_asks (curve_mode k h) e = rw k (curve.1 (inl h))
  fourth_asks (curve_table k h) e = rw k (curve.1 (inr h))

  pub fourth_plainly : T (ill_fourth w (keeps_rules table) o) ↔ Meets w table o 5
  unfolding ill_fourth
  fourth_plainly = (fourth_tells o.kind refl, λ p. fourth_asks p refl)

-- ---- condition 6, of the one list that unused masks are asked of

pub short_plainly : (x : Which) (k : Cost) (l : List ℕ) → T (short x k l) ↔ (length l < need x k)
unfolding short need short_a short_b
short_plainly ListA k l = less (length l) k.a
short_plainly ListB k l = less (length l) k.b
