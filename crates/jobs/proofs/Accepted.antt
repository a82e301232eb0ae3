-- What is known of each order of an accepted job. Assumes nothing.
use mathlib.Core.Path.{◌≡◌, refl}
use mathlib.Core.Bool.{Bool, true, false, not, ◌&&◌, ◌||◌, cond}
use mathlib.Core.List.{List, [], ◌∷◌}
use Prim.Native.Nat.{ℕ, zero, suc, ◌-◌, ◌≤◌, ◌<◌}
use native.Mathlib.Omega.{arith}
use borrow.Author.Tests.{ltb-false, eqb-false}
use lib.Dec.{eqb, ltb}
use lib.ListN.{get_or, length}
use Rattle.tables.specs.Table.{keeps_rules}
use Rattle.programs.specs.declared.Order.{Order}
use Rattle.jobs.specs.Job.{orders, ill_sized, unknown_kind, two_sources, unknown_register, no_shift, ill_fourths, ill_fourth}
use Rattle.jobs.specs.Job.{order_fault, fault_at, orders_fault, job_fault}

-- ---- a test that is false, part by part

pub or_false : (a b : Bool) → (a || b) ≡ false → (a ≡ false) × (b ≡ false)
or_false true b e = let z : ◌≡◌ {A = ℕ} 0 1 = cc in absurd (omega arith)
or_false false b e = (refl, e)

pub cond_zero : (b : Bool) (n m : ℕ) → cond b (suc n) m ≡ 0 → (b ≡ false) × (m ≡ 0)
cond_zero true n m e = absurd (omega arith)
cond_zero false n m e = (refl, e)

fault_none : (n i : ℕ) (later : ℕ × ℕ) → (fault_at n i later).0 ≡ 0 → (n ≡ 0) × (later.0 ≡ 0)
unfolding fault_at
fault_none zero i later e = (refl, e)
fault_none (suc n) i later e = absurd (omega arith)

-- ---- an accepted order

pub record Good (w : ℕ) (ruled : Bool) (o : Order) : Type 0 where
  pub kind : o.kind ≤ 10
  pub target : o.target < 16
  pub source : o.source < 16
  pub second : two_sources o.kind ≡ true → o.fourth < 16
  pub fourth : ill_fourth w ruled o ≡ false

pub good : (w : ℕ) (ruled : Bool) (o : Order) → order_fault w ruled o ≡ 0 → Good w ruled o
unfolding order_fault unknown_kind unknown_register
good w ruled o e =
    let a = cond_zero (ltb 10 o.kind) 2 _ e in
    let b = cond_zero (ltb 15 o.target || ltb 15 o.source || (two_sources o.kind && ltb 15 o.fourth)) 3 _ a.1 in
    let c = or_false _ _ b.0 in
    let d = or_false (ltb 15 o.target) (ltb 15 o.source) c.0 in
    let f = cond_zero (ill_fourth w ruled o) 4 0 b.1 in
    record {
      kind = ltb-false 10 o.kind a.0;
      target = omega (arith, ltb-false 15 o.target d.0);
      source = omega (arith, ltb-false 15 o.source d.1);
      second = λ t. let e : ltb 15 o.fourth ≡ false = rw t at c.1 in omega (arith, ltb-false 15 o.fourth e);
      fourth = f.0;
    }

all_good : (w : ℕ) (ruled : Bool) (os : List Order) (i : ℕ) → (orders_fault w ruled os i).0 ≡ 0 → (q : ℕ) → q < length os → (d : Order)
    → Good w ruled (get_or os q d)
unfolding orders_fault
all_good w ruled [] i e q h d = absurd (omega arith)
all_good w ruled (o ∷ os) i e zero h d = good w ruled o (fault_none (order_fault w ruled o) i _ e).0
all_good w ruled (o ∷ os) i e (suc q) h d = all_good w ruled os (suc i) (fault_none (order_fault w ruled o) i _ e).1 q (omega arith) d

-- an accepted job has a size that is allowed, and no order with a fault
pub faultless_parts : (w : ℕ) (job table : List ℕ) → (job_fault w job table).0 ≡ 0
    → (ill_sized job ≡ false) × ((orders_fault w (keeps_rules table) (orders job) 0).0 ≡ 0)
unfolding job_fault
faultless_parts w job table e = go (ill_sized job) e
  where
    go : (b : Bool) → (cond b (2, 0) (orders_fault w (keeps_rules table) (orders job) 0)).0 ≡ 0
        → (b ≡ false) × ((orders_fault w (keeps_rules table) (orders job) 0).0 ≡ 0)
    go true f = absurd (omega arith)
    go false f = (refl, f)

pub accepted_orders : (w : ℕ) (job table : List ℕ) → (job_fault w job table).0 ≡ 0 → (q : ℕ) → q < length (orders job) → (d : Order)
    → Good w (keeps_rules table) (get_or (orders job) q d)
accepted_orders w job table e q h d = all_good w (keeps_rules table) (orders job) 0 (faultless_parts w job table e).1 q h d

-- ---- its fourth word, by kind

module _ (w : ℕ) (ruled : Bool) (o : Order) (g : Good w ruled o) where
  shift_range : (c n : ℕ) → no_shift c n ≡ false → (1 ≤ c) × (c ≤ n)
  shift_range c n e =
      let p = or_false (eqb c 0) (ltb n c) e in
      let z : c ≡ 0 → ⊥ = eqb-false c 0 p.0 in
      (positive c z, ltb-false n c p.1)
    where
      positive : (c : ℕ) → (c ≡ 0 → ⊥) → 1 ≤ c
      positive zero z = absurd (z refl)
      positive (suc c) z = omega arith

  pub exact_shift : o.kind ≡ 8 → (1 ≤ o.fourth) × (o.fourth ≤ w - 1)
  unfolding ill_fourth ill_fourths
  exact_shift e = shift_range o.fourth (w - 1) (rw e at g.fourth)

  pub curve_ruled : o.kind ≡ 10 → (o.fourth ≤ 1) × (ruled ≡ true)
  unfolding ill_fourth ill_fourths
  curve_ruled e =
      let p = or_false (ltb 1 o.fourth) (not ruled) (rw e at g.fourth) in
      (ltb-false 1 o.fourth p.0, not-false ruled p.1)
    where
      not-false : (b : Bool) → not b ≡ false → b ≡ true
      not-false true h = refl
      not-false false h = let z : ◌≡◌ {A = ℕ} 0 1 = cc in absurd (omega arith)
