-- A job's counts are the sums of its orders' entries in document 01's table of costs, and stay small. Assumes nothing.
use mathlib.Core.Path.{◌≡◌, refl, sym, ap, ap₂, ◌∙◌, subst}
use mathlib.Core.Bool.{Bool, true, false, cond}
use mathlib.Core.List.{List, [], ◌∷◌, map}
use Prim.Native.Nat.{ℕ, zero, suc, ◌*◌, ◌/◌, ◌≤◌, ◌<◌}
use native.Mathlib.Omega.{arith}
use lib.Dec.{T}
use lib.ListN.{length, get_or, get_or-map}
use Rattle.tables.specs.Table.{Row, rows, keeps_rules}
use Rattle.tables.proofs.Rows.{rules}
use Rattle.gates.specs.Meaning.{meaning, order_steps, job_steps}
use Rattle.gates.specs.Costs.{Cost, cost_of, plus, step_cost, cost}
use Rattle.std.proofs.lemmas.List.{get_or_past}
use Rattle.gates.proofs.Needs.{cost_path}
use Rattle.programs.specs.declared.Order.{Order}
use Rattle.programs.specs.declared.kind.Kind.{Kind}
use Rattle.programs.specs.Kinds.{kind_number}
use Rattle.programs.specs.Orders.{program}
use Rattle.programs.specs.Costs.{program_cost}
use Rattle.programs.specs.Sizes.{Size, size_of, plus_size, times_cost, times_size, truncation_size, curve_size, kind_sizes}
use Rattle.programs.proofs.Sizes.{order_sized, slack_number, one_bit_number, exact_32, relu_32, row_32, saturation_32, order_cost}
use Rattle.jobs.specs.Job.{orders, job_gates, steps_of, job_cost, order_fault}
use Rattle.jobs.specs.CostTable.{table_counts, curve_cost, kind_costs, kind_cost}
use Rattle.jobs.proofs.Accepted.{good, curve_ruled}

-- ---- kind by kind

by_kind : (P : ℕ → Type 0) → P 0 → P 1 → P 2 → P 3 → P 4 → P 5 → P 6 → P 7 → P 8 → P 9 → P 10
    → ((k : ℕ) → P (suc (suc (suc (suc (suc (suc (suc (suc (suc (suc (suc k)))))))))))) → (k : ℕ) → P k
by_kind P a b c d e f g h i j k l zero = a
by_kind P a b c d e f g h i j k l (suc zero) = b
by_kind P a b c d e f g h i j k l (suc (suc zero)) = c
by_kind P a b c d e f g h i j k l (suc (suc (suc zero))) = d
by_kind P a b c d e f g h i j k l (suc (suc (suc (suc zero)))) = e
by_kind P a b c d e f g h i j k l (suc (suc (suc (suc (suc zero))))) = f
by_kind P a b c d e f g h i j k l (suc (suc (suc (suc (suc (suc zero)))))) = g
by_kind P a b c d e f g h i j k l (suc (suc (suc (suc (suc (suc (suc zero))))))) = h
by_kind P a b c d e f g h i j k l (suc (suc (suc (suc (suc (suc (suc (suc zero)))))))) = i
by_kind P a b c d e f g h i j k l (suc (suc (suc (suc (suc (suc (suc (suc (suc zero))))))))) = j
by_kind P a b c d e f g h i j k l (suc (suc (suc (suc (suc (suc (suc (suc (suc (suc zero)))))))))) = k
by_kind P a b c d e f g h i j k l (suc (suc (suc (suc (suc (suc (suc (suc (suc (suc (suc n))))))))))) = l n

-- ---- an order's counts

-- document 01's table of costs is that of the programs' sizes at 32
curve_tied : (c n : ℕ) → (curve_size 32 c n).cost ≡ curve_cost c n
unfolding curve_size truncation_size plus_size times_size times_cost curve_cost program_cost order_steps meaning cost step_cost plus
curve_tied zero n = rw (row_32, exact_32, saturation_32) (cost_path (omega arith) (omega arith) (omega arith) (omega arith))
curve_tied (suc c) n = rw (row_32, one_bit_number 32, saturation_32) (cost_path (omega arith) (omega arith) (omega arith) (omega arith))

pub tied : (c n : ℕ) → map (λ (z : Size). z.cost) (kind_sizes 32 c n) ≡ kind_costs c n
unfolding kind_sizes kind_costs program_cost order_steps meaning cost step_cost plus
tied c n = rw (slack_number 32, one_bit_number 32, exact_32, relu_32, curve_tied c n)

-- at the width w an order's counts are its entry in the table
abbrev pub Listed : ℕ → Type 0
Listed w = (ps : List Row) (o : Order) → program_cost w (program w ps o) ≡ kind_cost o.kind o.fourth (length ps)

pub of_order : Listed 32
unfolding kind_cost program_cost order_steps cost step_cost plus
of_order ps o =
    ap (λ (z : Size). z.cost) (order_sized 32 ps o)
    ∙ sym (get_or-map (λ (z : Size). z.cost) (kind_sizes 32 o.fourth (length ps)) o.kind (size_of 32 []))
    ∙ ap (λ (l : List Cost). get_or l o.kind (cost_of 0 0 0 0)) (tied o.fourth (length ps))

-- ---- a job's counts

-- at the width w a job's counts are those of the table
abbrev pub Tabled : ℕ → Type 0
Tabled w = (job table : List ℕ) → job_cost w job table ≡ table_counts (length (rows table)) (orders job)

orders_counts : (w : ℕ) → Listed w → (ps : List Row) (os : List Order)
    → cost (job_steps w (map (program w ps) os)) ≡ table_counts (length ps) os
unfolding job_steps cost table_counts
orders_counts w listed ps [] = refl
orders_counts w listed ps (o ∷ os) =
    order_cost w (program w ps o) (job_steps w (map (program w ps) os)) ∙ ap₂ plus (listed ps o) (orders_counts w listed ps os)

pub job_counts : Tabled 32
unfolding job_cost steps_of job_gates
job_counts job table = orders_counts 32 of_order (rows table) (orders job)

-- ---- entries of the table

pub one_bit_cost : (mode n : ℕ) → (mode ≡ 0 → ⊥) → curve_cost 1 n ≡ kind_cost 10 mode n
unfolding kind_cost kind_costs curve_cost
one_bit_cost zero n h = absurd (h refl)
one_bit_cost (suc m) n h = refl

-- the entry of a kind, by its number
pub entry_of : {k j : Kind} {i : ℕ} → kind_number k ≡ i → k ≡ j → (c n : ℕ) {z : Cost} → z ≡ kind_cost (kind_number j) c n
    → z ≡ kind_cost i c n
entry_of e h c n q = q ∙ ap (λ i. kind_cost i c n) (ap kind_number (sym h) ∙ e)

-- above the last kind's number there is none
pub no_entry : (i c n : ℕ) → 10 < i → cost_of 0 0 0 0 ≡ kind_cost i c n
unfolding kind_cost kind_costs
no_entry i c n h = rw (get_or_past (kind_costs c n) i (cost_of 0 0 0 0) (omega arith))

-- ---- the rows matter to a curve alone, and an accepted curve has a table that keeps its rules

rows_for_curve : (ruled : Bool) (n c k : ℕ) → (k ≡ 10 → ruled ≡ true) → kind_cost k c (cond ruled n 0) ≡ kind_cost k c n
unfolding kind_cost kind_costs
rows_for_curve ruled n c =
    by_kind (λ k. (k ≡ 10 → ruled ≡ true) → kind_cost k c (cond ruled n 0) ≡ kind_cost k c n)
    (λ h. refl) (λ h. refl) (λ h. refl) (λ h. refl) (λ h. refl) (λ h. refl) (λ h. refl) (λ h. refl) (λ h. refl) (λ h. refl)
    (λ (h : 10 ≡ 10 → ruled ≡ true). rw (h refl)) (λ k h. refl)

pub rows_right : (w : ℕ) (ruled : Bool) (n : ℕ) (o : Order) → order_fault w ruled o ≡ 0
    → kind_cost o.kind o.fourth (cond ruled n 0) ≡ kind_cost o.kind o.fourth n
rows_right w ruled n o e = rows_for_curve ruled n o.fourth o.kind (λ ten. (curve_ruled w ruled o (good w ruled o e) ten).1)

-- ---- how much one order adds: a thousand of each, at most

pub record Below (k : Cost) (n : ℕ) : Type 0 where
  pub deals : k.deals ≤ 1000 * n
  pub words : k.words ≤ 1000 * n
  pub a : k.a ≤ 1000 * n
  pub b : k.b ≤ 1000 * n

few_in_curve : (c n : ℕ) → n ≤ 16 → Below (curve_cost c n) 1
unfolding curve_cost
few_in_curve zero n h = omega arith
few_in_curve (suc c) n h = omega arith

pub few : (k c n : ℕ) → n ≤ 16 → Below (kind_cost k c n) 1
unfolding kind_cost kind_costs
few k c n h =
    by_kind (λ k. Below (kind_cost k c n) 1)
    (omega arith) (omega arith) (omega arith) (omega arith) (omega arith) (omega arith) (omega arith) (omega arith) (omega arith)
    (omega arith)
    (few_in_curve c n h) (λ k. omega arith) k

-- ---- the rows of a table that keeps its rules

-- as they are counted: none without one
abbrev pub row_count : Bool → (table : List ℕ) → ℕ
row_count ruled table = cond ruled (length (rows table)) 0

module _ (table : List ℕ) (ruled : Bool) (e : ruled ≡ keeps_rules table) where
  pub rows_counted : ruled ≡ true → (length (rows table) ≤ 16) × (length table / 2 ≡ length (rows table))
  rows_counted t =
      let r = (rules table).0 (subst T (sym t ∙ e) tt) in
      (r.at_most, omega (arith, r.whole_rows))

  pub rows_few : row_count ruled table ≤ 16
  rows_few = go ruled refl
    where
      go : (b : Bool) → ruled ≡ b → row_count b table ≤ 16
      go true t = (rows_counted t).0
      go false t = omega arith
