-- A day's counts, the number of its orders, and that it is orderly. Assumes nothing.
use mathlib.Core.Path.{◌≡◌, refl, ap, ap₂, ◌∙◌}
use mathlib.Core.Bool.{Bool, true, false, cond}
use mathlib.Core.List.{List, [], ◌∷◌, ◌++◌}
use Prim.Native.Nat.{ℕ, zero, suc, ◌+◌, ◌*◌, ◌≤◌}
use native.Mathlib.Nat.{mul-suc, mul-le-mul_right}
use native.Mathlib.Omega.{arith}
use lib.ListN.{length, take}
use Rattle.gates.specs.Gates.{Gate, Add, Scale}
use Rattle.gates.specs.Meaning.{meaning, order_steps, job_steps}
use Rattle.gates.specs.Costs.{Cost, cost_of, plus, step_cost, cost}
use Rattle.gates.proofs.Needs.{cost_path}
use Rattle.tables.specs.Table.{Row, rows}
use Rattle.programs.specs.Programs.{t_slot, acc_slot, exact_program}
use Rattle.programs.specs.Orders.{curve_program, kinds, program}
use Rattle.programs.specs.Costs.{program_cost}
use Rattle.programs.specs.Sizes.{times_cost}
use Rattle.programs.proofs.Sizes.{order_cost, cost_after}
use Rattle.jobs.specs.CostTable.{curve_cost, kind_costs, kind_cost}
use Rattle.jobs.proofs.Sums.{of_order}
use Rattle.calls.specs.Scripts.{script_cost, orders_in, Orderly}
use Rattle.runs.proofs.Chain.{ends_job, ends_closed}
use Rattle.calendars.specs.Ranges.{digit, number}
use Rattle.calendars.specs.Calendar.{counts}
use Rattle.days.specs.Day.{share_slot, quarter_program, mean_program, quarters, day_factor, day_gates, day_steps, Hours, counting}
use Rattle.days.specs.Day.{day_script, day_of, day_cost}
use Rattle.days.proofs.Quarters.{quarter_ends, day_gates_count}

-- few words of few curves are few
pub few_words : (x o : ℕ) → x ≤ 1000 → o ≤ 96 → x * o ≤ 96000
few_words x o h k = let p : x * o ≤ 1000 * o = mul-le-mul_right o h in omega arith

-- ---- of a quarter and of the mean

-- two additions use nothing
quarter_cost : (q : ℕ) (ps : List Row) → program_cost 32 (quarter_program 32 q ps) ≡ curve_cost 0 (length ps)
unfolding program kinds kind_cost kind_costs curve_cost program_cost order_steps meaning cost step_cost plus
quarter_cost q ps =
    ap (program_cost 32) (quarter_ends 32 q ps)
    ∙ cost_after 32 (curve_program 32 (share_slot q) acc_slot ps 0) (Add 0 0 acc_slot ∷ Add 1 1 t_slot ∷ [])
    ∙ ap (λ (k : Cost). plus k (cost_of 0 0 0 0)) (of_order ps (record { kind = 10; target = acc_slot; source = share_slot q; fourth = 0 }))
    ∙ cost_path (omega arith) (omega arith) (omega arith) (omega arith)

-- nor does the product with a constant
mean_cost : (k : ℕ) → program_cost 32 (mean_program 32 k) ≡ cost_of 13 24 25 12
unfolding mean_program program kinds kind_cost kind_costs program_cost order_steps meaning cost step_cost plus
mean_cost k =
    cost_after 32 (Scale acc_slot 0 k ∷ []) (exact_program 32 16 acc_slot 0)
    ∙ ap (plus (cost_of 0 0 0 0)) (of_order [] (record { kind = 8; target = 0; source = acc_slot; fourth = 16 }))

-- ---- of n quarters with other orders behind them

module _ (f : ℕ → Bool) (ps : List Row) where
  abbrev curve : Cost
  curve = curve_cost 0 (length ps)

  -- one order more, which costs nothing where it is left out
  one_more : (b : Bool) (q n : ℕ) (c : Cost)
      → plus (program_cost 32 (cond b (quarter_program 32 q ps) [])) (plus (times_cost n curve) c) ≡ plus (times_cost (digit b + n) curve) c
  unfolding times_cost plus program_cost order_steps cost step_cost
  one_more true q n c =
      let e : 1 + n ≡ suc n = omega arith in
      ap (λ (k : Cost). plus k (plus (times_cost n curve) c)) (quarter_cost q ps)
      ∙ cost_path (omega (arith, mul-suc curve.deals n, e)) (omega (arith, mul-suc curve.words n)) (omega (arith, mul-suc curve.a n))
      (omega (arith, mul-suc curve.b n))
  one_more false q n c = cost_path (omega arith) (omega arith) (omega arith) (omega arith)

  quarters_cost : (q n : ℕ) (os : List (List Gate))
      → cost (job_steps 32 (quarters 32 f ps q n ++ os)) ≡ plus (times_cost (number f q n) curve) (cost (job_steps 32 os))
  unfolding quarters job_steps times_cost plus number
  quarters_cost q zero os = cost_path (omega arith) (omega arith) (omega arith) (omega arith)
  quarters_cost q (suc n) os =
      order_cost 32 (cond (f q) (quarter_program 32 q ps) []) (job_steps 32 (quarters 32 f ps (suc q) n ++ os))
      ∙ ap (plus (program_cost 32 (cond (f q) (quarter_program 32 q ps) []))) (quarters_cost (suc q) n os)
      ∙ one_more (f q) q (number f (suc q) n) (cost (job_steps 32 os))

  -- of the quarters before order q
  take_quarters : (q i n : ℕ) (os : List (List Gate)) → i ≤ n → take i (quarters 32 f ps q n ++ os) ≡ quarters 32 f ps q i ++ []
  unfolding quarters
  take_quarters q zero n os h = refl
  take_quarters q (suc i) zero os h = absurd (omega arith)
  take_quarters q (suc i) (suc n) os h =
      ap (λ (gs : List (List Gate)). cond (f q) (quarter_program 32 q ps) [] ∷ gs) (take_quarters (suc q) i n os (omega arith))

  pub counts_before : (q : ℕ) → q ≤ 96 → cost (job_steps 32 (take q (day_gates 32 f ps))) ≡ times_cost (number f 0 q) curve
  unfolding day_gates job_steps cost plus times_cost
  counts_before q h =
      ap (λ (os : List (List Gate)). cost (job_steps 32 os)) (take_quarters 0 q 96 (mean_program 32 (day_factor f) ∷ []) h)
      ∙ quarters_cost 0 q []
      ∙ cost_path (omega arith) (omega arith) (omega arith) (omega arith)

  pub gates_cost : cost (job_steps 32 (day_gates 32 f ps)) ≡ day_of (number f 0 96) curve
  unfolding day_gates job_steps day_of kind_cost kind_costs cost plus
  gates_cost =
      quarters_cost 0 96 (mean_program 32 (day_factor f) ∷ [])
      ∙ ap (plus (times_cost (number f 0 96) curve))
      (order_cost 32 (mean_program 32 (day_factor f)) [] ∙ ap (λ (k : Cost). plus k (cost_of 0 0 0 0)) (mean_cost (day_factor f)))

pub day_counts : (table : List ℕ) (n : ℕ) (H : Hours) → script_cost (day_script 32 table n H) ≡ day_cost H (length (rows table))
unfolding day_steps kind_cost kind_costs
day_counts table n H = gates_cost (counting H) (rows table)

-- ---- its orders

pub day_orders : (w : ℕ) (table : List ℕ) (n : ℕ) (H : Hours) → orders_in (day_script w table n H) ≡ 97
unfolding day_steps
day_orders w table n H = ends_job w (day_gates w (counting H) (rows table)) ∙ day_gates_count w (counting H) (rows table)

pub day_orderly : (w : ℕ) (table : List ℕ) (n : ℕ) (H : Hours) → Orderly (day_script w table n H)
unfolding day_steps
day_orderly w table n H = record { closed = ends_closed w (day_gates w (counting H) (rows table)); room = omega arith }
