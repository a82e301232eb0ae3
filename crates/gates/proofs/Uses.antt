-- What is used at a step, as the code has it in hand: where the cursor stands behind the step, and that it is little. Assumes nothing.
use mathlib.Core.Path.{◌≡◌, sym, ap, subst, ◌∙◌}
use Prim.Native.Nat.{◌+◌, ◌≤◌}
use native.Mathlib.Omega.{arith}
use Rattle.gates.specs.declared.Used.{Used}
use Rattle.gates.specs.Steps.{product, refresh, known_product, Step, local, deal, exchange, end, Cursor, past}
use Rattle.gates.specs.Costs.{step_cost, used_at}
use Rattle.gates.proofs.Needs.{past_used}

-- a word of A for each word of B and at most one more, at most one word of B and one deal
abbrev Few : Used → Type 0
Few u = (u.a ≤ u.b + 1) × (u.b ≤ 1) × (u.deals ≤ 1)

few_at : (x : Step) → Few (used_at x)
unfolding used_at step_cost
few_at (local d m l) = (omega arith, omega arith, omega arith)
few_at (deal d f) = (omega arith, omega arith, omega arith)
few_at (exchange d (product O a b)) = (omega arith, omega arith, omega arith)
few_at (exchange d (refresh O a)) = (omega arith, omega arith, omega arith)
few_at (exchange d (known_product O a b)) = (omega arith, omega arith, omega arith)
few_at end = (omega arith, omega arith, omega arith)

module _ (x : Step) (u : Used) (e : u ≡ used_at x) where
  pub few_used : Few u
  few_used = subst Few (sym e) (few_at x)

  pub used_b : u.b ≡ (step_cost x).b
  unfolding used_at
  used_b = ap (λ (v : Used). v.b) e

  pub behind_a : (c : Cursor) → c.a + u.a ≡ (past x c).a
  unfolding used_at
  behind_a c = ap (λ (v : Used). c.a + v.a) e ∙ sym (past_used x c).a

  pub behind_deals : (c : Cursor) → c.deals + u.deals ≡ (past x c).deals
  unfolding used_at
  behind_deals c = ap (λ (v : Used). c.deals + v.deals) e ∙ sym (past_used x c).deals
