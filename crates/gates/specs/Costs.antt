-- Document 01's counts, of a step and of a list of steps: deals, words spoken, and words used of A and of B. Assumes
-- nothing.
use Rattle.std.specs.Prelude.{List, [], ◌∷◌, ℕ, ◌+◌}
use Rattle.gates.specs.declared.Used.{Used}
use Rattle.gates.specs.Steps.{product, refresh, known_product, Step, local, deal, exchange, end}

pub record Cost : Type 0 where
  pub deals : ℕ
  pub words : ℕ
  pub a : ℕ
  pub b : ℕ

abbrev pub cost_of : (deals words a b : ℕ) → Cost
cost_of n m a b = record { deals = n; words = m; a = a; b = b }

unfoldable pub plus : Cost → Cost → Cost
plus x y = cost_of (x.deals + y.deals) (x.words + y.words) (x.a + y.a) (x.b + y.b)

-- both hosts speak at a product and at a refresh; a product takes g1 and L1 from A and sends g2; R-4: one with a known
-- value "takes one A word and sends no deal"
unfoldable pub step_cost : Step → Cost
step_cost (local d m l) = cost_of 0 0 0 0
step_cost (deal d f) = cost_of 1 0 1 0
step_cost (exchange d (product O a b)) = cost_of 1 2 2 1
step_cost (exchange d (refresh O a)) = cost_of 0 2 1 1
step_cost (exchange d (known_product O a b)) = cost_of 0 2 1 1
step_cost end = cost_of 0 0 0 0

-- what a walk uses of A, of B and of the deals at a step
unfoldable pub used_at : Step → Used
used_at x = record { a = (step_cost x).a; b = (step_cost x).b; deals = (step_cost x).deals }

unfoldable pub cost : List Step → Cost
cost [] = cost_of 0 0 0 0
cost (x ∷ ss) = plus (step_cost x) (cost ss)
