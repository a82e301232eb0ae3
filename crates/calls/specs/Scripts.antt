-- What the hosts run: the steps of its orders, and the first condition that it meets by itself, before the lists are
-- looked at. Assumes nothing.
use Rattle.std.specs.Prelude.{List, [], ◌∷◌, ℕ, suc, ◌≤◌}
use Rattle.gates.specs.Steps.{Step, local, deal, exchange, end}
use Rattle.gates.specs.Costs.{Cost, cost}
use Rattle.jobs.specs.Job.{Fault, job_fault, steps_of}

-- the number and the order's index of the first condition met among those that come before 6, number 0 for none; the
-- slots of a lane that are given at the start, and whose masks preparation gives back; and the programs of the orders,
-- end to end
pub record Script : Type 0 where
  pub fault : Fault
  pub slots : ℕ
  pub steps : List Step

-- a job with its table: conditions 2 to 5, and sixteen registers
abbrev pub job_script : (w : ℕ) (job table : List ℕ) → Script
job_script w job table = record { fault = job_fault w job table; slots = 16; steps = steps_of w job table }

-- its counts: the sums over its orders' gates
abbrev pub script_cost : Script → Cost
script_cost σ = cost σ.steps

-- the number of its orders: of those that end in its steps
unfoldable pub ends : List Step → ℕ
ends [] = 0
ends (local d m l ∷ ss) = ends ss
ends (deal d f ∷ ss) = ends ss
ends (exchange d e ∷ ss) = ends ss
ends (end ∷ ss) = suc (ends ss)

abbrev pub orders_in : Script → ℕ
orders_in σ = ends σ.steps

-- every step stands in an order: behind it an order ends
abbrev pub Closed : List Step → Type 0
Closed [] = Unit
Closed (x ∷ ss) = (1 ≤ ends (x ∷ ss)) × Closed ss

-- what the laws of calls and runs ask of a script
pub record Orderly (σ : Script) : Type 0 where
  -- every step stands in an order
  pub closed : Closed σ.steps
  -- the slots given have room for sixteen registers
  pub room : 16 ≤ σ.slots
