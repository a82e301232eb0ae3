-- The counts of a program: deals, words spoken, A and B. Assumes nothing.
use Rattle.std.specs.Prelude.{List, [], ℕ}
use Rattle.gates.specs.Gates.{Gate}
use Rattle.gates.specs.Meaning.{order_steps}
use Rattle.gates.specs.Costs.{Cost, cost}

-- the counts of an order with these gates
unfoldable pub program_cost : ℕ → List Gate → Cost
program_cost w gs = cost (order_steps w gs [])
