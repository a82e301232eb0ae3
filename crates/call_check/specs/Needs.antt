-- What each host needs of a job's counts. Assumes nothing.
use Rattle.std.specs.Prelude.{cond, ℕ, eqb}
use Rattle.gates.specs.Costs.{Cost, cost_of}

-- host 1: A; host 2: B and the deals; host 0: all three
unfoldable pub needs_of : (host : ℕ) → Cost → Cost
needs_of h k = cond (eqb h 1) (cost_of 0 0 k.a 0) (cond (eqb h 2) (cost_of k.deals 0 0 k.b) k)
