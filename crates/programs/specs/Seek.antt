-- The place of a program's n-th product or refresh. Assumes nothing.
use Rattle.std.specs.Prelude.{◌≡◌, cond, List, [], ◌∷◌, ℕ, zero, suc, ◌+◌, ltb, Option, Some, None}
use Rattle.gates.specs.Gates.{Gate}
use Rattle.gates.specs.declared.Shape.{Shape}
use Rattle.gates.specs.declared.Shape.TheVariants.{Local, Dealing, Product, Undealt}
use Rattle.gates.specs.Meaning.{meaning}
use Rattle.gates.specs.Speech.{shape}
use Rattle.programs.specs.Costs.{program_cost}
use Rattle.programs.specs.declared.GatePlace.{GatePlace}

abbrev pub gate_place : (i a deals : ℕ) → GatePlace
gate_place i a deals = record { gate = i; a = a; deals = deals }

-- with the shape of the gate at index i, before which so many words of A and deals are used: on to the gates behind
-- it, or found
unfoldable pub sought_at : Shape → (n i a deals : ℕ) → (ℕ → ℕ → ℕ → ℕ → Option GatePlace) → Option GatePlace
sought_at Local n i a deals go = go n (suc i) a deals
sought_at (Dealing d) n i a deals go = go n (suc i) (suc a) (suc deals)
sought_at (Product d) zero i a deals go = Some (gate_place i a deals)
sought_at (Product d) (suc n) i a deals go = go n (suc i) (2 + a) (suc deals)
sought_at (Undealt d) zero i a deals go = Some (gate_place i a deals)
sought_at (Undealt d) (suc n) i a deals go = go n (suc i) (suc a) deals

-- the n-th product or refresh, from 0
unfoldable pub sought : (w : ℕ) → List Gate → (n i a deals : ℕ) → Option GatePlace
sought w [] n i a deals = None
sought w (g ∷ gs) n i a deals = sought_at (shape (meaning w g)) n i a deals (sought w gs)

-- .. behind a place where these gates start
abbrev pub sought_from : (w : ℕ) → List Gate → (n : ℕ) → GatePlace → Option GatePlace
sought_from w gs n p = sought w gs n p.gate p.a p.deals

-- ---- the answer

pub record Position : Type 0 where
  pub number : ℕ
  pub gate : ℕ
  pub a : ℕ
  pub deals : ℕ

-- the paper's number and values for each answer: 8 is "neither the end nor a product or refresh of this job"
abbrev pub placing : Option GatePlace → Position
placing (Some p) = record { number = 0; gate = p.gate; a = p.a; deals = p.deals }
placing None = record { number = 8; gate = 0; a = 0; deals = 0 }

-- the answer s for the n-th product or refresh, from 0; its number is 8 where the program has no such one: each uses a
-- word of B, and nothing else does
pub record Seeks (w : ℕ) (gs : List Gate) (n : ℕ) (s : Option GatePlace) : Type 0 where
  pub is : s ≡ sought w gs n 0 0 0
  pub number : (placing s).number ≡ cond (ltb n (program_cost w gs).b) 0 8
