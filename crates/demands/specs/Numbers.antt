-- Document 01, "Turned down": the number and the index of preparation, starting and hearing, of any script. Assumes
-- nothing.
use Rattle.std.specs.Prelude.{◌≡◌, List, [], ◌∷◌, ◌++◌, ℕ, suc}
use Rattle.gates.specs.Steps.{Exchange, Step, exchange, origin}
use Rattle.gates.specs.Walk.{far}
use Rattle.gates.specs.Hosts.{Pair}
use Rattle.gates.specs.Meaning.{job_steps}
use Rattle.gates.specs.Gates.{Gate}
use Rattle.calls.specs.Scripts.{Script, script_cost, orders_in, Orderly}
use Rattle.calls.specs.Lent.{Lent}
use Rattle.calls.specs.declared.Stored.{Stored}
use Rattle.calls.specs.Calls.{State, start, hear, prepare}
use Rattle.demands.specs.Conditions.{places_from, gate_places, used_in, Terms, Single, PreparationIs, StartIs}
use Rattle.demands.specs.Conditions.{end_place, HearingIs}

-- a script is what the terms say
pub record Told (σ : Script) (T : Terms) : Type 0 where
  pub none : σ.fault.0 ≡ 0 → T.own 0 0
  pub some : (n : ℕ) → σ.fault.0 ≡ suc n → T.own (suc n) σ.fault.1
  pub needs : script_cost σ ≡ T.needs
  pub places : places_from 0 0 σ.steps ≡ T.places
  pub orders : orders_in σ ≡ T.orders

-- R-7, and the walk's places are what they say: at each product or refresh what the steps up to and with it use, at the
-- end what all of them use
pub record ToldPlaces (σ : Script) (T : Terms) : Type 0 where
  pub walked : (before behind : List Step) (d : ℕ) (e : Exchange)
      → σ.steps ≡ before ++ (exchange d e ∷ behind)
      → used_in (before ++ (exchange d e ∷ [])) ≡ T.walked ((far before origin).order, (far before origin).turn)
  pub walked_all : used_in σ.steps ≡ T.walked (end_place T)

-- each call's number and index are the ones of its relation
pub record Numbers : Type 1 where
  pub preparing : (σ : Script) (T : Terms) → Told σ T → (A B buffer : List ℕ) (r : Pair)
      → PreparationIs T A B buffer (prepare σ A B buffer r).number (prepare σ A B buffer r).index
  pub starting : (loan : Lent) (T : Terms) → Told loan.script T → (r : Pair)
      → StartIs T loan.host loan.masks loan.deals (start loan r).number (start loan r).index
  pub hearing : (loan : Lent) (T : Terms) → Told loan.script T → ToldPlaces loan.script T
      → Orderly loan.script → (s : State) (v : ℕ)
      → HearingIs T loan.host loan.masks loan.deals (s.order, s.turn) s.stored (hear loan s v).number
      (hear loan s v).index
  -- and each relation holds of one number and one index, where the script's own conditions do
  pub one_preparation : (T : Terms) → Single T.own → (A B buffer : List ℕ)
      → Single (PreparationIs T A B buffer)
  pub one_start : (T : Terms) → Single T.own → (h : ℕ) (M D : List ℕ) → Single (StartIs T h M D)
  pub one_hearing : (σ : Script) (T : Terms) → Told σ T → Orderly σ → Single T.own
      → (h : ℕ) (M D : List ℕ) (o x : ℕ) (u : Stored)
      → Single (HearingIs T h M D (o, x) u)
  -- where the orders are lists of gates, the places are those of their products and refreshes
  pub gates_placed : (w : ℕ) (gates : List (List Gate))
      → places_from 0 0 (job_steps w gates) ≡ gate_places 0 gates
