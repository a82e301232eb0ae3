-- "every other call completes its work": what a call that meets no condition answers, whatever it is lent and whatever
-- state it is given, in a run or outside one. Assumes nothing.
use Rattle.std.specs.Prelude.{◌≡◌, List, [], ◌∷◌, ◌++◌, ℕ, length, take, drop, replicate}
use Rattle.gates.specs.Steps.{Exchange, Step, exchange, Cursor, origin, past}
use Rattle.gates.specs.Walk.{walk, whole, far}
use Rattle.gates.specs.Hosts.{Pair, act0, deals}
use Rattle.calls.specs.Scripts.{Script}
use Rattle.calls.specs.Lent.{Lent, worker_of}
use Rattle.calls.specs.Calls.{State, Answer, report, start, hear, prepare}
use Rattle.runs.specs.Runs.{Among}
use Rattle.demands.specs.Conditions.{places_from}

-- the lanes at the start: what is given, with eight slots of 0 behind it for the words kept between gates
abbrev pub with_kept : Pair → Pair
with_kept r = (r.0 ++ replicate 8 0, r.1 ++ replicate 8 0)

-- the host walks these steps from the cursor c on, up to the next product or refresh or to the end, and answers there
abbrev pub walks_on : Lent → List Step → Cursor → Pair → Answer
walks_on loan ss c l = report (worker_of loan) (walk (worker_of loan).act ss c l [])

-- host 0's deals, and the masks that it gives back
abbrev pub all_deals : Script → (A B : List ℕ) → Pair → List ℕ
all_deals σ A B r = deals A B σ.steps origin (with_kept r)

abbrev pub all_masks : Script → (A B : List ℕ) → Pair → Pair
all_masks σ A B r = (whole (act0 A B) σ.steps origin (with_kept r) []).state

-- the product or refresh with the place (o, x), among steps that begin at the cursor c
pub record Located (ss : List Step) (c : Cursor) (o x : ℕ) : Type 0 where
  pub before : List Step
  pub target : ℕ
  pub gate : Exchange
  pub behind : List Step
  pub is : ss ≡ before ++ (exchange target gate ∷ behind)
  pub order : (far before c).order ≡ o
  pub turn : (far before c).turn ≡ x

pub record Completed : Type 0 where
  -- "Host 0's preparation writes exactly its deals, in gate order, and gives back its masks of all registers; later
  -- words of its buffer keep their content."
  pub preparing : (σ : Script) (A B buf : List ℕ) (r : Pair) → (prepare σ A B buf r).number ≡ 0
      → prepare σ A B buf r
      ≡ record {
        number = 0;
        index = 0;
        deals = length (all_deals σ A B r);
        masks = (take σ.slots (all_masks σ A B r).0, take σ.slots (all_masks σ A B r).1);
        buffer = all_deals σ A B r ++ drop (length (all_deals σ A B r)) buf;
      }
  -- "Starting host 1 or 2 runs to its first product or refresh and gives the word it speaks"
  pub starting : (loan : Lent) (r : Pair) → (start loan r).number ≡ 0
      → start loan r ≡ walks_on loan loan.script.steps origin (with_kept r)
  -- "hearing takes the other's word and runs to the next, or to the end", from the product or refresh e at the state's
  -- place, behind the steps pre; "Kept words in a forged state are taken as they come."
  pub hearing : (loan : Lent) (s : State) (v : ℕ) (pre ss : List Step) (d : ℕ) (e : Exchange)
      → loan.script.steps ≡ pre ++ (exchange d e ∷ ss) → s.order ≡ (far pre origin).order
      → s.turn ≡ (far pre origin).turn
      → (hear loan s v).number ≡ 0
      → hear loan s v
      ≡ walks_on loan ss (past (exchange d e) (far pre origin))
      ((worker_of loan).hear d e (far pre origin) (s.m, s.mask) v)
  -- every place that 8 does not turn down has one
  pub located : (ss : List Step) (o x : ℕ) → Among (o, x) (places_from 0 0 ss) → Located ss origin o x
