-- "Host 0's preparation writes exactly its deals, in gate order, and gives back its masks of all registers; later
-- words of its buffer keep their content." What the buffer holds, in every run. Assumes nothing.
use Rattle.std.specs.Prelude.{◌≡◌, List, [], ◌∷◌, ◌++◌, ℕ, length, drop}
use Rattle.gates.specs.Steps.{Step, Cursor, origin, past}
use Rattle.gates.specs.Hosts.{Pair, Triple, of0, dealt, act}
use Rattle.runs.specs.Runs.{Stage, Spoken, idle, ready, Side, World, world, Call, preparation, Begins, Run}
use Rattle.runs.specs.Runs.{buffer_of}
use Rattle.runs.specs.Orders.{first}
use Rattle.runs.specs.Strict.{Calls}

-- the deals on the joint walk, in gate order: L2 of each deal, g2 of each product, of which one with a known value has
-- none
unfoldable pub defined_deals : (A B : List ℕ) → List Step → Cursor → Triple → List ℕ
defined_deals A B [] c j = []
defined_deals A B (x ∷ ss) c j = dealt A B x c (of0 j) (defined_deals A B ss (past x c) (act A B x c j))

abbrev pub deals_of : Stage → List ℕ
deals_of S = defined_deals S.A S.B S.script.steps origin (first S)

-- a buffer with the deals in front of the words that stood behind them
abbrev pub with_deals : Stage → (buffer : List ℕ) → List ℕ
with_deals S buf = deals_of S ++ drop (length (deals_of S)) buf

pub record Buffers : Type 0 where
  -- in every run, the preparation that completes
  pub written : (S : Stage) (cs : List Call) (r : Pair) (buf : List ℕ) (one two : Side)
      → Run S cs (world (idle r) buf one two)
      → (preparation S buf r).number ≡ 0 → (preparation S buf r).buffer ≡ with_deals S buf
  -- "preparation reports the deals it wrote"
  pub reported : (S : Stage) (cs : List Call) (r : Pair) (buf : List ℕ) (one two : Side)
      → Run S cs (world (idle r) buf one two)
      → (preparation S buf r).number ≡ 0 → (preparation S buf r).deals ≡ length (deals_of S)
  -- from the first call to the last: as it was given until the preparation completes, and from then on with the deals
  -- in front
  pub before : (S : Stage) (E : List ℕ) (v : World) (cs : List Call) (r : Pair) (buf : List ℕ) (one two : Side)
      (h1 h2 : List Spoken)
      → Begins S v → Calls S E v [] [] cs (world (idle r) buf one two) h1 h2 → buf ≡ buffer_of v
  pub after : (S : Stage) (E : List ℕ) (v : World) (cs : List Call) (r : Pair) (t : List Pair) (buf : List ℕ)
      (one two : Side) (h1 h2 : List Spoken)
      → Begins S v → Calls S E v [] [] cs (world (ready r t) buf one two) h1 h2
      → buf ≡ with_deals S (buffer_of v)
