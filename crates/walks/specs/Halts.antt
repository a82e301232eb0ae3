-- Where a walk of host 1 or 2 halts, at the next product or refresh or at the end: its answer there, over a list of
-- steps, among the gates of a program, and over a list of programs. Assumes nothing.
use Rattle.std.specs.Prelude.{◌≡◌, List, [], ◌∷◌, ◌++◌, map, ℕ, ◌+◌, ◌≤◌, length, drop}
use Rattle.gates.specs.Gates.{Gate}
use Rattle.gates.specs.Steps.{Lane, Step, Cursor}
use Rattle.gates.specs.Meaning.{meaning, order_steps, job_steps}
use Rattle.gates.specs.Walk.{walk}
use Rattle.gates.specs.Hosts.{Pair}
use Rattle.calls.specs.declared.Stored.{Stored}
use Rattle.calls.specs.Lent.{Worker}
use Rattle.calls.specs.Calls.{Answer, report}
use Rattle.walks.specs.Workers.{cursor}

-- an answer that is no refusal
abbrev pub going_on : (spoken word : ℕ) (m mask : Lane) (order turn : ℕ) (stored : Stored) → Answer
going_on n v m l o x u =
    record {
      number = 0;
      index = 0;
      spoken = n;
      word = v;
      state = record { m = m; mask = l; order = o; turn = x; stored = u };
    }

-- the answer of a walk from here to the next product or refresh, or to the end
unfoldable pub reported : Worker → List Step → Cursor → Pair → Answer
reported P ss c s = report P (walk P.act ss c s [])

-- the steps of programs end to end, of the first from its gate i on
unfoldable pub steps_from : (w i : ℕ) → (programs : List (List Gate)) → List Step
steps_from w i [] = []
steps_from w i (gs ∷ rest) = order_steps w (drop i gs) (job_steps w rest)

-- A walk on its way through the gates gs, from gate i with the lanes s to gate j with the lanes t: whatever stands
-- behind them, the answer is the same from there. It stays among the gates, and the words of A and the deals that are
-- used on the way are at most as many as the gates.
pub record Going (w : ℕ) (P : Worker) (gs : List Gate) (i a dealt : ℕ) (s : Pair)
    (j a' dealt' : ℕ) (t : Pair) : Type 0 where
  pub same : (ss : List Step) (o x b : ℕ)
      → reported P (map (meaning w) (drop i gs) ++ ss) (cursor o x a b dealt) s
      ≡ reported P (map (meaning w) (drop j gs) ++ ss) (cursor o x a' b dealt') t
  pub few : (n : ℕ) → i ≤ n → length gs ≤ n → j ≤ n
  pub few_a : a' + i ≤ a + j
  pub few_deals : dealt' + i ≤ dealt + j
