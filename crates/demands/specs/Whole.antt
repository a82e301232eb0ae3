-- The run of a whole script that begins with its preparation and both startings. Assumes nothing.
use Rattle.std.specs.Prelude.{◌≡◌, ◌↔◌, List, [], ℕ, ◌<◌}
use Rattle.gates.specs.Hosts.{Pair}
use Rattle.calls.specs.Scripts.{orders_in}
use Rattle.calls.specs.Calls.{State}
use Rattle.runs.specs.Runs.{Stage, Setting, staged, Spoken, idle, ready, waiting, going, World, world, Call}
use Rattle.runs.specs.Runs.{preparation, held, Finished, Accepted}
use Rattle.demands.specs.Conditions.{PreparationIs}
use Rattle.demands.specs.Demand1.{job_terms, gate_terms}
use Rattle.runs.specs.Strict.{Calls}

-- calls from the world v after which host 0 holds these masks and this buffer, hosts 1 and 2 the states one and two,
-- and every order is finished
pub record WholeRun (S : Stage) (E : List ℕ) (v : World) (masks : Pair) (buffer : List ℕ)
    (one two : State) : Type 0 where
  pub calls : List Call
  pub trail0 : List Pair
  pub trail1 : List Pair
  pub trail2 : List Pair
  pub said1 : List Spoken
  pub said2 : List Spoken
  pub heard1 : List Spoken
  pub heard2 : List Spoken
  pub run : Calls S E v [] [] calls
      (world (ready masks trail0) buffer (going one trail1 said1) (going two trail2 said2)) heard1 heard2
  pub finished : (q : ℕ) → q < orders_in S.script
      → Finished (world (ready masks trail0) buffer (going one trail1 said1) (going two trail2 said2)) q

-- the world before the first call, the hosts holding the states one and two
abbrev pub first_world : Stage → (buffer : List ℕ) (one two : State) → World
first_world S buf one two = world (idle (S.r1, S.r2)) buf (waiting one) (waiting two)

pub record Whole : Type 0 where
  -- a script is accepted with its lists and its buffer exactly where its preparation is not refused
  pub accepted : (S : Stage) (buffer : List ℕ) (r : Pair) → (preparation S buffer r).number ≡ 0
      → Accepted S buffer
  pub prepares : (S : Stage) (buffer : List ℕ) (r : Pair) → Accepted S buffer
      → (preparation S buffer r).number ≡ 0
  -- a job exactly where none of the conditions 2 to 7 is met: by document 01's table of costs, and at every width by
  -- the costs of its gates
  pub accepted_job : (S : Setting) (buffer : List ℕ)
      → PreparationIs (job_terms S.job S.table) S.A S.B buffer 0 0 ↔ Accepted (staged 32 S) buffer
  pub accepted_at : (w : ℕ) (S : Setting) (buffer : List ℕ)
      → PreparationIs (gate_terms w S.job S.table) S.A S.B buffer 0 0 ↔ Accepted (staged w S) buffer
  -- and then, from any registers that open, with whatever kept words and buffer, there are calls that finish every
  -- order, on the masks and the buffer that the preparation returns
  pub whole_run : (S : Stage) (E buffer : List ℕ) (one two : State) → held S one ≡ (S.rm, S.r1)
      → held S two ≡ (S.rm, S.r2)
      → (preparation S buffer (S.r1, S.r2)).number ≡ 0
      → (s1 : State) × (s2 : State) × WholeRun S E (first_world S buffer one two)
      (preparation S buffer (S.r1, S.r2)).masks (preparation S buffer (S.r1, S.r2)).buffer s1 s2
