-- What `together` gives is what the three hosts hold at the end of a run, with its counts and its words. Assumes
-- nothing.
use Rattle.std.specs.Prelude.{◌≡◌, ◌≢◌, List, reverse, ℕ, suc, length}
use Rattle.calls.specs.Scripts.{Orderly}
use Rattle.gates.specs.Hosts.{Pair}
use Rattle.calls.specs.Calls.{State, Answer}
use Rattle.runs.specs.Runs.{Stage, Setting, staged, World, preparation, held, buffer_of, Accepted}
use Rattle.demands.specs.Conditions.{PreparationIs}
use Rattle.demands.specs.Demand1.{job_terms, given_back}
use Rattle.runs.specs.InOrder.{words_of_1, words_of_2}
use Rattle.runs.specs.Buffers.{deals_of, with_deals}
use Rattle.demands.specs.Whole.{WholeRun, first_world}
use Rattle.trio.specs.Together.{Trio, together}

-- the whole script of a stage, in one place
abbrev pub ran : Stage → (buffer : List ℕ) → Trio
ran S buf = together S.script S.A S.B (S.rm, S.r1, S.r2) buf

-- the three hosts' last answers t are those of a run of document 01 from the world v
pub record RunTo (S : Stage) (E : List ℕ) (v : World) (t : Trio) : Type 0 where
  -- the run: host 0 then holds these masks and this buffer, hosts 1 and 2 these states, and every order is finished
  pub whole : WholeRun S E v t.masks t.buffer t.one.state t.two.state
  -- no call of it was refused
  pub numbers : (t.number ≡ 0) × (t.one.number ≡ 0) × (t.two.number ≡ 0)
  pub indices : (t.index ≡ 0) × (t.one.index ≡ 0) × (t.two.index ≡ 0)
  -- "preparation reports the deals it wrote", which stand in front of the buffer
  pub deals : t.deals ≡ length (deals_of S)
  pub buffer : t.buffer ≡ with_deals S (buffer_of v)
  -- each host has spoken every word defined for it, in order, with the 0 of its last answer behind them
  pub said1 : reverse whole.said1 ≡ words_of_1 S
  pub said2 : reverse whole.said2 ≡ words_of_2 S
  pub last_words : (t.one.word ≡ 0) × (t.two.word ≡ 0)
  -- and reports as many as come before that 0
  pub spoken1 : suc t.one.spoken ≡ length whole.said1
  pub spoken2 : suc t.two.spoken ≡ length whole.said2

-- the answer of a host that did not start: the preparation's number and index, and the registers as they were given
abbrev pub not_started : Trio → Pair → Answer
not_started t r = record { number = t.number; index = t.index; spoken = 0; word = 0; state = given_back r }

-- t is the preparation's refusal: nothing is written, and the hosts hold what they were given
pub record TurnedDown (S : Stage) (buf : List ℕ) (t : Trio) : Type 0 where
  pub number : t.number ≡ (preparation S buf (S.r1, S.r2)).number
  pub index : t.index ≡ (preparation S buf (S.r1, S.r2)).index
  pub deals : t.deals ≡ 0
  pub masks : t.masks ≡ (S.r1, S.r2)
  pub buffer : t.buffer ≡ buf
  pub one : t.one ≡ not_started t (S.rm, S.r1)
  pub two : t.two ≡ not_started t (S.rm, S.r2)

pub record TrioRan : Type 0 where
  -- where it is not refused, from any registers that open, whatever the hosts keep beside them
  pub is_run : (S : Stage) → Orderly S.script → (E buffer : List ℕ) (one two : State)
      → held S one ≡ (S.rm, S.r1)
      → held S two ≡ (S.rm, S.r2) → (ran S buffer).number ≡ 0
      → RunTo S E (first_world S buffer one two) (ran S buffer)
  -- and so where its script is accepted with its lists and its buffer
  pub accepted_run : (S : Stage) → Orderly S.script → (E buffer : List ℕ) (one two : State)
      → held S one ≡ (S.rm, S.r1) → held S two ≡ (S.rm, S.r2) → Accepted S buffer
      → RunTo S E (first_world S buffer one two) (ran S buffer)
  -- a job: where it meets none of the conditions 2 to 7
  pub job_run : (S : Setting) (E buffer : List ℕ) (one two : State) → held (staged 32 S) one ≡ (S.rm, S.r1)
      → held (staged 32 S) two ≡ (S.rm, S.r2)
      → PreparationIs (job_terms S.job S.table) S.A S.B buffer 0 0
      → RunTo (staged 32 S) E (first_world (staged 32 S) buffer one two) (ran (staged 32 S) buffer)
  -- and where it is refused
  pub refused : (S : Stage) (buffer : List ℕ) → (ran S buffer).number ≢ 0 → TurnedDown S buffer (ran S buffer)
