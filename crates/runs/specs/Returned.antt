-- What the three hosts hold after a run: the masks that the preparation returned, and the registers in the states
-- that starting and hearing returned. What opening gives on them. Assumes nothing.
use Rattle.std.specs.Prelude.{◌≡◌, List, ℕ, suc, ◌≤◌, ◌<◌, ℤ, length}
use Rattle.gates.specs.Hosts.{Pair}
use Rattle.jobs.specs.Job.{orders}
use Rattle.calls.specs.Scripts.{orders_in, Orderly}
use Rattle.runs.specs.Runs.{Stage, Setting, staged, Side, dealer_holds, side_state, World, world, registers}
use Rattle.runs.specs.Runs.{Call, Run, Finished, opened_slot, opened_after}
use Rattle.runs.specs.Orders.{Words, Unwritten, order_of, Untargeted, Finishes, opens}

-- the first n slots, for a job sixteen registers, in the state that host 1 or 2 holds
abbrev pub side_holds : (n : ℕ) → Side → Pair
side_holds n x = registers n (side_state x)

-- what opening gives on slot i of the three hosts as they stand, each with n slots: of the masks and states that the
-- calls returned, and of nothing else
unfoldable pub opened_now : (w n : ℕ) → World → (i : ℕ) → ℕ × ℤ
opened_now w n (world z buf one two) i = opened_slot w (dealer_holds z) (side_holds n one) (side_holds n two) i

-- what it gave on the registers that the hosts were given
unfoldable pub opened_given : (w : ℕ) → Stage → (i : ℕ) → ℕ × ℤ
opened_given w S i = opened_slot w (S.r1, S.r2) (S.rm, S.r1) (S.rm, S.r2) i

-- no step from order q on has slot i as its target
abbrev pub UnwrittenFrom : Stage → (q i : ℕ) → Type 0
UnwrittenFrom S q i = (p : ℕ) → q ≤ p → Unwritten i p S.script.steps

-- what slot i opens after the whole script: what the last order that writes it opened, or where none does what was
-- given
pub data Holds (w : ℕ) (S : Stage) (v : World) (i : ℕ) : Type 0 where
  by_order : (q : ℕ) → q < orders_in S.script → (Unwritten i q S.script.steps → ⊥)
      → UnwrittenFrom S (suc q) i
      → opened_now w S.script.slots v i ≡ opened_after w v q i → Holds w S v i
  by_given : UnwrittenFrom S 0 i → opened_now w S.script.slots v i ≡ opened_given w S i → Holds w S v i

-- ---- of a job

-- no order of the job from order q on writes register i
abbrev pub UntargetedFrom : Setting → (q i : ℕ) → Type 0
UntargetedFrom S q i = (p : ℕ) → q ≤ p → Untargeted S p i

-- what register i opens after the whole job: what the last order that writes it opened, or where none does what was
-- given
pub data JobHolds (w : ℕ) (S : Setting) (v : World) (i : ℕ) : Type 0 where
  of_order : (q : ℕ) → q < length (orders S.job) → (order_of S q).target ≡ i → UntargetedFrom S (suc q) i
      → opened_now w 16 v i ≡ opens w S v q → JobHolds w S v i
  of_given : UntargetedFrom S 0 i → opened_now w 16 v i ≡ opened_given w (staged w S) i → JobHolds w S v i

-- at every width of w bits
pub record Returned (w : ℕ) : Type 0 where
  -- "What it opens is what opening gives on the three hosts' shares ..; the register keeps that until an order writes
  -- it": of any script, a slot that no order behind order q writes
  pub written : (S : Stage) (q : ℕ) (v : World) → Finishes w S q v → (i : ℕ) → i < S.script.slots
      → UnwrittenFrom S (suc q) i
      → opened_now w S.script.slots v i ≡ opened_after w v q i
  -- a slot that no step writes opens, after every run, what it was given
  pub untouched : (S : Stage) (cs : List Call) (v : World) → Run S cs v → (i : ℕ) → i < S.script.slots
      → UnwrittenFrom S 0 i
      → opened_now w S.script.slots v i ≡ opened_given w S i
  -- after the last order: all slots that were given
  pub all_done : (S : Stage) → Orderly S.script → (q : ℕ) (v : World) → Finishes w S q v
      → suc q ≡ orders_in S.script
      → (i : ℕ) → i < S.script.slots → opened_now w S.script.slots v i ≡ opened_after w v q i
  -- a run that has finished every order: each slot that was given, by its last writer
  pub every_slot : (S : Stage) → Orderly S.script → (cs : List Call) (v : World) → Words w S → Run S cs v
      → ((q : ℕ) → q < orders_in S.script → Finished v q) → (i : ℕ) → i < S.script.slots
      → Holds w S v i
  -- ---- of a job
  -- a register that no order behind order q has as its target now opens what order q opened in it
  pub job_written : (S : Setting) (q : ℕ) (v : World) → Finishes w (staged w S) q v → (i : ℕ) → i < 16
      → UntargetedFrom S (suc q) i → opened_now w 16 v i ≡ opened_after w v q i
  -- and one that no order has as its target opens, after every run, what was given
  pub job_untouched : (S : Setting) (cs : List Call) (v : World) → Run (staged w S) cs v → (i : ℕ) → i < 16
      → UntargetedFrom S 0 i → opened_now w 16 v i ≡ opened_given w (staged w S) i
  -- an order that is the last to write its target: its target now opens what the order opened
  pub last_writer : (S : Setting) (q : ℕ) (v : World) → Finishes w (staged w S) q v
      → UntargetedFrom S (suc q) (order_of S q).target
      → opened_now w 16 v (order_of S q).target ≡ opens w S v q
  -- a run that has finished every order: each of the sixteen registers, by its last writer
  pub every_register : (S : Setting) (cs : List Call) (v : World) → Words w (staged w S) → Run (staged w S) cs v
      → ((q : ℕ) → q < length (orders S.job) → Finished v q) → (i : ℕ) → i < 16 → JobHolds w S v i
