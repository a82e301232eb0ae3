-- The customer's demand 2, about every run of an accepted job on unaltered words. Assumes nothing.
use Rattle.std.specs.Prelude.{◌≡◌, false, List, ℕ, suc, ◌*◌, ◌<◌, eqb, length}
use Rattle.words.specs.Signed.{signed}
use Rattle.tables.specs.Table.{rows}
use Rattle.gates.specs.Hosts.{Pair}
use Rattle.programs.specs.Opens.{order_value}
use Rattle.jobs.specs.Job.{orders}
use Rattle.calls.specs.Scripts.{job_script, script_cost, orders_in, Orderly}
use Rattle.calls.specs.Calls.{State, start, hear}
use Rattle.runs.specs.Runs.{Stage, Setting, staged, Spoken, Among, Dealer, ready, Side, waiting, going, World}
use Rattle.runs.specs.Runs.{world, Call, lent1, lent2, Dealt, preparation, held, Run, opened_after}
use Rattle.runs.specs.Orders.{share_before, share_after, value_after, Unwritten, order_of, refresh_mask}
use Rattle.runs.specs.Orders.{source_value, source_mask, second_value, opens, Finishes}
use Rattle.runs.specs.InOrder.{words_of_1, words_of_2}

-- the words spoken so far, by the number of answers given: all of them, but for the 0 given at the end, where they are
-- half the script's sum
pub record Counted (S : Stage) (spoken : ℕ) (s : State) (answers : ℕ) : Type 0 where
  pub before_end : s.order < orders_in S.script → spoken ≡ answers
  pub at_end : s.order ≡ orders_in S.script
      → (suc spoken ≡ answers) × (spoken * 2 ≡ (script_cost S.script).words)

-- the word that document 01 defines for order q, from what its sources open just before it, and the masks
abbrev pub defined_value : (w : ℕ) → Setting → (q : ℕ) → ℕ
defined_value w S q =
    order_value w (rows S.table) (order_of S q) (source_value w S q) (second_value w S q) (source_mask w S q)
    (refresh_mask w S q)

pub record Demand2 : Type 0 where
  -- "each order opens to the value that document 01 defines for it": at every width above the 12 bits that a curve
  -- truncates by
  pub order_opens : (w : ℕ) → 12 < w → (S : Setting) (q : ℕ) (v : World) → Finishes w (staged w S) q v
      → opens w S v q ≡ (0, signed w (defined_value w S q))
  -- opening any register as the order leaves it never meets 10, and gives its value on the joint walk
  pub shares_agree : (w : ℕ) (S : Stage) (q i : ℕ) (v : World) → Finishes w S q v
      → opened_after w v q i ≡ (0, signed w (value_after w S q i))
  -- "the register keeps that until an order writes it": any slot that no step of the order writes; so every register
  -- but a job's order's target
  pub slot_kept : (S : Stage) (q i : ℕ) → q < orders_in S.script → Unwritten i q S.script.steps
      → share_after S q i ≡ share_before S q i
  pub register_kept : (w : ℕ) (S : Setting) (q i : ℕ) (v : World) → Finishes w (staged w S) q v → i < 16
      → eqb i (order_of S q).target ≡ false
      → share_after (staged w S) q i ≡ share_before (staged w S) q i
  -- "every spoken word is the one defined there": one of those defined; in order and each once, InOrder.antt
  pub host1_speaks : (S : Stage) (cs : List Call) (z : Dealer) (buf : List ℕ) (s : State) (t : List Pair)
      (said : List Spoken)
      (two : Side) → Run S cs (world z buf (going s t said) two) → (p : Spoken) → Among p said
      → Among p (words_of_1 S)
  pub host2_speaks : (S : Stage) (cs : List Call) (z : Dealer) (buf : List ℕ) (one : Side) (s : State) (t : List Pair)
      (said : List Spoken) → Run S cs (world z buf one (going s t said)) → (p : Spoken) → Among p said
      → Among p (words_of_2 S)
  -- "preparation reports the deals it wrote, hosts 1 and 2 each the words they have spoken so far, at the end half the
  -- sum"
  pub deals_counted : (S : Stage) (buf : List ℕ) (r : Pair) → (preparation S buf r).number ≡ 0
      → (preparation S buf r).deals ≡ (script_cost S.script).deals
  pub start1_counted : (S : Stage) → Orderly S.script
      → (cs : List Call) (z : Dealer) (buf D : List ℕ) (s : State) (two : Side)
      → Run S cs (world z buf (waiting s) two) → (start (lent1 S D) (held S s)).number ≡ 0
      → Counted S (start (lent1 S D) (held S s)).spoken (start (lent1 S D) (held S s)).state 1
  pub hear1_counted : (S : Stage) → Orderly S.script
      → (cs : List Call) (z : Dealer) (buf D : List ℕ) (s s2 : State)
      (t t2 : List Pair) (said said2 : List Spoken) (v : ℕ)
      → Run S cs (world z buf (going s t said) (going s2 t2 said2))
      → Among (s.order, s.turn, v) said2 → (hear (lent1 S D) s v).number ≡ 0
      → Counted S (hear (lent1 S D) s v).spoken (hear (lent1 S D) s v).state (suc (length said))
  pub start2_counted : (S : Stage) → Orderly S.script
      → (cs : List Call) (r : Pair) (t₀ : List Pair) (buf D : List ℕ) (one : Side)
      (s : State) → Run S cs (world (ready r t₀) buf one (waiting s)) → Dealt S buf D
      → (start (lent2 S D) (held S s)).number ≡ 0
      → Counted S (start (lent2 S D) (held S s)).spoken (start (lent2 S D) (held S s)).state 1
  pub hear2_counted : (S : Stage) → Orderly S.script
      → (cs : List Call) (z : Dealer) (buf D : List ℕ) (s1 s : State)
      (t1 t : List Pair) (said1 said : List Spoken) (v : ℕ)
      → Run S cs (world z buf (going s1 t1 said1) (going s t said))
      → Dealt S buf D → Among (s.order, s.turn, v) said1 → (hear (lent2 S D) s v).number ≡ 0
      → Counted S (hear (lent2 S D) s v).spoken (hear (lent2 S D) s v).state (suc (length said))
  -- a job's script has as many orders as the job, and is orderly
  pub job_orders : (w : ℕ) (job table : List ℕ) → orders_in (job_script w job table) ≡ length (orders job)
  pub job_orderly : (w : ℕ) (job table : List ℕ) → Orderly (job_script w job table)
