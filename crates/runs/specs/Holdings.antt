-- The very words that the hosts hold, wherever they stand in a run: of a slot that the order at hand writes with its
-- last step, or behind its last product or refresh, or not at all, those of the joint walk just before that order; and
-- the masks that the preparation returned. Assumes nothing.
use Rattle.std.specs.Prelude.{◌≡◌, List, ℕ, ◌<◌}
use Rattle.gates.specs.Steps.{at}
use Rattle.gates.specs.Hosts.{Pair}
use Rattle.calls.specs.Scripts.{orders_in, Orderly}
use Rattle.calls.specs.Calls.{State}
use Rattle.runs.specs.Runs.{Stage, Setting, staged, Spoken, Dealer, ready, Side, going, world, Call, Run}
use Rattle.runs.specs.Orders.{share_before, WrittenLast, WrittenBehind}

pub record Holdings : Type 0 where
  -- "the register keeps that until an order writes it", "host 1 holds m, L1; host 2 holds m, L2": the state that the
  -- last call returned, at whatever place
  pub host1 : (S : Stage) (cs : List Call) (z : Dealer) (buf : List ℕ) (s : State) (t : List Pair)
      (said : List Spoken) (two : Side) → Run S cs (world z buf (going s t said) two) → (i : ℕ)
      → WrittenLast i s.order S.script.steps
      → (at s.m i ≡ (share_before S s.order i).m) × (at s.mask i ≡ (share_before S s.order i).l1)
  pub host2 : (S : Stage) (cs : List Call) (z : Dealer) (buf : List ℕ) (one : Side) (s : State) (t : List Pair)
      (said : List Spoken) → Run S cs (world z buf one (going s t said)) → (i : ℕ)
      → WrittenLast i s.order S.script.steps
      → (at s.m i ≡ (share_before S s.order i).m) × (at s.mask i ≡ (share_before S s.order i).l2)
  -- "Between two exchanges of an order a state's registers are those before the order.": so too of a slot that the
  -- order at hand writes with its last product or refresh or behind it alone
  pub behind1 : (S : Stage) (cs : List Call) (z : Dealer) (buf : List ℕ) (s : State) (t : List Pair)
      (said : List Spoken) (two : Side) → Run S cs (world z buf (going s t said) two) → (i : ℕ)
      → WrittenBehind i s.order S.script.steps
      → (at s.m i ≡ (share_before S s.order i).m) × (at s.mask i ≡ (share_before S s.order i).l1)
  pub behind2 : (S : Stage) (cs : List Call) (z : Dealer) (buf : List ℕ) (one : Side) (s : State) (t : List Pair)
      (said : List Spoken) → Run S cs (world z buf one (going s t said)) → (i : ℕ)
      → WrittenBehind i s.order S.script.steps
      → (at s.m i ≡ (share_before S s.order i).m) × (at s.mask i ≡ (share_before S s.order i).l2)
  -- "Host 0 holds L1, L2", "and gives back its masks of all registers": those behind the last order
  pub host0 : (S : Stage) → Orderly S.script → (cs : List Call) (r : Pair) (t : List Pair) (buf : List ℕ)
      (one two : Side) → Run S cs (world (ready r t) buf one two) → (i : ℕ) → i < S.script.slots
      → (at r.0 i ≡ (share_before S (orders_in S.script) i).l1)
      × (at r.1 i ≡ (share_before S (orders_in S.script) i).l2)
  -- a job: every register, the target of the order at hand too, which its last gate alone writes
  pub job_host1 : (w : ℕ) (S : Setting) (cs : List Call) (z : Dealer) (buf : List ℕ) (s : State) (t : List Pair)
      (said : List Spoken) (two : Side) → Run (staged w S) cs (world z buf (going s t said) two)
      → (i : ℕ) → i < 16
      → (at s.m i ≡ (share_before (staged w S) s.order i).m)
      × (at s.mask i ≡ (share_before (staged w S) s.order i).l1)
  pub job_host2 : (w : ℕ) (S : Setting) (cs : List Call) (z : Dealer) (buf : List ℕ) (one : Side) (s : State)
      (t : List Pair) (said : List Spoken) → Run (staged w S) cs (world z buf one (going s t said))
      → (i : ℕ) → i < 16
      → (at s.m i ≡ (share_before (staged w S) s.order i).m)
      × (at s.mask i ≡ (share_before (staged w S) s.order i).l2)
