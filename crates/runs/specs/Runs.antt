-- Document 01, "Stepping": runs of a script, lists of preparation, starting and hearing with refused calls anywhere;
-- and the runs of a job. Assumes nothing.
use Rattle.std.specs.Prelude.{◌≡◌, ◌≢◌, ◌⊎◌, List, [], ◌∷◌, ◌++◌, ℕ, ◌≤◌, ◌<◌, get_or, take, drop, length, ℤ}
use Rattle.shares.specs.Sharing.{Six, reconstruction}
use Rattle.gates.specs.Steps.{Lane, at}
use Rattle.gates.specs.Hosts.{Pair}
use Rattle.calls.specs.Scripts.{Script, job_script, script_cost}
use Rattle.calls.specs.Lent.{Lent, worker_of}
use Rattle.calls.specs.Calls.{State, start_walk, start, hear_walk, found_of, hear, Prepared, prepare_walk, prepare}

-- what every call of a run is lent, the script and the lists; and the registers that the hosts are given, which open:
-- host 0 has the masks r1 and r2, host 1 rm and r1, host 2 rm and r2
pub record Stage : Type 0 where
  pub script : Script
  pub A : List ℕ
  pub B : List ℕ
  pub rm : Lane
  pub r1 : Lane
  pub r2 : Lane
  pub rm_full : length rm ≡ script.slots
  pub r1_full : length r1 ≡ script.slots
  pub r2_full : length r2 ≡ script.slots

-- "every call is lent the same job, table and lists"
pub record Setting : Type 0 where
  pub job : List ℕ
  pub table : List ℕ
  pub A : List ℕ
  pub B : List ℕ
  pub rm : Lane
  pub r1 : Lane
  pub r2 : Lane
  pub rm_sixteen : length rm ≡ 16
  pub r1_sixteen : length r1 ≡ 16
  pub r2_sixteen : length r2 ≡ 16

-- the same setting with another job and another list A
abbrev pub altered : Setting → (job A : List ℕ) → Setting
altered S job a =
    record {
      job = job;
      table = S.table;
      A = a;
      B = S.B;
      rm = S.rm;
      r1 = S.r1;
      r2 = S.r2;
      rm_sixteen = S.rm_sixteen;
      r1_sixteen = S.r1_sixteen;
      r2_sixteen = S.r2_sixteen;
    }

-- a job's stage
abbrev pub staged : ℕ → Setting → Stage
staged w S =
    record {
      script = job_script w S.job S.table;
      A = S.A;
      B = S.B;
      rm = S.rm;
      r1 = S.r1;
      r2 = S.r2;
      rm_full = S.rm_sixteen;
      r1_full = S.r1_sixteen;
      r2_full = S.r2_sixteen;
    }

-- ---- what the hosts hold

-- a word spoken, with its place; and the word v with the place of a state
abbrev pub Spoken : Type 0
Spoken = ℕ × ℕ × ℕ

abbrev pub placed_word : State → (v : ℕ) → Spoken
placed_word s v = (s.order, s.turn, v)

abbrev pub Among : {T : Type 0} → T → List T → Type 0
Among p [] = ⊥
Among p (q ∷ l) = (p ≡ q) ⊎ Among p l

-- host 0: its masks; once it has prepared, its trail too, its masks as each order left them
pub data Dealer : Type 0 where
  idle : Pair → Dealer
  ready : Pair → List Pair → Dealer

-- host 1 or 2: what it holds (before its starting, registers with whatever place, stored places and kept words); once
-- started, its trail and the words that it has spoken, the last in front
pub data Side : Type 0 where
  waiting : State → Side
  going : State → List Pair → List Spoken → Side

-- the masks that host 0 holds; and host 0 with other masks, its trail as it was
abbrev pub dealer_holds : Dealer → Pair
dealer_holds (idle r) = r
dealer_holds (ready r t) = r

abbrev pub with_masks : Dealer → Pair → Dealer
with_masks (idle r) r' = idle r'
with_masks (ready r t) r' = ready r' t

-- the state that host 1 or 2 holds; and the host with another, its trail and the words that it has spoken as they
-- were
abbrev pub side_state : Side → State
side_state (waiting s) = s
side_state (going s t said) = s

abbrev pub with_state : Side → State → Side
with_state (waiting s) s' = waiting s'
with_state (going s t said) s' = going s' t said

-- the three hosts, and the buffer that the deals are written to
pub data World : Type 0 where
  world : Dealer → List ℕ → Side → Side → World

-- the first n slots of a state: for a job n is 16
abbrev pub registers : (n : ℕ) → State → Pair
registers n s = (take n s.m, take n s.mask)

-- "after a refused starting, with the place and kept words it held"; R-7: "After a refused starting the host keeps
-- those it held", the stored places
abbrev pub with_registers : (n : ℕ) → State → Pair → State
with_registers n s r =
    record {
      m = r.0 ++ drop n s.m;
      mask = r.1 ++ drop n s.mask;
      order = s.order;
      turn = s.turn;
      stored = s.stored;
    }

-- ---- refused calls, lent anything: what the host holds next is built from the call's answer

pub data Turned (n : ℕ) : State → State → Type 0 where
  at_start : {s : State} (loan : Lent) → (start loan (registers n s)).number ≢ 0
      → Turned n s (with_registers n s (registers n (start loan (registers n s)).state))
  at_hearing : {s : State} (loan : Lent) (v : ℕ) → (hear loan s v).number ≢ 0
      → Turned n s (hear loan s v).state

-- whatever the host holds: a refused call of host 0 leaves its trail, one of host 1 or 2 its trail and the words that
-- it has spoken
pub data Refuses (n : ℕ) : World → World → Type 0 where
  -- a preparation, lent the run's buffer
  refuses0 : {z : Dealer} {buf : List ℕ} {one two : Side} (σ : Script) (A B : List ℕ)
      → (prepare σ A B buf (dealer_holds z)).number ≢ 0
      → Refuses n (world z buf one two)
      (world (with_masks z (prepare σ A B buf (dealer_holds z)).masks) (prepare σ A B buf (dealer_holds z)).buffer
      one two)
  -- or another buffer
  refuses0_elsewhere : {z : Dealer} {buf : List ℕ} {one two : Side} (σ : Script) (A B other : List ℕ)
      → (prepare σ A B other (dealer_holds z)).number ≢ 0
      → Refuses n (world z buf one two)
      (world (with_masks z (prepare σ A B other (dealer_holds z)).masks) buf one two)
  -- a starting or hearing
  refuses1 : {z : Dealer} {buf : List ℕ} {one two : Side} {s : State} → Turned n (side_state one) s
      → Refuses n (world z buf one two) (world z buf (with_state one s) two)
  refuses2 : {z : Dealer} {buf : List ℕ} {one two : Side} {s : State} → Turned n (side_state two) s
      → Refuses n (world z buf one two) (world z buf one (with_state two s))

-- ---- calls that complete, of the run's own script

-- the calls of a run; a hearing names the word
pub data Call : Type 0 where
  preparing starting1 starting2 turned_down : Call
  hearing1 hearing2 : ℕ → Call

module _ (S : Stage) where
  abbrev pub lent1 : (D : List ℕ) → Lent
  lent1 D = record { host = 1; script = S.script; masks = S.A; deals = D }

  abbrev pub lent2 : (D : List ℕ) → Lent
  lent2 D = record { host = 2; script = S.script; masks = S.B; deals = D }

  -- D begins with the deals that the preparation wrote
  abbrev pub Dealt : (buf D : List ℕ) → Type 0
  Dealt buf D = take (script_cost S.script).deals D ≡ take (script_cost S.script).deals buf

  abbrev pub preparation : List ℕ → Pair → Prepared
  preparation buf r = prepare S.script S.A S.B buf r

  -- the registers, or what else is given at the start
  abbrev pub held : State → Pair
  held s = registers S.script.slots s

  -- a host after its starting, and after a hearing
  abbrev pub started : Lent → State → Side
  started loan s =
      going (start loan (held s)).state (start_walk loan (held s)).trail
      (placed_word (start loan (held s)).state (start loan (held s)).word ∷ [])

  abbrev pub stepped : Lent → State → (v : ℕ) → List Pair → List Spoken → Side
  stepped loan s v t said =
      going (hear loan s v).state (t ++ (hear_walk (worker_of loan) s v (found_of loan s)).trail)
      (placed_word (hear loan s v).state (hear loan s v).word ∷ said)

  pub data Completes : Call → World → World → Type 0 where
    prepares : {r : Pair} {buf : List ℕ} {one two : Side} → (preparation buf r).number ≡ 0
        → Completes preparing (world (idle r) buf one two)
        (world (ready (preparation buf r).masks (prepare_walk S.script S.A S.B r).trail)
        (preparation buf r).buffer one two)
    starts1 : {z : Dealer} {buf : List ℕ} {s : State} {two : Side} (D : List ℕ)
        → (start (lent1 D) (held s)).number ≡ 0
        → Completes starting1 (world z buf (waiting s) two) (world z buf (started (lent1 D) s) two)
    -- "starting host 2 after the preparation"
    starts2 : {r : Pair} {t₀ : List Pair} {buf : List ℕ} {s : State} {one : Side} (D : List ℕ) → Dealt buf D
        → (start (lent2 D) (held s)).number ≡ 0
        → Completes starting2 (world (ready r t₀) buf one (waiting s))
        (world (ready r t₀) buf one (started (lent2 D) s))
    -- "the word the other host spoke at that same place"
    hears1 : {z : Dealer} {buf : List ℕ} {s s2 : State} {t t2 : List Pair} {said said2 : List Spoken} (D : List ℕ)
        (v : ℕ)
        → Among (placed_word s v) said2 → (hear (lent1 D) s v).number ≡ 0
        → Completes (hearing1 v) (world z buf (going s t said) (going s2 t2 said2))
        (world z buf (stepped (lent1 D) s v t said) (going s2 t2 said2))
    hears2 : {z : Dealer} {buf : List ℕ} {s s1 : State} {t t1 : List Pair} {said said1 : List Spoken} (D : List ℕ)
        → Dealt buf D → (v : ℕ) → Among (placed_word s v) said1 → (hear (lent2 D) s v).number ≡ 0
        → Completes (hearing2 v) (world z buf (going s1 t1 said1) (going s t said))
        (world z buf (going s1 t1 said1) (stepped (lent2 D) s v t said))

  -- before the first call: host 0 has its masks, hosts 1 and 2 hold the registers given, with whatever place, stored
  -- places and kept words
  pub data Begins : World → Type 0 where
    given_out : {buf : List ℕ} {one two : State} → held one ≡ (S.rm, S.r1) → held two ≡ (S.rm, S.r2)
        → Begins (world (idle (S.r1, S.r2)) buf (waiting one) (waiting two))

  -- a run and its calls, the last in front
  pub data Run : List Call → World → Type 0 where
    begin : {v : World} → Begins v → Run [] v
    complete : {cs : List Call} {c : Call} {v v' : World} → Run cs v → Completes c v v'
        → Run (c ∷ cs) v'
    refuse : {cs : List Call} {v v' : World} → Run cs v → Refuses S.script.slots v v'
        → Run (turned_down ∷ cs) v'

-- ---- what a world shows

abbrev pub trail0 : World → List Pair
trail0 (world (idle r) buf one two) = []
trail0 (world (ready r t) buf one two) = t

abbrev pub side_trail : Side → List Pair
side_trail (waiting s) = []
side_trail (going s t said) = t

abbrev pub side_order : Side → ℕ
side_order (waiting s) = 0
side_order (going s t said) = s.order

abbrev pub trail1 : World → List Pair
trail1 (world z buf one two) = side_trail one

abbrev pub trail2 : World → List Pair
trail2 (world z buf one two) = side_trail two

-- the orders that host 1 and host 2 are past
abbrev pub order1 : World → ℕ
order1 (world z buf one two) = side_order one

abbrev pub order2 : World → ℕ
order2 (world z buf one two) = side_order two

-- "An order is finished when both hosts' places are past it."
pub record Finished (v : World) (q : ℕ) : Type 0 where
  pub one : q < order1 v
  pub two : q < order2 v

-- the six words of slot i that three hosts hold in their lanes
abbrev pub six : (p0 p1 p2 : Pair) → ℕ → Six
six p0 p1 p2 i =
    record {
      l1_of_0 = at p0.0 i;
      l2_of_0 = at p0.1 i;
      m_of_1 = at p1.0 i;
      l1_of_1 = at p1.1 i;
      m_of_2 = at p2.0 i;
      l2_of_2 = at p2.1 i;
    }

-- what opening gives on them
abbrev pub opened_slot : (w : ℕ) (p0 p1 p2 : Pair) → ℕ → ℕ × ℤ
opened_slot w p0 p1 p2 i = reconstruction w (six p0 p1 p2 i)

-- "What it opens is what opening gives on the three hosts' shares of its target as the order leaves them": slot i
-- after order q
unfoldable pub opened_after : (w : ℕ) → World → (q i : ℕ) → ℕ × ℤ
opened_after w v q i =
    opened_slot w (get_or (trail0 v) q ([], [])) (get_or (trail1 v) q ([], [])) (get_or (trail2 v) q ([], [])) i

-- the buffer of deals
abbrev pub buffer_of : World → List ℕ
buffer_of (world z buf one two) = buf

-- a script accepted with its lists and a buffer for its deals
pub record Accepted (S : Stage) (buffer : List ℕ) : Type 0 where
  pub script : S.script.fault.0 ≡ 0
  pub a : (script_cost S.script).a ≤ length S.A
  pub b : (script_cost S.script).b ≤ length S.B
  pub deals : (script_cost S.script).deals ≤ length buffer
