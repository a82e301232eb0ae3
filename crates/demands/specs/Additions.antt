-- R-2: "Addition and subtraction .. should write only the target and copy no other register. .. A proof says that every
-- other register keeps its share on each host, also where the target is a source." Of what the calls return, for every
-- job, list and state. Assumes nothing.
use Rattle.std.specs.Prelude.{◌≡◌, ◌≢◌, List, [], ◌∷◌, ◌++◌, ℕ, suc, ◌≤◌, ◌<◌, length, take}
use Rattle.gates.specs.Steps.{at}
use Rattle.gates.specs.Hosts.{Pair}
use Rattle.programs.specs.declared.Order.{Order}
use Rattle.jobs.specs.Job.{orders}
use Rattle.jobs.specs.FirstFault.{order}
use Rattle.jobs.specs.Additions.{Additive, added_word, added, added2, added_all}
use Rattle.calls.specs.Scripts.{job_script}
use Rattle.calls.specs.Lent.{lent}
use Rattle.calls.specs.Calls.{stored_places, State, Answer, Prepared, fresh2, prepare, start, hear}
use Rattle.runs.specs.Runs.{Setting, staged, Spoken, Dealer, Side, going, world, Call, Run}

-- a list of such orders alone
abbrev pub AllAdditive : List Order → Type 0
AllAdditive os = (q : ℕ) → q < length os → Additive (order os q)

-- the orders of a job from order p up to order q, q not among them, leave slot i: it is none of their targets; and if
-- it is a kept word, they and order q are of kinds 0 to 5, which have one gate and so keep no word between gates
pub record Leaves (job : List ℕ) (p q i : ℕ) : Type 0 where
  pub target : (n : ℕ) → p ≤ n → n < q → i ≢ (order (orders job) n).target
  pub plain : 16 ≤ i → (n : ℕ) → p ≤ n → n ≤ q → (order (orders job) n).kind < 6

-- slot i holds in t the very words that it held in s, on both lanes of a host
abbrev pub Keeps : (s t : Pair) (i : ℕ) → Type 0
Keeps s t i = (at t.0 i ≡ at s.0 i) × (at t.1 i ≡ at s.1 i)

-- the lanes of a state: sixteen registers, and the kept words behind them
abbrev pub lanes : State → Pair
lanes s = (s.m, s.mask)

-- the calls on a job
abbrev pub prepares : (w : ℕ) (job table A B buf : List ℕ) → Pair → Prepared
prepares w job table A B buf r = prepare (job_script w job table) A B buf r

abbrev pub starts : (w h : ℕ) (job table M D : List ℕ) → Pair → Answer
starts w h job table M D r = start (lent h (job_script w job table) M D) r

abbrev pub hears : (w h : ℕ) (job table M D : List ℕ) → State → ℕ → Answer
hears w h job table M D s v = hear (lent h (job_script w job table) M D) s v

-- the job with one more order at its end
abbrev pub with_order : (job : List ℕ) → Order → List ℕ
with_order job o = job ++ (o.kind ∷ o.target ∷ o.source ∷ o.fourth ∷ [])

-- an answer, and a preparation, with the addition or subtraction o done too
abbrev pub and_then : (w : ℕ) → Order → Answer → Answer
and_then w o r =
    record {
      number = r.number;
      index = r.index;
      spoken = r.spoken;
      word = r.word;
      state =
          record {
            m = added w o r.state.m;
            mask = added w o r.state.mask;
            order = suc r.state.order;
            turn = 0;
            stored = r.state.stored;
          };
    }

abbrev pub and_prepared : (w : ℕ) → Order → Prepared → Prepared
and_prepared w o p =
    record {
      number = p.number;
      index = p.index;
      deals = p.deals;
      masks = added2 w o p.masks;
      buffer = p.buffer;
    }

-- r is the answer on a job of n orders, r' the answer with o behind them: the same where the call stops before the
-- end, and at the end with o done too, whose target is a register and no kept word
pub record Further (w : ℕ) (o : Order) (n : ℕ) (r r' : Answer) : Type 0 where
  pub register : o.target < 16
  pub within : r.state.order ≤ n
  pub before : r.state.order < n → r' ≡ r
  pub at_end : r.state.order ≡ n → r' ≡ and_then w o r

pub record Additions (w : ℕ) : Type 0 where
  -- ---- one addition or subtraction, the last order of a job of whatever orders (as its only order: below)

  -- A call on the job with that order at its end answers what it answers on the job without; where it comes to that
  -- job's end, with the order done: of all registers and kept words the target's alone is another, the sum or
  -- difference of what its sources held, also where the target is one of them.
  pub preparing : (job table A B buf : List ℕ) (r : Pair) (o : Order) → Additive o
      → (prepares w job table A B buf r).number ≡ 0 → (prepares w (with_order job o) table A B buf r).number ≡ 0
      → prepares w (with_order job o) table A B buf r ≡ and_prepared w o (prepares w job table A B buf r)
  pub starting : (h : ℕ) (job table M D : List ℕ) (r : Pair) (o : Order) → Additive o
      → (starts w h job table M D r).number ≡ 0 → (starts w h (with_order job o) table M D r).number ≡ 0
      → Further w o (length (orders job)) (starts w h job table M D r) (starts w h (with_order job o) table M D r)
  pub hearing : (h : ℕ) (job table M D : List ℕ) (s : State) (v : ℕ) (o : Order) → Additive o
      → (hears w h job table M D s v).number ≡ 0 → (hears w h (with_order job o) table M D s v).number ≡ 0
      → Further w o (length (orders job)) (hears w h job table M D s v) (hears w h (with_order job o) table M D s v)
  -- what that says slot by slot: every slot but the target
  pub others : (o : Order) (s : Pair) (i : ℕ) → i ≢ o.target → Keeps s (added2 w o s) i
  -- and the target
  pub target : (o : Order) (s : Pair) → o.target < length s.0 → o.target < length s.1
      → (at (added2 w o s).0 o.target ≡ added_word w o s.0)
      × (at (added2 w o s).1 o.target ≡ added_word w o s.1)
  -- ---- and anywhere in a job: whatever orders follow

  -- Where a call on a job comes to its end, the same call on the job with more orders behind it leaves in every slot
  -- what it held there, if the orders that it passes from there on leave the slot. (Host 0's call always comes to the
  -- end, of sixteen registers alone.)
  pub preparing_more : (job more table A B buf : List ℕ) (r : Pair) → (prepares w job table A B buf r).number ≡ 0
      → (prepares w (job ++ more) table A B buf r).number ≡ 0 → (i : ℕ) → i < 16
      → Leaves (job ++ more) (length (orders job)) (length (orders (job ++ more))) i
      → Keeps (prepares w job table A B buf r).masks (prepares w (job ++ more) table A B buf r).masks i
  pub starting_more : (h : ℕ) (job more table M D : List ℕ) (r : Pair) → (starts w h job table M D r).number ≡ 0
      → (starts w h (job ++ more) table M D r).number ≡ 0
      → (starts w h job table M D r).state.order ≡ length (orders job) → (i : ℕ)
      → Leaves (job ++ more) (length (orders job)) (starts w h (job ++ more) table M D r).state.order i
      → Keeps (lanes (starts w h job table M D r).state) (lanes (starts w h (job ++ more) table M D r).state) i
  pub hearing_more : (h : ℕ) (job more table M D : List ℕ) (s : State) (v : ℕ)
      → (hears w h job table M D s v).number ≡ 0 → (hears w h (job ++ more) table M D s v).number ≡ 0
      → (hears w h job table M D s v).state.order ≡ length (orders job) → (i : ℕ)
      → Leaves (job ++ more) (length (orders job)) (hears w h (job ++ more) table M D s v).state.order i
      → Keeps (lanes (hears w h job table M D s v).state)
      (lanes (hears w h (job ++ more) table M D s v).state) i
  -- ---- a job of such orders alone, against what the host was given

  pub prepared : (job table A B buf : List ℕ) (r : Pair) → AllAdditive (orders job)
      → (prepares w job table A B buf r).number ≡ 0
      → prepares w job table A B buf r
      ≡ record {
        number = 0;
        index = 0;
        deals = 0;
        masks = (take 16 (added_all w (orders job) (fresh2 r)).0, take 16 (added_all w (orders job) (fresh2 r)).1);
        buffer = buf;
      }
  -- it ends at once: no word is spoken
  pub started : (h : ℕ) (job table M D : List ℕ) (r : Pair) → AllAdditive (orders job)
      → (starts w h job table M D r).number ≡ 0
      → starts w h job table M D r
      ≡ record {
        number = 0;
        index = 0;
        spoken = 0;
        word = 0;
        state =
            record {
              m = (added_all w (orders job) (fresh2 r)).0;
              mask = (added_all w (orders job) (fresh2 r)).1;
              order = length (orders job);
              turn = 0;
              stored = stored_places 0 0 0;
            };
      }
  -- every kept word stays the 0 that it was: no order's target lies behind the registers
  pub kept_words : (h : ℕ) (job table M D : List ℕ) (r : Pair) → AllAdditive (orders job)
      → (starts w h job table M D r).number ≡ 0 → length r.0 ≡ 16 → length r.1 ≡ 16
      → (i : ℕ) → 16 ≤ i
      → (at (starts w h job table M D r).state.m i ≡ 0) × (at (starts w h job table M D r).state.mask i ≡ 0)
  -- ---- one call on a job of whatever orders, refused or not

  -- "every other register keeps its share on each host": a register that the orders leave, of host 0's two masks
  pub masks_kept : (job table A B buf : List ℕ) (r : Pair) (i : ℕ) → i < 16
      → Leaves job 0 (length (orders job)) i → Keeps r (prepares w job table A B buf r).masks i
  -- and of m and the mask of host 1 or 2, a slot that the orders which the call passes leave: from the registers that
  -- starting is given to the state that it returns, and from the state that hearing is given, whatever it holds
  pub registers_kept : (h : ℕ) (job table M D : List ℕ) (r : Pair) (i : ℕ)
      → Leaves job 0 (starts w h job table M D r).state.order i
      → Keeps r (lanes (starts w h job table M D r).state) i
  pub state_kept : (h : ℕ) (job table M D : List ℕ) (s : State) (v i : ℕ)
      → Leaves job s.order (hears w h job table M D s v).state.order i
      → Keeps (lanes s) (lanes (hears w h job table M D s v).state) i
  -- ---- from one state of a job's runs to another, over many calls

  -- not behind it: a register that the orders from where the one stands up to where the other stands leave
  pub between1 : (S : Setting) (cs cs' : List Call) (z z' : Dealer) (buf buf' : List ℕ) (s s' : State)
      (t t' : List Pair) (said said' : List Spoken) (two two' : Side)
      → Run (staged w S) cs (world z buf (going s t said) two)
      → Run (staged w S) cs' (world z' buf' (going s' t' said') two')
      → s.order ≤ s'.order → (i : ℕ) → i < 16 → Leaves S.job s.order s'.order i
      → Keeps (lanes s) (lanes s') i
  pub between2 : (S : Setting) (cs cs' : List Call) (z z' : Dealer) (buf buf' : List ℕ) (one one' : Side)
      (s s' : State) (t t' : List Pair) (said said' : List Spoken)
      → Run (staged w S) cs (world z buf one (going s t said))
      → Run (staged w S) cs' (world z' buf' one' (going s' t' said'))
      → s.order ≤ s'.order → (i : ℕ) → i < 16 → Leaves S.job s.order s'.order i
      → Keeps (lanes s) (lanes s') i
