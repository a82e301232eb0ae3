-- R-3: a run of a day, as document 01's text of a run has it, made of what the day's own calls return: "host 0's
-- preparation, starting host 1, starting host 2 after the preparation, each completed at most once, and hearings", with
-- refused calls anywhere. Assumes nothing.
use Rattle.std.specs.Prelude.{◌≡◌, ◌≢◌, List, [], ◌∷◌, ℕ, ℤ, take}
use Rattle.gates.specs.Hosts.{Pair}
use Rattle.calls.specs.Scripts.{Script}
use Rattle.calls.specs.Calls.{State, Answer, Prepared, prepare}
use Rattle.runs.specs.Runs.{Spoken, placed_word, Among, Dealer, idle, ready, Side, waiting, going, World, world}
use Rattle.runs.specs.Runs.{Turned, Call, preparing, starting1, starting2, turned_down, hearing1, hearing2, Dealt}
use Rattle.runs.specs.Runs.{opened_slot}
use Rattle.days.specs.Day.{Hours}
use Rattle.days.specs.DayCalls.{own_state, day_start, day_hear, day_prepare}
use Rattle.day_demands.specs.Settings.{DaySetting, day_staged}
use Rattle.day_demands.specs.Calls.{list0, list1, list2}

-- host 0 before its preparation, whatever it holds, and with the masks that its preparation gave
pub data DayDealer : Type 0 where
  unprepared : DayDealer
  prepared : (masks : Pair) → DayDealer

-- host 1 or 2 with what it holds: before its starting any state, and then the state that its last call gave, with the
-- words that it has spoken, the last in front
pub data DayHost : Type 0 where
  resting : State → DayHost
  running : State → List Spoken → DayHost

-- the three hosts, and the buffer that the deals are written to
pub data DayWorld : Type 0 where
  day_world : DayDealer → List ℕ → DayHost → DayHost → DayWorld

abbrev pub host_state : DayHost → State
host_state (resting s) = s
host_state (running s said) = s

abbrev pub with_answer : DayHost → State → DayHost
with_answer (resting s) s' = resting s'
with_answer (running s said) s' = running s' said

-- a host that has answered: it holds the answer's state, and has spoken the answer's word at its place
abbrev pub answering : Answer → (said : List Spoken) → DayHost
answering a said = running a.state (placed_word a.state a.word ∷ said)

-- host 0 gives these masks to a call: before its preparation any, then those that it holds; and what it holds after
abbrev pub Gives : DayDealer → (given : Pair) → Type 0
Gives unprepared given = Unit
Gives (prepared r) given = r ≡ given

abbrev pub with_given : DayDealer → (masks : Pair) → DayDealer
with_given unprepared masks = unprepared
with_given (prepared r) masks = prepared masks

module _ (w : ℕ) (S : DaySetting) where
  abbrev pub prepare0 : (buf : List ℕ) → Prepared
  prepare0 buf = day_prepare w S.table (list0 S) S.hours S.A S.B buf

  abbrev pub start1 : (D : List ℕ) → Answer
  start1 D = day_start w 1 S.table (list1 S) S.hours S.A D

  abbrev pub start2 : (D : List ℕ) → Answer
  start2 D = day_start w 2 S.table (list2 S) S.hours S.B D

  abbrev pub hear1 : (D : List ℕ) → State → (v : ℕ) → Answer
  hear1 D s v = day_hear w 1 S.table (list1 S) S.hours S.A D s v

  abbrev pub hear2 : (D : List ℕ) → State → (v : ℕ) → Answer
  hear2 D s v = day_hear w 2 S.table (list2 S) S.hours S.B D s v

  -- calls that complete, each lent the day's table, hours, lists and the host's own day list, host 2 "the deals that
  -- host 0's preparation wrote"
  pub data DayCompletes : Call → DayWorld → DayWorld → Type 0 where
    day_prepares : {buf : List ℕ} {one two : DayHost} → (prepare0 buf).number ≡ 0
        → DayCompletes preparing (day_world unprepared buf one two)
        (day_world (prepared (prepare0 buf).masks) (prepare0 buf).buffer one two)
    day_starts1 : {z : DayDealer} {buf : List ℕ} {s : State} {two : DayHost} (D : List ℕ) → (start1 D).number ≡ 0
        → DayCompletes starting1 (day_world z buf (resting s) two) (day_world z buf (answering (start1 D) []) two)
    day_starts2 : {r : Pair} {buf : List ℕ} {one : DayHost} {s : State} (D : List ℕ) → Dealt (day_staged w S) buf D
        → (start2 D).number ≡ 0
        → DayCompletes starting2 (day_world (prepared r) buf one (resting s))
        (day_world (prepared r) buf one (answering (start2 D) []))
    -- "the word the other host spoke at that same place"
    day_hears1 : {z : DayDealer} {buf : List ℕ} {s s2 : State} {said said2 : List Spoken} (D : List ℕ) (v : ℕ)
        → Among (placed_word s v) said2 → (hear1 D s v).number ≡ 0
        → DayCompletes (hearing1 v) (day_world z buf (running s said) (running s2 said2))
        (day_world z buf (answering (hear1 D s v) said) (running s2 said2))
    day_hears2 : {z : DayDealer} {buf : List ℕ} {s s1 : State} {said said1 : List Spoken} (D : List ℕ)
        → Dealt (day_staged w S) buf D → (v : ℕ) → Among (placed_word s v) said1 → (hear2 D s v).number ≡ 0
        → DayCompletes (hearing2 v) (day_world z buf (running s1 said1) (running s said))
        (day_world z buf (running s1 said1) (answering (hear2 D s v) said))

  -- "A refused call may stand anywhere in it, on what one of the hosts then holds .., its other arguments being
  -- anything": a hearing gives the state back, and the host goes on from that; a starting or preparation of a day is
  -- given nothing that a host holds
  pub data DayRefuses : DayWorld → DayWorld → Type 0 where
    day_refuses0 : {z : DayDealer} {buf : List ℕ} {one two : DayHost} (T L : List ℕ) (H : Hours) (A B : List ℕ)
        → (day_prepare w T L H A B buf).number ≢ 0
        → DayRefuses (day_world z buf one two) (day_world z (day_prepare w T L H A B buf).buffer one two)
    day_refuses_elsewhere : {u : DayWorld} (T L : List ℕ) (H : Hours) (A B other : List ℕ)
        → (day_prepare w T L H A B other).number ≢ 0 → DayRefuses u u
    day_refuses_start : {u : DayWorld} (h : ℕ) (T L : List ℕ) (H : Hours) (M D : List ℕ)
        → (day_start w h T L H M D).number ≢ 0 → DayRefuses u u
    day_refuses1 : {z : DayDealer} {buf : List ℕ} {one two : DayHost} (h : ℕ) (T L : List ℕ) (H : Hours)
        (M D : List ℕ) (v : ℕ) → (day_hear w h T L H M D (host_state one) v).number ≢ 0
        → DayRefuses (day_world z buf one two)
        (day_world z buf (with_answer one (day_hear w h T L H M D (host_state one) v).state) two)
    day_refuses2 : {z : DayDealer} {buf : List ℕ} {one two : DayHost} (h : ℕ) (T L : List ℕ) (H : Hours)
        (M D : List ℕ) (v : ℕ) → (day_hear w h T L H M D (host_state two) v).number ≢ 0
        → DayRefuses (day_world z buf one two)
        (day_world z buf one (with_answer two (day_hear w h T L H M D (host_state two) v).state))
    -- a job's calls too, since "a state does not say whether it belongs to a job or a day": a preparation, into the
    -- day's buffer or another, a starting, a hearing
    job_refuses0 : {z : DayDealer} {buf : List ℕ} {one two : DayHost} (σ : Script) (A B : List ℕ) (given : Pair)
        → Gives z given → (prepare σ A B buf given).number ≢ 0
        → DayRefuses (day_world z buf one two)
        (day_world (with_given z (prepare σ A B buf given).masks) (prepare σ A B buf given).buffer one two)
    job_refuses_elsewhere : {z : DayDealer} {buf : List ℕ} {one two : DayHost} (σ : Script) (A B other : List ℕ)
        (given : Pair) → Gives z given → (prepare σ A B other given).number ≢ 0
        → DayRefuses (day_world z buf one two)
        (day_world (with_given z (prepare σ A B other given).masks) buf one two)
    job_refuses1 : {z : DayDealer} {buf : List ℕ} {one two : DayHost} {s : State} → Turned 16 (host_state one) s
        → DayRefuses (day_world z buf one two) (day_world z buf (with_answer one s) two)
    job_refuses2 : {z : DayDealer} {buf : List ℕ} {one two : DayHost} {s : State} → Turned 16 (host_state two) s
        → DayRefuses (day_world z buf one two) (day_world z buf one (with_answer two s))

  -- a run and its calls, the last in front: it begins with whatever the hosts hold
  pub data DayRun : List Call → DayWorld → Type 0 where
    day_begin : {buf : List ℕ} {s1 s2 : State} → DayRun [] (day_world unprepared buf (resting s1) (resting s2))
    day_complete : {cs : List Call} {c : Call} {u u' : DayWorld} → DayRun cs u → DayCompletes c u u'
        → DayRun (c ∷ cs) u'
    day_refuse : {cs : List Call} {u u' : DayWorld} → DayRun cs u → DayRefuses u u' → DayRun (turned_down ∷ cs) u'

-- ---- it is a run of the day's script: the hosts hold the same, with the shares behind it

abbrev pub SameDealer : DayDealer → Dealer → Type 0
SameDealer unprepared (idle r) = Unit
SameDealer unprepared (ready r t) = ⊥
SameDealer (prepared r) (idle r') = ⊥
SameDealer (prepared r) (ready r' t) = r ≡ (take 16 r'.0, take 16 r'.1)

abbrev pub SameHost : DayHost → Side → Type 0
SameHost (resting s) (waiting s') = Unit
SameHost (resting s) (going s' t said) = ⊥
SameHost (running s said) (waiting s') = ⊥
SameHost (running s said) (going s' t said') = (s ≡ own_state s') × (said ≡ said')

abbrev pub Same : DayWorld → World → Type 0
Same (day_world z buf one two) (world z' buf' one' two') =
    SameDealer z z' × (buf ≡ buf') × SameHost one one' × SameHost two two'

-- ---- opening

-- the buffer, the masks that host 0 holds of the registers, and a host's lanes
abbrev pub day_buffer : DayWorld → List ℕ
day_buffer (day_world z buf one two) = buf

abbrev pub dealer_masks : DayDealer → Pair
dealer_masks unprepared = ([], [])
dealer_masks (prepared r) = r

abbrev pub host_lanes : DayHost → Pair
host_lanes x = ((host_state x).m, (host_state x).mask)

-- what opening gives on register i of the masks that the preparation gave and the states that the last calls gave
unfoldable pub day_opened : (w : ℕ) → DayWorld → (i : ℕ) → ℕ × ℤ
day_opened w (day_world z buf one two) i = opened_slot w (dealer_masks z) (host_lanes one) (host_lanes two) i
