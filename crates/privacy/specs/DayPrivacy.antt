-- R-8 of a day: "any job or day and any two lists of register values or readings". What a host sees of a run of a day's
-- own calls, and that it sees the same of any other 96 readings. Assumes nothing.
use Rattle.std.specs.Prelude.{◌≡◌, Bool, true, cond, List, [], ◌∷◌, map, ℕ, zero, suc, ◌<◌, eqb}
use Rattle.gates.specs.Steps.{at}
use Rattle.gates.specs.Costs.{Cost}
use Rattle.calls.specs.Scripts.{script_cost}
use Rattle.calls.specs.Calls.{State, Answer, Prepared, prepare}
use Rattle.runs.specs.Runs.{Call}
use Rattle.days.specs.Day.{Hours, day_script}
use Rattle.days.specs.DayCalls.{day_given, day_start, day_hear, day_prepare}
use Rattle.day_demands.specs.Settings.{DaySetting}
use Rattle.day_demands.specs.Calls.{list0, list1, list2}
use Rattle.day_demands.specs.Runs.{DayWorld, host_state, prepare0, start1, start2, hear1, hear2, DayCompletes}
use Rattle.day_demands.specs.Runs.{day_prepares, day_starts1, day_starts2, day_hears1, day_hears2, DayRefuses}
use Rattle.day_demands.specs.Runs.{day_refuses0, day_refuses_elsewhere, day_refuses_start, day_refuses1, day_refuses2}
use Rattle.day_demands.specs.Runs.{job_refuses0, job_refuses_elsewhere, job_refuses1, job_refuses2, DayRun, day_begin}
use Rattle.day_demands.specs.Runs.{day_complete, day_refuse}
use Rattle.privacy.specs.Privacy as P
use Rattle.privacy.specs.Privacy.{Masks, mask_all, mask_all_long, Given, Enough, Hides, Event, turned_event, silent}

-- ---- what a host sees of a day's run

-- what hosts 0, 1 and 2 have before their first call: A, B or both, and the two words of each of its shares
abbrev pub day_has : (host : ℕ) → DaySetting → List (List ℕ)
day_has zero S = S.A ∷ S.B ∷ S.l1 ∷ S.l2 ∷ []
day_has (suc zero) S = S.A ∷ S.m ∷ S.l1 ∷ []
day_has (suc (suc h)) S = S.B ∷ S.m ∷ S.l2 ∷ []

-- a call, as the host that makes it sees it: all that it is lent and given, and the whole answer; a job's too, which
-- may stand refused in a day
pub data DayEvent : Type 0 where
  prepared : (table shares : List ℕ) → Hours → (A B buffer : List ℕ) → Prepared → DayEvent
  started : (host : ℕ) (table shares : List ℕ) → Hours → (masks deals : List ℕ) → Answer → DayEvent
  heard : (host : ℕ) (table shares : List ℕ) → Hours → (masks deals : List ℕ) → State → (word : ℕ) → Answer
      → DayEvent
  of_job : Event → DayEvent

module _ (w : ℕ) (S : DaySetting) where
  -- a call that completes, with the host that makes it
  abbrev pub day_event : {c : Call} {u u' : DayWorld} → DayCompletes w S c u u' → ℕ × DayEvent
  day_event (day_prepares {buf = buf} n) =
      (0, prepared S.table (list0 S) S.hours S.A S.B buf (prepare0 w S buf))
  day_event (day_starts1 D n) = (1, started 1 S.table (list1 S) S.hours S.A D (start1 w S D))
  day_event (day_starts2 D d n) = (2, started 2 S.table (list2 S) S.hours S.B D (start2 w S D))
  day_event (day_hears1 {s = s} D v m n) = (1, heard 1 S.table (list1 S) S.hours S.A D s v (hear1 w S D s v))
  day_event (day_hears2 {s = s} D d v m n) =
      (2, heard 2 S.table (list2 S) S.hours S.B D s v (hear2 w S D s v))

  -- a refused call, with the hosts that may make it: a starting is given nothing that a host holds, and is any host's
  abbrev pub day_refused : {u u' : DayWorld} → DayRefuses w S u u' → (ℕ → Bool) × DayEvent
  day_refused (day_refuses0 {buf = buf} T L H A B n) =
      (λ h. eqb h 0, prepared T L H A B buf (day_prepare w T L H A B buf))
  day_refused (day_refuses_elsewhere T L H A B other n) =
      (λ h. eqb h 0, prepared T L H A B other (day_prepare w T L H A B other))
  day_refused (day_refuses_start h T L H M D n) = (λ k. true, started h T L H M D (day_start w h T L H M D))
  day_refused (day_refuses1 {one = one} h T L H M D v n) =
      (λ k. eqb k 1, heard h T L H M D (host_state one) v (day_hear w h T L H M D (host_state one) v))
  day_refused (day_refuses2 {two = two} h T L H M D v n) =
      (λ k. eqb k 2, heard h T L H M D (host_state two) v (day_hear w h T L H M D (host_state two) v))
  day_refused (job_refuses0 {buf = buf} σ A B given g n) =
      (λ h. eqb h 0, of_job (P.prepared σ A B buf given (prepare σ A B buf given)))
  day_refused (job_refuses_elsewhere σ A B other given g n) =
      (λ h. eqb h 0, of_job (P.prepared σ A B other given (prepare σ A B other given)))
  day_refused (job_refuses1 t) = (λ h. eqb h 1, of_job (turned_event t))
  day_refused (job_refuses2 t) = (λ h. eqb h 2, of_job (turned_event t))

  -- the calls of one host, the last in front
  unfoldable pub day_calls_of : (host : ℕ) {cs : List Call} {u : DayWorld} → DayRun w S cs u → List DayEvent
  day_calls_of h day_begin = []
  day_calls_of h (day_complete r c) =
      cond (eqb h (day_event c).0) ((day_event c).1 ∷ day_calls_of h r) (day_calls_of h r)
  day_calls_of h (day_refuse r f) =
      cond ((day_refused f).0 h) ((day_refused f).1 ∷ day_calls_of h r) (day_calls_of h r)

  -- document 01's runs, in which host 1 is lent no deals, and host 2 the buffer that the preparation wrote
  abbrev pub RightlyLent : {c : Call} {u u' : DayWorld} → DayCompletes w S c u u' → Type 0
  RightlyLent (day_prepares n) = Unit
  RightlyLent (day_starts1 D n) = D ≡ []
  RightlyLent (day_starts2 {buf = buf} D d n) = D ≡ buf
  RightlyLent (day_hears1 D v m n) = D ≡ []
  RightlyLent (day_hears2 {buf = buf} D d v m n) = D ≡ buf

  abbrev pub AllRightlyLent : {cs : List Call} {u : DayWorld} → DayRun w S cs u → Type 0
  AllRightlyLent day_begin = Unit
  AllRightlyLent (day_complete r c) = AllRightlyLent r × RightlyLent c
  AllRightlyLent (day_refuse r f) = AllRightlyLent r

-- beside the run r on S, one on S': the hosts make the same calls, refused ones too, and this host is lent and given
-- the same in each of its own, and answers the same
pub record DaySeenBeside (w host : ℕ) (S S' : DaySetting) (cs : List Call) (u : DayWorld) (r : DayRun w S cs u)
    : Type 0 where
  pub calls : List Call
  pub ends_in : DayWorld
  pub run : DayRun w S' calls ends_in
  pub lent : AllRightlyLent w S' run
  pub alike : map silent calls ≡ map silent cs
  pub same : day_calls_of w S' host run ≡ day_calls_of w S host r

abbrev pub DaySeesSame : (w host : ℕ) (S S' : DaySetting) → Type 0
DaySeesSame w h S S' = (cs : List Call) (u : DayWorld) (r : DayRun w S cs u) → AllRightlyLent w S r
    → DaySeenBeside w h S S' cs u r

-- ---- the theorem

-- "Job, table, calendar and weekday are the same in both runs": of these, the counts of a day, "quarters left out" none
module _ (w : ℕ) (table : List ℕ) (H : Hours) where
  abbrev pub day_need : Cost
  day_need = script_cost (day_script w table 192 H)

  -- the day of the readings x, with the masks M
  abbrev pub day_of : (x : List ℕ) (M : Masks) → Given w 96 x → Enough w 96 day_need M → DaySetting
  day_of x M hx hM =
      record {
        table = table;
        hours = H;
        A = M.A;
        B = M.B;
        m = mask_all w x M.l1 M.l2;
        l1 = M.l1;
        l2 = M.l2;
        m_day = mask_all_long w x M.l1 M.l2 96 hx.many hM.l1.many hM.l2.many;
        l1_day = hM.l1.many;
        l2_day = hM.l2.many;
      }

-- of every table and all hours, at every width
pub record DayPrivacy : Type 0 where
  pub host0 : (w : ℕ) (table : List ℕ) (H : Hours)
      → Hides w 96 (day_need w table H) (day_of w table H) (day_has 0) (DaySeesSame w 0)
  pub host1 : (w : ℕ) (table : List ℕ) (H : Hours)
      → Hides w 96 (day_need w table H) (day_of w table H) (day_has 1) (DaySeesSame w 1)
  pub host2 : (w : ℕ) (table : List ℕ) (H : Hours)
      → Hides w 96 (day_need w table H) (day_of w table H) (day_has 2) (DaySeesSame w 2)
  -- a day is given no registers, and they are zero: what a host starts from, whatever its shares are
  pub registers : (shares : List ℕ) (i : ℕ) → i < 24
      → (at (day_given shares).0 i ≡ 0) × (at (day_given shares).1 i ≡ 0)
