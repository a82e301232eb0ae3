-- R-3: the day's calls, lent a host's table, day list and hours, are the calls of the day's runs: what a run's host
-- holds is its own state with its shares behind, and a call answers there what the day's call answers on that state.
-- Assumes nothing.
use Rattle.std.specs.Prelude.{◌≡◌, List, ℕ, length}
use Rattle.gates.specs.Hosts.{Pair}
use Rattle.calls.specs.Calls.{State, start, hear}
use Rattle.runs.specs.Runs.{Spoken, Dealer, idle, Side, waiting, going, world, Call}
use Rattle.runs.specs.Runs.{lent1, lent2, preparation, held, Run}
use Rattle.days.specs.DayCalls.{own_state, own_answer, own_masks, with_shares, day_start, day_hear, day_prepare}
use Rattle.day_demands.specs.Settings.{DaySetting, day_list, day_staged}

-- the three hosts' day lists
abbrev pub list0 : DaySetting → List ℕ
list0 S = day_list S.l1 S.l2

abbrev pub list1 : DaySetting → List ℕ
list1 S = day_list S.m S.l1

abbrev pub list2 : DaySetting → List ℕ
list2 S = day_list S.m S.l2

-- at every width
pub record DayCalls (w : ℕ) : Type 0 where
  -- each list is of 96 shares
  pub listed : (S : DaySetting) → (length (list0 S) ≡ 192) × (length (list1 S) ≡ 192) × (length (list2 S) ≡ 192)
  -- host 0's preparation
  pub prepares : (S : DaySetting) (cs : List Call) (r : Pair) (buf : List ℕ) (one two : Side)
      → Run (day_staged w S) cs (world (idle r) buf one two)
      → own_masks (preparation (day_staged w S) buf r)
      ≡ day_prepare w S.table (list0 S) S.hours S.A S.B buf
  -- startings
  pub starts1 : (S : DaySetting) (cs : List Call) (z : Dealer) (buf D : List ℕ) (s : State) (two : Side)
      → Run (day_staged w S) cs (world z buf (waiting s) two)
      → own_answer (start (lent1 (day_staged w S) D) (held (day_staged w S) s))
      ≡ day_start w 1 S.table (list1 S) S.hours S.A D
  pub starts2 : (S : DaySetting) (cs : List Call) (z : Dealer) (buf D : List ℕ) (one : Side) (s : State)
      → Run (day_staged w S) cs (world z buf one (waiting s))
      → own_answer (start (lent2 (day_staged w S) D) (held (day_staged w S) s))
      ≡ day_start w 2 S.table (list2 S) S.hours S.B D
  -- hearings
  pub holds1 : (S : DaySetting) (cs : List Call) (z : Dealer) (buf : List ℕ) (s : State) (t : List Pair)
      (said : List Spoken) (two : Side)
      → Run (day_staged w S) cs (world z buf (going s t said) two) → s ≡ with_shares (own_state s) (list1 S)
  pub holds2 : (S : DaySetting) (cs : List Call) (z : Dealer) (buf : List ℕ) (one : Side) (s : State) (t : List Pair)
      (said : List Spoken)
      → Run (day_staged w S) cs (world z buf one (going s t said)) → s ≡ with_shares (own_state s) (list2 S)
  pub hears1 : (S : DaySetting) (cs : List Call) (z : Dealer) (buf D : List ℕ) (s : State) (t : List Pair)
      (said : List Spoken) (two : Side) (v : ℕ)
      → Run (day_staged w S) cs (world z buf (going s t said) two)
      → own_answer (hear (lent1 (day_staged w S) D) s v)
      ≡ day_hear w 1 S.table (list1 S) S.hours S.A D (own_state s) v
  pub hears2 : (S : DaySetting) (cs : List Call) (z : Dealer) (buf D : List ℕ) (one : Side) (s : State) (t : List Pair)
      (said : List Spoken) (v : ℕ)
      → Run (day_staged w S) cs (world z buf one (going s t said))
      → own_answer (hear (lent2 (day_staged w S) D) s v)
      ≡ day_hear w 2 S.table (list2 S) S.hours S.B D (own_state s) v
