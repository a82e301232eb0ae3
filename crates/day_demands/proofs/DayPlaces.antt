-- R-7 in a day, proved. Assumes nothing.
use mathlib.Core.Path.{◌≡◌, refl, sym, ap, subst}
use mathlib.Core.Logic.{◌≢◌}
use mathlib.Core.List.{List}
use Prim.Native.Nat.{ℕ}
use native.Mathlib.Omega.{arith}
use lib.ListN.{length}
use Rattle.gates.specs.Steps.{origin}
use Rattle.calls.specs.Places.{seek}
use Rattle.calls.specs.Scripts.{Script}
use Rattle.calls.specs.Calls.{State, Answer, walked_to, found_of}
use Rattle.runs.specs.Runs.{Spoken, going, waiting, World, world, Call, Run}
use Rattle.demands.specs.RememberedPlaces.{Remembers, Ran}
use Rattle.demands.proofs.RememberedPlaces.{own_18, walked1, walked2, remembered_places}
use Rattle.calendars.specs.Hours.{HoursNumbered, unsound, closed, opened}
use Rattle.days.specs.Day.{Hours, counting, day_steps, day_script}
use Rattle.days.specs.DayCalls.{day_given, with_shares, own_state, own_answer, day_lent, day_start, day_hear}
use Rattle.days.proofs.Counts.{day_orderly}
use Rattle.day_demands.specs.Settings.{DaySetting, day_staged}
use Rattle.day_demands.specs.Numbers.{DayNumbered, no_day, no_hours, no_table, faultless}
use Rattle.day_demands.specs.Runs.{DayDealer, DayHost, running, day_world, DayRun, Same}
use Rattle.day_demands.specs.DayPlaces.{DayPlaces}
use Rattle.day_demands.proofs.Numbers.{fault_is}
use Rattle.day_demands.proofs.Returned.{day_returned}

-- ---- a day's own conditions are 12, 16, 17 and 5

hours_few : {c : List ℕ} {d k : ℕ} → HoursNumbered c d k → k ≢ 18
hours_few (unsound h) e = omega arith
hours_few (closed h q) e = omega arith
hours_few (opened h q l c) e = omega arith

day_few : {table : List ℕ} {n : ℕ} {H : Hours} {k i : ℕ} → DayNumbered table n H k i → k ≢ 18
day_few (no_day h) e = omega arith
day_few (no_hours h k q z) e = hours_few q e
day_few (no_table h q r) e = omega arith
day_few (faultless h q r) e = omega arith

-- ---- the shares behind a state change neither its place nor its stored places

remembers_own : (σ : Script) (s s' : State) → s ≡ own_state s' → Remembers σ s' → Remembers σ s
remembers_own σ s s' e r =
    subst (Remembers σ) (sym e)
    (record {
      done = r.done;
      left = r.left;
      stands = r.stands;
      stored = r.stored;
      left_a = r.left_a;
      left_b = r.left_b;
      left_deals = r.left_deals;
    })

ran_own : (σ : Script) (s t : State) (L : List ℕ) → Ran σ (with_shares s L) t → Ran σ s (own_state t)
unfolding with_shares
ran_own σ s t L r =
    record {
      done = r.done;
      ran = r.ran;
      left = r.left;
      from = r.from;
      to = r.to;
      given = r.given;
      returned = r.returned;
    }

never : (w : ℕ) (T : List ℕ) (H : Hours) (s : State) → s.stored ≡ walked_to (seek s.order s.turn (day_steps w T (counting H)) origin)
    → (h : ℕ) (L M D : List ℕ) (v : ℕ) → (day_hear w h T L H M D s v).number ≢ 18
unfolding day_hear with_shares found_of
never w T H s p h L M D v e =
    day_few (fault_is T (length L) H) (own_18 (day_lent w h T L H M D) (with_shares s L) v p e)

module _ (w : ℕ) (S : DaySetting) (cs : List Call) (z : DayDealer) (buf : List ℕ) (s : State) (said : List Spoken) where
  abbrev σ : Script
  σ = day_script w S.table 192 S.hours

  abbrev Kept : Type 0
  Kept = Remembers σ s × (s.stored ≡ walked_to (seek s.order s.turn σ.steps origin))

  walked_own : (s' : State) → s ≡ own_state s' → s'.stored ≡ walked_to (seek s'.order s'.turn σ.steps origin)
      → s.stored ≡ walked_to (seek s.order s.turn σ.steps origin)
  walked_own s' e p =
      subst (λ (x : State). x.stored ≡ walked_to (seek x.order x.turn σ.steps origin)) (sym e) p

  kept1 : (two : DayHost) → DayRun w S cs (day_world z buf (running s said) two) → Kept
  kept1 two r = let q = day_returned.is_run w S cs _ r in go q.0 q.1 q.2
    where
      go : (v : World) → Run (day_staged w S) cs v → Same (day_world z buf (running s said) two) v → Kept
      go (world z' buf' (waiting s') two') R e = absurd e.2
      go (world z' buf' (going s' t said') two') R e = (
        remembers_own σ s s' e.2.0
            (remembered_places.host1 (day_staged w S) (day_orderly w S.table 192 S.hours) cs z' buf' s' t said' two' R),
        walked_own s' e.2.0 (walked1 (day_staged w S) cs z' buf' s' t said' two' R),
      )

  kept2 : (one : DayHost) → DayRun w S cs (day_world z buf one (running s said)) → Kept
  kept2 one r = let q = day_returned.is_run w S cs _ r in go q.0 q.1 q.2
    where
      go : (v : World) → Run (day_staged w S) cs v → Same (day_world z buf one (running s said)) v → Kept
      go (world z' buf' one' (waiting s')) R e = absurd e.3
      go (world z' buf' one' (going s' t said')) R e = (
        remembers_own σ s s' e.3.0
            (remembered_places.host2 (day_staged w S) (day_orderly w S.table 192 S.hours) cs z' buf' one' s' t said' R),
        walked_own s' e.3.0 (walked2 (day_staged w S) cs z' buf' s' t said' one' R),
      )

pub day_places : (w : ℕ) → DayPlaces w
unfolding day_start day_hear with_shares
day_places w =
    let script : List ℕ → List ℕ → Hours → Script = λ T L H. day_script w T (length L) H in
    record {
      host1 = λ S cs z buf s said two r. (kept1 w S cs z buf s said two r).0;
      host2 = λ S cs z buf one s said r. (kept2 w S cs z buf s said one r).0;
      never_18_1 = λ S cs z buf s said two r h L M D v.
          never w S.table S.hours s (kept1 w S cs z buf s said two r).1 h L M D v;
      never_18_2 = λ S cs z buf one s said r h L M D v.
          never w S.table S.hours s (kept2 w S cs z buf s said one r).1 h L M D v;
      started = λ h T L H M D e.
          remembers_own (script T L H) _ _ refl
          (remembered_places.started (day_lent w h T L H M D) (day_orderly w T (length L) H) (day_given L) e);
      heard = λ h T L H M D s v e.
          ran_own (script T L H) s _ L
          (remembered_places.heard (day_lent w h T L H M D) (day_orderly w T (length L) H) (with_shares s L) v e);
      starting1 = λ T L H A A' D D' e e' n.
          ap {B = Answer} own_answer (remembered_places.starting1 (script T L H) A A' D D' (day_given L) e e' n);
      starting2 = λ T L H B B' D D' e e' b n.
          ap {B = Answer} own_answer (remembered_places.starting2 (script T L H) B B' D D' (day_given L) e e' b n);
      hearing1 = λ T L H A A' D D' s v e e' l n.
          ap {B = Answer} own_answer (remembered_places.hearing1 (script T L H) A A' D D' (with_shares s L) v e e' l n);
      hearing2 = λ T L H B B' D D' s v e e' l b n.
          ap {B = Answer} own_answer (remembered_places.hearing2 (script T L H) B B' D D' (with_shares s L) v e e' l b n);
      spoken_start = λ h T L H M D e. remembered_places.spoken_start (day_lent w h T L H M D) (day_given L) e;
      spoken_hear = λ h T L H M D s v e. remembered_places.spoken_hear (day_lent w h T L H M D) (with_shares s L) v e;
    }
