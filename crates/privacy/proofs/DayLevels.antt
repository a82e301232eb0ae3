-- Where a day's call leaves a host, and its number, follow from the table, the hours, the lists' lengths and the state's place and stored
-- places. Assumes nothing.
use mathlib.Core.Path.{◌≡◌, sym, ap, subst, ◌∙◌}
use mathlib.Core.Logic.{◌≢◌}
use mathlib.Core.List.{List}
use Prim.Native.Nat.{ℕ}
use lib.ListN.{length}
use Rattle.jobs.specs.Job.{Fault}
use Rattle.calls.specs.Scripts.{Script}
use Rattle.calls.specs.Lent.{Lent, lent, lent_fault}
use Rattle.calls.specs.Calls.{State, start, hear, prepare}
use Rattle.runs.specs.Runs.{Spoken, Among, World, world, waiting, going, Call, Run}
use Rattle.runs.specs.InOrder.{words_of_1, words_of_2}
use Rattle.runs.proofs.Refusals.{hear_state, prepare_back}
use Rattle.demands.proofs.Demand2.{demand2}
use Rattle.days.specs.Day.{Hours, day_script}
use Rattle.days.specs.DayCalls.{day_given, with_shares, day_lent, day_start, day_hear, day_prepare}
use Rattle.day_demands.specs.Settings.{DaySetting, day_staged}
use Rattle.day_demands.specs.Runs.{DayDealer, DayHost, running, day_world, DayRun, Same}
use Rattle.day_demands.proofs.DayRuns.{followed}
use Rattle.privacy.proofs.Places.{Level, start_level, hear_level, start_number, hear_number, lent_same, dealer_same}
use Rattle.privacy.proofs.Places.{prepare_number, buffer_long}

-- ---- calls that are lent lists as long

module _ (w : ℕ) (T : List ℕ) (H : Hours) (L L' : List ℕ) (e : length L ≡ length L') where
  abbrev scripted : ℕ → Script
  scripted n = day_script w T n H

  module _ (h : ℕ) (M M' D D' : List ℕ) where
    abbrev by : ℕ → Lent
    by n = lent h (scripted n) M D

    lent_alike : length M ≡ length M' → length D ≡ length D' → lent_fault (by (length L)) ≡ lent_fault (day_lent w h T L' H M' D')
    lent_alike m d = ap (λ (n : ℕ). lent_fault (by n)) e ∙ lent_same h (scripted (length L')) M M' D D' m d

    pub day_start_number : length M ≡ length M' → length D ≡ length D'
        → (day_start w h T L H M D).number ≡ (day_start w h T L' H M' D').number
    unfolding day_start
    day_start_number m d =
        start_number (by (length L)) (day_lent w h T L' H M' D') (day_given L) (day_given L') (ap (λ (f : Fault). f.0) (lent_alike m d))

    pub day_start_level : (day_start w h T L H M D).number ≡ 0 → (day_start w h T L' H M' D').number ≡ 0
        → Level (day_start w h T L H M D).state (day_start w h T L' H M' D').state
    unfolding day_start
    day_start_level k k' =
        let q = subst (λ (n : ℕ). (start (by n) (day_given L)).number ≡ 0) e k in
        let l = start_level h h (scripted (length L')) M M' D D' (day_given L) (day_given L') q k' in
        let r = subst (λ (n : ℕ). Level (start (by n) (day_given L)).state (start (day_lent w h T L' H M' D') (day_given L')).state) (sym e) l in
        record { order = r.order; turn = r.turn; stored = r.stored }

    module _ (s s' : State) (l : Level s s') (v v' : ℕ) where
      shared : Level (with_shares s L) (with_shares s' L')
      unfolding with_shares
      shared = record { order = l.order; turn = l.turn; stored = l.stored }

      pub day_hear_number : length M ≡ length M' → length D ≡ length D'
          → (day_hear w h T L H M D s v).number ≡ (day_hear w h T L' H M' D' s' v').number
      unfolding day_hear
      day_hear_number m d =
          hear_number (by (length L)) (day_lent w h T L' H M' D') (with_shares s L) (with_shares s' L') v v' (ap scripted e)
          (ap (λ (f : Fault). f.0) (lent_alike m d)) shared

      pub day_hear_level : (day_hear w h T L H M D s v).number ≡ 0 → (day_hear w h T L' H M' D' s' v').number ≡ 0
          → Level (day_hear w h T L H M D s v).state (day_hear w h T L' H M' D' s' v').state
      unfolding day_hear
      day_hear_level k k' =
          let q = subst (λ (n : ℕ). (hear (by n) (with_shares s L) v).number ≡ 0) e k in
          let l = hear_level h h (scripted (length L')) M M' D D' (with_shares s L) (with_shares s' L') v v' shared q k' in
          let r =
          subst (λ (n : ℕ). Level (hear (by n) (with_shares s L) v).state (hear (day_lent w h T L' H M' D') (with_shares s' L') v').state)
          (sym e) l in
          record { order = r.order; turn = r.turn; stored = r.stored }

  pub day_prepare_number : (A A' B B' D D' : List ℕ) → length A ≡ length A' → length B ≡ length B' → length D ≡ length D'
      → (day_prepare w T L H A B D).number ≡ (day_prepare w T L' H A' B' D').number
  unfolding day_prepare
  day_prepare_number A A' B B' D D' a b d =
      ap (λ (n : ℕ). (prepare (scripted n) A B D (day_given L)).number) e
      ∙ prepare_number (scripted (length L')) A A' B B' D D' (day_given L) (day_given L')
      (dealer_same (scripted (length L')) A A' B B' D D' a b d)

  pub day_buffer_long : (A A' B B' D D' : List ℕ) → (day_prepare w T L H A B D).number ≡ 0 → (day_prepare w T L' H A' B' D').number ≡ 0
      → length D ≡ length D' → length (day_prepare w T L H A B D).buffer ≡ length (day_prepare w T L' H A' B' D').buffer
  unfolding day_prepare
  day_buffer_long A A' B B' D D' k k' d =
      ap (λ (n : ℕ). length (prepare (scripted n) A B D (day_given L)).buffer) e
      ∙ buffer_long (scripted (length L')) A A' B B' D D' (day_given L) (day_given L')
      (subst (λ (n : ℕ). (prepare (scripted n) A B D (day_given L)).number ≡ 0) e k) k' d

-- ---- a refused hearing leaves the host where it was

pub day_hear_stays : (w h : ℕ) (T L : List ℕ) (H : Hours) (M D : List ℕ) (s : State) (v : ℕ) → (day_hear w h T L H M D s v).number ≢ 0
    → Level (day_hear w h T L H M D s v).state s
unfolding day_hear with_shares
day_hear_stays w h T L H M D s v n =
    let e = hear_state (day_lent w h T L H M D) (with_shares s L) v n in
    record {
      order = ap (λ (x : State). x.order) e;
      turn = ap (λ (x : State). x.turn) e;
      stored = ap (λ (x : State). x.stored) e;
    }

pub day_buffer_back : (w : ℕ) (T L : List ℕ) (H : Hours) (A B buf : List ℕ) → (day_prepare w T L H A B buf).number ≢ 0
    → (day_prepare w T L H A B buf).buffer ≡ buf
unfolding day_prepare
day_buffer_back w T L H A B buf n = (prepare_back (day_script w T (length L) H) A B buf (day_given L) n).1

-- ---- the words spoken in a day's run are those defined

module _ (w : ℕ) (S : DaySetting) where
  pub day_speaks1 : {cs : List Call} {z : DayDealer} {buf : List ℕ} {s : State} {said : List Spoken} {two : DayHost}
      → DayRun w S cs (day_world z buf (running s said) two) → (p : Spoken) → Among p said → Among p (words_of_1 (day_staged w S))
  day_speaks1 {z = z} {buf = buf} {s = s} {said = said} {two = two} r p m = let f = followed w S r in go f.0 f.1 f.2
    where
      go : {cs : List Call} (v : World) → Run (day_staged w S) cs v → Same (day_world z buf (running s said) two) v
          → Among p (words_of_1 (day_staged w S))
      go (world z' b' (waiting s') two') R e = absurd e.2
      go (world z' b' (going s' t' said') two') R e =
          demand2.host1_speaks (day_staged w S) _ z' b' s' t' said' two' R p (subst (λ (l : List Spoken). Among p l) e.2.1 m)

  pub day_speaks2 : {cs : List Call} {z : DayDealer} {buf : List ℕ} {one : DayHost} {s : State} {said : List Spoken}
      → DayRun w S cs (day_world z buf one (running s said)) → (p : Spoken) → Among p said → Among p (words_of_2 (day_staged w S))
  day_speaks2 {z = z} {buf = buf} {one = one} {s = s} {said = said} r p m = let f = followed w S r in go f.0 f.1 f.2
    where
      go : {cs : List Call} (v : World) → Run (day_staged w S) cs v → Same (day_world z buf one (running s said)) v
          → Among p (words_of_2 (day_staged w S))
      go (world z' b' one' (waiting s')) R e = absurd e.3
      go (world z' b' one' (going s' t' said')) R e =
          demand2.host2_speaks (day_staged w S) _ z' b' one' s' t' said' R p (subst (λ (l : List Spoken). Among p l) e.3.1 m)
