-- Beside every run of a day there is one of any other day of its table and hours whose lists are as long: the same calls, at the same
-- places. A host that has, hears and is dealt the same sees the same. Assumes nothing.
use mathlib.Core.Path.{◌≡◌, refl, sym, ap, ap₂, ◌∙◌}
use mathlib.Core.List.{List, [], ◌∷◌, ◌++◌}
use Prim.Native.Nat.{ℕ}
use lib.ListN.{length, drop}
use Rattle.gates.specs.Hosts.{Pair}
use Rattle.calls.specs.Scripts.{Script, script_cost}
use Rattle.calls.specs.Calls.{State, script_deals}
use Rattle.runs.specs.Runs.{Spoken, placed_word, Among, Call, preparing, starting1, starting2, hearing1, hearing2, Dealt}
use Rattle.runs.specs.InOrder.{words_of_1, words_of_2}
use Rattle.runs.proofs.InOrder.{in_order}
use Rattle.days.specs.Day.{Hours, day_script}
use Rattle.days.specs.DayCalls.{day_given, day_start, day_hear, day_prepare}
use Rattle.day_demands.specs.Settings.{DaySetting, day_list, day_staged}
use Rattle.day_demands.specs.Calls.{list0, list1, list2}
use Rattle.day_demands.specs.Runs.{DayDealer, unprepared, DayHost, resting, running, DayWorld, day_world, host_state, answering, prepare0}
use Rattle.day_demands.specs.Runs.{start1, start2, hear1, hear2, DayCompletes, day_prepares, day_starts1, day_starts2, day_hears1, day_hears2}
use Rattle.day_demands.specs.Runs.{DayRefuses, DayRun, day_begin, day_complete, day_refuse}
use Rattle.day_demands.specs.Runs as D
use Rattle.day_demands.proofs.Calls.{day_calls}
use Rattle.privacy.specs.DayPrivacy.{prepared, started, heard, day_calls_of, RightlyLent, AllRightlyLent, DaySeenBeside, DaySeesSame}
use Rattle.privacy.proofs.Places.{same_level, buffer_is}
use Rattle.privacy.proofs.Sides.{word_there, same_word, next_alike}
use Rattle.privacy.proofs.DayLevels.{day_start_number, day_start_level, day_hear_number, day_hear_level, day_prepare_number}
use Rattle.privacy.proofs.DayLevels.{day_buffer_long, day_speaks1, day_speaks2}
use Rattle.privacy.proofs.DayWorlds.{DayTwin, day_twin, DaySame0, DaySame1, DaySame2, host_said}
use Rattle.privacy.proofs.DayBeside.{Now, Counterpart, found}
use Rattle.privacy.proofs.DayRefused.{refusing_on}

-- the day S, and one of the same table and hours with lists as long
module _ (w : ℕ) (S : DaySetting) (twin : DayTwin S) where
  abbrev S' : DaySetting
  S' = day_twin S twin

  abbrev A' : List ℕ
  A' = twin.A

  abbrev B' : List ℕ
  B' = twin.B

  abbrev la : length S.A ≡ length A'
  la = twin.long_a

  abbrev lb : length S.B ≡ length B'
  lb = twin.long_b

  abbrev T : List ℕ
  T = S.table

  abbrev H : Hours
  H = S.hours

  long0 : length (list0 S) ≡ length (list0 S')
  long0 = ((day_calls w).listed S).0 ∙ sym ((day_calls w).listed S').0

  long1 : length (list1 S) ≡ length (list1 S')
  long1 = ((day_calls w).listed S).1 ∙ sym ((day_calls w).listed S').1

  long2 : length (list2 S) ≡ length (list2 S')
  long2 = ((day_calls w).listed S).2 ∙ sym ((day_calls w).listed S').2

  -- ---- one call more

  module _ {cs cs' : List Call} where
    -- host 0's preparation
    preparing_on : {buf buf' : List ℕ} {one one' two two' : DayHost} (r : DayRun w S cs (day_world unprepared buf one two))
        (r' : DayRun w S' cs' (day_world unprepared buf' one' two')) → Now w S twin r r' → (n : (prepare0 w S buf).number ≡ 0)
        → Counterpart w S twin (day_complete r (day_prepares n))
    unfolding day_calls_of day_prepare script_deals
    preparing_on {buf = buf} {buf' = buf'} r r' N n =
        let l : length buf ≡ length buf' = N.alike.1 in
        let n' : (prepare0 w S' buf').number ≡ 0 =
        sym (day_prepare_number w T H (list0 S) (list0 S') long0 S.A A' S.B B' buf buf' la lb l) ∙ n in
        let σ : ℕ → Script = λ k. day_script w T k H in
        found w S twin (day_complete r' (day_prepares n'))
        (record {
          silently = λ i. preparing ∷ N.silently i;
          lent = (N.lent, tt);
          alike = (tt, day_buffer_long w T H (list0 S) (list0 S') long0 S.A A' S.B B' buf buf' n n' l, N.alike.2, N.alike.3);
          see0 = λ h. let k = N.see0 h in (
            λ i. D.prepared (day_prepare w T (day_list (h.l1 i) (h.l2 i)) H (h.A i) (h.B i) (k.1 i)).masks,
            λ i. (day_prepare w T (day_list (h.l1 i) (h.l2 i)) H (h.A i) (h.B i) (k.1 i)).buffer,
            λ i. prepared T (day_list (h.l1 i) (h.l2 i)) H (h.A i) (h.B i) (k.1 i)
                (day_prepare w T (day_list (h.l1 i) (h.l2 i)) H (h.A i) (h.B i) (k.1 i))
                ∷ k.2 i,
          );
          see1 = N.see1;
          see2 = λ h. let k = N.see2 h in (
            k.0,
            buffer_is (σ (length (list0 S))) S.A S.B buf (day_given (list0 S)) n
                ∙ ap₂ (λ (ds c : List ℕ). ds ++ drop (script_cost (σ 192)).deals c) h.deals k.1
                ∙ sym (buffer_is (σ (length (list0 S'))) A' B' buf' (day_given (list0 S')) n'),
            k.2,
          );
        })

    -- startings
    starting1_on : {z z' : DayDealer} {buf buf' : List ℕ} {s s' : State} {two two' : DayHost}
        (r : DayRun w S cs (day_world z buf (resting s) two)) (r' : DayRun w S' cs' (day_world z' buf' (resting s') two')) → Now w S twin r r'
        → (X : List ℕ) (n : (start1 w S X).number ≡ 0) → X ≡ [] → Counterpart w S twin (day_complete r (day_starts1 X n))
    unfolding day_calls_of
    starting1_on r r' N X n q =
        let n' : (start1 w S' []).number ≡ 0 =
        sym (day_start_number w T H (list1 S) (list1 S') long1 1 S.A A' X [] la (ap length q)) ∙ n in
        let l = day_start_level w T H (list1 S) (list1 S') long1 1 S.A A' X [] n n' in
        found w S twin (day_complete r' (day_starts1 [] n'))
        (record {
          silently = λ i. starting1 ∷ N.silently i;
          lent = (N.lent, refl);
          alike = (N.alike.0, N.alike.1, (l, next_alike (start1 w S X) (start1 w S' []) [] [] l refl), N.alike.3);
          see0 = N.see0;
          see1 = λ h. let k = N.see1 h in (
            λ i. answering (day_start w 1 T (day_list (h.m i) (h.l1 i)) H (h.A i) (q i)) [],
            λ i. started 1 T (day_list (h.m i) (h.l1 i)) H (h.A i) (q i)
                (day_start w 1 T (day_list (h.m i) (h.l1 i)) H (h.A i) (q i))
                ∷ k.1 i,
          );
          see2 = N.see2;
        })

    starting2_on : {p p' : Pair} {buf buf' : List ℕ} {one one' : DayHost} {s s' : State}
        (r : DayRun w S cs (day_world (D.prepared p) buf one (resting s)))
        (r' : DayRun w S' cs' (day_world (D.prepared p') buf' one' (resting s'))) → Now w S twin r r'
        → (X : List ℕ) (d : Dealt (day_staged w S) buf X) (n : (start2 w S X).number ≡ 0) → X ≡ buf
        → Counterpart w S twin (day_complete r (day_starts2 X d n))
    unfolding day_calls_of
    starting2_on {buf = buf} {buf' = buf'} r r' N X d n q =
        let n' : (start2 w S' buf').number ≡ 0 =
        sym (day_start_number w T H (list2 S) (list2 S') long2 2 S.B B' X buf' lb (ap length q ∙ N.alike.1)) ∙ n in
        let l = day_start_level w T H (list2 S) (list2 S') long2 2 S.B B' X buf' n n' in
        found w S twin (day_complete r' (day_starts2 buf' refl n'))
        (record {
          silently = λ i. starting2 ∷ N.silently i;
          lent = (N.lent, refl);
          alike = (N.alike.0, N.alike.1, N.alike.2, (l, next_alike (start2 w S X) (start2 w S' buf') [] [] l refl));
          see0 = N.see0;
          see1 = N.see1;
          see2 = λ h. let k = N.see2 h in let c = q ∙ k.1 in (
            λ i. answering (day_start w 2 T (day_list (h.m i) (h.l2 i)) H (h.B i) (c i)) [],
            k.1,
            λ i. started 2 T (day_list (h.m i) (h.l2 i)) H (h.B i) (c i)
                (day_start w 2 T (day_list (h.m i) (h.l2 i)) H (h.B i) (c i))
                ∷ k.2 i,
          );
        })

    -- hearings
    hearing1_on : {z z' : DayDealer} {buf buf' : List ℕ} {s s2 s' s2' : State} {said said2 said' said2' : List Spoken}
        (r : DayRun w S cs (day_world z buf (running s said) (running s2 said2)))
        (r' : DayRun w S' cs' (day_world z' buf' (running s' said') (running s2' said2'))) → Now w S twin r r'
        → (X : List ℕ) (v : ℕ) (m : Among (placed_word s v) said2) (n : (hear1 w S X s v).number ≡ 0) → X ≡ []
        → Counterpart w S twin (day_complete r (day_hears1 X v m n))
    unfolding day_calls_of
    hearing1_on {s = s} {s' = s'} {said = said} {said2 = said2} {said' = said'} {said2' = said2'} r r' N X v m n q =
        let l = N.alike.2 in
        let x = word_there s s' v said2 said2' l.0 N.alike.3.1 m in
        let v' = x.0 in
        let n' : (hear1 w S' [] s' v').number ≡ 0 =
        sym (day_hear_number w T H (list1 S) (list1 S') long1 1 S.A A' X [] s s' l.0 v v' la (ap length q)) ∙ n in
        let j = day_hear_level w T H (list1 S) (list1 S') long1 1 S.A A' X [] s s' l.0 v v' n n' in
        found w S twin (day_complete r' (day_hears1 [] v' x.1 n'))
        (record {
          silently = λ i. hearing1 0 ∷ N.silently i;
          lent = (N.lent, refl);
          alike = (N.alike.0, N.alike.1, (j, next_alike (hear1 w S X s v) (hear1 w S' [] s' v') said said' j l.1), N.alike.3);
          see0 = N.see0;
          see1 = λ h. let k = N.see1 h in
              let y : v ≡ v' =
              same_word s s' v v' (words_of_2 (day_staged w S)) (words_of_2 (day_staged w S')) (in_order.each_once_2 (day_staged w S')) h.words
              l.0 (day_speaks2 w S r (placed_word s v) m) (day_speaks2 w S' r' (placed_word s' v') x.1) in (
                λ i. answering (day_hear w 1 T (day_list (h.m i) (h.l1 i)) H (h.A i) (q i) (host_state (k.0 i)) (y i)) (host_said (k.0 i)),
                λ i. heard 1 T (day_list (h.m i) (h.l1 i)) H (h.A i) (q i) (host_state (k.0 i)) (y i)
                    (day_hear w 1 T (day_list (h.m i) (h.l1 i)) H (h.A i) (q i) (host_state (k.0 i)) (y i))
                    ∷ k.1 i,
              );
          see2 = N.see2;
        })

    hearing2_on : {z z' : DayDealer} {buf buf' : List ℕ} {s s1 s' s1' : State} {said said1 said' said1' : List Spoken}
        (r : DayRun w S cs (day_world z buf (running s1 said1) (running s said)))
        (r' : DayRun w S' cs' (day_world z' buf' (running s1' said1') (running s' said'))) → Now w S twin r r'
        → (X : List ℕ) (d : Dealt (day_staged w S) buf X) (v : ℕ) (m : Among (placed_word s v) said1) (n : (hear2 w S X s v).number ≡ 0)
        → X ≡ buf → Counterpart w S twin (day_complete r (day_hears2 X d v m n))
    unfolding day_calls_of
    hearing2_on {buf = buf} {buf' = buf'} {s = s} {s' = s'} {said = said} {said1 = said1} {said' = said'} {said1' = said1'} r r' N X d v m n q =
        let l = N.alike.3 in
        let x = word_there s s' v said1 said1' l.0 N.alike.2.1 m in
        let v' = x.0 in
        let n' : (hear2 w S' buf' s' v').number ≡ 0 =
        sym (day_hear_number w T H (list2 S) (list2 S') long2 2 S.B B' X buf' s s' l.0 v v' lb (ap length q ∙ N.alike.1)) ∙ n in
        let j = day_hear_level w T H (list2 S) (list2 S') long2 2 S.B B' X buf' s s' l.0 v v' n n' in
        found w S twin (day_complete r' (day_hears2 buf' refl v' x.1 n'))
        (record {
          silently = λ i. hearing2 0 ∷ N.silently i;
          lent = (N.lent, refl);
          alike = (N.alike.0, N.alike.1, N.alike.2, (j, next_alike (hear2 w S X s v) (hear2 w S' buf' s' v') said said' j l.1));
          see0 = N.see0;
          see1 = N.see1;
          see2 = λ h. let k = N.see2 h in
              let c = q ∙ k.1 in
              let y : v ≡ v' =
              same_word s s' v v' (words_of_1 (day_staged w S)) (words_of_1 (day_staged w S')) (in_order.each_once_1 (day_staged w S')) h.words
              l.0 (day_speaks1 w S r (placed_word s v) m) (day_speaks1 w S' r' (placed_word s' v') x.1) in (
                λ i. answering (day_hear w 2 T (day_list (h.m i) (h.l2 i)) H (h.B i) (c i) (host_state (k.0 i)) (y i)) (host_said (k.0 i)),
                k.1,
                λ i. heard 2 T (day_list (h.m i) (h.l2 i)) H (h.B i) (c i) (host_state (k.0 i)) (y i)
                    (day_hear w 2 T (day_list (h.m i) (h.l2 i)) H (h.B i) (c i) (host_state (k.0 i)) (y i))
                    ∷ k.2 i,
              );
        })

    -- ---- whichever call it is

    completing_on : {c : Call} {u u' t : DayWorld} (r : DayRun w S cs u) (r' : DayRun w S' cs' u') → Now w S twin r r' → (k : DayCompletes w S c u t)
        → RightlyLent w S k → Counterpart w S twin (day_complete r k)
    completing_on {u' = day_world unprepared b o t} r r' N (day_prepares n) q = preparing_on r r' N n
    completing_on {u' = day_world (D.prepared p) b o t} r r' N (day_prepares n) q = absurd N.alike.0
    completing_on {u' = day_world z b (resting s) t} r r' N (day_starts1 X n) q = starting1_on r r' N X n q
    completing_on {u' = day_world z b (running s said) t} r r' N (day_starts1 X n) q = absurd N.alike.2
    completing_on {u' = day_world (D.prepared p) b o (resting s)} r r' N (day_starts2 X d n) q = starting2_on r r' N X d n q
    completing_on {u' = day_world unprepared b o t} r r' N (day_starts2 X d n) q = absurd N.alike.0
    completing_on {u' = day_world (D.prepared p) b o (running s said)} r r' N (day_starts2 X d n) q = absurd N.alike.3
    completing_on {u' = day_world z b (running s said) (running s2 said2)} r r' N (day_hears1 X v m n) q = hearing1_on r r' N X v m n q
    completing_on {u' = day_world z b (resting s) t} r r' N (day_hears1 X v m n) q = absurd N.alike.2
    completing_on {u' = day_world z b (running s said) (resting s2)} r r' N (day_hears1 X v m n) q = absurd N.alike.3
    completing_on {u' = day_world z b (running s1 said1) (running s said)} r r' N (day_hears2 X d v m n) q = hearing2_on r r' N X d v m n q
    completing_on {u' = day_world z b (resting s1) t} r r' N (day_hears2 X d v m n) q = absurd N.alike.2
    completing_on {u' = day_world z b (running s1 said1) (resting s)} r r' N (day_hears2 X d v m n) q = absurd N.alike.3

    refused_on : {u u' t : DayWorld} (r : DayRun w S cs u) (r' : DayRun w S' cs' u') → Now w S twin r r' → (f : DayRefuses w S u t)
        → Counterpart w S twin (day_refuse r f)
    refused_on {u = day_world z buf one two} {u' = day_world z' buf' one' two'} r r' N f = refusing_on w S twin r r' N f

  counterpart : {cs : List Call} {u : DayWorld} (r : DayRun w S cs u) → AllRightlyLent w S r → Counterpart w S twin r
  unfolding day_calls_of
  counterpart (day_begin {buf = buf} {s1 = s1} {s2 = s2}) q =
      found w S twin (day_begin {buf = buf} {s1 = s1} {s2 = s2})
      (record {
        silently = refl;
        lent = tt;
        alike = (tt, refl, same_level s1, same_level s2);
        see0 = λ h. (refl, refl, refl);
        see1 = λ h. (refl, refl);
        see2 = λ h. (refl, refl, refl);
      })
  counterpart (day_complete r k) q = let c = counterpart r q.0 in completing_on r c.run c.now k q.1
  counterpart (day_refuse r f) q = let c = counterpart r q in refused_on r c.run c.now f

  -- ---- what the hosts see

  seen : (h : ℕ) {cs : List Call} {u : DayWorld} (r : DayRun w S cs u) (c : Counterpart w S twin r)
      → day_calls_of w S h r ≡ day_calls_of w S' h c.run → DaySeenBeside w h S S' cs u r
  seen h r c e =
      record { calls = c.calls; ends_in = c.to; run = c.run; lent = c.now.lent; alike = c.now.silently; same = sym e }

  pub day_sees0 : DaySame0 S S' → DaySeesSame w 0 S S'
  day_sees0 h cs u r q = let c = counterpart r q in seen 0 r c (c.now.see0 h).2

  pub day_sees1 : DaySame1 w S S' → DaySeesSame w 1 S S'
  day_sees1 h cs u r q = let c = counterpart r q in seen 1 r c (c.now.see1 h).1

  pub day_sees2 : DaySame2 w S S' → DaySeesSame w 2 S S'
  day_sees2 h cs u r q = let c = counterpart r q in seen 2 r c (c.now.see2 h).2
