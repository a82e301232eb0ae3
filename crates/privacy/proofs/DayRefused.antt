-- A refused call of a day is refused beside, and shows its host the same. Assumes nothing.
use mathlib.Core.Path.{◌≡◌, refl, sym, ap, ◌∙◌}
use mathlib.Core.Logic.{◌≢◌}
use mathlib.Core.List.{List, ◌∷◌}
use Prim.Native.Nat.{ℕ}
use lib.ListN.{length}
use Rattle.calls.specs.Calls.{prepare}
use Rattle.runs.specs.Runs.{Call, turned_down}
use Rattle.runs.proofs.Refusals.{prepare_back}
use Rattle.days.specs.DayCalls.{day_start, day_hear, day_prepare}
use Rattle.day_demands.specs.Settings.{DaySetting}
use Rattle.day_demands.specs.Runs.{DayDealer, DayHost, DayWorld, day_world, host_state, with_answer, with_given, DayRefuses, day_refuses0}
use Rattle.day_demands.specs.Runs.{day_refuses_elsewhere, day_refuses_start, day_refuses1, day_refuses2, job_refuses0, job_refuses_elsewhere}
use Rattle.day_demands.specs.Runs.{job_refuses1, job_refuses2, DayRun, day_refuse}
use Rattle.privacy.specs.Privacy as P
use Rattle.privacy.specs.DayPrivacy.{DayEvent, prepared, started, heard, of_job, day_calls_of}
use Rattle.privacy.proofs.Places.{between, dealer_same, prepare_number}
use Rattle.privacy.proofs.Sides.{turned_too}
use Rattle.privacy.proofs.DayLevels.{day_hear_number, day_prepare_number, day_hear_stays, day_buffer_back}
use Rattle.privacy.proofs.DayWorlds.{DayTwin, day_twin, host_level, answer_level, gives_too, given_alike}
use Rattle.privacy.proofs.DayBeside.{Now, Counterpart, found}

module _ (w : ℕ) (S : DaySetting) (twin : DayTwin S) {cs cs' : List Call} where
  pub refusing_on : {z z' : DayDealer} {buf buf' : List ℕ} {one one' two two' : DayHost} (r : DayRun w S cs (day_world z buf one two))
      (r' : DayRun w (day_twin S twin) cs' (day_world z' buf' one' two')) → Now w S twin r r' → {u : DayWorld} (f : DayRefuses w S (day_world z buf one two) u)
      → Counterpart w S twin (day_refuse r f)
  unfolding day_calls_of
  refusing_on {buf = buf} {buf' = buf'} r r' N (day_refuses0 T L H A B n) =
      let l : length buf ≡ length buf' = N.alike.1 in
      let n' : (day_prepare w T L H A B buf').number ≢ 0 =
      λ k. n (day_prepare_number w T H L L refl A A B B buf buf' refl refl l ∙ k) in
      let g = day_buffer_back w T L H A B buf n in
      let g' = day_buffer_back w T L H A B buf' n' in
      found w S twin (day_refuse r' (day_refuses0 T L H A B n'))
      (record {
        silently = λ i. turned_down ∷ N.silently i;
        lent = N.lent;
        alike = (N.alike.0, ap length g ∙ l ∙ sym (ap length g'), N.alike.2, N.alike.3);
        see0 = λ h. let k = N.see0 h in (
          k.0,
          λ i. (day_prepare w T L H A B (k.1 i)).buffer,
          λ i. prepared T L H A B (k.1 i) (day_prepare w T L H A B (k.1 i)) ∷ k.2 i,
        );
        see1 = N.see1;
        see2 = λ h. let k = N.see2 h in (k.0, g ∙ k.1 ∙ sym g', k.2);
      })
  refusing_on r r' N (day_refuses_elsewhere T L H A B other n) =
      found w S twin (day_refuse r' (day_refuses_elsewhere T L H A B other n))
      (record {
        silently = λ i. turned_down ∷ N.silently i;
        lent = N.lent;
        alike = N.alike;
        see0 = λ h. let k = N.see0 h in (k.0, k.1, λ i. prepared T L H A B other (day_prepare w T L H A B other) ∷ k.2 i);
        see1 = N.see1;
        see2 = N.see2;
      })
  refusing_on r r' N (day_refuses_start h T L H M D n) =
      let e : DayEvent = started h T L H M D (day_start w h T L H M D) in
      found w S twin (day_refuse r' (day_refuses_start h T L H M D n))
      (record {
        silently = λ i. turned_down ∷ N.silently i;
        lent = N.lent;
        alike = N.alike;
        see0 = λ h. let k = N.see0 h in (k.0, k.1, λ i. e ∷ k.2 i);
        see1 = λ h. let k = N.see1 h in (k.0, λ i. e ∷ k.1 i);
        see2 = λ h. let k = N.see2 h in (k.0, k.1, λ i. e ∷ k.2 i);
      })
  refusing_on {one = one} {one' = one'} r r' N (day_refuses1 h T L H M D v n) =
      let l = host_level one one' N.alike.2 in
      let n' : (day_hear w h T L H M D (host_state one') v).number ≢ 0 =
      λ k. n (day_hear_number w T H L L refl h M M D D (host_state one) (host_state one') l v v refl refl ∙ k) in
      let g = day_hear_stays w h T L H M D (host_state one) v n in
      let g' = day_hear_stays w h T L H M D (host_state one') v n' in
      found w S twin (day_refuse r' (day_refuses1 h T L H M D v n'))
      (record {
        silently = λ i. turned_down ∷ N.silently i;
        lent = N.lent;
        alike = (N.alike.0, N.alike.1, answer_level one one' _ _ N.alike.2 (between g l g'), N.alike.3);
        see0 = N.see0;
        see1 = λ q. let k = N.see1 q in (
          λ i. with_answer (k.0 i) (day_hear w h T L H M D (host_state (k.0 i)) v).state,
          λ i. heard h T L H M D (host_state (k.0 i)) v (day_hear w h T L H M D (host_state (k.0 i)) v) ∷ k.1 i,
        );
        see2 = N.see2;
      })
  refusing_on {two = two} {two' = two'} r r' N (day_refuses2 h T L H M D v n) =
      let l = host_level two two' N.alike.3 in
      let n' : (day_hear w h T L H M D (host_state two') v).number ≢ 0 =
      λ k. n (day_hear_number w T H L L refl h M M D D (host_state two) (host_state two') l v v refl refl ∙ k) in
      let g = day_hear_stays w h T L H M D (host_state two) v n in
      let g' = day_hear_stays w h T L H M D (host_state two') v n' in
      found w S twin (day_refuse r' (day_refuses2 h T L H M D v n'))
      (record {
        silently = λ i. turned_down ∷ N.silently i;
        lent = N.lent;
        alike = (N.alike.0, N.alike.1, N.alike.2, answer_level two two' _ _ N.alike.3 (between g l g'));
        see0 = N.see0;
        see1 = N.see1;
        see2 = λ q. let k = N.see2 q in (
          λ i. with_answer (k.0 i) (day_hear w h T L H M D (host_state (k.0 i)) v).state,
          k.1,
          λ i. heard h T L H M D (host_state (k.0 i)) v (day_hear w h T L H M D (host_state (k.0 i)) v) ∷ k.2 i,
        );
      })
  refusing_on {z = z} {z' = z'} {buf = buf} {buf' = buf'} r r' N (job_refuses0 σ A B given g n) =
      let l : length buf ≡ length buf' = N.alike.1 in
      let G = gives_too z z' given N.alike.0 g in
      let n' : (prepare σ A B buf' G.given').number ≢ 0 =
      λ k. n (prepare_number σ A A B B buf buf' given G.given' (dealer_same σ A A B B buf buf' refl refl l) ∙ k) in
      let e = (prepare_back σ A B buf given n).1 in
      let e' = (prepare_back σ A B buf' G.given' n').1 in
      found w S twin (day_refuse r' (job_refuses0 σ A B G.given' G.gives n'))
      (record {
        silently = λ i. turned_down ∷ N.silently i;
        lent = N.lent;
        alike = (given_alike z z' _ _ N.alike.0, ap length e ∙ l ∙ sym (ap length e'), N.alike.2, N.alike.3);
        see0 = λ h. let k = N.see0 h in let p = G.same k.0 in (
          λ i. with_given (k.0 i) (prepare σ A B (k.1 i) (p i)).masks,
          λ i. (prepare σ A B (k.1 i) (p i)).buffer,
          λ i. of_job (P.prepared σ A B (k.1 i) (p i) (prepare σ A B (k.1 i) (p i))) ∷ k.2 i,
        );
        see1 = N.see1;
        see2 = λ h. let k = N.see2 h in (k.0, e ∙ k.1 ∙ sym e', k.2);
      })
  refusing_on {z = z} {z' = z'} r r' N (job_refuses_elsewhere σ A B other given g n) =
      let G = gives_too z z' given N.alike.0 g in
      let n' : (prepare σ A B other G.given').number ≢ 0 =
      λ k. n (prepare_number σ A A B B other other given G.given' refl ∙ k) in
      found w S twin (day_refuse r' (job_refuses_elsewhere σ A B other G.given' G.gives n'))
      (record {
        silently = λ i. turned_down ∷ N.silently i;
        lent = N.lent;
        alike = (given_alike z z' _ _ N.alike.0, N.alike.1, N.alike.2, N.alike.3);
        see0 = λ h. let k = N.see0 h in let p = G.same k.0 in (
          λ i. with_given (k.0 i) (prepare σ A B other (p i)).masks,
          k.1,
          λ i. of_job (P.prepared σ A B other (p i) (prepare σ A B other (p i))) ∷ k.2 i,
        );
        see1 = N.see1;
        see2 = N.see2;
      })
  refusing_on {one = one} {one' = one'} r r' N (job_refuses1 t) =
      let X = turned_too 16 (host_state one) (host_state one') (host_level one one' N.alike.2) t in
      found w S twin (day_refuse r' (job_refuses1 X.turned))
      (record {
        silently = λ i. turned_down ∷ N.silently i;
        lent = N.lent;
        alike = (N.alike.0, N.alike.1, answer_level one one' _ _ N.alike.2 X.level, N.alike.3);
        see0 = N.see0;
        see1 = λ h. let k = N.see1 h in
            let g = X.same (ap host_state k.0) in
            (λ i. with_answer (k.0 i) (g.0 i), λ i. of_job (g.1 i) ∷ k.1 i);
        see2 = N.see2;
      })
  refusing_on {two = two} {two' = two'} r r' N (job_refuses2 t) =
      let X = turned_too 16 (host_state two) (host_state two') (host_level two two' N.alike.3) t in
      found w S twin (day_refuse r' (job_refuses2 X.turned))
      (record {
        silently = λ i. turned_down ∷ N.silently i;
        lent = N.lent;
        alike = (N.alike.0, N.alike.1, N.alike.2, answer_level two two' _ _ N.alike.3 X.level);
        see0 = N.see0;
        see1 = N.see1;
        see2 = λ h. let k = N.see2 h in
            let g = X.same (ap host_state k.0) in
            (λ i. with_answer (k.0 i) (g.0 i), k.1, λ i. of_job (g.1 i) ∷ k.2 i);
      })
