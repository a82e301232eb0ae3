-- A run of the day's script is a run of the day's own calls. Assumes nothing.
use mathlib.Core.Path.{◌≡◌, refl, sym, ap, ◌∙◌, subst}
use mathlib.Core.List.{List, []}
use Prim.Native.Nat.{ℕ}
use Rattle.calls.specs.Calls.{State, Answer, start, hear, Prepared}
use Rattle.runs.specs.Runs.{ready, going, World, Call, lent1, lent2, Dealt, preparation, held, Completes, prepares, starts1, starts2}
use Rattle.runs.specs.Runs.{hears1, hears2, given_out, Run, begin, complete, refuse}
use Rattle.runs.proofs.Kept.{refuses_nothing, kept}
use Rattle.days.specs.Day.{hours}
use Rattle.days.specs.DayCalls.{own_answer, own_masks}
use Rattle.day_demands.specs.Settings.{DaySetting, day_staged}
use Rattle.day_demands.specs.Runs.{unprepared, prepared, resting, running, DayWorld, day_world, answering, prepare0, start1, start2}
use Rattle.day_demands.specs.Runs.{hear1, hear2, DayCompletes, day_prepares, day_starts1, day_starts2, day_hears1, day_hears2}
use Rattle.day_demands.specs.Runs.{day_refuses_elsewhere, DayRun, day_begin, day_complete, day_refuse, Same}
use Rattle.day_demands.proofs.Calls.{none_prepared, day_calls}
use Rattle.day_demands.proofs.DayRuns.{answered, among, same_place}

module _ (w : ℕ) (S : DaySetting) where
  -- a call of the script that completes is the day's call, which completes too
  pub back : {cs : List Call} {c : Call} {v v' : World} (u : DayWorld) → Completes (day_staged w S) c v v' → Run (day_staged w S) cs v → Same u v
      → (u' : DayWorld) × DayCompletes w S c u u' × Same u' v'
  back {cs = cs} (day_world unprepared buf one two) (prepares {r = r} {buf = buf'} {one = one'} {two = two'} n) R (z, b, p, q) =
      let e : own_masks (preparation (day_staged w S) buf' r) ≡ prepare0 w S buf =
      (day_calls w).prepares S cs r buf' one' two' R ∙ ap (prepare0 w S) (sym b) in (
        day_world (prepared (prepare0 w S buf).masks) (prepare0 w S buf).buffer one two,
        day_prepares (ap (λ (x : Prepared). x.number) (sym e) ∙ n),
        (ap (λ (x : Prepared). x.masks) (sym e), ap (λ (x : Prepared). x.buffer) (sym e), p, q),
      )
  back (day_world (prepared r) buf one two) (prepares n) R (z, b, p, q) = absurd z
  back {cs = cs} (day_world z buf (resting s) two) (starts1 {z = z'} {buf = buf'} {s = s'} {two = two'} D n) R (d, b, p, q) =
      let a : Answer = start (lent1 (day_staged w S) D) (held (day_staged w S) s') in
      let e : own_answer a ≡ start1 w S D =
      (day_calls w).starts1 S cs z' buf' D s' two' R in (
        day_world z buf (answering (start1 w S D) []) two,
        day_starts1 D (ap (λ (x : Answer). x.number) (sym e) ∙ n),
        (d, b, answered (start1 w S D) a [] [] e refl, q),
      )
  back (day_world z buf (running s said) two) (starts1 D n) R (d, b, p, q) = absurd p
  back {cs = cs} (day_world (prepared r) buf one (resting s)) (starts2 {r = r'} {t₀ = t₀} {buf = buf'} {s = s'} {one = one'} D k n) R (d, b, p, q) =
      let a : Answer = start (lent2 (day_staged w S) D) (held (day_staged w S) s') in
      let e : own_answer a ≡ start2 w S D =
      (day_calls w).starts2 S cs (ready r' t₀) buf' D one' s' R in (
        day_world (prepared r) buf one (answering (start2 w S D) []),
        day_starts2 D (subst (λ (x : List ℕ). Dealt (day_staged w S) x D) (sym b) k)
            (ap (λ (x : Answer). x.number) (sym e) ∙ n),
        (d, b, p, answered (start2 w S D) a [] [] e refl),
      )
  back (day_world unprepared buf one two) (starts2 D k n) R (d, b, p, q) = absurd d
  back (day_world (prepared r) buf one (running s said)) (starts2 D k n) R (d, b, p, q) = absurd q
  back {cs = cs} (day_world z buf (running s said) (running s2 said2)) (hears1 {z = z'} {buf = buf'} {s = s'} {s2 = s2'} {t = t} {t2 = t2} {said = said'} {said2 = said2'} D v m n) R (d, b, p, q) =
      let a : Answer = hear (lent1 (day_staged w S) D) s' v in
      let e : own_answer a ≡ hear1 w S D s v =
      (day_calls w).hears1 S cs z' buf' D s' t said' (going s2' t2 said2') v R ∙ ap (λ (x : State). hear1 w S D x v) (sym p.0) in (
        day_world z buf (answering (hear1 w S D s v) said) (running s2 said2),
        day_hears1 D v (among (sym (same_place s' v p.0)) (sym q.1) m) (ap (λ (x : Answer). x.number) (sym e) ∙ n),
        (d, b, answered (hear1 w S D s v) a said said' e p.1, q),
      )
  back (day_world z buf (resting s) two) (hears1 D v m n) R (d, b, p, q) = absurd p
  back (day_world z buf (running s said) (resting s2)) (hears1 D v m n) R (d, b, p, q) = absurd q
  back {cs = cs} (day_world z buf (running s1 said1) (running s said)) (hears2 {z = z'} {buf = buf'} {s = s'} {s1 = s1'} {t = t} {t1 = t1} {said = said'} {said1 = said1'} D k v m n) R (d, b, p, q) =
      let a : Answer = hear (lent2 (day_staged w S) D) s' v in
      let e : own_answer a ≡ hear2 w S D s v =
      (day_calls w).hears2 S cs z' buf' D (going s1' t1 said1') s' t said' v R ∙ ap (λ (x : State). hear2 w S D x v) (sym q.0) in (
        day_world z buf (running s1 said1) (answering (hear2 w S D s v) said),
        day_hears2 D (subst (λ (x : List ℕ). Dealt (day_staged w S) x D) (sym b) k) v
            (among (sym (same_place s' v q.0)) (sym p.1) m) (ap (λ (x : Answer). x.number) (sym e) ∙ n),
        (d, b, p, answered (hear2 w S D s v) a said said' e q.1),
      )
  back (day_world z buf (resting s1) two) (hears2 D k v m n) R (d, b, p, q) = absurd p
  back (day_world z buf (running s1 said1) (resting s)) (hears2 D k v m n) R (d, b, p, q) = absurd q

  pub led : {cs : List Call} {v : World} → Run (day_staged w S) cs v → (u : DayWorld) × DayRun w S cs u × Same u v
  led (begin (given_out {buf = buf} {one = one} {two = two} h k)) =
      (day_world unprepared buf (resting one) (resting two), day_begin, (tt, refl, tt, tt))
  led (complete R c) =
      let f = led R in
      let g = back f.0 c R f.2 in
      (g.0, day_complete f.1 g.1, g.2)
  led (refuse R c) =
      let f = led R in (
        f.0,
        day_refuse f.1 (day_refuses_elsewhere [] [] (hours [] 0) [] [] [] (none_prepared w)),
        subst (Same f.0) (sym (refuses_nothing (day_staged w S) (kept (day_staged w S) R) c)) f.2,
      )
