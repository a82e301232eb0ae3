-- The whole job in one place is a run carried to its end. Assumes nothing.
use mathlib.Core.Path.{◌≡◌, refl, sym, ap, ◌∙◌}
use mathlib.Core.Logic.{◌≢◌}
use mathlib.Core.List.{List, []}
use Prim.Native.Nat.{ℕ, zero, suc, ◌≤◌, ◌<◌}
use native.Mathlib.Nat.{zero-add}
use native.Mathlib.Omega.{arith}
use lib.ListN.{length}
use Rattle.gates.specs.Steps.{Cursor, origin}
use Rattle.gates.specs.Hosts.{Pair}
use Rattle.gates.proofs.Needs.{far_used}
use Rattle.jobs.specs.Job.{Fault}
use Rattle.calls.specs.Scripts.{Script, script_cost, orders_in, Orderly}
use Rattle.calls.specs.Calls.{State, Answer, refused, fresh, unless, given, prepared as Calls_prepared, prepare}
use Rattle.runs.specs.Runs.{Stage, staged, Spoken, Dealer, going, world, held, Begins, given_out, begin, Finished}
use Rattle.demands.specs.Whole.{WholeRun, first_world}
use Rattle.demands.proofs.Demand1.{demand1}
use Rattle.runs.proofs.Chain.{job_orderly}
use Rattle.runs.proofs.Kept.{Ok, ok, go1, go2, kept}
use Rattle.runs.proofs.Strict.{wide_on}
use Rattle.runs.proofs.Buffers.{buffers}
use Rattle.runs.proofs.InOrder.{in_order}
use Rattle.demands.proofs.Whole.{whole}
use Rattle.trio.specs.Together.{Trio, after_preparation, end_answer, together}
use Rattle.trio.specs.Ran.{ran, RunTo, TurnedDown, TrioRan}
use Rattle.trio.proofs.Positions.{P, D, at_n, standing}
use Rattle.trio.proofs.Leaves.{over_is}
use Rattle.trio.proofs.Ends.{no_step, cur_is, finish}

-- ---- the preparation's number and index

prepared_index : (k : ℕ) (f : Fault) (σ : Script) (A B buf : List ℕ) (r : Pair) → f.0 ≡ k → (Calls_prepared k f σ A B buf r).number ≡ 0
    → (Calls_prepared k f σ A B buf r).index ≡ 0
unfolding Calls_prepared
prepared_index zero f σ A B buf r e h = refl
prepared_index (suc k) f σ A B buf r e h = absurd (omega arith)

index_none : (S : Stage) (buf : List ℕ) → (P S buf).number ≡ 0 → (P S buf).index ≡ 0
unfolding prepare
index_none S buf e = prepared_index _ _ S.script S.A S.B buf (S.r1, S.r2) refl e

-- ---- refused

unless_some : (n : ℕ) (f : Fault) (s : State) (a : Answer) → n ≢ 0 → unless n f s a ≡ refused f s
unfolding unless
unless_some zero f s a h = absurd (h refl)
unless_some (suc n) f s a h = refl

turned_down : (S : Stage) (buf : List ℕ) → (P S buf).number ≢ 0 → TurnedDown S buf (ran S buf)
unfolding together after_preparation given fresh
turned_down S buf h =
    let p = demand1.preparing_unchanged S.script S.A S.B buf (S.r1, S.r2) h in
    record {
      number = refl;
      index = refl;
      deals = p.2;
      masks = p.0;
      buffer = p.1;
      one = unless_some (P S buf).number ((P S buf).number, (P S buf).index) (given (S.rm, S.r1)) _ h;
      two = unless_some (P S buf).number ((P S buf).number, (P S buf).index) (given (S.rm, S.r2)) _ h;
    }

-- ---- accepted

module _ (S : Stage) (tidy : Orderly S.script) (buf : List ℕ) (done : (P S buf).number ≡ 0) where
  -- every order is behind a place that is past all of them
  at_least : (n o : ℕ) → ((q : ℕ) → q < n → q < o) → n ≤ o
  at_least zero o f = omega arith
  at_least (suc n) o f = f n (omega arith)

  -- as many words of B are used there as the script needs
  all_used : (n : ℕ) → (at_n S buf n).rest ≡ [] → (at_n S buf n).cur.b ≡ (script_cost S.script).b
  all_used n e = ap (λ (c : Cursor). c.b) (cur_is S tidy.closed buf done n e) ∙ (far_used S.script.steps origin).b ∙ zero-add _

  -- hosts whose states these are, with so many words spoken
  record Ends (s1 s2 : State) (said1 said2 : List Spoken) : Type 0 where
    pub one : s1 ≡ (ran S buf).one.state
    pub two : s2 ≡ (ran S buf).two.state
    pub words1 : length said1 ≡ suc (script_cost S.script).b
    pub words2 : length said2 ≡ suc (script_cost S.script).b

  ends_in : (z : Dealer) (b : List ℕ) (s1 s2 : State) (t1 t2 : List Pair) (said1 said2 : List Spoken)
      → Ok S (world z b (going s1 t1 said1) (going s2 t2 said2))
      → ((q : ℕ) → q < orders_in S.script → Finished (world z b (going s1 t1 said1) (going s2 t2 said2)) q) → Ends s1 s2 said1 said2
  ends_in _ _ s1 s2 t1 t2 said1 said2 (ok z (go1 X) (go2 Y) a) f =
      let l1 : orders_in S.script ≤ s1.order = at_least _ _ (λ q h. (f q h).one) in
      let l2 : orders_in S.script ≤ s2.order = at_least _ _ (λ q h. (f q h).two) in
      let k1 = rw X.is at l1 in
      let k2 = rw Y.is at l2 in
      let e1 = finish S tidy.closed buf done (standing S buf X.n) (record { n = X.n; halts = X.halts; is = refl }) k1 in
      let e2 = finish S tidy.closed buf done (standing S buf Y.n) (record { n = Y.n; halts = Y.halts; is = refl }) k2 in
      record {
        one = X.is ∙ ap (λ (t : Trio). t.one.state) e1;
        two = Y.is ∙ ap (λ (t : Trio). t.two.state) e2;
        words1 = X.count ∙ ap suc (all_used X.n (no_step S tidy.closed buf done X.n X.halts k1));
        words2 = Y.count ∙ ap suc (all_used Y.n (no_step S tidy.closed buf done Y.n Y.halts k2));
      }

  -- a host at the end
  record Last (a : Answer) : Type 0 where
    pub number : a.number ≡ 0
    pub index : a.index ≡ 0
    pub spoken : a.spoken ≡ (script_cost S.script).b
    pub word : a.word ≡ 0
    pub order : a.state.order ≡ orders_in S.script

  last_of : (a : Answer) (l : Pair) → a ≡ end_answer S.script l → Last a
  unfolding end_answer
  last_of a l e = rw e (record { number = refl; index = refl; spoken = refl; word = refl; order = refl })

  module _ (E : List ℕ) (one two : State) (p1 : held S one ≡ (S.rm, S.r1)) (p2 : held S two ≡ (S.rm, S.r2)) where
    begins : Begins S (first_world S buf one two)
    begins = given_out p1 p2

    abbrev Whole : State → State → Type 0
    Whole s1 s2 = WholeRun S E (first_world S buf one two) (P S buf).masks (D S buf) s1 s2

    module _ (s1 s2 : State) (W : Whole s1 s2) where
      ends : Ends s1 s2 W.said1 W.said2
      ends = ends_in _ _ s1 s2 _ _ _ _ (kept S (wide_on S (begin begins) W.run)) W.finished

    moved : (s1 s2 t1 t2 : State) → s1 ≡ t1 → s2 ≡ t2 → Whole s1 s2 → Whole t1 t2
    moved s1 s2 t1 t2 e f W = rw (← e, ← f) W

    found_run : RunTo S E (first_world S buf one two) (ran S buf)
    unfolding together after_preparation
    found_run =
        let r = whole.whole_run S E buf one two p1 p2 done in
        let e = ends r.0 r.1 r.2 in
        let W : Whole (ran S buf).one.state (ran S buf).two.state = moved r.0 r.1 _ _ e.one e.two r.2 in
        let k = ends (ran S buf).one.state (ran S buf).two.state W in
        let a = last_of (ran S buf).one _ (ap (λ (t : Trio). t.one) (over_is S buf done)) in
        let b = last_of (ran S buf).two _ (ap (λ (t : Trio). t.two) (over_is S buf done)) in
        let R = wide_on S (begin begins) W.run in
        record {
          whole = W;
          numbers = (done, a.number, b.number);
          indices = (index_none S buf done, a.index, b.index);
          deals = buffers.reported S _ _ buf _ _ (begin begins) done;
          buffer = buffers.written S _ _ buf _ _ (begin begins) done;
          said1 = in_order.all_said_1 S tidy _ _ _ _ _ _ _ R a.order;
          said2 = in_order.all_said_2 S tidy _ _ _ _ _ _ _ R b.order;
          last_words = (a.word, b.word);
          spoken1 = ap suc a.spoken ∙ sym k.words1;
          spoken2 = ap suc b.spoken ∙ sym k.words2;
        }

pub trio_ran : TrioRan
unfolding together after_preparation
trio_ran =
    record {
      is_run = λ S tidy E buf one two p1 p2 e. found_run S tidy buf e E one two p1 p2;
      accepted_run = λ S tidy E buf one two p1 p2 acc. found_run S tidy buf (whole.prepares S buf (S.r1, S.r2) acc) E one two p1 p2;
      job_run = λ S E buf one two p1 p2 i.
          found_run (staged 32 S) (job_orderly 32 S.job S.table) buf
          (whole.prepares (staged 32 S) buf (S.r1, S.r2) ((whole.accepted_job S buf).0 i)) E
          one two p1 p2;
      refused = λ S buf h. turned_down S buf h;
    }
