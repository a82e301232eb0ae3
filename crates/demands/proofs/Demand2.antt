-- Demand 2, proved for every run. Assumes nothing.
use mathlib.Core.Path.{◌≡◌, refl, sym, ap, ◌∙◌}
use mathlib.Core.List.{List}
use Prim.Native.Nat.{ℕ, zero, suc, ◌*◌}
use native.Mathlib.Omega.{arith}
use Rattle.gates.specs.Steps.{Exchange, Step, Cursor, origin}
use Rattle.gates.specs.Hosts.{Pair, Triple, of1, of2, joint1, joint2, Supplied}
use Rattle.gates.proofs.Seen.{Always}
use Rattle.gates.proofs.Needs.{deals_length}
use Rattle.programs.specs.Opens.{order_value}
use Rattle.jobs.specs.Job.{Fault}
use Rattle.calls.specs.Scripts.{script_cost, Closed}
use Rattle.calls.specs.Lent.{Worker, worker1, worker2, dealer_fault}
use Rattle.calls.specs.Calls.{State, Answer, fresh2, script_deals, prepared, prepare}
use Rattle.runs.specs.Runs.{Stage, Spoken, Among, Dealer, ready, Side, waiting, going, world, registers, Dealt}
use Rattle.runs.specs.Orders.{order_of}
use Rattle.runs.specs.InOrder.{words_of_1, words_of_2}
use Rattle.demands.specs.Demand2.{Counted, Demand2}
use Rattle.runs.proofs.Ties.{Shadow, shadow1, shadow2, Tied, Answered}
use Rattle.runs.proofs.Kept.{all, j₀, supplied, not_yet, dealt_all, wait1, go1, wait2, go2, Ok, ok, kept}
use Rattle.runs.proofs.Answers.{Answered1, start1_answered, hear1_answered, Answered2, start2_answered, hear2_answered}
use Rattle.runs.proofs.Chain.{job_orders, job_orderly}
use Rattle.runs.proofs.Spared.{slot_kept}
use Rattle.runs.proofs.Opened.{order_keeps}
use Rattle.runs.proofs.Opening.{finished_opens}
use Rattle.runs.proofs.InJob.{in_job}
use Rattle.demands.proofs.Curves.{of_kind}
use Rattle.runs.proofs.Counts.{stands, among_defined}

prepared_count : (n : ℕ) (f : Fault) (S : Stage) (buf : List ℕ) (r : Pair) → f.0 ≡ n
    → (prepared n f S.script S.A S.B buf r).number ≡ 0
    → (prepared n f S.script S.A S.B buf r).deals ≡ (script_cost S.script).deals
unfolding prepared script_deals
prepared_count zero f S buf r e h = deals_length S.A S.B S.script.steps origin (fresh2 r)
prepared_count (suc n) f S buf r e h = absurd (omega arith)

module _ (S : Stage) where
  module _ (P : Worker) (h : Triple → Pair) (own other : Exchange → Cursor → Triple → ℕ) (Good : List Step → Cursor → Triple → Type 0)
      (sh : Shadow S.A S.B P h own other Good) (good : Good (all S) origin (j₀ S)) (shut : Closed S.script.steps) where
    -- an answer where the walk halts is counted
    counted : {a : Answer} {given : ℕ} → Answered S.A S.B (all S) (j₀ S) P h own other Good sh good a given
        → Counted S a.spoken a.state given
    counted {a} {given} N =
        let T = stands S.A S.B (all S) (j₀ S) shut N.n N.halts in
        rw N.is
        (record {
          before_end = λ l. T.before_end l ∙ sym N.count;
          at_end = λ l. let p = T.at_end l in (ap suc p.0 ∙ sym N.count, ap (λ (x : ℕ). x * 2) p.0 ∙ p.1);
        })

  module _ (shut : Closed S.script.steps) where
    counted1 : {a : Answer} {given : ℕ} → Answered1 S a given → Counted S a.spoken a.state given
    counted1 N = counted (worker1 S.A) of1 (joint1 S.A S.B) (joint2 S.A S.B) Always (shadow1 S.A S.B) tt shut N

    counted2 : (D : List ℕ) (g : Supplied S.A S.B D (all S) origin (j₀ S)) {a : Answer} {given : ℕ} → Answered2 S D g a given
        → Counted S a.spoken a.state given
    counted2 D g N =
        counted (worker2 S.B D) of2 (joint2 S.A S.B) (joint1 S.A S.B) (Supplied S.A S.B D)
        (shadow2 S.A S.B D) g shut N

  -- ---- from what a run keeps

  one_waits : {z : Dealer} {buf : List ℕ} {s : State} {two : Side} → Ok S (world z buf (waiting s) two)
      → registers S.script.slots s ≡ (S.rm, S.r1)
  one_waits (ok z (wait1 h) two a) = h

  both_go : {z : Dealer} {buf : List ℕ} {s s2 : State} {t t2 : List Pair} {said said2 : List Spoken}
      → Ok S (world z buf (going s t said) (going s2 t2 said2))
      → Tied S.A S.B (all S) (j₀ S) of1 (joint1 S.A S.B) s t said
      × Tied S.A S.B (all S) (j₀ S) of2 (joint2 S.A S.B) s2 t2 said2
      × ((D : List ℕ) → Dealt S buf D → Supplied S.A S.B D (all S) origin (j₀ S))
  both_go (ok (not_yet h) (go1 X) (go2 Y) a) = absurd a
  both_go (ok {buf = buf} (dealt_all p g h k) (go1 X) (go2 Y) a) = (X, Y, λ D d. supplied S buf p D g d)

  two_waits : {r : Pair} {t₀ : List Pair} {buf : List ℕ} {one : Side} {s : State} → Ok S (world (ready r t₀) buf one (waiting s))
      → (registers S.script.slots s ≡ (S.rm, S.r2)) × ((D : List ℕ) → Dealt S buf D → Supplied S.A S.B D (all S) origin (j₀ S))
  two_waits (ok {buf = buf} (dealt_all p g h k) one (wait2 q) a) = (q, λ D d. supplied S buf p D g d)

  speaks1 : {z : Dealer} {buf : List ℕ} {s : State} {t : List Pair} {said : List Spoken} {two : Side}
      → Ok S (world z buf (going s t said) two)
      → (p : Spoken) → Among p said → Among p (words_of_1 S)
  speaks1 (ok z (go1 X) two a) p m =
      let f = X.heard.only p m in rw f.2 (among_defined S.A S.B (all S) (j₀ S) (joint1 S.A S.B) f.0 f.1)

  speaks2 : {z : Dealer} {buf : List ℕ} {one : Side} {s : State} {t : List Pair} {said : List Spoken}
      → Ok S (world z buf one (going s t said))
      → (p : Spoken) → Among p said → Among p (words_of_2 S)
  speaks2 (ok z one (go2 Y) a) p m =
      let f = Y.heard.only p m in rw f.2 (among_defined S.A S.B (all S) (j₀ S) (joint2 S.A S.B) f.0 f.1)

pub demand2 : Demand2
unfolding prepare order_value
demand2 =
    record {
      order_opens = λ w wide S q v F. of_kind w wide S q v F (order_of S q).kind refl;
      shares_agree = λ w S q i v F. finished_opens S w v F.run q i F.finished;
      slot_kept = slot_kept;
      register_kept = λ w S q i v F hi e. order_keeps w S q (in_job w S q v F) i hi e;
      host1_speaks = λ S cs z buf s t said two r. speaks1 S (kept S r);
      host2_speaks = λ S cs z buf one s t said r. speaks2 S (kept S r);
      deals_counted = λ S buf r. let f = dealer_fault S.script S.A S.B buf in prepared_count f.0 f S buf r refl;
      start1_counted = λ S ok cs z buf D s two r e. counted1 S ok.closed (start1_answered S D s (one_waits S (kept S r)) e);
      hear1_counted = λ S ok cs z buf D s s2 t t2 said said2 v r m e.
          let k = both_go S (kept S r) in counted1 S ok.closed (hear1_answered S D s t said said2 _ v k.0 k.1.heard m e);
      start2_counted = λ S ok cs r₀ t₀ buf D one s r d e.
          let k = two_waits S (kept S r) in counted2 S ok.closed D (k.1 D d) (start2_answered S D (k.1 D d) s k.0 e);
      hear2_counted = λ S ok cs z buf D s1 s t1 t said1 said v r d m e.
          let k = both_go S (kept S r) in
          counted2 S ok.closed D (k.2 D d) (hear2_answered S D (k.2 D d) s t said said1 _ v k.1 k.0.heard m e);
      job_orders = job_orders;
      job_orderly = job_orderly;
    }
