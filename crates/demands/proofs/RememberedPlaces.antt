-- R-7, proved: the stored places in every run, and what they tell. Assumes nothing.
use mathlib.Core.Path.{◌≡◌, refl, sym, ap, ◌∙◌}
use mathlib.Core.Logic.{◌≢◌}
use mathlib.Core.Bool.{Bool, true, false, ◌||◌, cond}
use mathlib.Core.List.{List, [], ◌∷◌}
use Prim.Native.Nat.{ℕ, zero, suc}
use native.Mathlib.Omega.{arith}
use lib.Dec.{eqb, eqb-suc-zero}
use Rattle.gates.specs.Steps.{Step, local, deal, exchange, end, Cursor, origin, past}
use Rattle.gates.specs.Walk.{Conf}
use Rattle.gates.specs.Costs.{Cost}
use Rattle.gates.specs.Hosts.{Pair, Triple, of1, of2, joint1, joint2, act}
use Rattle.gates.proofs.Seen.{through}
use Rattle.jobs.specs.Job.{Fault, short_a, short_b, short_deals}
use Rattle.jobs.specs.FirstFault.{Meets, kind_above, target_above, source_above, second_above, refresh_not_0, relu_not_0, slack_shift}
use Rattle.jobs.specs.FirstFault.{one_bit_shift, exact_shift, curve_mode, curve_table, Numbered, faultless, sizeless, faulty}
use Rattle.jobs.proofs.FirstFault.{job_number}
use Rattle.programs.specs.declared.Order.{Order}
use Rattle.calls.specs.Places.{Found, nowhere, found, seek}
use Rattle.calls.specs.Scripts.{script_cost, Orderly}
use Rattle.calls.specs.Lent.{Lent, lent, worker_with, worker_of, or_else, lists_fault, lent_fault}
use Rattle.calls.specs.Calls.{State, Answer, spoken_at, stored_at, state_of, report, unless, start_walk, hear_walk, place_fault}
use Rattle.calls.specs.Calls.{walked_to, found_of, resume, hear}
use Rattle.calls.proofs.Hearing.{judged_equal, resume_is}
use Rattle.runs.specs.Runs.{Stage, Setting, staged, Spoken, Dealer, Side, going, world, Call, Run}
use Rattle.runs.proofs.Places.{Halted, seek_pos}
use Rattle.runs.proofs.Ties.{Tied}
use Rattle.runs.proofs.Kept.{all, j₀, position, go1, go2, Ok, ok, kept}
use Rattle.runs.proofs.Refusals.{start_none}
use Rattle.demands.specs.RememberedPlaces.{Remembers, RememberedPlaces}
use Rattle.demands.proofs.Completed.{resumed}
use Rattle.demands.proofs.Standing.{remembers, front, start_remembers, hear_ran}
use Rattle.demands.proofs.LaterCalls.{later}
use Rattle.demands.proofs.OwnWords.{alike1, alike2, starts_alike, hearings_alike}

-- ---- in a run: a host stands where the joint walk does

module _ (S : Stage) (n : ℕ) (h : Triple → Pair) (s : State) (halts : Halted (position S n).rest)
    (is : s ≡ state_of (through h (position S n))) where
  stands_there : Orderly S.script → Remembers S.script s
  stands_there fine =
      let p = front (act S.A S.B) (all S) (j₀ S) n in
      remembers S.script fine p.0 (position S n).rest p.1 halts s
      (ap (λ (x : State). x.order) is ∙ ap (λ (c : Cursor). c.order) p.2)
      (ap (λ (x : State). x.turn) is ∙ ap (λ (c : Cursor). c.turn) p.2)
      (ap (λ (x : State). x.stored) is ∙ ap (stored_at (position S n).rest) p.2)

  -- what `seek` finds at its place has these counts
  walked_here : s.stored ≡ walked_to (seek s.order s.turn (all S) origin)
  unfolding walked_to
  walked_here = rw is (sym (ap walked_to (seek_pos (act S.A S.B) (all S) (j₀ S) n halts)))

-- ---- the numbers of a hearing with the walk's places

place_numbers : (f : Found) → place_fault f ≢ 18
unfolding place_fault
place_numbers nowhere e = omega arith
place_numbers (found [] c) e = omega arith
place_numbers (found (local d m l ∷ ss) c) e = omega arith
place_numbers (found (deal d f ∷ ss) c) e = omega arith
place_numbers (found (exchange d x ∷ ss) c) e = omega arith
place_numbers (found (end ∷ ss) c) e = omega arith

own_or : (m i n : ℕ) → n ≢ 18 → (or_else (m, i) n).0 ≡ 18 → m ≡ 18
unfolding or_else
own_or zero i n h e = absurd (h e)
own_or (suc m) i n h e = rw (eqb-suc-zero m) at e

list_numbers : (a b c d : Bool) → ◌≡◌ {A = ℕ} (cond a (cond b 6 0) (cond c 6 (cond d 7 0))) 18 → ⊥
list_numbers true true c d e = omega arith
list_numbers true false c d e = omega arith
list_numbers false b true d e = omega arith
list_numbers false b false true e = omega arith
list_numbers false b false false e = omega arith

lent_18 : (loan : Lent) → (lent_fault loan).0 ≡ 18 → loan.script.fault.0 ≡ 18
unfolding lent_fault lists_fault
lent_18 loan e = go (eqb loan.host 1 || eqb loan.host 2) e
  where
    k : Cost
    k = script_cost loan.script

    lists : lists_fault k loan ≢ 18
    lists z =
        list_numbers (eqb loan.host 1) (short_a k loan.masks) (short_b k loan.masks) (short_deals k loan.deals) z

    go : (b : Bool) → (cond {A = Fault} b (or_else loan.script.fault (lists_fault (script_cost loan.script) loan)) (1, 0)).0 ≡ 18
        → loan.script.fault.0 ≡ 18
    go true e = own_or loan.script.fault.0 loan.script.fault.1 (lists_fault (script_cost loan.script) loan) lists e
    go false e = absurd (omega arith)

unless_18 : (n : ℕ) (f : Fault) (s : State) (a : Answer) → f.0 ≡ n → a.number ≢ 18 → (unless n f s a).number ≡ 18 → f.0 ≡ 18
unfolding unless
unless_18 zero f s a e h z = absurd (h z)
unless_18 (suc n) f s a e h z = z

pub own_18 : (loan : Lent) (s : State) (v : ℕ) → s.stored ≡ walked_to (found_of loan s) → (hear loan s v).number ≡ 18
    → loan.script.fault.0 ≡ 18
unfolding hear
own_18 loan s v e z =
    let f = found_of loan s in
    lent_18 loan
    (unless_18 (lent_fault loan).0 (lent_fault loan) s (resume (worker_of loan) s v f) refl
    (λ q. place_numbers f (sym (resume_is (worker_of loan) s v f ∙ judged_equal s.stored f e) ∙ q)) z)

-- a job's own conditions are 2 to 5
meets_few : {w : ℕ} {table : List ℕ} {o : Order} {n : ℕ} → Meets w table o n → n ≢ 18
meets_few (kind_above h) e = omega arith
meets_few (target_above h) e = omega arith
meets_few (source_above h) e = omega arith
meets_few (second_above k h) e = omega arith
meets_few (refresh_not_0 k h) e = omega arith
meets_few (relu_not_0 k h) e = omega arith
meets_few (slack_shift k h) e = omega arith
meets_few (one_bit_shift k h) e = omega arith
meets_few (exact_shift k h) e = omega arith
meets_few (curve_mode k h) e = omega arith
meets_few (curve_table k h) e = omega arith

job_few : {w : ℕ} {job table : List ℕ} {n i : ℕ} → Numbered w job table n i → n ≢ 18
job_few (faultless z f) e = omega arith
job_few (sizeless z) e = omega arith
job_few (faulty z f) e = meets_few f.here e

job_never : (w : ℕ) (S : Setting) → (staged w S).script.fault.0 ≢ 18
job_never w S e = job_few ((job_number w S.job S.table _ _).0 refl) e

-- ---- host by host

module _ (S : Stage) where
  at_1 : {z : Dealer} {buf : List ℕ} {s : State} {t : List Pair} {said : List Spoken} {two : Side} → Ok S (world z buf (going s t said) two)
      → Tied S.A S.B (all S) (j₀ S) of1 (joint1 S.A S.B) s t said
  at_1 (ok z (go1 X) two a) = X

  at_2 : {z : Dealer} {buf : List ℕ} {s : State} {t : List Pair} {said : List Spoken} {one : Side} → Ok S (world z buf one (going s t said))
      → Tied S.A S.B (all S) (j₀ S) of2 (joint2 S.A S.B) s t said
  at_2 (ok z one (go2 Y) a) = Y

  module _ (cs : List Call) (z : Dealer) (buf : List ℕ) (s : State) (t : List Pair) (said : List Spoken) where
    module _ (two : Side) (r : Run S cs (world z buf (going s t said) two)) where
      host1 : Orderly S.script → Remembers S.script s
      host1 o = let X = at_1 (kept S r) in stands_there S X.n of1 s X.halts X.is o

      pub walked1 : s.stored ≡ walked_to (seek s.order s.turn S.script.steps origin)
      walked1 = let X = at_1 (kept S r) in walked_here S X.n of1 s X.halts X.is

      own_18_1 : (h : ℕ) (M D : List ℕ) (v : ℕ) → (hear (lent h S.script M D) s v).number ≡ 18 → S.script.fault.0 ≡ 18
      unfolding found_of
      own_18_1 h M D v e = own_18 (lent h S.script M D) s v walked1 e

    module _ (one : Side) (r : Run S cs (world z buf one (going s t said))) where
      host2 : Orderly S.script → Remembers S.script s
      host2 o = let Y = at_2 (kept S r) in stands_there S Y.n of2 s Y.halts Y.is o

      pub walked2 : s.stored ≡ walked_to (seek s.order s.turn S.script.steps origin)
      walked2 = let Y = at_2 (kept S r) in walked_here S Y.n of2 s Y.halts Y.is

      own_18_2 : (h : ℕ) (M D : List ℕ) (v : ℕ) → (hear (lent h S.script M D) s v).number ≡ 18 → S.script.fault.0 ≡ 18
      unfolding found_of
      own_18_2 h M D v e = own_18 (lent h S.script M D) s v walked2 e

-- ---- the words spoken

spoken_is : (ss : List Step) (c : Cursor) → spoken_at ss c ≡ (stored_at ss c).b
unfolding spoken_at stored_at past
spoken_is [] c = refl
spoken_is (local d m l ∷ ss) c = refl
spoken_is (deal d f ∷ ss) c = refl
spoken_is (exchange d e ∷ ss) c = refl
spoken_is (end ∷ ss) c = refl

reported_spoken : (loan : Lent) (p : Conf Pair) → (report (worker_of loan) p).spoken ≡ (report (worker_of loan) p).state.stored.b
reported_spoken loan p = spoken_is p.rest p.cur

pub remembered_places : RememberedPlaces
unfolding worker_with
remembered_places =
    record {
      host1 = λ S o cs z buf s t said two r. host1 S cs z buf s t said two r o;
      host2 = λ S o cs z buf one s t said r. host2 S cs z buf s t said one r o;
      never_18_1 = λ w S cs z buf s t said two r h M D v e. job_never w S (own_18_1 (staged w S) cs z buf s t said two r h M D v e);
      never_18_2 = λ w S cs z buf one s t said r h M D v e. job_never w S (own_18_2 (staged w S) cs z buf s t said one r h M D v e);
      own_18_1 = λ S cs z buf s t said two r h M D v e. own_18_1 S cs z buf s t said two r h M D v e;
      own_18_2 = λ S cs z buf one s t said r h M D v e. own_18_2 S cs z buf s t said one r h M D v e;
      started = λ loan o r z. start_remembers loan o r z;
      heard = λ loan o s v z. hear_ran loan o s v z;
      starting1 = λ σ A A' D D' r z z' n. starts_alike 1 σ A A' D D' _ (alike1 A A') r z z' n;
      starting2 = λ σ B B' D D' r z z' b n. starts_alike 2 σ B B' D D' _ (alike2 B B' D D') r z z' (b, n);
      hearing1 = λ σ A A' D D' s v z z' l n. hearings_alike 1 σ A A' D D' _ (alike1 A A') s v z l n z';
      hearing2 = λ σ B B' D D' s v z z' l b n. hearings_alike 2 σ B B' D D' _ (alike2 B B' D D') s v z l (b, n) z';
      later = λ S fine A' B' la lb cs z buf s s2 t t2 said said2 r u u2 f f2 one two E h1 h2 g1 g2 more v C.
          later S fine A' B' la lb buf s s2 t t2 said said2 u u2 f f2 one two E h1 h2 g1 g2 cs more v z r C;
      spoken_start = λ loan r z. rw (start_none loan r z).1 (reported_spoken loan (start_walk loan r));
      spoken_hear = λ loan s v z. rw (resumed loan s v z) (reported_spoken loan (hear_walk (worker_of loan) s v (found_of loan s)));
    }
