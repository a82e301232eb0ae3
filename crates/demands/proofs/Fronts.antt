-- An order opens what it opens where the script ends with it. Assumes nothing.
use mathlib.Core.Path.{◌≡◌, refl, sym, ap, ◌∙◌, subst}
use mathlib.Core.List.{List, [], ◌++◌, map, map-append}
use Prim.Native.Nat.{ℕ, suc, ◌*◌, ◌≤◌, ◌<◌}
use native.Mathlib.Omega.{arith}
use lib.ListN.{get_or, length, take, drop, length-take, get_or-append}
use Rattle.words.specs.Words.{numbers}
use Rattle.words.specs.Signed.{signed}
use Rattle.shares.specs.Gates.{value}
use Rattle.tables.specs.Table.{rows}
use Rattle.gates.specs.Steps.{Step, origin}
use Rattle.gates.specs.Meaning.{job_steps}
use Rattle.gates.specs.Walk.{Conf, whole}
use Rattle.gates.specs.Hosts.{Triple, act, share}
use Rattle.gates.specs.Costs.{Cost, cost, plus}
use Rattle.gates.proofs.Needs.{whole_append, cost_append}
use Rattle.walks.proofs.Gates.{programs_append}
use Rattle.programs.specs.declared.Order.{Order}
use Rattle.programs.specs.Orders.{program}
use Rattle.jobs.proofs.Indices.{Cut, cut}
use Rattle.jobs.specs.Job.{orders, job_gates, steps_of}
use Rattle.jobs.specs.FirstFault.{order, IllSized, no_words, above_256, not_by_4, Meets, Faultless}
use Rattle.jobs.proofs.FirstFault.{number_0}
use Rattle.calls.specs.Scripts.{script_cost}
use Rattle.runs.specs.Runs.{Stage, Setting, staged, World, opened_after, Accepted}
use Rattle.runs.specs.Orders.{first, trail, after_order, order_of, opens, Finishes}
use Rattle.runs.specs.Returned.{opened_now, UnwrittenFrom}
use Rattle.demands.specs.Fronts.{Front, up_to, Fronts}
use Rattle.runs.proofs.Places.{trail_grows}
use Rattle.runs.proofs.Chain.{job_orders, job_orderly}
use Rattle.runs.proofs.Unwritten.{closed_from}
use Rattle.runs.proofs.Opening.{finished_order, finished_opens}
use Rattle.runs.proofs.InJob.{in_job, good_order}
use Rattle.runs.proofs.Returned.{returned}

-- ---- any script

-- what the joint walk of the steps leaves after order q
left_after : (A B : List ℕ) → List Step → Triple → ℕ → Triple
left_after A B ss j q = get_or (whole (act A B) ss origin j []).trail q j

front_leaves : (A B : List ℕ) (pre ss : List Step) (j : Triple) (q : ℕ) → q < length (whole (act A B) pre origin j []).trail
    → left_after A B (pre ++ ss) j q ≡ left_after A B pre j q
unfolding left_after
front_leaves A B pre ss j q h =
    let p : Conf Triple = whole (act A B) pre origin j [] in
    let g = trail_grows (act A B) pre j ss p.cur p.state p.trail in
    ap (λ (t : List Triple). get_or t q j) (ap (λ (c : Conf Triple). c.trail) (whole_append (act A B) pre ss origin j []) ∙ g.1)
    ∙ get_or-append p.trail g.0 j q h

left_is : (S : Stage) (q : ℕ) → after_order S q ≡ left_after S.A S.B S.script.steps (first S) q
unfolding left_after after_order trail
left_is S q = refl

module _ (S' S : Stage) (F : Front S' S) (q : ℕ) (h : q < length (trail S')) where
  first_same : first S ≡ first S'
  first_same = rw (F.rm, F.r1, F.r2)

  after_same : after_order S q ≡ after_order S' q
  unfolding trail
  after_same =
      left_is S q
      ∙ rw (F.A, F.B, F.steps, first_same) (front_leaves S'.A S'.B S'.script.steps F.behind (first S') q h)
      ∙ sym (left_is S' q)

same : (w : ℕ) (S' S : Stage) → Front S' S → (q : ℕ) (v v' : World) → Finishes w S q v → Finishes w S' q v' → (i : ℕ)
    → opened_after w v q i ≡ opened_after w v' q i
same w S' S F q v v' G G' i =
    finished_opens S w v G.run q i G.finished
    ∙ ap {B = ℕ × _} (λ (j : Triple). (0, signed w (value (numbers w) (share j i))))
    (after_same S' S F q (finished_order S' v' G'.run q G'.finished))
    ∙ sym (finished_opens S' w v' G'.run q i G'.finished)

-- ---- a job: its orders up to order q

module _ (w : ℕ) (S : Setting) (q : ℕ) (hq : q < length (orders S.job)) where
  abbrev n : ℕ
  n = suc q * 4

  at_q : Cut S.job (suc q)
  at_q = cut S.job (suc q) hq

  steps_split : steps_of w S.job S.table ≡ steps_of w (take n S.job) S.table ++ steps_of w (drop n S.job) S.table
  unfolding steps_of job_gates
  steps_split =
      ap (λ (os : List Order). job_steps w (map (program w (rows S.table)) os)) at_q.splits
      ∙ ap (job_steps w) (map-append (program w (rows S.table)) (orders (take n S.job)) (orders (drop n S.job)))
      ∙ programs_append w _ _

  front : Front (staged w (up_to S q)) (staged w S)
  front =
      record {
        behind = steps_of w (drop n S.job) S.table;
        steps = steps_split;
        A = refl;
        B = refl;
        rm = refl;
        r1 = refl;
        r2 = refl;
      }

  -- the orders are the same
  order_same : (i : ℕ) → i < suc q → order (orders (take n S.job)) i ≡ order (orders S.job) i
  order_same i h =
      sym (ap (λ (os : List Order). order os i) at_q.splits
      ∙ get_or-append (orders (take n S.job)) (orders (drop n S.job)) _ i (omega (arith, at_q.count)))

  -- and no step comes behind order q
  none_behind : (i : ℕ) → UnwrittenFrom (staged w (up_to S q)) (suc q) i
  none_behind i p l =
      closed_from i (steps_of w (take n S.job) S.table) (job_orderly w (take n S.job) S.table).closed p
      (omega (arith, job_orders w (take n S.job) S.table, at_q.count))

  -- ---- accepted

  length_is : length (take n S.job) ≡ n
  length_is = length-take n S.job ∙ omega (arith, at_q.fits)

  well_sized : (IllSized S.job → ⊥) → IllSized (take n S.job) → ⊥
  well_sized f (no_words e) = omega (arith, length_is)
  well_sized f (above_256 h) = f (above_256 (omega (arith, h, length_is, at_q.fits)))
  well_sized f (not_by_4 h) = h (rw length_is (omega arith))

  still_faultless : Faultless w S.table (orders S.job) → Faultless w S.table (orders (take n S.job))
  still_faultless f i k h m =
      f i k (omega (arith, h, at_q.count)) (subst (λ (o : Order). Meets w S.table o k) (order_same i (omega (arith, h, at_q.count))) m)

  cost_less : ((script_cost (staged w (up_to S q)).script).a ≤ (script_cost (staged w S).script).a)
      × ((script_cost (staged w (up_to S q)).script).b ≤ (script_cost (staged w S).script).b)
      × ((script_cost (staged w (up_to S q)).script).deals ≤ (script_cost (staged w S).script).deals)
  unfolding plus
  cost_less =
      let e = ap cost steps_split ∙ cost_append (steps_of w (take n S.job) S.table) (steps_of w (drop n S.job) S.table) in (
        omega (arith, ap (λ (k : Cost). k.a) e),
        omega (arith, ap (λ (k : Cost). k.b) e),
        omega (arith, ap (λ (k : Cost). k.deals) e),
      )

  accepted : (buf : List ℕ) → Accepted (staged w S) buf → Accepted (staged w (up_to S q)) buf
  accepted buf acc =
      let p = (number_0 w S.job S.table).0 acc.script in
      record {
        script = (number_0 w (take n S.job) S.table).1 (well_sized p.0, still_faultless p.1);
        a = omega (arith, acc.a, cost_less.0);
        b = omega (arith, acc.b, cost_less.1);
        deals = omega (arith, acc.deals, cost_less.2);
      }

as_last : (w : ℕ) (S : Setting) (q : ℕ) (v v' : World) → Finishes w (staged w S) q v → Finishes w (staged w (up_to S q)) q v'
    → opens w S v q ≡ opened_now w 16 v' (order_of S q).target
as_last w S q v v' F F' =
    let hq = in_job w S q v F in
    let S' : Stage = staged w (up_to S q) in
    let t : ℕ = (order_of S q).target in
    same w S' (staged w S) (front w S q hq) q v v' F F' t
    ∙ sym ((returned w).written S' q v' F' t (good_order w S q v F).target (none_behind w S q hq t))

pub fronts : (w : ℕ) → Fronts w
fronts w = record { same = same w; as_last = as_last w; accepted = λ S q buf hq acc. accepted w S q hq buf acc }
