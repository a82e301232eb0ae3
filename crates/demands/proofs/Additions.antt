-- Additions and subtractions write their target alone, on each host, of what the calls return. Assumes nothing.
use mathlib.Core.Path.{◌≡◌, refl, sym, ap, ◌∙◌, subst}
use mathlib.Core.List.{List, [], ◌∷◌, ◌++◌, append-nil}
use Prim.Native.Nat.{ℕ, suc, ◌≤◌, ◌<◌}
use native.Mathlib.Decide.{dec_le}
use native.Mathlib.Nat.{add-zero}
use native.Mathlib.Omega.{arith}
use lib.ListN.{length, take, drop, length-append, get_or-eq_default}
use lib.Seq.{get_or-append_seam}
use Rattle.tables.specs.Table.{rows, keeps_rules}
use Rattle.gates.specs.Steps.{Lane, at, Step, origin, past}
use Rattle.gates.specs.Meaning.{job_steps}
use Rattle.gates.specs.Walk.{Conf, conf, walk, whole}
use Rattle.gates.specs.Hosts.{Pair, act0, dealt, deals}
use Rattle.gates.proofs.Needs.{whole_append}
use Rattle.programs.specs.declared.Order.{Order}
use Rattle.jobs.specs.Job.{orders, job_fault, job_gates, steps_of}
use Rattle.jobs.specs.FirstFault.{order}
use Rattle.jobs.specs.Additions.{Additive, added_word, added, added2, added_all}
use Rattle.jobs.proofs.Accepted.{Good, accepted_orders}
use Rattle.jobs.proofs.Additions.{additive_steps, others_kept, target_written, registers_added, orders_append, in_fours}
use Rattle.calls.specs.Scripts.{Script, job_script}
use Rattle.calls.specs.Lent.{Worker, worker_with, lent, lent_fault}
use Rattle.calls.specs.Calls.{stored_places, Answer, fresh2, word_at, spoken_at, counted_to, stored_at, report, start_walk, start}
use Rattle.calls.specs.Calls.{script_deals, prepare_walk, prepare}
use Rattle.calls.proofs.Faults.{no_fault, no_dealer_fault}
use Rattle.walks.specs.Halts.{going_on, reported}
use Rattle.walks.proofs.Alike.{acts_each}
use Rattle.walks.proofs.Preparing.{deals_append}
use Rattle.runs.proofs.Refusals.{start_none, hear_none}
use Rattle.demands.specs.Additions.{AllAdditive, Leaves, with_order, and_then, and_prepared, Further, Additions}
use Rattle.demands.proofs.Completed.{prepare_none}
use Rattle.demands.proofs.Passed.{masks_kept, registers_kept, state_kept}
use Rattle.demands.proofs.More.{Both, steps_more, steps_both, start_both, hear_both, start_more, hear_more, prepare_more}
use Rattle.demands.proofs.Between.{between1, between2}
use Rattle.demands.proofs.Adding.{adding, worker_adds, dealer_adds}

-- ---- a job of such orders

module _ (w : ℕ) (job table : List ℕ) (all : AllAdditive (orders job)) where
  abbrev σ : Script
  σ = job_script w job table

  -- what such a job leaves on a host's lanes
  abbrev left : Pair → Pair
  left r = added_all w (orders job) (fresh2 r)

  module _ (A B buf : List ℕ) (r : Pair) (z : (prepare σ A B buf r).number ≡ 0) where
    preparation : prepare σ A B buf r
        ≡ record { number = 0; index = 0; deals = 0; masks = (take 16 (left r).0, take 16 (left r).1); buffer = buf }
    unfolding script_deals prepare_walk steps_of job_gates
    preparation =
        let p = dealer_adds w (rows table) A B (orders job) all origin (fresh2 r) [] in
        (prepare_none σ A B buf r z).1
        ∙ λ i.
        record {
          number = 0;
          index = 0;
          deals = length (p.1 i);
          masks = (take 16 (p.0 i).0, take 16 (p.0 i).1);
          buffer = p.1 i ++ drop (length (p.1 i)) buf;
        }

  module _ (h : ℕ) (M D : List ℕ) (r : Pair) (z : (start (lent h σ M D) r).number ≡ 0) where
    at_start : start (lent h σ M D) r ≡ going_on 0 0 (left r).0 (left r).1 (length (orders job)) 0 (stored_places 0 0 0)
    unfolding start_walk reported steps_of job_gates
    at_start =
        (start_none (lent h σ M D) r z).1
        ∙ worker_adds w (rows table) h M D (orders job) all origin (fresh2 r) refl
        ∙ ap (λ (n : ℕ). going_on 0 0 (left r).0 (left r).1 n 0 (stored_places 0 0 0)) (add-zero (length (orders job)))

    -- a kept word is no accepted order's target
    leaves_kept : (i : ℕ) → 16 ≤ i → Leaves job 0 (start (lent h σ M D) r).state.order i
    leaves_kept i l =
        record {
          target = λ q _ m e.
              let f = no_fault h σ M D (start_none (lent h σ M D) r z).0 in
              let k : q < length (orders job) = omega (arith, m, ap (λ (a : Answer). a.state.order) at_start) in
              omega (arith, l, e, (accepted_orders w job table f q k (record { kind = 0; target = 0; source = 0; fourth = 0 })).target);
          plain = λ _ q _ _. go q (dec_le (suc q) (length (orders job)));
        }
      where
        go : (q : ℕ) → Dec (q < length (orders job)) → (order (orders job) q).kind < 6
        go q (yes k) = omega (arith, all q k)
        go q (no k) =
            let d : Order = record { kind = 0; target = 0; source = 0; fourth = 0 } in
            rw (get_or-eq_default (orders job) d {n = q} (omega arith)) (omega arith)

    words_kept : length r.0 ≡ 16 → length r.1 ≡ 16 → (i : ℕ) → 16 ≤ i
        → (at (start (lent h σ M D) r).state.m i ≡ 0) × (at (start (lent h σ M D) r).state.mask i ≡ 0)
    words_kept m0 m1 i l =
        let k = registers_kept w job table h M D r i (leaves_kept i l) in (
          k.0 ∙ get_or-eq_default r.0 0 {n = i} (omega arith),
          k.1 ∙ get_or-eq_default r.1 0 {n = i} (omega arith),
        )

-- ---- one such order behind a job

module _ (w : ℕ) (job table : List ℕ) (o : Order) (a : Additive o) where
  abbrev word4 : List ℕ
  word4 = o.kind ∷ o.target ∷ o.source ∷ o.fourth ∷ []

  abbrev σ₁ : Script
  σ₁ = job_script w job table

  abbrev σ₂ : Script
  σ₂ = job_script w (with_order job o) table

  -- its steps
  one_more : steps_more w job word4 table ≡ adding w o []
  unfolding orders job_steps
  one_more = additive_steps w (rows table) o a []

  module _ (sound : (job_fault w job table).0 ≡ 0) (fine : (job_fault w (with_order job o) table).0 ≡ 0) where
    -- the order is accepted
    order_good : Good w (keeps_rules table) o
    unfolding orders
    order_good =
        let e : orders (with_order job o) ≡ orders job ++ (o ∷ []) = orders_append job _ (in_fours w job table sound) in
        let n : length (orders job) < length (orders (with_order job o)) =
        rw e (omega (arith, length-append (orders job) (o ∷ []))) in
        subst (λ (x : Order). Good w (keeps_rules table) x)
        (ap (λ (os : List Order). order os (length (orders job))) e ∙ get_or-append_seam (orders job) o [] _)
        (accepted_orders w (with_order job o) table fine (length (orders job)) n _)

    -- ---- hosts 1 and 2

    module _ (h : ℕ) (M D : List ℕ) where
      abbrev P : Worker
      P = worker_with h M D

      -- where the first of two answers comes to the job's end
      at_end : (p : Conf Pair) → p.rest ≡ []
          → report P (walk P.act (adding w o []) p.cur p.state p.trail) ≡ and_then w o (report P p)
      unfolding walk past word_at spoken_at stored_at
      at_end p e =
          ap (λ (z : Pair). going_on p.cur.b 0 z.0 z.1 (suc p.cur.order) 0 (counted_to p.cur))
          (acts_each h M D o.target (added_word w o) p.cur p.state)
          ∙ ap (λ (ts : List Step). and_then w o (report P (conf ts p.cur p.state p.trail))) (sym e)

      further : {r r' : Answer} → Both h M D (length (orders job)) (steps_more w job word4 table) r r'
          → Further w o (length (orders job)) r r'
      further b =
          let n : ℕ = length (orders job) in
          let e = ap (λ (x : Answer). x.state.order) b.is in
          record {
            register = order_good.target;
            within = omega (arith, e, b.goes.within);
            before = λ l. b.is' ∙ b.goes.before (omega (arith, e, l)) ∙ sym b.is;
            at_end = λ q.
                let c : b.p.cur.order ≡ n = sym e ∙ q in
                b.is'
                ∙ ap (report P) (b.goes.after c)
                ∙ ap (λ (ts : List Step). report P (walk P.act ts b.p.cur b.p.state b.p.trail)) one_more
                ∙ at_end b.p (b.goes.over c)
                ∙ ap (and_then w o) (sym b.is);
          }

  -- ---- host 0

  module _ (A B buf : List ℕ) (r : Pair) (z : (prepare σ₁ A B buf r).number ≡ 0) (z' : (prepare σ₂ A B buf r).number ≡ 0) where
    abbrev ss : List Step
    ss = steps_of w job table

    sound : (job_fault w job table).0 ≡ 0
    sound = no_dealer_fault σ₁ A B buf (prepare_none σ₁ A B buf r z).0

    steps₂ : σ₂.steps ≡ ss ++ adding w o []
    steps₂ = steps_both w job word4 table sound ∙ ap (λ (ts : List Step). ss ++ ts) one_more

    deals_same : script_deals σ₂ A B r ≡ script_deals σ₁ A B r
    unfolding script_deals deals dealt
    deals_same =
        ap (λ (ts : List Step). deals A B ts origin (fresh2 r)) steps₂
        ∙ deals_append A B ss (adding w o []) origin (fresh2 r) []
        ∙ append-nil (deals A B ss origin (fresh2 r))

    masks_added : (prepare_walk σ₂ A B r).state ≡ added2 w o (prepare_walk σ₁ A B r).state
    unfolding prepare_walk whole act0
    masks_added =
        ap (λ (ts : List Step). (whole (act0 A B) ts origin (fresh2 r) []).state) steps₂
        ∙ ap (λ (p : Conf Pair). p.state) (whole_append (act0 A B) ss (adding w o []) origin (fresh2 r) [])

    register_lane : (l : Lane) → take 16 (added w o l) ≡ added w o (take 16 l)
    register_lane =
        registers_added w (keeps_rules table) o a
        (order_good sound (no_dealer_fault σ₂ A B buf (prepare_none σ₂ A B buf r z').0))

    prepare_further : prepare σ₂ A B buf r ≡ and_prepared w o (prepare σ₁ A B buf r)
    prepare_further =
        let s : Pair = (prepare_walk σ₁ A B r).state in
        let m0 = ap (λ (p : Pair). take 16 p.0) masks_added ∙ register_lane s.0 in
        let m1 = ap (λ (p : Pair). take 16 p.1) masks_added ∙ register_lane s.1 in
        let e = deals_same in
        (prepare_none σ₂ A B buf r z').1
        ∙ (λ i.
        record {
          number = 0;
          index = 0;
          deals = length (e i);
          masks = (m0 i, m1 i);
          buffer = e i ++ drop (length (e i)) buf;
        })
        ∙ ap (and_prepared w o) (sym (prepare_none σ₁ A B buf r z).1)

accepted : (w h : ℕ) (job table M D : List ℕ) → (lent_fault (lent h (job_script w job table) M D)).0 ≡ 0 → (job_fault w job table).0 ≡ 0
accepted w h job table M D e = no_fault h (job_script w job table) M D e

pub additions : (w : ℕ) → Additions w
additions w =
    record {
      preparing = λ job table A B buf r o a z z'. prepare_further w job table o a A B buf r z z';
      starting = λ h job table M D r o a z z'.
          further w job table o a (accepted w h job table M D (start_none _ r z).0) (accepted w h _ table M D (start_none _ r z').0) h M D
          (start_both w job _ table h M D r z z');
      hearing = λ h job table M D s v o a z z'.
          further w job table o a (accepted w h job table M D (hear_none _ s v z).0) (accepted w h _ table M D (hear_none _ s v z').0) h M D
          (hear_both w job _ table h M D s v z z');
      others = others_kept w;
      target = target_written w;
      preparing_more = λ job more table A B buf r z z' i l u. prepare_more w job more table A B buf r z z' i l u;
      starting_more = λ h job more table M D r z z' e i u. start_more w job more table h M D r z z' e i u;
      hearing_more = λ h job more table M D s v z z' e i u. hear_more w job more table h M D s v z z' e i u;
      prepared = λ job table A B buf r all z. preparation w job table all A B buf r z;
      started = λ h job table M D r all z. at_start w job table all h M D r z;
      kept_words = λ h job table M D r all z. words_kept w job table all h M D r z;
      masks_kept = masks_kept w;
      registers_kept = λ h job table M D. registers_kept w job table h M D;
      state_kept = λ h job table M D. state_kept w job table h M D;
      between1 = λ S cs cs' z z' buf buf' s s' t t' said said' two two' r r' l i k u.
          between1 w S cs cs' z z' buf buf' s s' t t' said said' two two' l i k u r r';
      between2 = λ S cs cs' z z' buf buf' one one' s s' t t' said said' r r' l i k u.
          between2 w S cs cs' z z' buf buf' s s' t t' said said' one one' l i k u r r';
    }
