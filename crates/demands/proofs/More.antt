-- A call on a job, and the same call on the job with more orders behind it, on each host. Assumes nothing.
use mathlib.Core.Path.{◌≡◌, refl, sym, ap, ◌∙◌, subst}
use mathlib.Core.List.{List, [], ◌∷◌, ◌++◌, map, map-append, append-nil, append_assoc}
use Prim.Native.Nat.{ℕ, ◌+◌, ◌≤◌, ◌<◌}
use native.Mathlib.Nat.{add-zero}
use native.Mathlib.Omega.{arith}
use lib.ListN.{length}
use lib.Seq.{get_or-take}
use Rattle.tables.specs.Table.{rows}
use Rattle.gates.specs.Steps.{at, Step, local, deal, exchange, end, Cursor, origin, past}
use Rattle.gates.specs.Meaning.{job_steps}
use Rattle.gates.specs.Walk.{Conf, walk, whole, far}
use Rattle.gates.specs.Hosts.{Pair, act0}
use Rattle.gates.proofs.Needs.{whole_append}
use Rattle.programs.specs.declared.Order.{Order}
use Rattle.programs.specs.Orders.{program}
use Rattle.jobs.specs.Job.{orders, job_fault, job_gates, steps_of}
use Rattle.jobs.proofs.Additions.{orders_append, in_fours}
use Rattle.calls.specs.Scripts.{Script, job_script, ends, Closed}
use Rattle.calls.specs.Lent.{Worker, worker_with, lent}
use Rattle.calls.specs.Calls.{State, Answer, Prepared, fresh2, word_at, spoken_at, stored_at, report, start_walk, start, hear, prepare_walk, prepare}
use Rattle.calls.proofs.Faults.{no_fault, no_dealer_fault}
use Rattle.walks.proofs.Gates.{programs_append}
use Rattle.runs.proofs.Chain.{job_orders, job_closed}
use Rattle.runs.proofs.Refusals.{start_none, hear_none}
use Rattle.demands.specs.Completed.{Located}
use Rattle.demands.specs.Additions.{Leaves, Keeps, lanes}
use Rattle.demands.proofs.Completed.{prepare_none, heard, standing_at}
use Rattle.demands.proofs.Passed.{dealer_keeps, walk_keeps, last, free}

-- the steps behind others: each stands in an order, and those that end there are the rest
pub closed_behind : (pre ss : List Step) → Closed (pre ++ ss) → Closed ss
closed_behind [] ss c = c
closed_behind (x ∷ pre) ss c = closed_behind pre ss c.1

ends_behind : (pre ss : List Step) (c : Cursor) → ends ss + (far pre c).order ≡ ends (pre ++ ss) + c.order
unfolding ends far past
ends_behind [] ss c = refl
ends_behind (local d m l ∷ pre) ss c = ends_behind pre ss (past (local d m l) c)
ends_behind (deal d f ∷ pre) ss c = ends_behind pre ss (past (deal d f) c)
ends_behind (exchange d e ∷ pre) ss c = ends_behind pre ss (past (exchange d e) c)
ends_behind (end ∷ pre) ss c = omega (arith, ends_behind pre ss (past end c))

-- ---- the walk of host 1 or 2

module _ (h : ℕ) (M D : List ℕ) where
  abbrev P : Worker
  P = worker_with h M D

  -- it halts at p among some steps, behind which order n comes, and at p' with the steps ts behind them
  pub record Continues (n : ℕ) (ts : List Step) (p p' : Conf Pair) : Type 0 where
    pub within : p.cur.order ≤ n
    pub before : p.cur.order < n → report P p' ≡ report P p
    pub over : p.cur.order ≡ n → p.rest ≡ []
    pub after : p.cur.order ≡ n → p' ≡ walk P.act ts p.cur p.state p.trail

  continues : (ss ts : List Step) (c : Cursor) (s : Pair) (t : List Pair) (n : ℕ) → Closed ss → ends ss + c.order ≡ n
      → Continues n ts (walk P.act ss c s t) (walk P.act (ss ++ ts) c s t)
  unfolding walk past ends word_at spoken_at stored_at
  continues [] ts c s t n cl e =
      record { within = omega arith; before = λ l. absurd (omega arith); over = λ q. refl; after = λ q. refl }
  continues (local d m l ∷ ss) ts c s t n cl e = continues ss ts c (P.act (local d m l) c s) t n cl.1 e
  continues (deal d f ∷ ss) ts c s t n cl e = continues ss ts (past (deal d f) c) (P.act (deal d f) c s) t n cl.1 e
  continues (exchange d x ∷ ss) ts c s t n cl e =
      record {
        within = omega arith;
        before = λ l. refl;
        over = λ q. absurd (omega (arith, cl.0));
        after = λ q. absurd (omega (arith, cl.0));
      }
  continues (end ∷ ss) ts c s t n cl e = continues ss ts (past end c) (P.act end c s) (t ++ (s ∷ [])) n cl.1 (omega arith)

  -- the two answers
  pub record Both (n : ℕ) (ts : List Step) (r r' : Answer) : Type 0 where
    pub p : Conf Pair
    pub p' : Conf Pair
    pub is : r ≡ report P p
    pub is' : r' ≡ report P p'
    pub goes : Continues n ts p p'

module _ (w : ℕ) (job more table : List ℕ) where
  abbrev σ₁ : Script
  σ₁ = job_script w job table

  abbrev σ₂ : Script
  σ₂ = job_script w (job ++ more) table

  abbrev ss : List Step
  ss = steps_of w job table

  -- the steps of the orders behind
  abbrev pub steps_more : List Step
  steps_more = job_steps w (map (program w (rows table)) (orders more))

  pub steps_both : (job_fault w job table).0 ≡ 0 → steps_of w (job ++ more) table ≡ ss ++ steps_more
  unfolding steps_of job_gates
  steps_both e =
      ap (λ (os : List Order). job_steps w (map (program w (rows table)) os)) (orders_append job more (in_fours w job table e))
      ∙ ap (job_steps w) (map-append (program w (rows table)) (orders job) (orders more))
      ∙ programs_append w (job_gates w job table) (map (program w (rows table)) (orders more))

  -- they begin with the order behind the job's last
  behind_job : (far ss origin).order ≡ length (orders job)
  unfolding ends
  behind_job =
      omega (arith, ends_behind ss [] origin, ap ends (append-nil ss), job_orders w job table)

  -- ---- hosts 1 and 2

  module _ (h : ℕ) (M D : List ℕ) where
    pub start_both : (r : Pair) → (start (lent h σ₁ M D) r).number ≡ 0 → (start (lent h σ₂ M D) r).number ≡ 0
        → Both h M D (length (orders job)) steps_more (start (lent h σ₁ M D) r) (start (lent h σ₂ M D) r)
    unfolding start_walk
    start_both r z z' =
        let q = start_none (lent h σ₁ M D) r z in
        let W : Worker = worker_with h M D in
        record {
          p = walk W.act ss origin (fresh2 r) [];
          p' = walk W.act (ss ++ steps_more) origin (fresh2 r) [];
          is = q.1;
          is' =
              (start_none (lent h σ₂ M D) r z').1
              ∙ ap (λ (ts : List Step). report W (walk W.act ts origin (fresh2 r) [])) (steps_both (no_fault h σ₁ M D q.0));
          goes =
              continues h M D ss steps_more origin (fresh2 r) [] (length (orders job)) (job_closed w job table)
              (add-zero (ends ss) ∙ job_orders w job table);
        }

    pub hear_both : (s : State) (v : ℕ) → (hear (lent h σ₁ M D) s v).number ≡ 0 → (hear (lent h σ₂ M D) s v).number ≡ 0
        → Both h M D (length (orders job)) steps_more (hear (lent h σ₁ M D) s v) (hear (lent h σ₂ M D) s v)
    unfolding ends past
    hear_both s v z z' = go (standing_at (lent h σ₁ M D) s v z)
      where
        -- from the product or refresh where the hearing stands
        go : Located ss origin s.order s.turn
            → Both h M D (length (orders job)) steps_more (hear (lent h σ₁ M D) s v) (hear (lent h σ₂ M D) s v)
        go y =
            let W : Worker = worker_with h M D in
            let x : Step = exchange y.target y.gate in
            let c : Cursor = far y.before origin in
            let l : Pair = W.hear y.target y.gate c (s.m, s.mask) v in
            let still =
            steps_both (no_fault h σ₁ M D (hear_none (lent h σ₁ M D) s v z).0)
            ∙ ap (λ (ts : List Step). ts ++ steps_more) y.is
            ∙ append_assoc y.before (x ∷ y.behind) steps_more in
            record {
              p = walk W.act y.behind (past x c) l [];
              p' = walk W.act (y.behind ++ steps_more) (past x c) l [];
              is = heard (lent h σ₁ M D) s v y.before y.behind y.target y.gate y.is (sym y.order) (sym y.turn) z;
              is' =
                  heard (lent h σ₂ M D) s v y.before (y.behind ++ steps_more) y.target y.gate still (sym y.order)
                  (sym y.turn) z';
              goes =
                  continues h M D y.behind steps_more (past x c) l [] (length (orders job))
                  (closed_behind y.before (x ∷ y.behind) (subst Closed y.is (job_closed w job table))).1
                  (ends_behind y.before (x ∷ y.behind) origin
                  ∙ ap (λ (ts : List Step). ends ts + 0) (sym y.is) ∙ add-zero (ends ss) ∙ job_orders w job table);
            }

    -- where the first comes to its job's end
    kept_on : (job_fault w job table).0 ≡ 0 → (r r' : Answer) → Both h M D (length (orders job)) steps_more r r'
        → r.state.order ≡ length (orders job) → (i : ℕ) → Leaves (job ++ more) (length (orders job)) r'.state.order i
        → Keeps (lanes r.state) (lanes r'.state) i
    kept_on sound r r' b e i u =
        let n : ℕ = length (orders job) in
        let W : Worker = worker_with h M D in
        let p : Conf Pair = b.p in
        let o : p.cur.order ≡ n = sym (ap (λ (a : Answer). a.state.order) b.is) ∙ e in
        let z : b.p' ≡ walk W.act steps_more p.cur p.state p.trail = b.goes.after o in
        let g : r'.state.order ≡ (walk W.act steps_more p.cur p.state p.trail).cur.order =
        ap (λ (a : Answer). a.state.order) b.is' ∙ ap (λ (x : Conf Pair). x.cur.order) z in
        let k =
        walk_keeps h M D i steps_more p.cur p.state p.trail
        (λ q l. free w (job ++ more) table i ss steps_more n (steps_both sound) behind_job q
        (λ x. u.plain x (n + q) (omega arith) (omega (arith, l, o, g)))
        (λ m. u.target (n + q) (omega arith) (omega (arith, l, o, g))))
        (λ q l. last w (job ++ more) table i ss steps_more n (steps_both sound) behind_job q
        (λ x. u.plain x (n + q) (omega arith) (omega (arith, l, o, g)))) in (
          ap (λ (a : Answer). at a.state.m i) b.is' ∙ ap (λ (x : Conf Pair). at x.state.0 i) z ∙ k.0
              ∙ sym (ap (λ (a : Answer). at a.state.m i) b.is),
          ap (λ (a : Answer). at a.state.mask i) b.is' ∙ ap (λ (x : Conf Pair). at x.state.1 i) z ∙ k.1
              ∙ sym (ap (λ (a : Answer). at a.state.mask i) b.is),
        )

    pub start_more : (r : Pair) → (start (lent h σ₁ M D) r).number ≡ 0 → (start (lent h σ₂ M D) r).number ≡ 0
        → (start (lent h σ₁ M D) r).state.order ≡ length (orders job) → (i : ℕ)
        → Leaves (job ++ more) (length (orders job)) (start (lent h σ₂ M D) r).state.order i
        → Keeps (lanes (start (lent h σ₁ M D) r).state) (lanes (start (lent h σ₂ M D) r).state) i
    start_more r z z' e i u = kept_on (no_fault h σ₁ M D (start_none (lent h σ₁ M D) r z).0) _ _ (start_both r z z') e i u

    pub hear_more : (s : State) (v : ℕ) → (hear (lent h σ₁ M D) s v).number ≡ 0 → (hear (lent h σ₂ M D) s v).number ≡ 0
        → (hear (lent h σ₁ M D) s v).state.order ≡ length (orders job) → (i : ℕ)
        → Leaves (job ++ more) (length (orders job)) (hear (lent h σ₂ M D) s v).state.order i
        → Keeps (lanes (hear (lent h σ₁ M D) s v).state) (lanes (hear (lent h σ₂ M D) s v).state) i
    hear_more s v z z' e i u = kept_on (no_fault h σ₁ M D (hear_none (lent h σ₁ M D) s v z).0) _ _ (hear_both s v z z') e i u

  -- ---- host 0

  pub prepare_more : (A B buf : List ℕ) (r : Pair) → (prepare σ₁ A B buf r).number ≡ 0 → (prepare σ₂ A B buf r).number ≡ 0 → (i : ℕ)
      → i < 16 → Leaves (job ++ more) (length (orders job)) (length (orders (job ++ more))) i
      → Keeps (prepare σ₁ A B buf r).masks (prepare σ₂ A B buf r).masks i
  unfolding prepare_walk
  prepare_more A B buf r z z' i reg u =
      let n : ℕ = length (orders job) in
      let q = prepare_none σ₁ A B buf r z in
      let q' = prepare_none σ₂ A B buf r z' in
      let sound = no_dealer_fault σ₁ A B buf q.0 in
      let p : Conf Pair = whole (act0 A B) ss origin (fresh2 r) [] in
      let s' : Pair = (prepare_walk σ₂ A B r).state in
      let e : s' ≡ (whole (act0 A B) steps_more p.cur p.state p.trail).state =
      ap (λ (ts : List Step). (whole (act0 A B) ts origin (fresh2 r) []).state) (steps_both sound)
      ∙ ap (λ (x : Conf Pair). x.state) (whole_append (act0 A B) ss steps_more origin (fresh2 r) []) in
      let k =
      dealer_keeps A B i steps_more p.cur p.state p.trail
      (λ t. free w (job ++ more) table i ss steps_more n (steps_both sound) behind_job t (λ x. absurd (omega (arith, x, reg)))
      (λ m. u.target (n + t) (omega arith) m)) in (
        ap (λ (x : Prepared). at x.masks.0 i) q'.1 ∙ get_or-take 16 s'.0 i 0 reg ∙ ap (λ (x : Pair). at x.0 i) e ∙ k.0
            ∙ sym (ap (λ (x : Prepared). at x.masks.0 i) q.1 ∙ get_or-take 16 p.state.0 i 0 reg),
        ap (λ (x : Prepared). at x.masks.1 i) q'.1 ∙ get_or-take 16 s'.1 i 0 reg ∙ ap (λ (x : Pair). at x.1 i) e ∙ k.1
            ∙ sym (ap (λ (x : Prepared). at x.masks.1 i) q.1 ∙ get_or-take 16 p.state.1 i 0 reg),
      )
