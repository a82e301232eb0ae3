-- A register that is the target of no order that a call passes keeps its words over the call, on each host. Assumes nothing.
use mathlib.Core.Path.{◌≡◌, refl, sym, ap, ◌∙◌, subst}
use mathlib.Core.Logic.{◌≢◌}
use mathlib.Core.Bool.{Bool, true, false, cond}
use mathlib.Core.List.{List, [], ◌∷◌, ◌++◌}
use Prim.Native.Nat.{ℕ, zero, suc, ◌+◌, ◌≤◌, ◌<◌}
use native.Mathlib.Decide.{dec_le}
use native.Mathlib.Omega.{arith}
use borrow.Author.Tests.{ne_eqb, eqb-false}
use lib.Dec.{eqb}
use lib.ListN.{get_or, length, set, replicate}
use lib.Seq.{get_or-set_other, get_or-take}
use Rattle.tables.specs.Table.{rows}
use Rattle.gates.specs.Steps.{Lane, at, Exchange, Step, local, deal, exchange, end, Cursor, origin, past}
use Rattle.gates.specs.Walk.{walk, whole, far}
use Rattle.gates.specs.Hosts.{Pair, on_m, on_mask, act0, hear1, hear2}
use Rattle.gates.proofs.GateSteps.{OfGate}
use Rattle.programs.specs.Orders.{program}
use Rattle.jobs.specs.Job.{orders, job_gates, steps_of}
use Rattle.jobs.specs.FirstFault.{order}
use Rattle.jobs.proofs.Indices.{gates_length}
use Rattle.calls.specs.Scripts.{Script, job_script}
use Rattle.calls.specs.Lent.{Lent, Worker, worker1, worker2, worker_with, lent}
use Rattle.calls.specs.Calls.{State, Answer, Prepared, fresh2, start_walk, given, start, hear, prepare_walk, prepare}
use Rattle.calls.proofs.Lists.{fresh_at}
use Rattle.walks.proofs.Workers.{acts}
use Rattle.runs.specs.Runs.{Setting}
use Rattle.runs.specs.Orders.{Unwritten, GoingOn, WrittenLast, order_of}
use Rattle.runs.proofs.Opened.{gates_is}
use Rattle.runs.proofs.Refusals.{start_none, start_state, hear_state, prepare_back}
use Rattle.runs.proofs.Unwritten.{Misses, unwritten_behind, last_behind, unwritten_gates, last_gates}
use Rattle.runs.proofs.Written.{SparesFront, spared, front_program, front_alone}
use Rattle.demands.specs.Completed.{walks_on, Located}
use Rattle.demands.specs.Additions.{Leaves, Keeps, lanes}
use Rattle.demands.proofs.Completed.{prepare_none, heard, standing_at}

-- ---- what is said of order q of some steps, said of the steps behind

-- F q ss is of order q of the steps ss, the order at hand being order 0
record Onward (F : ℕ → List Step → Type 0) : Type 0 where
  pub within : (q : ℕ) (x : Step) (ss : List Step) → OfGate x → F q (x ∷ ss) → F q ss
  pub behind : (q : ℕ) (ss : List Step) → F (suc q) (end ∷ ss) → F q ss

unwritten_on : (i : ℕ) → Onward (λ (q : ℕ) (ss : List Step). Unwritten i q ss)
unwritten_on i = record { within = unwritten_behind i; behind = λ q ss u. u }

last_on : (i : ℕ) → Onward (λ (q : ℕ) (ss : List Step). WrittenLast i q ss)
last_on i = record { within = last_behind i; behind = λ q ss u. u }

far_up : (ss : List Step) (c : Cursor) → c.order ≤ (far ss c).order
unfolding far past
far_up [] c = omega arith
far_up (local d m l ∷ ss) c = far_up ss (past (local d m l) c)
far_up (deal d f ∷ ss) c = far_up ss (past (deal d f) c)
far_up (exchange d e ∷ ss) c = far_up ss (past (exchange d e) c)
far_up (end ∷ ss) c = omega (arith, far_up ss (past end c))

module _ {F : ℕ → List Step → Type 0} (on : Onward F) where
  shifted : (pre ss : List Step) (c : Cursor) (k q : ℕ) → c.order + q ≡ (far pre c).order + k → F q (pre ++ ss) → F k ss
  unfolding far past
  shifted [] ss c k q e u = let p : q ≡ k = omega (arith, e) in subst (λ (n : ℕ). F n ss) p u
  shifted (local d m l ∷ pre) ss c k q e u = shifted pre ss _ k q e (on.within q (local d m l) (pre ++ ss) tt u)
  shifted (deal d f ∷ pre) ss c k q e u = shifted pre ss _ k q e (on.within q (deal d f) (pre ++ ss) tt u)
  shifted (exchange d x ∷ pre) ss c k q e u = shifted pre ss _ k q e (on.within q (exchange d x) (pre ++ ss) tt u)
  shifted (end ∷ pre) ss c k zero e u = absurd (omega (arith, e, far_up pre (past end c)))
  shifted (end ∷ pre) ss c k (suc q) e u = shifted pre ss (past end c) k q (omega (arith, e)) (on.behind q (pre ++ ss) u)

-- ---- one step

-- on both lanes, one after another
both : {a b c a' b' c' : ℕ} → (c ≡ b) × (c' ≡ b') → (b ≡ a) × (b' ≡ a') → (c ≡ a) × (c' ≡ a')
both k j = (k.0 ∙ j.0, k.1 ∙ j.1)

module _ (i : ℕ) where
  other : (l : Lane) (d v : ℕ) → eqb i d ≡ false → at (set l d v) i ≡ at l i
  other l d v n = get_or-set_other l d i v 0 (eqb-false i d n)

  m_keeps : (x : Step) (l : Lane) → Misses i x → at (on_m x l) i ≡ at l i
  unfolding on_m
  m_keeps (local d m f) l n = other l d _ n
  m_keeps (deal d f) l n = other l d _ n
  m_keeps (exchange d e) l n = refl
  m_keeps end l n = refl

  mask_keeps : (x : Step) (v : ℕ) (l : Lane) → Misses i x → at (on_mask x v l) i ≡ at l i
  unfolding on_mask
  mask_keeps (local d m f) v l n = other l d _ n
  mask_keeps (deal d f) v l n = other l d _ n
  mask_keeps (exchange d e) v l n = refl
  mask_keeps end v l n = refl

-- ---- host 0, over all steps

module _ (A B : List ℕ) (i : ℕ) where
  pub dealer_keeps : (ss : List Step) (c : Cursor) (s : Pair) (t : List Pair) → ((q : ℕ) → Unwritten i q ss)
      → Keeps s (whole (act0 A B) ss c s t).state i
  unfolding whole act0
  dealer_keeps [] c s t u = (refl, refl)
  dealer_keeps (local d m l ∷ ss) c s t u =
      both (dealer_keeps ss _ _ _ (λ q. unwritten_behind i q (local d m l) ss tt (u q)))
      (other i s.0 d _ (u 0).0, other i s.1 d _ (u 0).0)
  dealer_keeps (deal d f ∷ ss) c s t u =
      both (dealer_keeps ss _ _ _ (λ q. unwritten_behind i q (deal d f) ss tt (u q)))
      (other i s.0 d _ (u 0).0, other i s.1 d _ (u 0).0)
  dealer_keeps (exchange d e ∷ ss) c s t u =
      both (dealer_keeps ss _ _ _ (λ q. unwritten_behind i q (exchange d e) ss tt (u q)))
      (other i s.0 d _ (u 0).0, other i s.1 d _ (u 0).0)
  dealer_keeps (end ∷ ss) c s t u = dealer_keeps ss _ _ _ (λ q. u (suc q))

-- ---- host 1 or 2, up to where its walk halts

module _ (h : ℕ) (M D : List ℕ) (i : ℕ) where
  abbrev P : Worker
  P = worker_with h M D

  act_keeps : (x : Step) (c : Cursor) (s : Pair) → Misses i x → Keeps s (P.act x c s) i
  act_keeps x c s n =
      let e = acts h M D x c s in
      (ap (λ (p : Pair). at p.0 i) e ∙ m_keeps i x s.0 n, ap (λ (p : Pair). at p.1 i) e ∙ mask_keeps i x _ s.1 n)

  hear_keeps : (d : ℕ) (e : Exchange) (c : Cursor) (s : Pair) (v : ℕ) → eqb i d ≡ false → Keeps s (P.hear d e c s v) i
  unfolding worker_with hear1 hear2
  hear_keeps d e c s v n = go (eqb h 1)
    where
      go : (b : Bool) → Keeps s ((cond {A = Worker} b (worker1 M) (worker2 M D)).hear d e c s v) i
      go true = (other i s.0 d _ n, other i s.1 d _ n)
      go false = (other i s.0 d _ n, other i s.1 d _ n)

  -- the walk goes from order to order
  walk_up : (ss : List Step) (c : Cursor) (s : Pair) (t : List Pair) → c.order ≤ (walk P.act ss c s t).cur.order
  unfolding walk past
  walk_up [] c s t = omega arith
  walk_up (local d m l ∷ ss) c s t = walk_up ss (past (local d m l) c) _ t
  walk_up (deal d f ∷ ss) c s t = walk_up ss (past (deal d f) c) _ t
  walk_up (exchange d e ∷ ss) c s t = omega arith
  walk_up (end ∷ ss) c s t = omega (arith, walk_up ss (past end c) (P.act end c s) (t ++ (s ∷ [])))

  -- a step of the order at hand, with the steps ss behind it: the walk passes the order, or the step is not its last
  missed : (d : ℕ) (ss : List Step) (c : Cursor) (s : Pair) (t : List Pair)
      → (c.order < (walk P.act ss c s t).cur.order → eqb i d ≡ false) → GoingOn ss (eqb i d ≡ false) → eqb i d ≡ false
  unfolding walk past
  missed d [] c s t f g = g
  missed d (local d' m l ∷ ss) c s t f g = g
  missed d (deal d' x ∷ ss) c s t f g = g
  missed d (exchange d' e ∷ ss) c s t f g = g
  missed d (end ∷ ss) c s t f g = f (walk_up ss (past end c) (P.act end c s) (t ++ (s ∷ [])))

  -- no order that the walk passes writes the slot, and none but with its last step
  pub walk_keeps : (ss : List Step) (c : Cursor) (s : Pair) (t : List Pair)
      → ((q : ℕ) → c.order + q < (walk P.act ss c s t).cur.order → Unwritten i q ss)
      → ((q : ℕ) → c.order + q ≤ (walk P.act ss c s t).cur.order → WrittenLast i q ss)
      → Keeps s (walk P.act ss c s t).state i
  unfolding walk past
  walk_keeps [] c s t u f = (refl, refl)
  walk_keeps (local d m l ∷ ss) c s t u f =
      let x : Step = local d m l in
      both
      (walk_keeps ss (past x c) (P.act x c s) t (λ q n. unwritten_behind i q x ss tt (u q n)) (λ q n. last_behind i q x ss tt (f q n)))
      (act_keeps x c s
      (missed d ss (past x c) (P.act x c s) t (λ n. (u 0 (omega (arith, n))).0) (f 0 (omega (arith, walk_up ss (past x c) (P.act x c s) t))).0))
  walk_keeps (deal d g ∷ ss) c s t u f =
      let x : Step = deal d g in
      both
      (walk_keeps ss (past x c) (P.act x c s) t (λ q n. unwritten_behind i q x ss tt (u q n)) (λ q n. last_behind i q x ss tt (f q n)))
      (act_keeps x c s
      (missed d ss (past x c) (P.act x c s) t (λ n. (u 0 (omega (arith, n))).0) (f 0 (omega (arith, walk_up ss (past x c) (P.act x c s) t))).0))
  walk_keeps (exchange d e ∷ ss) c s t u f = (refl, refl)
  walk_keeps (end ∷ ss) c s t u f =
      both
      (walk_keeps ss (past end c) (P.act end c s) (t ++ (s ∷ [])) (λ q n. u (suc q) (omega (arith, n)))
      (λ q n. f (suc q) (omega (arith, n))))
      (act_keeps end c s tt)

-- ---- and the three calls

module _ (w : ℕ) (job table : List ℕ) where
  abbrev σ : Script
  σ = job_script w job table

  -- the laws of a job's gates are said of a setting, whatever its lists and registers are
  abbrev some_setting : Setting
  some_setting =
      record {
        job = job;
        table = table;
        A = [];
        B = [];
        rm = replicate 16 0;
        r1 = replicate 16 0;
        r2 = replicate 16 0;
        rm_sixteen = refl;
        r1_sixteen = refl;
        r2_sixteen = refl;
      }

  -- order q, if there is one, has a slot i for its target or leaves it, and writes it with its last gate alone
  module _ (i q : ℕ) (plain : 16 ≤ i → (order (orders job) q).kind < 6) where
    front : SparesFront i (order (orders job) q).target (program w (rows table) (order (orders job) q))
    front = go (dec_le 16 i)
      where
        go : Dec (16 ≤ i) → SparesFront i (order (orders job) q).target (program w (rows table) (order (orders job) q))
        go (yes k) = front_alone w (rows table) (order (orders job) q) i (plain k)
        go (no k) = front_program w (rows table) (order (orders job) q) i (omega arith)

    gates_of : q < length (job_gates w job table) → get_or (job_gates w job table) q [] ≡ program w (rows table) (order (orders job) q)
    unfolding order_of
    gates_of k = gates_is w some_setting q (rw (gates_length w job table) at k)

    last_alone : WrittenLast i q (steps_of w job table)
    unfolding steps_of
    last_alone = last_gates w i q (order (orders job) q).target (job_gates w job table) (λ k. rw (gates_of k) front)

    no_step : (q < length (orders job) → i ≢ (order (orders job) q).target) → Unwritten i q (steps_of w job table)
    unfolding steps_of
    no_step n =
        unwritten_gates w i q (job_gates w job table)
        (λ k. rw (gates_of k) (spared i _ _ (ne_eqb i _ (n (rw (gates_length w job table) at k))) front))

  -- of the steps ss, the first of which stands in order p
  module _ (i : ℕ) (pre ss : List Step) (p : ℕ) (is : steps_of w job table ≡ pre ++ ss) (stands : (far pre origin).order ≡ p) (q : ℕ)
      (plain : 16 ≤ i → (order (orders job) (p + q)).kind < 6) where
    pub last : WrittenLast i q ss
    last =
        shifted (last_on i) pre ss origin q (p + q) (omega (arith, stands))
        (subst (λ (ts : List Step). WrittenLast i (p + q) ts) is (last_alone i (p + q) plain))

    pub free : (p + q < length (orders job) → i ≢ (order (orders job) (p + q)).target) → Unwritten i q ss
    free u =
        shifted (unwritten_on i) pre ss origin q (p + q) (omega (arith, stands))
        (subst (λ (ts : List Step). Unwritten i (p + q) ts) is (no_step i (p + q) plain u))

  -- ---- host 0

  pub masks_kept : (A B buf : List ℕ) (r : Pair) (i : ℕ) → i < 16 → Leaves job 0 (length (orders job)) i
      → Keeps r (prepare σ A B buf r).masks i
  unfolding prepare_walk
  masks_kept A B buf r i reg u = go (prepare σ A B buf r).number refl
    where
      done : (prepare σ A B buf r).number ≡ 0 → Keeps r (prepare σ A B buf r).masks i
      done z =
          let e = (prepare_none σ A B buf r z).1 in
          let s : Pair = (prepare_walk σ A B r).state in
          let k =
          dealer_keeps A B i (steps_of w job table) origin (fresh2 r) []
          (λ q. no_step i q (λ l. absurd (omega (arith, l, reg))) (λ m. u.target q (omega arith) m)) in (
            ap (λ (p : Prepared). at p.masks.0 i) e ∙ get_or-take 16 s.0 i 0 reg ∙ k.0 ∙ fresh_at r.0 i,
            ap (λ (p : Prepared). at p.masks.1 i) e ∙ get_or-take 16 s.1 i 0 reg ∙ k.1 ∙ fresh_at r.1 i,
          )

      go : (n : ℕ) → (prepare σ A B buf r).number ≡ n → Keeps r (prepare σ A B buf r).masks i
      go zero z = done z
      go (suc n) z =
          let e = (prepare_back σ A B buf r (λ (o : (prepare σ A B buf r).number ≡ 0). omega (arith, o, z))).0 in
          (ap (λ (p : Pair). at p.0 i) e, ap (λ (p : Pair). at p.1 i) e)

  -- ---- hosts 1 and 2

  module _ (h : ℕ) (M D : List ℕ) where
    abbrev loan : Lent
    loan = lent h σ M D

    abbrev ends_at : List Step → Cursor → Pair → ℕ
    ends_at ss c l = (walk (worker_with h M D).act ss c l []).cur.order

    pub registers_kept : (r : Pair) (i : ℕ) → Leaves job 0 (start loan r).state.order i → Keeps r (lanes (start loan r).state) i
    unfolding start_walk given far
    registers_kept r i u = go (start loan r).number refl
      where
        done : (start loan r).number ≡ 0 → Keeps r (lanes (start loan r).state) i
        done z =
            let ss : List Step = steps_of w job table in
            let e = (start_none loan r z).1 in
            let o : (start loan r).state.order ≡ ends_at ss origin (fresh2 r) = ap (λ (a : Answer). a.state.order) e in
            let k =
            walk_keeps h M D i ss origin (fresh2 r) []
            (λ q l. free i [] ss 0 refl refl q (λ g. u.plain g (0 + q) (omega arith) (omega (arith, l, o)))
            (λ m. u.target (0 + q) (omega arith) (omega (arith, l, o))))
            (λ q l. last i [] ss 0 refl refl q (λ g. u.plain g (0 + q) (omega arith) (omega (arith, l, o)))) in (
              ap (λ (a : Answer). at a.state.m i) e ∙ k.0 ∙ fresh_at r.0 i,
              ap (λ (a : Answer). at a.state.mask i) e ∙ k.1 ∙ fresh_at r.1 i,
            )

        go : (n : ℕ) → (start loan r).number ≡ n → Keeps r (lanes (start loan r).state) i
        go zero z = done z
        go (suc n) z =
            let e = start_state loan r (λ (o : (start loan r).number ≡ 0). omega (arith, o, z)) in
            (ap (λ (s : State). at s.m i) e ∙ fresh_at r.0 i, ap (λ (s : State). at s.mask i) e ∙ fresh_at r.1 i)

    pub state_kept : (s : State) (v i : ℕ) → Leaves job s.order (hear loan s v).state.order i
        → Keeps (lanes s) (lanes (hear loan s v).state) i
    unfolding past
    state_kept s v i u = go (hear loan s v).number refl
      where
        -- from the product or refresh where the hearing stands
        done : (hear loan s v).number ≡ 0 → Located (steps_of w job table) origin s.order s.turn
            → Keeps (lanes s) (lanes (hear loan s v).state) i
        done z y =
            let ss : List Step = y.behind in
            let c : Cursor = far y.before origin in
            let x : Step = exchange y.target y.gate in
            let l : Pair = (worker_with h M D).hear y.target y.gate c (s.m, s.mask) v in
            let e : hear loan s v ≡ walks_on loan ss (past x c) l =
            heard loan s v y.before ss y.target y.gate y.is (sym y.order) (sym y.turn) z in
            let o : (hear loan s v).state.order ≡ ends_at ss (past x c) l = ap (λ (a : Answer). a.state.order) e in
            let g : (q : ℕ) → c.order + q ≤ ends_at ss (past x c) l → WrittenLast i q (x ∷ ss) =
            λ q m.
            last i y.before (x ∷ ss) s.order y.is y.order q
            (λ g. u.plain g (s.order + q) (omega arith) (omega (arith, m, o, y.order))) in
            let f : (q : ℕ) → c.order + q < ends_at ss (past x c) l → Unwritten i q (x ∷ ss) =
            λ q m.
            free i y.before (x ∷ ss) s.order y.is y.order q
            (λ g. u.plain g (s.order + q) (omega arith) (omega (arith, m, o, y.order)))
            (λ k. u.target (s.order + q) (omega arith) (omega (arith, m, o, y.order))) in
            let k =
            both
            (walk_keeps h M D i ss (past x c) l []
            (λ q m. unwritten_behind i q x ss tt (f q m)) (λ q m. last_behind i q x ss tt (g q m)))
            (hear_keeps h M D i y.target y.gate c (s.m, s.mask) v
            (missed h M D i y.target ss (past x c) l [] (λ m. (f 0 (omega (arith, m))).0)
            (g 0 (omega (arith, walk_up h M D i ss (past x c) l []))).0)) in (
              ap (λ (a : Answer). at a.state.m i) e ∙ k.0,
              ap (λ (a : Answer). at a.state.mask i) e ∙ k.1,
            )

        go : (n : ℕ) → (hear loan s v).number ≡ n → Keeps (lanes s) (lanes (hear loan s v).state) i
        go zero z = done z (standing_at loan s v z)
        go (suc n) z =
            let e = hear_state loan s v (λ (o : (hear loan s v).number ≡ 0). omega (arith, o, z)) in
            (ap (λ (t : State). at t.m i) e, ap (λ (t : State). at t.mask i) e)
