-- A day's starting and hearing, from what the code has in hand: its checks, the place, and the walk on its own lanes. Assumes nothing.
use mathlib.Core.Path.{◌≡◌, refl, sym, ap, ◌∙◌}
use mathlib.Core.Bool.{Bool, false, ◌&&◌, cond}
use mathlib.Core.List.{List, [], ◌∷◌}
use Prim.Native.Nat.{ℕ, suc, ◌+◌, ◌*◌, ◌≤◌, ◌<◌}
use native.Mathlib.Nat.{mul-zero}
use native.Mathlib.Omega.{arith}
use lib.Dec.{eqb}
use lib.ListN.{length, set, drop, replicate}
use Rattle.tables.specs.Table.{rows}
use Rattle.gates.specs.Steps.{Lane, at, product, refresh, known_product, Step, Cursor, origin}
use Rattle.gates.specs.Meaning.{meaning, job_steps}
use Rattle.gates.specs.Walk.{Exchanging}
use Rattle.gates.proofs.Fetched as Fetched
use Rattle.gates.specs.Costs.{Cost, step_cost, used_at, cost}
use Rattle.gates.specs.Codes.{At, fetched, step_of}
use Rattle.programs.specs.declared.Order.{Order}
use Rattle.programs.specs.Orders.{program}
use Rattle.programs.specs.Sizes.{times_cost}
use Rattle.jobs.specs.Job.{Fault}
use Rattle.jobs.specs.Counts.{counted}
use Rattle.jobs.specs.CostTable.{kind_costs, kind_cost}
use Rattle.gates.specs.Gates.{Gate}
use Rattle.calls.specs.Scripts.{Script}
use Rattle.calls.specs.Lent.{lent, lent_fault, Worker, worker_with}
use Rattle.calls.specs.Places.{Found, nowhere, found, seek}
use Rattle.calls.specs.declared.Stored.{Stored}
use Rattle.calls.specs.Calls.{stored_places, State, Answer, refused, fresh, stored_at, same_places, report, hear_walk, hear}
use Rattle.calls.proofs.Faults.{no_fault}
use Rattle.walks.specs.Workers.{cursor}
use Rattle.walks.specs.Halts.{going_on, reported, steps_from}
use Rattle.walks.proofs.Gates.{first_gate}
use Rattle.walks.proofs.Halts.{with_own}
use Rattle.walks.proofs.Answers.{start_refused, started, hear_refused, at_nowhere, at_unequal, at_exchange, past_programs}
use Rattle.calendars.specs.declared.Quarters.{Quarters}
use Rattle.calendars.specs.Ranges.{number}
use Rattle.calendars.specs.Quarters.{held}
use Rattle.calendars.proofs.Counting.{held_where, number_alike, number_none}
use Rattle.days.specs.Day.{Hours, counting, day_factor, day_gates, day_steps, day_script}
use Rattle.days.specs.DayCalls.{firsts, seconds, day_given, with_shares, own_state, own_answer, day_start, day_hear}
use Rattle.days.specs.Orders.{own_order, front, within, first_tail, second_tail}
use Rattle.days.proofs.Counts.{day_counts}
use Rattle.days.proofs.Moved.{moved, moved_exchange, Same, same_local, same_deal, same_exchange, same_gate}
use Rattle.days.proofs.Own.{own_at}
use Rattle.days.proofs.Heard as Heard
use Rattle.days.proofs.Orders.{steps_within}
use Rattle.days.proofs.Walked.{day_from}
use Rattle.days.proofs.Quarters.{day_gates_count, day_alike}
use Rattle.days.proofs.Idle.{idle_walk}
use Rattle.days.proofs.Lanes.{place, own_lane, first_lane, second_lane, given_lanes, front_lane}
use Rattle.days.proofs.Accepted.{accepted}
use Rattle.worker.specs.declared.walk.Halt.{Halt}
use Rattle.worker.specs.declared.place.Stand.{Stand}
use Rattle.worker.specs.Answers.{state_with, halt_on}
use Rattle.call_check.specs.declared.day.CheckedDay.{CheckedDay}
use Rattle.call_check.specs.Days.{DayIs}
use Rattle.worker.specs.Days.{used_until, DayLent, DayPlace, DayStandIs, SameDay}

-- ---- the product or refresh where a state stands, in the day's steps

used_moved : {ρ : ℕ → ℕ} {d : ℕ} {y z : Step} → Same ρ d y z → used_at y ≡ used_at z
unfolding used_at step_cost moved_exchange
used_moved (same_local p q) = refl
used_moved (same_deal p) = refl
used_moved (same_exchange (product O a b)) = refl
used_moved (same_exchange (refresh O a)) = refl
used_moved (same_exchange (known_product O a b)) = refl

-- the code's own order has it there too, with as much used
there_in_day : (T : List ℕ) (f : ℕ → Bool) (o x i a b n : ℕ) → (pl : DayPlace T f o x i a b n)
    → (y : Step) × (ss : List Step)
    × (steps_from 32 (length (front (day_factor f) o) + i) (drop o (day_gates 32 f (rows T))) ≡ y ∷ ss) × Exchanging (y ∷ [])
    × (used_at (meaning 32 pl.standing.held) ≡ used_at y)
there_in_day T f o x i a b n pl =
    let own = program 32 (rows T) (own_order o) in
    let g = pl.standing.held in
    let there : fetched own i ≡ At g = ap (λ (q : Order). fetched (program 32 (rows T) q) i) (sym (own_at o)) ∙ pl.standing.there in
    let h : i < length own = Fetched.inside own i g there in
    let rest = job_steps 32 (drop (suc o) (day_gates 32 f (rows T))) in (
      meaning 32 (moved (place o) g),
      day_from 32 o (drop (suc i) own) rest,
      steps_within 32 f (rows T) o pl.in_day pl.run i (omega arith)
          ∙ ap (λ (gs : List Gate). day_from 32 o gs rest) (Fetched.first_left own i g there),
      Heard.speaks_same (same_gate (place o) 32 g) pl.standing.speaks,
      used_moved (same_gate (place o) 32 g),
    )

-- the walk's places there
walked_there : (T : List ℕ) (f : ℕ → Bool) (o x : ℕ) (y : Stand)
    → (pl : DayPlace T f o x y.at.gate y.at.used.a y.at.used.b y.at.used.deals) → DayStandIs T o y
    → let w = there_in_day T f o x y.at.gate y.at.used.a y.at.used.b y.at.used.deals pl in
    y.walked ≡ stored_at (w.0 ∷ w.1) (cursor o x y.at.used.a y.at.used.b y.at.used.deals)
walked_there T f o x y pl is =
    let w = there_in_day T f o x y.at.gate y.at.used.a y.at.used.b y.at.used.deals pl in
    let g = pl.standing.held in
    let there : fetched (program 32 (rows T) (own_order o)) y.at.gate ≡ At g =
    ap (λ (q : Order). fetched (program 32 (rows T) q) y.at.gate) (sym (own_at o)) ∙ pl.standing.there in
    is.places
    ∙ sym (with_own w.0 w.1 (used_at (step_of 32 y.gate))
    (ap used_at (is.fetches g there) ∙ w.4) w.3 o x y.at.used.a y.at.used.b y.at.used.deals)

-- ---- what is lent has passed its checks

module _ (h : ℕ) (T S : List ℕ) (H : Hours) (M D : List ℕ) (n : ℕ) (e : (n, 0) ≡ lent_fault (lent h (day_script 32 T (length S) H) M D)) where
  abbrev σ : Script
  σ = day_script 32 T (length S) H

  -- which quarters count: by the words in hand as by the hours
  module _ (z : n ≡ 0) (c : CheckedDay) (is : DayIs T H c) where
    pub same_day : SameDay (held c.day.quarters) H
    same_day q l = ap (λ (x : Quarters). held x q) is.quarters ∙ held_where (counting H) q l

    pub day_lent : DayLent T S (counted c.day.curve) (held c.day.quarters) c.day.n
    day_lent =
        let p = accepted T (length S) H (no_fault h σ M D (ap (λ (f : Fault). f.0) (sym e) ∙ z)) in
        record {
          ruled = p.2;
          listed = p.0;
          counts = is.curve;
          counted =
              is.n
              ∙ sym (number_alike (held c.day.quarters) (counting H) 0 96 (λ k l. let a : 0 + k ≡ k = omega arith in rw a (same_day k l)));
        }

    -- the counts of the whole day
    pub whole_day : counted c.whole ≡ cost (job_steps 32 (day_gates 32 (counting H) (rows T)))
    unfolding day_steps kind_cost kind_costs
    whole_day = is.counts ∙ sym (day_counts T (length S) H)

  abbrev P : Worker
  P = worker_with h M D

  abbrev zeros : Lane
  zeros = replicate 24 0

  -- the host's own state of an answer on the day's lanes
  owned : (k l sp v o x : ℕ) (y : Stored) (m c : Lane) → length m ≡ 24 → length c ≡ 24
      → own_answer (going_on sp v (within k (first_tail S) m) (within l (second_tail S) c) o x y)
      ≡ going_on sp v (set m 15 k) (set c 15 l) o x y
  owned k l sp v o x y m c lm lc = rw (own_lane k (first_tail S) m lm, own_lane l (second_tail S) c lc)

  -- ---- starting

  pub start_turned : (n ≡ 0 → ⊥) → refused (n, 0) (state_with zeros zeros 0 0 (stored_places 0 0 0)) ≡ day_start 32 h T S H M D
  unfolding day_start fresh
  start_turned z =
      ap {B = Answer} (λ (a : Answer). own_answer a)
      (start_refused h σ M D n 0 e (day_given S) _ _ refl refl z)

  -- where the same quarters count by f
  module _ (f : ℕ → Bool) (same : SameDay f H) where
    gates_are : day_gates 32 f (rows T) ≡ day_gates 32 (counting H) (rows T)
    gates_are = day_alike 32 f (counting H) (rows T) same

    -- the walk begins at the first order that is run
    pub start_done : n ≡ 0 → (k : Cost) (o₁ : ℕ) → o₁ ≤ 96 → ((q : ℕ) → 0 ≤ q → q < o₁ → f q ≡ false) → (h₁ : Halt) (m c : Lane)
        → length m ≡ 24 → length c ≡ 24
        → halt_on h₁ (within 0 (first_tail S) m) (within 0 (second_tail S) c)
        ≡ reported P (job_steps 32 (drop o₁ (day_gates 32 f (rows T)))) (cursor o₁ 0 (used_until f k o₁).a (used_until f k o₁).b (used_until f k o₁).deals)
        (within 0 (first_tail S) zeros, within 0 (second_tail S) zeros)
        → halt_on h₁ (set m 15 0) (set c 15 0) ≡ day_start 32 h T S H M D
    unfolding day_start times_cost day_steps used_until
    start_done z k o₁ l out h₁ m c lm lc g =
        let none : number f 0 o₁ ≡ 0 =
        number_none f 0 o₁ (λ q u. let a : 0 + q ≡ q = omega arith in rw a (out q (omega arith) u)) in
        let nothing : cursor o₁ 0 (k.a * number f 0 o₁) (k.b * number f 0 o₁) (k.deals * number f 0 o₁) ≡ cursor o₁ 0 0 0 0 =
        rw (none, mul-zero k.a, mul-zero k.b, mul-zero k.deals) in
        sym (owned 0 0 h₁.stored.b h₁.word h₁.order h₁.turn h₁.stored m c lm lc)
        ∙ ap {B = Answer} (λ (a : Answer). own_answer a)
        (g
        ∙ ap (λ (c : Cursor). reported P (job_steps 32 (drop o₁ (day_gates 32 f (rows T)))) c (within 0 (first_tail S) zeros, within 0 (second_tail S) zeros))
        nothing
        ∙ sym ((idle_walk h M D 32 f (rows T) 0 o₁ (omega arith) l out 0 0 0).0 (within 0 (first_tail S) zeros, within 0 (second_tail S) zeros))
        ∙ ap (λ (ss : List Step). reported P ss (cursor 0 0 0 0 0) (within 0 (first_tail S) zeros, within 0 (second_tail S) zeros))
        (ap (λ (gs : List (List Gate)). job_steps 32 (drop 0 gs)) gates_are ∙ first_gate 32 (day_gates 32 (counting H) (rows T)))
        ∙ ap (reported P (steps_from 32 0 (drop 0 (day_gates 32 (counting H) (rows T)))) (cursor 0 0 0 0 0)) (given_lanes S)
        ∙ started h σ M D n 0 e (day_given S) _ _ refl refl 32 (day_gates 32 (counting H) (rows T)) refl z)

  -- ---- hearing

  module _ (s : State) (lm : length s.m ≡ 24) (lc : length s.mask ≡ 24) (v : ℕ) where
    abbrev larger : State
    larger = with_shares s S

    own_back : own_state larger ≡ s
    unfolding with_shares
    own_back = rw (front_lane s.m (firsts S) lm, front_lane s.mask (seconds S) lc)

    -- refused there, refused here
    turned : (r j : ℕ) → refused (r, j) larger ≡ hear (lent h σ M D) larger v
        → refused (r, j) s ≡ day_hear 32 h T S H M D s v
    unfolding day_hear
    turned r j q = ap (refused (r, j)) (sym own_back) ∙ ap {B = Answer} (λ (a : Answer). own_answer a) q

    pub hear_turned : (n ≡ 0 → ⊥) → refused (n, 0) s ≡ day_hear 32 h T S H M D s v
    hear_turned z = turned n 0 (hear_refused h σ M D n 0 e larger v z)

    module _ (z : n ≡ 0) where
      -- past the mean, where these are the counts of the day
      pub hear_past : (k : Cost) → k ≡ cost (job_steps 32 (day_gates 32 (counting H) (rows T))) → (r : ℕ) → 97 ≤ s.order
          → r ≡ cond (eqb s.order 97 && eqb s.turn 0) (cond (same_places s.stored (stored_places k.a k.b k.deals)) 9 18) 8
          → refused (r, 0) s ≡ day_hear 32 h T S H M D s v
      unfolding with_shares day_steps
      hear_past k ek r l p =
          let gs = day_gates 32 (counting H) (rows T) in
          turned r 0 (past_programs h σ M D n 0 e larger v z 32 gs refl 97 (day_gates_count 32 (counting H) (rows T)) k ek r l p)

      module _ (f : ℕ → Bool) (same : SameDay f H) where
        steps_are : day_steps 32 T f ≡ day_steps 32 T (counting H)
        unfolding day_steps
        steps_are = ap (job_steps 32) (gates_are f same)

        -- at no place of its order
        pub hear_nowhere : seek s.order s.turn (day_steps 32 T f) origin ≡ nowhere → refused (8, 0) s ≡ day_hear 32 h T S H M D s v
        unfolding with_shares
        hear_nowhere q = turned 8 0 (at_nowhere h σ M D n 0 e larger v z (ap (λ (ss : List Step). seek s.order s.turn ss origin) (sym steps_are) ∙ q))

        -- at a product or refresh, where the code stands
        module _ (y : Stand) (pl : DayPlace T f s.order s.turn y.at.gate y.at.used.a y.at.used.b y.at.used.deals)
            (is : DayStandIs T s.order y) where
          found_there : seek s.order s.turn (day_steps 32 T (counting H)) origin
              ≡ found (steps_from 32 (length (front (day_factor f) s.order) + y.at.gate) (drop s.order (day_gates 32 f (rows T))))
              (cursor s.order s.turn y.at.used.a y.at.used.b y.at.used.deals)
          found_there = ap (λ (ss : List Step). seek s.order s.turn ss origin) (sym steps_are) ∙ pl.is

          pub hear_unequal : (s.stored ≡ y.walked → ⊥)
              → refused (18, 0) s ≡ day_hear 32 h T S H M D s v
          unfolding with_shares
          hear_unequal t =
              let w = there_in_day T f s.order s.turn _ _ _ _ pl in
              turned 18 0 (at_unequal h σ M D n 0 e larger v z w.0 w.1 _ _ w.3 w.2 found_there
              (λ e. t (e ∙ sym (walked_there T f s.order s.turn y pl is))))

          -- the walk goes on
          pub hear_done : s.stored ≡ y.walked → (h₁ : Halt) (k l : ℕ) (m c : Lane)
              → length m ≡ 24 → length c ≡ 24 → k ≡ at s.m 15 → l ≡ at s.mask 15
              → halt_on h₁ (within k (first_tail S) m) (within l (second_tail S) c)
              ≡ report P
              (hear_walk P (state_with (within k (first_tail S) s.m) (within l (second_tail S) s.mask) s.order s.turn s.stored) v
              (seek s.order s.turn (day_steps 32 T f) origin))
              → halt_on h₁ (set m 15 k) (set c 15 l) ≡ day_hear 32 h T S H M D s v
          unfolding day_hear with_shares
          hear_done eq h₁ k l m c lm' lc' ek el q =
              sym (owned k l h₁.stored.b h₁.word h₁.order h₁.turn h₁.stored m c lm' lc')
              ∙ ap {B = Answer} (λ (a : Answer). own_answer a) (q ∙ on)
            where
              on : report P
                  (hear_walk P (state_with (within k (first_tail S) s.m) (within l (second_tail S) s.mask) s.order s.turn s.stored) v
                  (seek s.order s.turn (day_steps 32 T f) origin))
                  ≡ hear (lent h σ M D) larger v
              on =
                  let w = there_in_day T f s.order s.turn _ _ _ _ pl in
                  rw (ek, el, ← first_lane S s.m lm, ← second_lane S s.mask lc)
                  (ap (λ (f : Found). report P (hear_walk P larger v f)) pl.is
                  ∙ at_exchange h σ M D n 0 e larger v z w.0 w.1 _ _ w.3 w.2 found_there
                  (eq ∙ walked_there T f s.order s.turn y pl is))
