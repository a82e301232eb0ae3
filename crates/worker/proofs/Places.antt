-- A state's place in its job, as the code finds it: which gate stands there, and what is used before it. Assumes nothing.
use mathlib.Core.Path.{◌≡◌, refl, sym, ap, subst, ◌∙◌}
use mathlib.Core.Bool.{Bool, true, false, not}
use mathlib.Core.List.{List, [], ◌∷◌}
use Prim.Native.Nat.{ℕ, ◌+◌, ◌*◌, ◌/◌, ◌^◌, ◌≤◌, ◌<◌}
use native.Mathlib.Omega.{arith}
use lib.ListN.{length, get_or, take, drop}
use lib.Seq.{take_all}
use Rattle.std.specs.Prelude.{Option, Some, None}
use Rattle.tables.specs.Table.{rows}
use Rattle.gates.specs.Gates.{Gate}
use Rattle.gates.specs.Steps.{Step, origin}
use Rattle.gates.specs.Meaning.{meaning, job_steps}
use Rattle.gates.specs.Walk.{Exchanging}
use Rattle.gates.specs.Costs.{Cost, cost, used_at}
use Rattle.programs.specs.declared.Order.{Order}
use Rattle.programs.specs.Orders.{program}
use Rattle.gates.specs.Codes.{At, fetched, step_of}
use Rattle.gates.proofs.Uses.{few_used}
use Rattle.programs.specs.declared.GatePlace.{GatePlace}
use Rattle.programs.specs.Seek.{sought}
use Rattle.jobs.specs.Job.{Fault, job_fault, job_gates, job_cost, order_at, steps_of}
use Rattle.calls.specs.Scripts.{job_script}
use Rattle.calls.specs.Lent.{lent_fault, lent, passed}
use Rattle.calls.specs.Places.{nowhere, found, seek}
use Rattle.calls.specs.declared.Stored.{Stored}
use Rattle.calls.specs.Calls.{stored_at, same_places}
use Rattle.calls.proofs.Hearing.{apart, same_told, same_tells}
use Rattle.calls.proofs.Faults.{no_fault}
use Rattle.walks.specs.Workers.{cursor}
use Rattle.walks.specs.Halts.{steps_from}
use Rattle.walks.proofs.Gates.{steps_at}
use Rattle.walks.proofs.Halts.{with_own}
use Rattle.walks.proofs.Before.{before}
use Rattle.walks.proofs.Places.{no_place, found_at}
use Rattle.worker.specs.declared.place.Stand.{Stand}
use Rattle.worker.specs.Jobs.{Sized, Standing, StandIs}
use Rattle.jobs.proofs.Indices.{gates_count, gates_drop, gates_at, cost_before}

-- a state stands there, all its numbers are small, and it is what `seek` finds: the gate i, with a words of A, b of B and so many
-- deals used before it
pub record There (w : ℕ) (job table : List ℕ) (o x i a b dealt : ℕ) : Type 0 where
  pub standing : Standing w job table o i
  pub few_gates : i < 1000
  pub few_turns : x < 1000
  pub few_a : a < 2 ^ 30
  pub few_b : b < 2 ^ 30
  pub few_deals : dealt < 2 ^ 30
  pub is : seek o x (job_steps w (job_gates w job table)) origin
      ≡ found (steps_from w i (drop o (job_gates w job table))) (cursor o x a b dealt)

-- ---- stored places, as the code compares them

module _ (u v : Stored) where
  pub are_equal : false ≡ not (same_places u v) → u ≡ v
  are_equal e = go (same_places u v) refl e
    where
      go : (r : Bool) → same_places u v ≡ r → false ≡ not r → u ≡ v
      go true p t = same_tells u v p
      go false p t = absurd (apart t)

  pub are_unequal : true ≡ not (same_places u v) → u ≡ v → ⊥
  are_unequal e q = apart (sym (ap not (same_told u v q)) ∙ sym e)

-- ---- where a hearing stands

-- by the code's own numbers
pub stands_own : (w : ℕ) (table : List ℕ) (ord : Order) (i a b dealt : ℕ) (z : Stand) → StandIs w (rows table) ord i a b dealt z
    → StandIs w (rows table) ord z.at.gate z.at.used.a z.at.used.b z.at.used.deals z
stands_own w table ord i a b n z S =
    record {
      gate = refl;
      a_used = refl;
      b_used = refl;
      deals_used = refl;
      fetches = λ g e. S.fetches g (ap (λ (k : ℕ). fetched (program w (rows table) ord) k) (sym S.gate) ∙ e);
      places = rw (S.a_used, S.b_used, S.deals_used) S.places;
    }

pub there_at : (w : ℕ) (job table : List ℕ) (o x i a b dealt : ℕ) → There w job table o x i a b dealt → (ord : Order) (z : Stand)
    → StandIs w (rows table) ord i a b dealt z → There w job table o x z.at.gate z.at.used.a z.at.used.b z.at.used.deals
there_at w job table o x i a b n h ord z S = rw (S.gate, S.a_used, S.b_used, S.deals_used) h

module _ (w : ℕ) (job table : List ℕ) where
  -- the program of the order at o
  abbrev own : ℕ → List Gate
  own o = program w (rows table) (order_at job o)

  module _ (o x : ℕ) (e : o < length job / 4) where
    in_gates : o < length (job_gates w job table)
    in_gates = omega (arith, gates_count w job table)

    sought_own : sought w (get_or (job_gates w job table) o []) x 0 0 0 ≡ sought w (own o) x 0 0 0
    sought_own = ap (λ (gs : List Gate). sought w gs x 0 0 0) (gates_at w job table o e)

    pub found_here : Sized w job table → (g : GatePlace) → sought w (own o) x 0 0 0 ≡ Some g
        → let k = before w (job_gates w job table) o in
        There w job table o x g.gate (k.a + g.a) (k.b + x) (k.deals + g.deals)
    found_here Z g s =
        let os = job_gates w job table in
        let short : (q : ℕ) → q ≤ o → length (get_or os q []) ≤ 1000 =
        λ q h. subst (λ (z : List Gate). length z ≤ 1000) (sym (gates_at w job table q (omega arith))) (Z.few_gates q (omega arith)) in
        let p = found_at w os o x in_gates 1000 short g.gate g.a g.deals (sought_own ∙ s) in
        let at : fetched (own o) g.gate ≡ At p.gate = ap (λ (z : List Gate). fetched z g.gate) (sym (gates_at w job table o e)) ∙ p.there in
        record {
          standing = record { in_job = e; held = p.gate; there = at; speaks = p.speaks };
          few_gates = p.few_gates;
          few_turns = omega (arith, p.few_gates, p.few_turns);
          few_a = omega (arith, p.few_gates, p.few_a, Z.few_words);
          few_b = omega (arith, p.few_gates, p.few_b, Z.few_words);
          few_deals = omega (arith, p.few_gates, p.few_deals, Z.few_words);
          is = p.is;
        }

    pub nowhere_here : sought w (own o) x 0 0 0 ≡ None → seek o x (job_steps w (job_gates w job table)) origin ≡ nowhere
    nowhere_here s = no_place w (job_gates w job table) o x in_gates (sought_own ∙ s)

  -- ---- what the code has in hand: its lists are checked, the order and its place in it are found, and the orders before are counted

  module _ (h : ℕ) (M D : List ℕ) (n i : ℕ) (e : (n, i) ≡ lent_fault (lent h (job_script w job table) M D)) (z : n ≡ 0) where
    pub accepted : (job_fault w job table).0 ≡ 0
    accepted = no_fault h (job_script w job table) M D (ap (λ (f : Fault). f.0) (sym e) ∙ z)

    module _ (o x : ℕ) (l : o < length job / 4) (ord : Order) (eo : ord ≡ order_at job o) (f : Option GatePlace)
        (ef : f ≡ sought w (program w (rows table) ord) x 0 0 0) where
      sought_there : f ≡ sought w (own o) x 0 0 0
      sought_there = ef ∙ ap (λ (r : Order). sought w (program w (rows table) r) x 0 0 0) eo

      pub none_there : f ≡ None → seek o x (job_steps w (job_gates w job table)) origin ≡ nowhere
      none_there p = nowhere_here o x l (sym sought_there ∙ p)

      pub found_there : Sized w job table → (g : GatePlace) → f ≡ Some g
          → (u : Cost) → u ≡ passed n (job_cost w (take (o * 4) job) table)
          → There w job table o x g.gate (u.a + g.a) (u.b + x) (u.deals + g.deals)
      unfolding passed
      found_there Z g p u eu =
          let H = found_here o x l Z g (sym sought_there ∙ p) in
          let b : u ≡ before w (job_gates w job table) o =
          eu ∙ ap (λ (m : ℕ). passed m (job_cost w (take (o * 4) job) table)) z ∙ cost_before w job table o (omega arith) in
          subst (λ (r : Cost). There w job table o x g.gate (r.a + g.a) (r.b + x) (r.deals + g.deals)) (sym b) H

      -- the same by the code's own numbers, with what it works out of the gate there
      pub stands_by : Sized w job table → (g : GatePlace) → f ≡ Some g
          → (u : Cost) → u ≡ passed n (job_cost w (take (o * 4) job) table)
          → (r : Stand) → StandIs w (rows table) ord g.gate (u.a + g.a) (u.b + x) (u.deals + g.deals) r
          → There w job table o x r.at.gate r.at.used.a r.at.used.b r.at.used.deals
          × StandIs w (rows table) (order_at job o) r.at.gate r.at.used.a r.at.used.b r.at.used.deals r
      stands_by Z g p u eu r S = (
        there_at w job table o x _ _ _ _ (found_there Z g p u eu) ord r S,
        subst (λ (q : Order). StandIs w (rows table) q r.at.gate r.at.used.a r.at.used.b r.at.used.deals r) eo (stands_own w table ord _ _ _ _ r S),
      )

    -- past the last order all of the job is counted
    pub whole_job : Sized w job table → (o : ℕ) → length job / 4 ≤ o → (u : Cost) → u ≡ passed n (job_cost w (take (o * 4) job) table)
        → u ≡ cost (job_steps w (job_gates w job table))
    unfolding passed job_cost steps_of
    whole_job Z o l u eu =
        eu
        ∙ ap (λ (m : ℕ). passed m (job_cost w (take (o * 4) job) table)) z
        ∙ ap (λ (J : List ℕ). job_cost w J table) (take_all (o * 4) job (omega (arith, Z.whole_orders)))

  -- ---- the code's gate is the one where the state stands

  module _ (o i a b dealt : ℕ) (S : Standing w job table o i) (z : Stand)
      (Z : StandIs w (rows table) (order_at job o) i a b dealt z) where
    own_step : step_of w z.gate ≡ meaning w S.held
    own_step = Z.fetches S.held S.there

    pub steps_here : steps_from w i (drop o (job_gates w job table))
        ≡ step_of w z.gate ∷ steps_from w (i + 1) (drop o (job_gates w job table))
    steps_here =
        steps_at w (job_gates w job table) o i _ (gates_drop w job table o S.in_job) S.held S.there
        ∙ ap (λ (y : Step). y ∷ steps_from w (i + 1) (drop o (job_gates w job table))) (sym own_step)

    pub speaks_here : Exchanging (step_of w z.gate ∷ [])
    speaks_here = subst (λ (y : Step). Exchanging (y ∷ [])) (sym own_step) S.speaks

    -- the walk's places there
    pub walked_here : (x : ℕ)
        → z.walked ≡ stored_at (step_of w z.gate ∷ steps_from w (i + 1) (drop o (job_gates w job table))) (cursor o x a b dealt)
    walked_here x =
        Z.places
        ∙ sym (with_own (step_of w z.gate) _ (used_at (step_of w z.gate)) refl speaks_here o x a b dealt)

    -- what is used behind it
    pub behind_a : z.walked.a ≡ a + (used_at (step_of w z.gate)).a
    behind_a = ap (λ (u : Stored). u.a) Z.places

    pub behind_deals : z.walked.deals ≡ dealt + (used_at (step_of w z.gate)).deals
    behind_deals = ap (λ (u : Stored). u.deals) Z.places

    pub few_behind : (z.walked.a ≤ a + 2) × (z.walked.deals ≤ dealt + 1)
    few_behind =
        let f = few_used (step_of w z.gate) (used_at (step_of w z.gate)) refl in
        (omega (arith, f, behind_a), omega (arith, f, behind_deals))
