-- The places of a day, and what is used before them: where the code finds a product or refresh of its own order the day has it, and in
-- front of each order stand the counts of so many curves. Assumes nothing.
use mathlib.Core.Path.{◌≡◌, refl, sym, ap, ◌∙◌}
use mathlib.Core.Bool.{Bool, true, false, cond}
use mathlib.Core.List.{List, [], ◌∷◌, ◌++◌, map}
use Prim.Native.Nat.{ℕ, ◌+◌, ◌*◌, ◌≤◌, ◌<◌}
use native.Mathlib.Omega.{arith}
use lib.Dec.{ltb}
use lib.ListN.{length, get_or, take, drop, length-append, length-map, take-append-drop}
use Rattle.std.specs.Prelude.{Some, None}
use Rattle.tables.specs.Table.{rows}
use Rattle.gates.specs.Gates.{Gate, Add, Scale}
use Rattle.gates.specs.Steps.{Step, local, deal, exchange, end, Cursor, origin, past}
use Rattle.gates.specs.Meaning.{job_steps}
use Rattle.gates.specs.Walk.{far}
use Rattle.gates.specs.Costs.{Cost, plus, cost}
use Rattle.gates.proofs.Needs.{cost_append, far_used}
use Rattle.programs.specs.declared.Order.{Order}
use Rattle.programs.specs.Orders.{program}
use Rattle.programs.specs.Sizes.{times_cost}
use Rattle.programs.specs.Seek.{gate_place, sought}
use Rattle.jobs.specs.CostTable.{curve_cost}
use Rattle.calls.specs.Places.{nowhere, found, here, seek}
use Rattle.calls.specs.Places as Places
use Rattle.walks.specs.Workers.{cursor}
use Rattle.walks.specs.Halts.{steps_from}
use Rattle.walks.proofs.Gates.{programs_append}
use Rattle.walks.proofs.Places.{found_at, no_place}
use Rattle.calendars.specs.Ranges.{number}
use Rattle.days.specs.Day.{day_factor, day_gates, day_steps}
use Rattle.days.specs.Orders.{own_order, is_run, front, back}
use Rattle.days.proofs.Quarters.{day_gates_count, left_out_at}
use Rattle.days.proofs.Counts.{counts_before}
use Rattle.days.proofs.Moved.{moved}
use Rattle.days.proofs.Lanes.{place}
use Rattle.days.proofs.Orders.{order_is, idle}
use Rattle.days.proofs.Sought.{behind_gates, sought_in_day, none_left_out}

-- ---- a search does not change what comes behind all steps

far_of : Cursor → Places.Found → Cursor
far_of z nowhere = z
far_of z (found ss c) = far ss c

far_sought : (o x : ℕ) (ss : List Step) (c : Cursor) → far_of (far ss c) (seek o x ss c) ≡ far ss c
unfolding seek far far_of
far_sought o x [] c = go (here o x c)
  where
    go : (b : Bool) → far_of c (cond b (found [] c) nowhere) ≡ c
    go true = refl
    go false = refl
far_sought o x (local p m l ∷ ss) c = far_sought o x ss _
far_sought o x (deal p f ∷ ss) c = far_sought o x ss _
far_sought o x (exchange p k ∷ ss) c = go (here o x c) (far_sought o x ss (past (exchange p k) c))
  where
    go : (b : Bool) → far_of (far ss (past (exchange p k) c)) (seek o x ss (past (exchange p k) c)) ≡ far ss (past (exchange p k) c)
        → far_of (far ss (past (exchange p k) c)) (cond b (found (exchange p k ∷ ss) c) (seek o x ss (past (exchange p k) c)))
        ≡ far ss (past (exchange p k) c)
    go true ih = refl
    go false ih = ih
far_sought o x (end ∷ ss) c = far_sought o x ss _

pub seek_far : (o x : ℕ) (ss : List Step) (c : Cursor) (ts : List Step) (d : Cursor) → seek o x ss c ≡ found ts d → far ts d ≡ far ss c
unfolding far_of
seek_far o x ss c ts d e = sym (ap (far_of (far ss c)) e) ∙ far_sought o x ss c

-- ---- the counts in front of an order

module _ (table : List ℕ) (f : ℕ → Bool) where
  abbrev G : List (List Gate)
  G = day_gates 32 f (rows table)

  -- of the orders before q
  abbrev pub used_by : (q : ℕ) → Cost
  used_by q = times_cost (number f 0 q) (curve_cost 0 (length (rows table)))

  -- where the steps behind are those of the day from order q on
  pub used_before : (q a b n : ℕ) → q ≤ 96 → far (job_steps 32 (drop q G)) (cursor q 0 a b n) ≡ far (day_steps 32 table f) origin
      → (a ≡ (used_by q).a) × (b ≡ (used_by q).b) × (n ≡ (used_by q).deals)
  unfolding day_steps plus
  used_before q a b n h e =
      let rest = job_steps 32 (drop q G) in
      let whole : job_steps 32 G ≡ job_steps 32 (take q G) ++ rest =
      ap (job_steps 32) (sym (take-append-drop q G)) ∙ programs_append 32 (take q G) (drop q G) in
      let k : cost (job_steps 32 G) ≡ plus (used_by q) (cost rest) =
      ap cost whole ∙ cost_append (job_steps 32 (take q G)) rest ∙ ap (λ (c : Cost). plus c (cost rest)) (counts_before f (rows table) q h) in
      let u = far_used rest (cursor q 0 a b n) in
      let v = far_used (job_steps 32 G) origin in (
        omega (arith, u.a, v.a, ap (λ (c : Cursor). c.a) e, ap (λ (c : Cost). c.a) k),
        omega (arith, u.b, v.b, ap (λ (c : Cursor). c.b) e, ap (λ (c : Cost). c.b) k),
        omega (arith, u.deals, v.deals, ap (λ (c : Cursor). c.deals) e, ap (λ (c : Cost). c.deals) k),
      )

  -- ---- the place that the code finds

  module _ (o x : ℕ) (h : o ≤ 96) where
    abbrev own : List Gate
    own = program 32 (rows table) (own_order o)

    in_gates : o < length G
    in_gates = omega (arith, day_gates_count 32 f (rows table))

    around : (k q : ℕ) → length (front k q) + length (back q) ≤ 2
    unfolding front back
    around k q = go (ltb q 96)
      where
        go : (b : Bool) → length (cond b [] (Scale 22 0 k ∷ [])) + length (cond b (Add 0 0 22 ∷ Add 1 1 20 ∷ []) []) ≤ 2
        go true = omega arith
        go false = omega arith

    short : ((q : Order) → length (program 32 (rows table) q) ≤ 1000) → (q : ℕ) → q ≤ o → length (get_or G q []) ≤ 1002
    short few q l = go (is_run f q) refl
      where
        go : (b : Bool) → is_run f q ≡ b → length (get_or G q []) ≤ 1002
        go true e =
            let p = program 32 (rows table) (own_order q) in
            let k = day_factor f in
            omega (
              arith,
              ap length (order_is 32 f (rows table) q (omega arith) e),
              length-append (front k q) (map (moved (place q)) p ++ back q),
              length-append (map (moved (place q)) p) (back q),
              length-map p (moved (place q)),
              few (own_order q),
              around k q,
            )
        go false e =
            let i = idle 32 f (rows table) q (omega arith) e in
            omega (arith, ap length (left_out_at 32 f (rows table) q i.0 i.1))

    module _ (run : is_run f o ≡ true) where
      -- with little used before it
      pub found_in_day : ((q : Order) → length (program 32 (rows table) q) ≤ 1000) → (i a n : ℕ) → sought 32 own x 0 0 0 ≡ Some (gate_place i a n)
          → (seek o x (day_steps 32 table f) origin
          ≡ found (steps_from 32 (length (front (day_factor f) o) + i) (drop o G))
          (cursor o x ((used_by o).a + a) ((used_by o).b + x) ((used_by o).deals + n)))
          × ((used_by o).a + a < 200000) × ((used_by o).b + x < 200000) × ((used_by o).deals + n < 200000)
      unfolding day_steps behind_gates
      found_in_day few i a n e =
          let fr = front (day_factor f) o in
          let s = sought_in_day 32 f (rows table) o h x run ∙ ap (behind_gates (length fr)) e in
          let p = found_at 32 G o x in_gates 1002 (short few) (length fr + i) a n s in
          let k : cost (job_steps 32 (take o G)) ≡ used_by o = counts_before f (rows table) o h in
          let l : 1002 * o ≤ 96192 = omega arith in (
            p.is ∙ ap (λ (k : Cost). found (steps_from 32 (length fr + i) (drop o G)) (cursor o x (k.a + a) (k.b + x) (k.deals + n))) k,
            omega (arith, p.few_a, p.few_gates, ap (λ (c : Cost). c.a) k),
            omega (arith, p.few_b, p.few_gates, ap (λ (c : Cost). c.b) k),
            omega (arith, p.few_deals, p.few_gates, ap (λ (c : Cost). c.deals) k),
          )

      pub nowhere_in_day : sought 32 own x 0 0 0 ≡ None → seek o x (day_steps 32 table f) origin ≡ nowhere
      unfolding day_steps behind_gates
      nowhere_in_day e =
          no_place 32 G o x in_gates (sought_in_day 32 f (rows table) o h x run ∙ ap (behind_gates (length (front (day_factor f) o))) e)

    -- "a left-out quarter has no gates, and a place in it is 8"
    pub nowhere_left_out : is_run f o ≡ false → seek o x (day_steps 32 table f) origin ≡ nowhere
    unfolding day_steps
    nowhere_left_out e =
        let i = idle 32 f (rows table) o h e in
        no_place 32 G o x in_gates (none_left_out 32 f (rows table) o h x i.0 i.1)
