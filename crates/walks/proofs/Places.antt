-- The places in a list of programs: past the last program, at the end, and at a product or refresh, where its gate stands and what is
-- used before it; or that there is no such place. Assumes nothing.
use mathlib.Core.Path.{◌≡◌, refl, sym, ap, subst, ◌∙◌}
use mathlib.Core.List.{List, [], ◌∷◌}
use Prim.Native.Nat.{ℕ, suc, ◌+◌, ◌*◌, ◌≤◌, ◌<◌}
use native.Mathlib.Nat.{zero-add}
use native.Mathlib.Omega.{arith}
use lib.ListN.{length, get_or, take, drop}
use lib.Seq.{drop-length, drop-cons, take_all}
use Rattle.std.specs.Prelude.{Some, None}
use Rattle.gates.specs.Gates.{Gate}
use Rattle.gates.specs.Steps.{Step, Cursor, origin}
use Rattle.gates.specs.Meaning.{meaning, order_steps, job_steps}
use Rattle.gates.specs.Costs.{Cost, cost}
use Rattle.gates.specs.Walk.{Exchanging, far}
use Rattle.gates.proofs.Needs.{Further, far_used}
use Rattle.gates.specs.Codes.{At, fetched}
use Rattle.programs.specs.Seek.{gate_place, sought}
use Rattle.calls.specs.Places.{nowhere, found, seek}
use Rattle.calls.specs.Calls.{stored_places, counted_to}
use Rattle.calls.proofs.Hearing.{places_path}
use Rattle.walks.specs.Workers.{cursor}
use Rattle.walks.specs.Halts.{steps_from}
use Rattle.gates.proofs.Fetched.{inside}
use Rattle.walks.proofs.Gates.{steps_there}
use Rattle.walks.proofs.Seeking.{not_here, just_here, not_yet, Placed, placed, not_placed}
use Rattle.walks.proofs.Before.{skip_all, before, Below, before_below}

cursor_path : {c d : Cursor} → c.order ≡ d.order → c.turn ≡ d.turn → c.a ≡ d.a → c.b ≡ d.b → c.deals ≡ d.deals → c ≡ d
cursor_path p q r s t = λ i. record { order = p i; turn = q i; a = r i; b = s i; deals = t i }

-- the program at o has a product or refresh at gate i, which is its x-th, with a words of A, b of B and so many deals used before it: few,
-- where the programs have at most n gates each
pub record Stands (w n : ℕ) (programs : List (List Gate)) (o x i a b dealt : ℕ) : Type 0 where
  pub gate : Gate
  pub there : fetched (get_or programs o []) i ≡ At gate
  pub speaks : Exchanging (meaning w gate ∷ [])
  pub few_gates : i < n
  pub few_turns : x ≤ i
  pub few_a : a ≤ 2 * (n * o + i)
  pub few_b : b ≤ n * o + i
  pub few_deals : dealt ≤ n * o + i
  pub is : seek o x (job_steps w programs) origin ≡ found (steps_from w i (drop o programs)) (cursor o x a b dealt)

module _ (w : ℕ) (programs : List (List Gate)) (o x : ℕ) where
  abbrev whole_cost : Cost
  whole_cost = cost (job_steps w programs)

  pub past_end : length programs < o → seek o x (job_steps w programs) origin ≡ nowhere
  unfolding seek job_steps
  past_end h =
      let p = skip_all w o x (length programs) programs origin (omega arith) (omega arith) refl in
      p.0.same ∙ rw (drop-length programs, not_here o x p.0.cur (λ e. omega (arith, p.0.in_order)))

  -- at the end, where all that they use is counted
  pub at_end : o ≡ length programs → x ≡ 0
      → (c : Cursor)
      × (counted_to c ≡ stored_places whole_cost.a whole_cost.b whole_cost.deals)
      × (seek o x (job_steps w programs) origin ≡ found [] c)
  unfolding seek job_steps
  at_end h z =
      let p = skip_all w o x (length programs) programs origin (omega arith) (omega arith) refl in
      let here = just_here o x p.0.cur (omega (arith, p.0.in_order)) (omega (arith, p.0.at_turn)) in
      let u : Further origin whole_cost p.0.cur =
      subst (λ (c : Cursor). Further origin whole_cost c)
      (ap (λ (os : List (List Gate)). far (job_steps w os) origin) (sym (take_all (length programs) programs (omega arith))) ∙ p.1)
      (far_used (job_steps w programs) origin) in (
        p.0.cur,
        places_path (omega (arith, u.a)) (omega (arith, u.b)) (omega (arith, u.deals)),
        p.0.same ∙ rw (drop-length programs, here),
      )

  pub no_turn : o ≡ length programs → (x ≡ 0 → ⊥) → seek o x (job_steps w programs) origin ≡ nowhere
  unfolding seek job_steps
  no_turn h z =
      let p = skip_all w o x (length programs) programs origin (omega arith) (omega arith) refl in
      p.0.same ∙ rw (drop-length programs, not_yet o x p.0.cur (λ e. z (sym e ∙ p.0.at_turn)))

  module _ (h : o < length programs) where
    -- the program at o, and the steps behind it
    abbrev own : List Gate
    own = get_or programs o []

    abbrev later : List Step
    later = job_steps w (drop (suc o) programs)

    pub no_place : sought w own x 0 0 0 ≡ None → seek o x (job_steps w programs) origin ≡ nowhere
    unfolding job_steps
    no_place e =
        let p = skip_all w o x o programs origin (omega arith) (omega arith) refl in
        let none = not_placed w own later x 0 0 0 o x p.0.cur e (omega (arith, p.0.in_order)) (omega (arith, p.0.at_turn)) in
        p.0.same ∙ rw (drop-cons programs o [] h) none

    at_place : (i a dealt : ℕ) (q : Placed w own later x 0 0 0 i a dealt)
        → seek o x (job_steps w programs) origin
        ≡ found (meaning w q.gate ∷ order_steps w (drop (suc q.j) own) later)
        (cursor o x ((before w programs o).a + a) ((before w programs o).b + x) ((before w programs o).deals + dealt))
    unfolding job_steps
    at_place i a dealt q =
        let p = skip_all w o x o programs origin (omega arith) (omega arith) refl in
        let u : Further origin (before w programs o) p.0.cur =
        subst (λ (c : Cursor). Further origin (before w programs o) c) p.1 (far_used (job_steps w (take o programs)) origin) in
        let r = q.reached o x p.0.cur (omega (arith, p.0.in_order)) (omega (arith, p.0.at_turn)) in
        let left = meaning w q.gate ∷ order_steps w (drop (suc q.j) own) later in
        let e : seek o x (job_steps w (drop o programs)) p.0.cur ≡ found left r.cur = rw (drop-cons programs o [] h) r.is in
        p.0.same ∙ e
        ∙ ap (λ (c : Cursor). found left c)
        (cursor_path (omega (arith, p.0.in_order, r.in_order)) (omega (arith, p.0.at_turn, r.at_turn))
        (omega (arith, u.a, r.used_a))
        (omega (arith, u.b, r.used_b))
        (omega (arith, u.deals, r.used_deals)))

    pub found_at : (n : ℕ) → ((q : ℕ) → q ≤ o → length (get_or programs q []) ≤ n)
        → (i a dealt : ℕ) → sought w own x 0 0 0 ≡ Some (gate_place i a dealt)
        → Stands w n programs o x i ((before w programs o).a + a) ((before w programs o).b + x) ((before w programs o).deals + dealt)
    found_at n short i a dealt s =
        let k = before w programs o in
        let p : Placed w own later x 0 0 0 i a dealt = placed w own later x 0 0 0 i a dealt s in
        let e : i ≡ p.j = p.on ∙ zero-add p.j in
        let at : fetched own i ≡ At p.gate = ap (λ (m : ℕ). fetched own m) e ∙ p.there in
        let l : i < length own = inside own i p.gate at in
        let f : length own ≤ n = short o (omega arith) in
        let b : Below k (n * o) = before_below w n programs o (λ q h. short q (omega arith)) in
        record {
          gate = p.gate;
          there = at;
          speaks = p.speaks;
          few_gates = omega arith;
          few_turns = omega (arith, p.turns);
          few_a = omega (arith, p.few_a, b.few_a);
          few_b = omega (arith, p.turns, b.few_b);
          few_deals = omega (arith, p.few_deals, b.few_deals);
          is = at_place i a dealt p
              ∙ ap (λ (ss : List Step). found ss (cursor o x (k.a + a) (k.b + x) (k.deals + dealt))) (steps p e at);
        }
      where
        steps : {i a dealt : ℕ} (p : Placed w own later x 0 0 0 i a dealt) → i ≡ p.j → fetched own i ≡ At p.gate
            → meaning w p.gate ∷ order_steps w (drop (suc p.j) own) later ≡ steps_from w i (drop o programs)
        steps p e at = rw (← e) (sym (steps_there w programs o _ own (drop-cons programs o [] h) p.gate at))
