-- The programs before a place in a list of programs: the search for the place passes them, with the sums of their counts, which are
-- small where the programs are short. Assumes nothing.
use mathlib.Core.Path.{◌≡◌, refl, ◌∙◌}
use mathlib.Core.List.{List, [], ◌∷◌}
use Prim.Native.Nat.{ℕ, zero, suc, ◌+◌, ◌*◌, ◌≤◌, ◌<◌}
use native.Mathlib.Nat.{mul-suc}
use native.Mathlib.Omega.{arith}
use lib.ListN.{length, get_or, take, drop}
use Rattle.gates.specs.Gates.{Gate}
use Rattle.gates.specs.Steps.{product, refresh, known_product, Step, local, deal, exchange, end, Cursor, past}
use Rattle.gates.specs.Meaning.{meaning, order_steps, job_steps}
use Rattle.gates.specs.Walk.{far}
use Rattle.gates.specs.Costs.{Cost, plus, step_cost, cost}
use Rattle.calls.specs.Places.{seek}
use Rattle.gates.proofs.GateSteps.{OfGate, of_gate}
use Rattle.walks.proofs.Seeking.{not_here}

-- ---- the programs before a place are passed

-- what seeks the place (o, x) from c on seeks it from cur on, with the steps left
pub record Passed (o x : ℕ) (c : Cursor) (from left : List Step) (orders : ℕ) : Type 0 where
  pub cur : Cursor
  pub same : seek o x from c ≡ seek o x left cur
  pub in_order : cur.order ≡ c.order + orders
  pub at_turn : cur.turn ≡ 0

module _ (w o x : ℕ) where
  -- what is passed with the program gs, whatever stands behind it
  abbrev Behind : List Gate → List Step → Cursor → Type 0
  Behind gs ss c = (p : Passed o x c (order_steps w gs ss) ss 1) × ((ts : List Step) → far (order_steps w gs ts) c ≡ far ts p.cur)

  -- one program
  skip : (gs : List Gate) (ss : List Step) (c : Cursor) → c.order < o → Behind gs ss c
  unfolding order_steps seek far past
  skip [] ss c h = (record { cur = past end c; same = refl; in_order = omega arith; at_turn = refl }, λ ts. refl)
  skip (g ∷ gs) ss c h = go (meaning w g) refl (of_gate w g) (λ d q. skip gs ss d q)
    where
      go : (y : Step) → meaning w g ≡ y → OfGate y → ((d : Cursor) → d.order < o → Behind gs ss d) → Behind (g ∷ gs) ss c
      go (local d m l) p q ih =
          let r = ih c h in
          (record { cur = r.0.cur; same = rw p r.0.same; in_order = r.0.in_order; at_turn = r.0.at_turn }, λ ts. rw p (r.1 ts))
      go (deal d f) p q ih =
          let r = ih (past (deal d f) c) h in
          (record { cur = r.0.cur; same = rw p r.0.same; in_order = r.0.in_order; at_turn = r.0.at_turn }, λ ts. rw p (r.1 ts))
      go (exchange d e) p q ih =
          let r = ih (past (exchange d e) c) h in (
            record {
              cur = r.0.cur;
              same = rw (p, not_here o x c (λ z. omega arith)) r.0.same;
              in_order = r.0.in_order;
              at_turn = r.0.at_turn;
            },
            λ ts. rw p (r.1 ts),
          )
      go end p q ih = absurd q

  -- n programs
  pub skip_all : (n : ℕ) (programs : List (List Gate)) (c : Cursor) → c.order + n ≤ o → n ≤ length programs → c.turn ≡ 0
      → (p : Passed o x c (job_steps w programs) (job_steps w (drop n programs)) n) × (far (job_steps w (take n programs)) c ≡ p.cur)
  unfolding job_steps far
  skip_all zero os c h l t = (record { cur = c; same = refl; in_order = omega arith; at_turn = t }, refl)
  skip_all (suc n) [] c h l t = absurd (omega arith)
  skip_all (suc n) (gs ∷ os) c h l t =
      let p = skip gs (job_steps w os) c (omega arith) in
      let q = skip_all n os p.0.cur (omega (arith, p.0.in_order)) (omega arith) p.0.at_turn in (
        record {
          cur = q.0.cur;
          same = p.0.same ∙ q.0.same;
          in_order = omega (arith, p.0.in_order, q.0.in_order);
          at_turn = q.0.at_turn;
        },
        p.1 (job_steps w (take n os)) ∙ q.1,
      )

-- ---- their counts, which are small where the programs are short

-- the counts of the programs before the one at o
abbrev pub before : (w : ℕ) → (programs : List (List Gate)) → (o : ℕ) → Cost
before w os o = cost (job_steps w (take o os))

-- at most two words of A and one of B and a deal for each of n gates
pub record Below (k : Cost) (n : ℕ) : Type 0 where
  pub few_a : k.a ≤ 2 * n
  pub few_b : k.b ≤ n
  pub few_deals : k.deals ≤ n

one_step : (y : Step) → Below (step_cost y) 1
unfolding step_cost
one_step (local d m l) = omega arith
one_step (deal d f) = omega arith
one_step (exchange d (product O p q)) = omega arith
one_step (exchange d (refresh O p)) = omega arith
one_step (exchange d (known_product O p q)) = omega arith
one_step end = omega arith

program_below : (w : ℕ) (gs : List Gate) (ss : List Step) (n : ℕ) → Below (cost ss) n → Below (cost (order_steps w gs ss)) (length gs + n)
unfolding order_steps cost plus step_cost
program_below w [] ss n h =
    record { few_a = omega (arith, h.few_a); few_b = omega (arith, h.few_b); few_deals = omega (arith, h.few_deals) }
program_below w (g ∷ gs) ss n h =
    let p = one_step (meaning w g) in
    let q = program_below w gs ss n h in
    record {
      few_a = omega (arith, p.few_a, q.few_a);
      few_b = omega (arith, p.few_b, q.few_b);
      few_deals = omega (arith, p.few_deals, q.few_deals);
    }

-- at most n gates in each
pub before_below : (w n : ℕ) (programs : List (List Gate)) (o : ℕ) → ((q : ℕ) → q < o → length (get_or programs q []) ≤ n)
    → Below (before w programs o) (n * o)
unfolding job_steps cost
before_below w n os zero h = omega arith
before_below w n [] (suc o) h = omega arith
before_below w n (gs ∷ os) (suc o) h =
    let p = program_below w gs (job_steps w (take o os)) (n * o) (before_below w n os o (λ q l. h (suc q) (omega arith))) in
    let q : length gs ≤ n = h 0 (omega arith) in
    let m : n * suc o ≡ n * o + n = mul-suc n o in
    record { few_a = omega (arith, p.few_a, q, m); few_b = omega (arith, p.few_b, q, m); few_deals = omega (arith, p.few_deals, q, m) }
