-- The trail of a job is what its orders' gates leave, one order after another. Assumes nothing.
use mathlib.Core.Path.{◌≡◌, refl, sym, ap, ◌∙◌}
use mathlib.Core.List.{List, [], ◌∷◌, ◌++◌, map, append-nil, append_assoc}
use Prim.Native.Nat.{ℕ, zero, suc, ◌+◌, ◌≤◌, ◌<◌}
use native.Mathlib.Omega.{arith}
use lib.ListN.{get_or, length, take}
use Rattle.gates.specs.Gates.{Gate}
use Rattle.gates.specs.Steps.{Step, local, deal, exchange, end, past}
use Rattle.gates.specs.Meaning.{meaning, order_steps, job_steps}
use Rattle.gates.specs.Walk.{Conf, mark, whole}
use Rattle.gates.specs.Hosts.{Triple, act}
use Rattle.gates.specs.Costs.{Cost, plus, cost}
use Rattle.gates.proofs.GateSteps.{OfGate, of_gate}
use Rattle.programs.specs.Costs.{program_cost}
use Rattle.programs.proofs.Sizes.{order_cost}
use Rattle.programs.proofs.Gates.{Fits}
use Rattle.programs.proofs.Points.{Point, after, afters}
use Rattle.jobs.proofs.Indices.{gates_length}
use Rattle.jobs.specs.Job.{orders, job_gates, steps_of}
use Rattle.calls.specs.Scripts.{job_script, ends, Closed, Orderly}
use Rattle.runs.specs.Orders.{first_counts}

pub mark_gate : {S : Type 0} (w : ℕ) (g : Gate) (s : S) (t : List S) → mark (meaning w g) s t ≡ t
mark_gate {S} w g s t = go (meaning w g) (of_gate w g)
  where
    go : (y : Step) → OfGate y → mark y s t ≡ t
    go (local d m l) h = refl
    go (deal d f) h = refl
    go (exchange d e) h = refl
    go end h = absurd h

module _ (w : ℕ) (A B : List ℕ) (hA : Fits w A) (hB : Fits w B) where
  abbrev Pt : Type 0
  Pt = Point w A B hA hB

  abbrev run : List Gate → Pt → Pt
  run = afters w A B hA hB

  -- past the end of an order
  abbrev pub ended : Pt → Pt
  ended G = record { c = past end G.c; j = G.j; fits = G.fits; slots = G.slots }

  -- the points at which the orders of a job leave the walk
  unfoldable pub points : List (List Gate) → Pt → List Pt
  points [] G = []
  points (o ∷ os) G = run o G ∷ points os (ended (run o G))

  whole_order : (gs : List Gate) (G : Pt) (ss : List Step) (t : List Triple)
      → whole (act A B) (order_steps w gs ss) G.c G.j t
      ≡ whole (act A B) ss (past end (run gs G).c) (run gs G).j (t ++ ((run gs G).j ∷ []))
  unfolding whole order_steps afters after act
  whole_order [] G ss t = refl
  whole_order (g ∷ gs) G ss t =
      ap (whole (act A B) (order_steps w gs ss) _ _) (mark_gate w g G.j t) ∙ whole_order gs (after w A B hA hB g G) ss t

  pub job_trail : (os : List (List Gate)) (G : Pt) (t : List Triple)
      → (whole (act A B) (job_steps w os) G.c G.j t).trail ≡ t ++ map (λ (p : Pt). p.j) (points os G)
  unfolding whole job_steps points
  job_trail [] G t = sym (append-nil t)
  job_trail (o ∷ os) G t =
      ap (λ (p : Conf Triple). p.trail) (whole_order o G (job_steps w os) t)
      ∙ job_trail os (ended (run o G)) (t ++ ((run o G).j ∷ []))
      ∙ append_assoc t ((run o G).j ∷ []) _

  -- the point just before order q
  unfoldable pub point_before : List (List Gate) → Pt → ℕ → Pt
  point_before [] G q = G
  point_before (o ∷ os) G zero = G
  point_before (o ∷ os) G (suc q) = point_before os (ended (run o G)) q

  -- order q takes the point before it to the next
  pub point_after : (os : List (List Gate)) (G E : Pt) (q : ℕ) → q < length os
      → get_or (points os G) q E ≡ run (get_or os q []) (point_before os G q)
  unfolding points point_before
  point_after [] G E q h = absurd (omega arith)
  point_after (o ∷ os) G E zero h = refl
  point_after (o ∷ os) G E (suc q) h = point_after os (ended (run o G)) E q (omega arith)

  -- which is where the order before left the walk
  pub point_next : (os : List (List Gate)) (G E : Pt) (q : ℕ) → q < length os → (point_before os G (suc q)).j ≡ (get_or (points os G) q E).j
  unfolding points point_before
  point_next [] G E q h = absurd (omega arith)
  point_next (o ∷ []) G E zero h = refl
  point_next (o ∷ o' ∷ os) G E zero h = refl
  point_next (o ∷ os) G E (suc q) h = point_next os (ended (run o G)) E q (omega arith)

  -- the walk of the first q orders comes to the point before order q
  pub state_before : (os : List (List Gate)) (G : Pt) (q : ℕ) (t : List Triple)
      → (whole (act A B) (job_steps w (take q os)) G.c G.j t).state ≡ (point_before os G q).j
  unfolding whole job_steps point_before
  state_before [] G zero t = refl
  state_before [] G (suc q) t = refl
  state_before (o ∷ os) G zero t = refl
  state_before (o ∷ os) G (suc q) t =
      ap (λ (p : Conf Triple). p.state) (whole_order o G (job_steps w (take q os)) t) ∙ state_before os (ended (run o G)) q _

-- ---- the counts of a job, order by order

pub first_cost : (w : ℕ) (os : List (List Gate)) (q : ℕ) → cost (job_steps w (take q os)) ≡ first_counts w q os
unfolding job_steps first_counts cost
first_cost w [] zero = refl
first_cost w [] (suc q) = refl
first_cost w (o ∷ os) zero = refl
first_cost w (o ∷ os) (suc q) = order_cost w o (job_steps w (take q os)) ∙ ap (plus (program_cost w o)) (first_cost w os q)

-- the words of A that the orders up to order q use
pub used_within : (w : ℕ) (os : List (List Gate)) (q : ℕ) → q < length os
    → (first_counts w q os).a + (program_cost w (get_or os q [])).a ≤ (cost (job_steps w os)).a
unfolding job_steps first_counts plus
used_within w [] q h = absurd (omega arith)
used_within w (o ∷ os) zero h = omega (arith, ap (λ (k : Cost). k.a) (order_cost w o (job_steps w os)))
used_within w (o ∷ os) (suc q) h =
    omega (arith, ap (λ (k : Cost). k.a) (order_cost w o (job_steps w os)), used_within w os q (omega arith))

-- ---- as many ends as orders

ends_gate : (w : ℕ) (g : Gate) (ss : List Step) → ends (meaning w g ∷ ss) ≡ ends ss
unfolding ends
ends_gate w g ss = go (meaning w g) (of_gate w g)
  where
    go : (y : Step) → OfGate y → ends (y ∷ ss) ≡ ends ss
    go (local d m l) h = refl
    go (deal d f) h = refl
    go (exchange d e) h = refl
    go end h = absurd h

ends_order : (w : ℕ) (gs : List Gate) (ss : List Step) → ends (order_steps w gs ss) ≡ suc (ends ss)
unfolding ends order_steps
ends_order w [] ss = refl
ends_order w (g ∷ gs) ss = ends_gate w g (order_steps w gs ss) ∙ ends_order w gs ss

pub ends_job : (w : ℕ) (os : List (List Gate)) → ends (job_steps w os) ≡ length os
unfolding ends job_steps
ends_job w [] = refl
ends_job w (o ∷ os) = ends_order w o (job_steps w os) ∙ ap suc (ends_job w os)

-- a job has as many lists of gates as orders
pub job_orders : (w : ℕ) (job table : List ℕ) → ends (steps_of w job table) ≡ length (orders job)
unfolding steps_of
job_orders w job table = ends_job w (job_gates w job table) ∙ gates_length w job table

-- ---- every step stands in an order

closed_order : (w : ℕ) (gs : List Gate) (ss : List Step) → Closed ss → (1 ≤ ends (order_steps w gs ss)) × Closed (order_steps w gs ss)
unfolding order_steps ends
closed_order w [] ss h = (omega arith, (omega arith, h))
closed_order w (g ∷ gs) ss h =
    let r = closed_order w gs ss h in
    let e : 1 ≤ ends (meaning w g ∷ order_steps w gs ss) = rw (ends_gate w g (order_steps w gs ss)) r.0 in
    (e, (e, r.1))

pub ends_closed : (w : ℕ) (os : List (List Gate)) → Closed (job_steps w os)
unfolding job_steps
ends_closed w [] = tt
ends_closed w (o ∷ os) = (closed_order w o (job_steps w os) (ends_closed w os)).1

pub job_closed : (w : ℕ) (job table : List ℕ) → Closed (steps_of w job table)
unfolding steps_of
job_closed w job table = ends_closed w (job_gates w job table)

pub job_orderly : (w : ℕ) (job table : List ℕ) → Orderly (job_script w job table)
job_orderly w job table = record { closed = job_closed w job table; room = omega arith }
