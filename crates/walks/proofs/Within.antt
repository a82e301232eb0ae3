-- The walk of host 1 or 2 through the gates of a program, a gate at a time, on plain values. Assumes nothing.
use mathlib.Core.Path.{◌≡◌, refl, ◌∙◌, subst}
use mathlib.Core.List.{List, [], ◌∷◌, ◌++◌, map}
use Prim.Native.Nat.{ℕ, suc, ◌+◌, ◌<◌}
use native.Mathlib.Omega.{arith}
use native.Mathlib.Numerals.{add-one}
use lib.ListN.{length, drop}
use Rattle.gates.specs.declared.GateCode.{GateCode}
use Rattle.gates.specs.Gates.{Gate}
use Rattle.gates.specs.declared.Used.{Used}
use Rattle.gates.specs.Steps.{Lane, Step, local, deal, exchange, end}
use Rattle.gates.specs.Costs.{step_cost, used_at}
use Rattle.gates.specs.Meaning.{meaning}
use Rattle.gates.specs.Codes.{step_of}
use Rattle.gates.specs.Walk.{Exchanging}
use Rattle.gates.specs.Hosts.{Pair, on_m, on_mask}
use Rattle.gates.proofs.GateSteps.{OfGate, of_gate}
use Rattle.gates.proofs.Fetched.{never}
use Rattle.gates.proofs.Uses.{few_used, used_b, behind_a, behind_deals}
use Rattle.calls.specs.Lent.{Worker, worker_with}
use Rattle.walks.specs.Workers.{cursor, deal_taken}
use Rattle.walks.specs.Halts.{Going}
use Rattle.walks.proofs.Halts.{passes}
use Rattle.walks.proofs.Workers.{acts}

pub going_from : (w : ℕ) (P : Worker) (gs : List Gate) (i a dealt : ℕ) (s : Pair) → Going w P gs i a dealt s i a dealt s
going_from w P gs i a n s =
    record { same = λ ss o x b. refl; few = λ most h l. h; few_a = omega arith; few_deals = omega arith }

-- ---- a gate that exchanges no word

-- the step of a gate where no word of B is used
record Silent (y : Step) : Type 0 where
  gate : OfGate y
  none : (step_cost y).b ≡ 0

silent : (y : Step) → OfGate y → (Exchanging (y ∷ []) → ⊥) → Silent y
unfolding step_cost
silent (local d m l) g q = record { gate = tt; none = refl }
silent (deal d f) g q = record { gate = tt; none = refl }
silent (exchange d e) g q = absurd (q tt)
silent end g q = absurd g

first_of_gate : (w : ℕ) (gs : List Gate) (y : Step) (ss : List Step) → map (meaning w) gs ≡ y ∷ ss → OfGate y
first_of_gate w [] y ss e = never (cc)
first_of_gate w (g ∷ gs) y ss e = let same : meaning w g ≡ y = cc in subst OfGate same (of_gate w g)

-- ---- a gate further, by its code, and by what the code has written and where it stands then

module _ (w h : ℕ) (M D : List ℕ) (gs : List Gate) (i a dealt : ℕ) (s : Pair) (j a' dealt' : ℕ) (m l : Lane)
    (G : Going w (worker_with h M D) gs i a dealt s j a' dealt' (m, l)) (c : GateCode) (quiet : Exchanging (step_of w c ∷ []) → ⊥)
    (within : j < length gs)
    (here : map (meaning w) (drop j gs) ≡ step_of w c ∷ map (meaning w) (drop (suc j) gs)) (u : Used) (eu : u ≡ used_at (step_of w c))
    (m' l' : Lane) (em : m' ≡ on_m (step_of w c) m) (el : l' ≡ on_mask (step_of w c) (deal_taken h M D a' dealt') l) where
  lanes : (o x b : ℕ) → (worker_with h M D).act (step_of w c) (cursor o x a' b dealt') (m, l) ≡ (m', l')
  lanes o x b = acts h M D (step_of w c) (cursor o x a' b dealt') (m, l) ∙ rw (← em, ← el)

  pub passed : (j' a'' dealt'' : ℕ) → j' ≡ j + 1 → a'' ≡ a' + u.a → dealt'' ≡ dealt' + u.deals
      → Going w (worker_with h M D) gs i a dealt s j' a'' dealt'' (m', l')
  passed j' a'' dealt'' ej ea ed =
      let y = step_of w c in
      let n = few_used y u eu in
      let q = silent y (first_of_gate w (drop j gs) y _ here) quiet in
      record {
        same = λ ss o x b. G.same ss o x b
            ∙ rw (
              here,
              passes (worker_with h M D) (map (meaning w) (drop (suc j) gs) ++ ss) o x a' b dealt' (m, l) y q.gate q.none,
              lanes o x b,
              ej,
              ea,
              ed,
              behind_a y u eu (cursor 0 0 a' 0 dealt'),
              behind_deals y u eu (cursor 0 0 a' 0 dealt'),
              add-one j,
            );
        few = λ most h l. omega (arith, within, ej, l);
        few_a = omega (arith, G.few_a, n, used_b y u eu, q.none, ej, ea);
        few_deals = omega (arith, G.few_deals, n, ej, ed);
      }
