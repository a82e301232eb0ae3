-- The gate at an index of a program, and the program's steps from there on. Assumes nothing.
use mathlib.Core.Path.{◌≡◌, refl, ap, ◌∙◌}
use mathlib.Core.List.{List, [], ◌∷◌, ◌++◌}
use Prim.Native.Nat.{ℕ, suc, ◌+◌}
use native.Mathlib.Numerals.{add-one}
use lib.ListN.{drop}
use Rattle.gates.specs.Gates.{Gate}
use Rattle.gates.specs.Steps.{Step}
use Rattle.gates.specs.Meaning.{meaning, order_steps, job_steps}
use Rattle.gates.specs.Codes.{At, fetched}
use Rattle.gates.proofs.Fetched.{first_left}
use Rattle.walks.specs.Halts.{steps_from}

-- ---- the steps of a program

-- they stand before those behind it
pub steps_append : (w : ℕ) (gs : List Gate) (ss ts : List Step) → order_steps w gs (ss ++ ts) ≡ order_steps w gs ss ++ ts
unfolding order_steps
steps_append w [] ss ts = refl
steps_append w (g ∷ gs) ss ts = ap (λ (xs : List Step). meaning w g ∷ xs) (steps_append w gs ss ts)

at_gate : (w : ℕ) (gs : List Gate) (i : ℕ) (ss : List Step) (g : Gate) → fetched gs i ≡ At g
    → order_steps w (drop i gs) ss ≡ meaning w g ∷ order_steps w (drop (suc i) gs) ss
unfolding order_steps
at_gate w gs i ss g e = ap (λ (z : List Gate). order_steps w z ss) (first_left gs i g e)

-- ---- the steps of programs end to end

pub first_gate : (w : ℕ) (programs : List (List Gate)) → job_steps w programs ≡ steps_from w 0 programs
unfolding steps_from job_steps
first_gate w [] = refl
first_gate w (gs ∷ rest) = refl

-- some of them after others
pub programs_append : (w : ℕ) (ps qs : List (List Gate)) → job_steps w (ps ++ qs) ≡ job_steps w ps ++ job_steps w qs
unfolding job_steps
programs_append w [] qs = refl
programs_append w (gs ∷ ps) qs =
    ap (order_steps w gs) (programs_append w ps qs) ∙ steps_append w gs (job_steps w ps) (job_steps w qs)

-- from a gate of one of them on
module _ (w : ℕ) (programs : List (List Gate)) (o i : ℕ) (gs : List Gate) (e : drop o programs ≡ gs ∷ drop (suc o) programs)
    (g : Gate) (eg : fetched gs i ≡ At g) where
  pub steps_there : steps_from w i (drop o programs)
      ≡ meaning w g ∷ order_steps w (drop (suc i) gs) (job_steps w (drop (suc o) programs))
  unfolding steps_from
  steps_there = rw e (at_gate w gs i (job_steps w (drop (suc o) programs)) g eg)

  pub steps_at : steps_from w i (drop o programs) ≡ meaning w g ∷ steps_from w (i + 1) (drop o programs)
  unfolding steps_from
  steps_at = rw (e, add-one i) (at_gate w gs i (job_steps w (drop (suc o) programs)) g eg)
