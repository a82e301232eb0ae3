-- A step that writes a slot alike on both lanes of host 1 or 2, with the end of its order behind it. Assumes nothing.
use mathlib.Core.Path.{◌≡◌, ap, ◌∙◌}
use mathlib.Core.List.{List, [], ◌∷◌}
use Prim.Native.Nat.{ℕ}
use lib.ListN.{set}
use Rattle.gates.specs.Steps.{Lane, Step, end, Cursor, past}
use Rattle.gates.specs.Meaning.{each}
use Rattle.gates.specs.Walk.{walk}
use Rattle.gates.specs.Hosts.{Pair, on_m, on_mask}
use Rattle.calls.specs.Lent.{Worker, worker_with}
use Rattle.calls.specs.Calls.{report}
use Rattle.walks.specs.Halts.{reported}
use Rattle.walks.proofs.Halts.{trail_free}
use Rattle.walks.proofs.Workers.{acts, acts_end}

-- slot d written on both lanes
abbrev pub written : (d : ℕ) (f : Lane → ℕ) → Pair → Pair
written d f s = (set s.0 d (f s.0), set s.1 d (f s.1))

module _ (h : ℕ) (M D : List ℕ) (d : ℕ) (f : Lane → ℕ) where
  pub acts_each : (c : Cursor) (s : Pair) → (worker_with h M D).act end c ((worker_with h M D).act (each d f) c s) ≡ written d f s
  unfolding on_m on_mask
  acts_each c s = acts_end h M D c _ ∙ acts h M D (each d f) c s

  pub passes_each : (ss : List Step) (c : Cursor) (s : Pair)
      → reported (worker_with h M D) (each d f ∷ end ∷ ss) c s ≡ reported (worker_with h M D) ss (past end c) (written d f s)
  unfolding reported walk past
  passes_each ss c s =
      let P : Worker = worker_with h M D in
      trail_free P ss _ _ _ [] ∙ ap (λ (z : Pair). report P (walk P.act ss (past end c) z [])) (acts_each c s)
