-- The lists are used in turn, from their start. Assumes nothing.
use mathlib.Core.Path.{◌≡◌, refl, ap}
use mathlib.Core.List.{List, [], ◌∷◌, ◌++◌}
use Prim.Native.Nat.{ℕ, zero, suc, ◌+◌}
use native.Mathlib.Nat.{add-zero, zero-add}
use native.Mathlib.Omega.{arith}
use Rattle.gates.specs.Steps.{Step, Cursor, origin, past}
use Rattle.gates.specs.Costs.{plus, cost}
use Rattle.gates.specs.Formulas.{places, used, InTurn}
use Rattle.gates.proofs.Needs.{past_used}

places_append : (i n m : ℕ) → places i n ++ places (i + n) m ≡ places i (n + m)
unfolding places
places_append i zero m = rw (add-zero i, zero-add m)
places_append i (suc n) m =
    let e : suc n + m ≡ suc (n + m) = omega arith in
    let f : i + suc n ≡ suc i + n = omega arith in
    rw (e, f) (ap (λ (l : List ℕ). i ∷ l) (places_append (suc i) n m))

module _ (count : Step → ℕ) (next : Cursor → ℕ) (moves : (x : Step) (c : Cursor) → next (past x c) ≡ next c + count x)
    (total : List Step → ℕ) (none : total [] ≡ 0)
    (more : (x : Step) (ss : List Step) → total (x ∷ ss) ≡ count x + total ss) where
  from : (ss : List Step) (c : Cursor) → used count next ss c ≡ places (next c) (total ss)
  unfolding used places
  from [] c = rw none
  from (x ∷ ss) c = rw (from ss (past x c), moves x c, more x ss) (places_append (next c) (count x) (total ss))

pub in_turn : (ss : List Step) → InTurn ss
unfolding cost plus
in_turn ss =
    record {
      a = from _ _ (λ x c. (past_used x c).a) (λ r. (cost r).a) refl (λ x r. refl) ss origin;
      b = from _ _ (λ x c. (past_used x c).b) (λ r. (cost r).b) refl (λ x r. refl) ss origin;
      deals = from _ _ (λ x c. (past_used x c).deals) (λ r. (cost r).deals) refl (λ x r. refl) ss origin;
    }
