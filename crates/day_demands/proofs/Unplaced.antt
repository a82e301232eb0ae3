-- An order with no gates has no place. Assumes nothing.
use mathlib.Core.Path.{◌≡◌, refl, ap, subst}
use mathlib.Core.Bool.{Bool, true, false, cond}
use mathlib.Core.Logic.{◌⊎◌, inl, inr, ⊎_elim}
use mathlib.Core.List.{List, [], ◌∷◌, ◌++◌}
use Prim.Native.Nat.{ℕ, zero, suc, ◌+◌, ◌≤◌}
use native.Mathlib.Omega.{arith}
use lib.ListN.{get_or}
use Rattle.gates.specs.Gates.{Gate}
use Rattle.runs.specs.Runs.{Among}
use Rattle.demands.specs.Conditions.{Place, speaks, order_places, gate_places}

among_two : (p : Place) (l k : List Place) → Among p (l ++ k) → Among p l ⊎ Among p k
among_two p [] k h = inr h
among_two p (q ∷ l) k (inl e) = inl (inl e)
among_two p (q ∷ l) k (inr h) = ⊎_elim (λ a. inl (inr a)) (λ a. inr a) (among_two p l k h)

own_order : (p : Place) (o x : ℕ) (gs : List Gate) → Among p (order_places o x gs) → p.0 ≡ o
unfolding order_places
own_order p o x [] h = absurd h
own_order p o x (g ∷ gs) h = go (speaks g) (own_order p o (suc x) gs) (own_order p o x gs) h
  where
    go : (b : Bool) → (Among p (order_places o (suc x) gs) → p.0 ≡ o) → (Among p (order_places o x gs) → p.0 ≡ o)
        → Among p (cond b ((o, x) ∷ order_places o (suc x) gs) (order_places o x gs)) → p.0 ≡ o
    go true f g (inl e) = ap (λ (r : Place). r.0) e
    go true f g (inr a) = f a
    go false f g a = g a

from_order : (p : Place) (o : ℕ) (os : List (List Gate)) → Among p (gate_places o os) → o ≤ p.0
unfolding gate_places
from_order p o [] h = absurd h
from_order p o (gs ∷ os) h =
    ⊎_elim (λ a. omega (arith, own_order p o 0 gs a)) (λ a. omega (arith, from_order p (suc o) os a))
    (among_two p (order_places o 0 gs) (gate_places (suc o) os) h)

pub unplaced : (o k x : ℕ) (os : List (List Gate)) → get_or os k [] ≡ [] → Among (o + k, x) (gate_places o os) → ⊥
unfolding gate_places order_places
unplaced o k x [] e h = h
unplaced o zero x (gs ∷ os) e h =
    let a : Among (o + 0, x) (gate_places (suc o) os) = subst (λ (l : List Gate). Among (o + 0, x) (order_places o 0 l ++ gate_places (suc o) os)) e h in
    omega (arith, from_order (o + 0, x) (suc o) os a)
unplaced o (suc k) x (gs ∷ os) e h =
    let s : o + suc k ≡ suc o + k = omega arith in
    ⊎_elim (λ a. omega (arith, own_order (o + suc k, x) o 0 gs a)) (λ a. unplaced (suc o) k x os e (rw s at a))
    (among_two (o + suc k, x) (order_places o 0 gs) (gate_places (suc o) os) h)
