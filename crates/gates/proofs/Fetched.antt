-- The gate at an index of a list: it is the first of those left there. Assumes nothing.
use mathlib.Core.Path.{◌≡◌, refl}
use mathlib.Core.List.{List, [], ◌∷◌}
use Prim.Native.Nat.{ℕ, zero, suc, ◌≤◌, ◌<◌}
use native.Mathlib.Omega.{arith}
use lib.ListN.{length, drop}
use Rattle.gates.specs.Gates.{Gate}
use Rattle.gates.specs.Codes.{At, Past, fetched}

pub never : {S : Type 0} → ◌≡◌ {A = ℕ} 0 1 → S
never e = absurd (omega arith)

pub first_left : (gs : List Gate) (i : ℕ) (g : Gate) → fetched gs i ≡ At g → drop i gs ≡ g ∷ drop (suc i) gs
unfolding fetched
first_left [] i g e = never (cc)
first_left (x ∷ gs) zero g e = let z : x ≡ g = cc in rw z
first_left (x ∷ gs) (suc i) g e = first_left gs i g e

-- ---- there is one below the length, and none from there on

pub some_gate : (gs : List Gate) (i : ℕ) → i < length gs → (g : Gate) × (fetched gs i ≡ At g)
unfolding fetched
some_gate [] i h = absurd (omega arith)
some_gate (g ∷ gs) zero h = (g, refl)
some_gate (g ∷ gs) (suc i) h = some_gate gs i (omega arith)

pub inside : (gs : List Gate) (i : ℕ) (g : Gate) → fetched gs i ≡ At g → i < length gs
unfolding fetched
inside [] i g e = never (cc)
inside (x ∷ gs) zero g e = omega arith
inside (x ∷ gs) (suc i) g e = omega (arith, inside gs i g e)

pub beyond : (gs : List Gate) (i : ℕ) → length gs ≤ i → fetched gs i ≡ Past
unfolding fetched
beyond [] i h = refl
beyond (g ∷ gs) zero h = absurd (omega (arith, h))
beyond (g ∷ gs) (suc i) h = beyond gs i (omega (arith, h))

pub outside : (gs : List Gate) (i : ℕ) → fetched gs i ≡ Past → length gs ≤ i
unfolding fetched
outside [] i e = omega arith
outside (x ∷ gs) zero e = never (cc)
outside (x ∷ gs) (suc i) e = omega (arith, outside gs i e)
