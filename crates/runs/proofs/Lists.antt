-- Lists: an element of a mapped list. Assumes nothing.
use mathlib.Core.Path.{◌≡◌, refl}
use mathlib.Core.List.{List, [], ◌∷◌, map}
use Prim.Native.Nat.{ℕ, zero, suc, ◌<◌}
use native.Mathlib.Omega.{arith}
use lib.ListN.{get_or, length}

pub get_d_map : {A B : Type 0} (f : A → B) (l : List A) (q : ℕ) (d : A) (e : B) → q < length l → get_or (map f l) q e ≡ f (get_or l q d)
get_d_map f [] q d e h = absurd (omega arith)
get_d_map f (x ∷ l) zero d e h = refl
get_d_map f (x ∷ l) (suc q) d e h = get_d_map f l q d e (omega arith)
