-- What a host sees on a walk, step by step. Assumes nothing.
use mathlib.Core.Path.{◌≡◌}
use mathlib.Core.List.{List, [], ◌∷◌}
use Prim.Native.Nat.{ℕ, ◌+◌}
use lib.ListN.{drop}
use Rattle.gates.specs.Steps.{Step, origin}
use Rattle.gates.specs.Hosts.{Triple, of0, joint1, joint2, dealt}
use Rattle.gates.specs.Duet.{utter}
use Rattle.privacy.specs.Unseen.{Side}

module _ (P : Side) where
  -- the words needed of the unseen list
  unfoldable pub need : List Step → ℕ
  need [] = 0
  need (x ∷ ss) = P.unseen x + need ss

  -- what is seen on a walk, where `sight` puts what is seen at a step in front of what is seen later
  unfoldable pub told : (sight : Step → (v u : List ℕ) → Triple → List ℕ → List ℕ) → List Step → (v u : List ℕ)
      → Triple → List ℕ
  told sight [] v u j = []
  told sight (x ∷ ss) v u j =
      sight x v u j (told sight ss (drop (P.seen x) v) (drop (P.unseen x) u) (P.step x v u j))

-- host 1 hears host 2's words
abbrev pub hears1 : Step → (A B : List ℕ) → Triple → List ℕ → List ℕ
hears1 x A B j ws = utter (joint2 A B) x origin j ws

-- host 2 hears host 1's, and is dealt host 0's
abbrev pub hears2 : Step → (B A : List ℕ) → Triple → List ℕ → List ℕ
hears2 x B A j ws = utter (joint1 A B) x origin j ws

abbrev pub is_dealt : Step → (B A : List ℕ) → Triple → List ℕ → List ℕ
is_dealt x B A j ds = dealt A B x origin (of0 j) ds

-- what host 1 holds is the same, m and L1; and host 2, m and L2
abbrev pub Agree1 : Triple → Triple → Type 0
Agree1 j k = (j.0 ≡ k.0) × (j.1 ≡ k.1)

abbrev pub Agree2 : Triple → Triple → Type 0
Agree2 j k = (j.0 ≡ k.0) × (j.2 ≡ k.2)
