-- R-4, "a product with a known value": that each host speaks document 01's product where a mask is known to be zero,
-- that on a walk the side is known, and what is saved. Assumes nothing.
use Rattle.std.specs.Prelude.{◌≡◌, List, [], ◌∷◌, map, ℕ, ◌+◌}
use Rattle.words.specs.Ring.{Ops}
use Rattle.gates.specs.Steps.{Lane, at, product, refresh, known_product, Step, local, deal, exchange, end}
use Rattle.gates.specs.Steps.{Cursor, say1, say2, part2, past}
use Rattle.gates.specs.Hosts.{Pair}
use Rattle.gates.specs.Costs.{cost_of, plus, cost}

-- "A product with a known value has a zero mask on one side, so its g1 and g2 are 0.": where slot a has the mask 0, a
-- host speaks what it speaks at document 01's product of a and b with g1 = 0, or g2 = 0; whatever word it has for g1 or
-- g2 does not enter
pub record SpokenLike (O : Ops ℕ) : Type 0 where
  pub host1 : (a b : ℕ) (m l : Lane) (g1 l1 : ℕ) → at l a ≡ 0
      → say1 (known_product O a b) m l g1 l1 ≡ say1 (product O a b) m l 0 l1
  pub host2 : (a b : ℕ) (m l : Lane) (g2 l2 : ℕ) → at l a ≡ 0
      → say2 (known_product O a b) m l g2 l2 ≡ say2 (product O a b) m l 0 l2
  -- and with g1 = 0 that product's g2 is 0 where both masks of slot a are
  pub no_deal : (a b : ℕ) (l1 l2 : Lane) → at l1 a ≡ 0 → at l2 a ≡ 0 → part2 (product O a b) 0 l1 l2 ≡ 0

-- ---- where the side is known

-- "a zero mask on one side": slot a, on the lanes L1 and L2; and the operations are such that it is spoken as above
pub record KnownSide (O : Ops ℕ) (a : ℕ) (s : Pair) : Type 0 where
  pub l1 : at s.0 a ≡ 0
  pub l2 : at s.1 a ≡ 0
  pub like : SpokenLike O

-- of every other step nothing is asked
abbrev pub SideAt : Step → Pair → Type 0
SideAt (local d m l) s = Unit
SideAt (deal d f) s = Unit
SideAt (exchange d (product O a b)) s = Unit
SideAt (exchange d (refresh O a)) s = Unit
SideAt (exchange d (known_product O a b)) s = KnownSide O a s
SideAt end s = Unit

-- P at every step of a walk, of the step and of the state there
abbrev pub AtEach : {S : Type 0} → (Step → Cursor → S → S) → (Step → S → Type 0)
    → List Step → Cursor → S
    → Type 0
AtEach act P [] c s = Unit
AtEach act P (x ∷ ss) c s = P x s × AtEach act P ss (past x c) (act x c s)

-- ---- what is saved

-- the deals that a step saves, and as many words of A: "Such a product takes one A word and sends no deal."
unfoldable pub saves : Step → ℕ
saves (local d m l) = 0
saves (deal d f) = 0
saves (exchange d (product O a b)) = 0
saves (exchange d (refresh O a)) = 0
saves (exchange d (known_product O a b)) = 1
saves end = 0

unfoldable pub saved : List Step → ℕ
saved [] = 0
saved (x ∷ ss) = saves x + saved ss

-- the step with document 01's product, which has g1 and g2, in the place of one with a known value
unfoldable pub with_g1 : Step → Step
with_g1 (local d m l) = local d m l
with_g1 (deal d f) = deal d f
with_g1 (exchange d (product O a b)) = exchange d (product O a b)
with_g1 (exchange d (refresh O a)) = exchange d (refresh O a)
with_g1 (exchange d (known_product O a b)) = exchange d (product O a b)
with_g1 end = end

-- "Spoken words are as many as before, and the A column shrinks by one for each deal saved."
abbrev pub Saving : Type 0
Saving = (ss : List Step) → cost (map with_g1 ss) ≡ plus (cost_of (saved ss) 0 (saved ss) 0) (cost ss)
