-- The three hosts' steps on their lanes and the words that they speak; and the joint walk's, on all three lanes at
-- once. Assumes nothing.
use Rattle.std.specs.Prelude.{◌≡◌, List, [], ◌∷◌, ℕ, suc, ◌<◌, length, set}
use Rattle.shares.specs.Gates.{Share}
use Rattle.gates.specs.declared.Lanes.{Lanes}
use Rattle.gates.specs.Steps.{Lane, at, Exchange, Step, local, deal, exchange, end, say1, say2, meet, part2}
use Rattle.gates.specs.Steps.{new_at, emit, Cursor, past}

-- two lanes of a host: L1 and L2, or m and a mask
abbrev pub Pair : Type 0
Pair = Lane × Lane

-- the code's two lanes
abbrev pub pair_of : Lanes → Pair
pair_of l = (l.first, l.second)

-- m, L1, L2
abbrev pub Triple : Type 0
Triple = Lane × Lane × Lane

-- the share in slot i
abbrev pub share : Triple → ℕ → Share ℕ
share j i = record { m = at j.0 i; l1 = at j.1 i; l2 = at j.2 i }

-- slot d is a slot of all three lanes
pub record Slot (j : Triple) (d : ℕ) : Type 0 where
  pub m : d < length j.0
  pub l1 : d < length j.1
  pub l2 : d < length j.2

abbrev pub of0 : Triple → Pair
of0 j = (j.1, j.2)

abbrev pub of1 : Triple → Pair
of1 j = (j.0, j.1)

abbrev pub of2 : Triple → Pair
of2 j = (j.0, j.2)

-- ---- one lane: what a step writes there before any word is exchanged

-- on the lane m of hosts 1 and 2; after a deal "m = 0"
unfoldable pub on_m : Step → Lane → Lane
on_m (local d m l) s = set s d (m s)
on_m (deal d f) s = set s d 0
on_m (exchange d e) s = s
on_m end s = s

-- on a lane of masks, where v is this mask's word of a deal
unfoldable pub on_mask : Step → (v : ℕ) → Lane → Lane
on_mask (local d m l) v s = set s d (l s)
on_mask (deal d f) v s = set s d v
on_mask (exchange d e) v s = s
on_mask end v s = s

-- ---- host 0, which speaks its deals

module _ (A B : List ℕ) where
  unfoldable pub act0 : Step → Cursor → Pair → Pair
  act0 (local d m l) c s = (set s.0 d (l s.0), set s.1 d (l s.1))
  act0 (deal d f) c s = (set s.0 d (at A c.a), set s.1 d (f (at A c.a) s.0 s.1))
  act0 (exchange d e) c s = (set s.0 d (at A (new_at e c.a)), set s.1 d (at B c.b))
  act0 end c s = s

  unfoldable pub dealt : Step → Cursor → Pair → List ℕ → List ℕ
  dealt (local d m l) c s ds = ds
  dealt (deal d f) c s ds = f (at A c.a) s.0 s.1 ∷ ds
  dealt (exchange d e) c s ds = emit e (part2 e (at A c.a) s.0 s.1) ds
  dealt end c s ds = ds

  unfoldable pub deals : List Step → Cursor → Pair → List ℕ
  deals [] c s = []
  deals (x ∷ ss) c s = dealt x c s (deals ss (past x c) (act0 x c s))

-- ---- host 1, with A

module _ (A : List ℕ) where
  -- the next word of A is its mask of a deal
  unfoldable pub act1 : Step → Cursor → Pair → Pair
  act1 x c s = (on_m x s.0, on_mask x (at A c.a) s.1)

  unfoldable pub word_of1 : Exchange → Cursor → Pair → ℕ
  word_of1 e c s = say1 e s.0 s.1 (at A c.a) (at A (new_at e c.a))

  unfoldable pub hear1 : ℕ → Exchange → Cursor → Pair → ℕ → Pair
  hear1 d e c s v = (set s.0 d (meet e (word_of1 e c s) v), set s.1 d (at A (new_at e c.a)))

-- ---- host 2, with B and the deals

module _ (B D : List ℕ) where
  -- the next deal is its mask of a deal
  unfoldable pub act2 : Step → Cursor → Pair → Pair
  act2 x c s = (on_m x s.0, on_mask x (at D c.deals) s.1)

  unfoldable pub word_of2 : Exchange → Cursor → Pair → ℕ
  word_of2 e c s = say2 e s.0 s.1 (at D c.deals) (at B c.b)

  unfoldable pub hear2 : ℕ → Exchange → Cursor → Pair → ℕ → Pair
  hear2 d e c s v = (set s.0 d (meet e v (word_of2 e c s)), set s.1 d (at B c.b))

-- ---- all three at once

module _ (A B : List ℕ) where
  -- the two words at an exchange
  unfoldable pub joint1 : Exchange → Cursor → Triple → ℕ
  joint1 e c j = say1 e j.0 j.1 (at A c.a) (at A (new_at e c.a))

  unfoldable pub joint2 : Exchange → Cursor → Triple → ℕ
  joint2 e c j = say2 e j.0 j.2 (part2 e (at A c.a) j.1 j.2) (at B c.b)

  unfoldable pub act : Step → Cursor → Triple → Triple
  act (local d m l) c j = (set j.0 d (m j.0), set j.1 d (l j.1), set j.2 d (l j.2))
  act (deal d f) c j = (set j.0 d 0, set j.1 d (at A c.a), set j.2 d (f (at A c.a) j.1 j.2))
  act (exchange d e) c j =
      (set j.0 d (meet e (joint1 e c j) (joint2 e c j)), set j.1 d (at A (new_at e c.a)), set j.2 d (at B c.b))
  act end c j = j

-- the list D has ds from place i on
abbrev pub Starts : List ℕ → ℕ → List ℕ → Type 0
Starts D i [] = Unit
Starts D i (d ∷ ds) = (at D i ≡ d) × Starts D (suc i) ds

-- D has what host 0 deals from here on
abbrev pub Supplied : (A B D : List ℕ) → List Step → Cursor → Triple → Type 0
Supplied A B D ss c j = Starts D c.deals (deals A B ss c (of0 j))
