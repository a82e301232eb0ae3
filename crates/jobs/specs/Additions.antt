-- "0 add. 1 subtract." What such an order writes, the same on every lane of every host; R-2: "they should write only
-- the target and copy no other register". Assumes nothing.
use Rattle.std.specs.Prelude.{cond, List, [], ◌∷◌, ℕ, ◌<◌, eqb, set}
use Rattle.words.specs.Words.{add, sub}
use Rattle.gates.specs.Steps.{Lane, at}
use Rattle.gates.specs.Hosts.{Pair}
use Rattle.programs.specs.declared.Order.{Order}

-- an addition or subtraction
abbrev pub Additive : Order → Type 0
Additive o = o.kind < 2

-- the word that it writes on a lane, from its two sources' words there
unfoldable pub added_word : (w : ℕ) → Order → Lane → ℕ
added_word w o l =
    cond (eqb o.kind 0) (add w (at l o.source) (at l o.fourth)) (sub w (at l o.source) (at l o.fourth))

-- the lane when it has done so: of all slots the target's alone is written
abbrev pub added : (w : ℕ) → Order → Lane → Lane
added w o l = set l o.target (added_word w o l)

-- both lanes of a host
abbrev pub added2 : (w : ℕ) → Order → Pair → Pair
added2 w o s = (added w o s.0, added w o s.1)

-- after one order, the next
unfoldable pub added_all : (w : ℕ) → List Order → Pair → Pair
added_all w [] s = s
added_all w (o ∷ os) s = added_all w os (added2 w o s)
