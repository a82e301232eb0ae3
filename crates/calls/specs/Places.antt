-- Document 01's places: the product or refresh, or the end, at a place of a job. Assumes nothing.
use Rattle.std.specs.Prelude.{Bool, ◌&&◌, cond, List, [], ◌∷◌, ℕ, eqb}
use Rattle.gates.specs.Steps.{Step, local, deal, exchange, end, Cursor, past}

-- the steps from a place on, with the cursor there; or no such place
pub data Found : Type 0 where
  nowhere : Found
  found : List Step → Cursor → Found

-- the cursor is at the place (o, x)
abbrev pub here : (o x : ℕ) → Cursor → Bool
here o x c = eqb c.order o && eqb c.turn x

-- "a place (order, and which of its products and refreshes, both from 0; the end is the number of orders and 0)"
unfoldable pub seek : (o x : ℕ) → List Step → Cursor → Found
seek o x [] c = cond (here o x c) (found [] c) nowhere
seek o x (local d m l ∷ ss) c = seek o x ss (past (local d m l) c)
seek o x (deal d f ∷ ss) c = seek o x ss (past (deal d f) c)
seek o x (exchange d e ∷ ss) c = cond (here o x c) (found (exchange d e ∷ ss) c)
    (seek o x ss (past (exchange d e) c))
seek o x (end ∷ ss) c = seek o x ss (past end c)
