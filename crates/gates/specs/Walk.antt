-- Walks over a list of steps, for any kind of state: a step, all of them, and up to the next exchange. Assumes nothing.
use Rattle.std.specs.Prelude.{List, [], ◌∷◌, ◌++◌}
use Rattle.gates.specs.Steps.{Step, local, deal, exchange, end, Cursor, past}

-- where a walk is: the steps left, the cursor, the state, and the trail, the states as each order that it finished left
-- them
pub record Conf (S : Type 0) : Type 0 where
  pub rest : List Step
  pub cur : Cursor
  pub state : S
  pub trail : List S

abbrev pub conf : {S : Type 0} → List Step → Cursor → S → List S → Conf S
conf ss c s t = record { rest = ss; cur = c; state = s; trail = t }

abbrev pub mark : {S : Type 0} → Step → S → List S → List S
mark (local d m l) s t = t
mark (deal d f) s t = t
mark (exchange d e) s t = t
mark end s t = t ++ (s ∷ [])

-- the walk stands at an exchange
abbrev pub Exchanging : List Step → Type 0
Exchanging [] = ⊥
Exchanging (local d m l ∷ ss) = ⊥
Exchanging (deal d f ∷ ss) = ⊥
Exchanging (exchange d e ∷ ss) = Unit
Exchanging (end ∷ ss) = ⊥

module _ {S : Type 0} (act : Step → Cursor → S → S) where
  abbrev pub one : List Step → Cursor → S → List S → Conf S
  one [] c s t = conf [] c s t
  one (x ∷ ss) c s t = conf ss (past x c) (act x c s) (mark x s t)

  abbrev pub next : Conf S → Conf S
  next p = one p.rest p.cur p.state p.trail

  -- to the end
  unfoldable pub whole : List Step → Cursor → S → List S → Conf S
  whole [] c s t = conf [] c s t
  whole (x ∷ ss) c s t = whole ss (past x c) (act x c s) (mark x s t)

  -- up to the next exchange, or the end
  unfoldable pub walk : List Step → Cursor → S → List S → Conf S
  walk [] c s t = conf [] c s t
  walk (local d m l ∷ ss) c s t = walk ss (past (local d m l) c) (act (local d m l) c s) t
  walk (deal d f ∷ ss) c s t = walk ss (past (deal d f) c) (act (deal d f) c s) t
  walk (exchange d e ∷ ss) c s t = conf (exchange d e ∷ ss) c s t
  walk (end ∷ ss) c s t = walk ss (past end c) (act end c s) (t ++ (s ∷ []))

-- the cursor behind a list of steps: its fields are the words needed of A and B, and the deals
unfoldable pub far : List Step → Cursor → Cursor
far [] c = c
far (x ∷ ss) c = far ss (past x c)
