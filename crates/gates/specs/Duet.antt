-- Hosts 1 and 2 walking side by side, each hearing at every product and refresh the word that the other speaks there.
-- Assumes nothing.
use Rattle.std.specs.Prelude.{List, [], ◌∷◌, ℕ}
use Rattle.gates.specs.Steps.{Exchange, Step, local, deal, exchange, end, Cursor, past}
use Rattle.gates.specs.Hosts.{Pair, Triple, of1, of2, act1, word_of1, hear1, act2, word_of2, hear2}

module _ (A B D : List ℕ) where
  unfoldable pub duet : Step → Cursor → Pair × Pair → Pair × Pair
  duet (local d m l) c s = (act1 A (local d m l) c s.0, act2 B D (local d m l) c s.1)
  duet (deal d f) c s = (act1 A (deal d f) c s.0, act2 B D (deal d f) c s.1)
  duet (exchange d e) c s = (
    hear1 A d e c s.0 (word_of2 B D e c s.1),
    hear2 B D d e c s.1 (word_of1 A e c s.0),
  )
  duet end c s = (act1 A end c s.0, act2 B D end c s.1)

-- what is spoken at a step, in front of what is spoken later
unfoldable pub utter : {S : Type 0} → (Exchange → Cursor → S → ℕ) → Step → Cursor → S → List ℕ
    → List ℕ
utter say (local d m l) c s ws = ws
utter say (deal d f) c s ws = ws
utter say (exchange d e) c s ws = say e c s ∷ ws
utter say end c s ws = ws

-- the words spoken on a walk, in order
unfoldable pub words : {S : Type 0} → (Step → Cursor → S → S) → (Exchange → Cursor → S → ℕ)
    → List Step → Cursor → S
    → List ℕ
words f say [] c s = []
words f say (x ∷ ss) c s = utter say x c s (words f say ss (past x c) (f x c s))

-- what the two hosts hold of a triple of lanes
abbrev pub of12 : Triple → Pair × Pair
of12 j = (of1 j, of2 j)

module _ (A B D : List ℕ) where
  -- the words of host 1, and of host 2
  unfoldable pub words1 : List Step → Cursor → Pair × Pair → List ℕ
  words1 = words (duet A B D) (λ e c s. word_of1 A e c s.0)

  unfoldable pub words2 : List Step → Cursor → Pair × Pair → List ℕ
  words2 = words (duet A B D) (λ e c s. word_of2 B D e c s.1)
