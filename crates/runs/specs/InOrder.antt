-- "every spoken word is the one defined there", in order and each once: what a host has spoken is the front of what
-- is defined for it, and at the end all of it. Assumes nothing.
use Rattle.std.specs.Prelude.{◌≡◌, ◌⊎◌, List, [], ◌∷◌, reverse, ℕ, ◌<◌, length, take}
use Rattle.gates.specs.Steps.{Exchange, Step, local, deal, exchange, end, Cursor, origin, past}
use Rattle.gates.specs.Hosts.{Pair, Triple, joint1, joint2, act}
use Rattle.calls.specs.Scripts.{orders_in, Orderly}
use Rattle.calls.specs.Calls.{State}
use Rattle.runs.specs.Runs.{Stage, Spoken, Among, Dealer, Side, going, world, Call, Run}
use Rattle.runs.specs.Orders.{first}

-- the words that a host speaks on the joint walk, each at its place, and 0 at the end
unfoldable pub defined_words : (A B : List ℕ) → (Exchange → Cursor → Triple → ℕ)
    → List Step → Cursor → Triple → List Spoken
defined_words A B say [] c j = (c.order, c.turn, 0) ∷ []
defined_words A B say (local d m l ∷ ss) c j =
    defined_words A B say ss (past (local d m l) c) (act A B (local d m l) c j)
defined_words A B say (deal d f ∷ ss) c j = defined_words A B say ss (past (deal d f) c) (act A B (deal d f) c j)
defined_words A B say (exchange d e ∷ ss) c j =
    (c.order, c.turn, say e c j) ∷ defined_words A B say ss (past (exchange d e) c) (act A B (exchange d e) c j)
defined_words A B say (end ∷ ss) c j = defined_words A B say ss (past end c) (act A B end c j)

abbrev pub words_of_1 : Stage → List Spoken
words_of_1 S = defined_words S.A S.B (joint1 S.A S.B) S.script.steps origin (first S)

abbrev pub words_of_2 : Stage → List Spoken
words_of_2 S = defined_words S.A S.B (joint2 S.A S.B) S.script.steps origin (first S)

-- one place comes before another
abbrev pub Before : Spoken → Spoken → Type 0
Before p r = (p.0 < r.0) ⊎ ((p.0 ≡ r.0) × (p.1 < r.1))

-- each word's place comes before all that follow, so no place comes twice
abbrev pub Rising : List Spoken → Type 0
Rising [] = Unit
Rising (p ∷ l) = ((r : Spoken) → Among r l → Before p r) × Rising l

-- the last word spoken stands in front, so the list is read backwards
pub record InOrder : Type 0 where
  pub host1 : (S : Stage) (cs : List Call) (z : Dealer) (buf : List ℕ) (s : State) (t : List Pair)
      (said : List Spoken) (two : Side)
      → Run S cs (world z buf (going s t said) two) → reverse said ≡ take (length said) (words_of_1 S)
  pub host2 : (S : Stage) (cs : List Call) (z : Dealer) (buf : List ℕ) (one : Side) (s : State) (t : List Pair)
      (said : List Spoken)
      → Run S cs (world z buf one (going s t said)) → reverse said ≡ take (length said) (words_of_2 S)
  pub each_once_1 : (S : Stage) → Rising (words_of_1 S)
  pub each_once_2 : (S : Stage) → Rising (words_of_2 S)
  -- a host past every order has spoken them all
  pub all_said_1 : (S : Stage) → Orderly S.script
      → (cs : List Call) (z : Dealer) (buf : List ℕ) (s : State) (t : List Pair) (said : List Spoken) (two : Side)
      → Run S cs (world z buf (going s t said) two)
      → s.order ≡ orders_in S.script → reverse said ≡ words_of_1 S
  pub all_said_2 : (S : Stage) → Orderly S.script
      → (cs : List Call) (z : Dealer) (buf : List ℕ) (one : Side) (s : State) (t : List Pair) (said : List Spoken)
      → Run S cs (world z buf one (going s t said))
      → s.order ≡ orders_in S.script → reverse said ≡ words_of_2 S
