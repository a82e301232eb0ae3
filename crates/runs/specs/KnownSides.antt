-- R-4, "No deal where a mask is known to be zero": at every product with a known value of every run of a job, the masks
-- of its known side are 0 on every host, and the hosts speak document 01's product with g1 = g2 = 0. Assumes nothing.
use Rattle.std.specs.Prelude.{◌≡◌, List, ◌∷◌, ℕ}
use Rattle.words.specs.Ring.{Ops}
use Rattle.gates.specs.Steps.{at, product, known_product, Step, exchange, Cursor, origin, say1, say2}
use Rattle.gates.specs.Hosts.{Pair, act0}
use Rattle.gates.specs.Known.{SideAt, AtEach}
use Rattle.calls.specs.Places.{found, seek}
use Rattle.calls.specs.Scripts.{Script}
use Rattle.calls.specs.Calls.{State, fresh2}
use Rattle.runs.specs.Runs.{Stage, Setting, staged, Spoken, placed_word, Among, Dealer, Side, going, world, Call}
use Rattle.runs.specs.Runs.{Run}

-- the state's place is a product of b with a known value, which slot a holds
pub record AtKnown (σ : Script) (s : State) : Type 0 where
  pub target : ℕ
  pub ops : Ops ℕ
  pub a : ℕ
  pub b : ℕ
  pub later : List Step
  pub cursor : Cursor
  pub here : seek s.order s.turn σ.steps origin
      ≡ found (exchange target (known_product ops a b) ∷ later) cursor

-- "a zero mask on one side, so its g1 and g2 are 0", on every host in every run
pub record Sides (S : Stage) : Type 0 where
  -- host 0, whose preparation walks all steps at once: at each of them
  pub host0 : AtEach (act0 S.A S.B) SideAt S.script.steps origin (fresh2 (S.r1, S.r2))
  -- hosts 1 and 2, which stop at every product: the state that the last call returned, wherever they stand
  pub host1 : (cs : List Call) (z : Dealer) (buf : List ℕ) (s : State) (t : List Pair) (said : List Spoken)
      (two : Side) → Run S cs (world z buf (going s t said) two)
      → (k : AtKnown S.script s) → at s.mask k.a ≡ 0
  pub host2 : (cs : List Call) (z : Dealer) (buf : List ℕ) (one : Side) (s : State) (t : List Pair)
      (said : List Spoken) → Run S cs (world z buf one (going s t said))
      → (k : AtKnown S.script s) → at s.mask k.a ≡ 0
  -- the word that they have spoken there: document 01's product of a and b, with g1 = 0 and the next word of A for L1,
  -- with g2 = 0 and the next word of B for L2
  pub says1 : (cs : List Call) (z : Dealer) (buf : List ℕ) (s : State) (t : List Pair) (said : List Spoken)
      (two : Side) → Run S cs (world z buf (going s t said) two) → (k : AtKnown S.script s)
      → Among
      (placed_word s (say1 (product k.ops k.a k.b) s.m s.mask 0 (at S.A k.cursor.a))) said
  pub says2 : (cs : List Call) (z : Dealer) (buf : List ℕ) (one : Side) (s : State) (t : List Pair)
      (said : List Spoken) → Run S cs (world z buf one (going s t said)) → (k : AtKnown S.script s)
      → Among
      (placed_word s (say2 (product k.ops k.a k.b) s.m s.mask 0 (at S.B k.cursor.b))) said

-- every job, accepted or not, at every width
pub record KnownSides : Type 0 where
  pub job : (w : ℕ) (S : Setting) → Sides (staged w S)
