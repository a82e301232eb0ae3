-- R-8: the masks with which a host sees the same of other values: those that it does not see are solved for, value by
-- value and step by step along the walk, so that what it sees stays. The way back has the same form. Assumes nothing.
use Rattle.std.specs.Prelude.{List, [], ◌∷◌, ◌++◌, ℕ, drop}
use Rattle.words.specs.Ring.{Ops}
use Rattle.words.specs.Words.{add, sub}
use Rattle.gates.specs.Steps.{Lane, at, Exchange, product, refresh, known_product, Step, local, deal, exchange, end}
use Rattle.gates.specs.Steps.{say1, say2, part2, emit, origin, past}
use Rattle.gates.specs.Hosts.{Triple, joint1, joint2, act}
use Rattle.calls.specs.Calls.{fresh}
use Rattle.day_demands.specs.Settings.{behind_zeros}
use Rattle.privacy.specs.Privacy.{Masks, mask_all}

-- ---- the new mask with which a host speaks the word v

-- numbers or bits
abbrev pub ring : Exchange → Ops ℕ
ring (product O a b) = O
ring (refresh O a) = O
ring (known_product O a b) = O

-- L1, of host 1
unfoldable pub resolve1 : Exchange → (m l : Lane) (g1 v : ℕ) → ℕ
resolve1 e m l g1 v = (ring e).sub v (say1 e m l g1 (ring e).nil)

-- L2, of host 2
unfoldable pub resolve2 : Exchange → (m l : Lane) (g2 v : ℕ) → ℕ
resolve2 e m l g2 v = (ring e).sub v (say2 e m l g2 (ring e).nil)

-- ---- one step, from the lists as they stand there: the words of the unseen list that give, from the lanes k, what the
-- ---- unseen list gives from the lanes j

-- host 1 does not see B: at each exchange the new second mask moves by the difference of what is spoken
unfoldable pub swap1 : Step → (A B : List ℕ) (j k : Triple) → List ℕ
swap1 (local d m l) A B j k = []
swap1 (deal d f) A B j k = []
swap1 (exchange d e) A B j k =
    resolve2 e k.0 k.2 (part2 e (at A 0) k.1 k.2) (joint2 A B e origin j) ∷ []
swap1 end A B j k = []

-- host 2 does not see A: the first mask of a deal whose second mask it sees; g1 of a product whose g2 it sees; and the
-- new first mask
unfoldable pub swap2 : Step → (B A : List ℕ) (j k : Triple) → List ℕ
swap2 (local d m l) B A j k = []
swap2 (deal d f) B A j k = f (f (at A 0) j.1 j.2) k.1 k.2 ∷ []
swap2 (exchange d e) B A j k =
    emit e (part2 e (part2 e (at A 0) j.1 j.2) k.1 k.2)
    (resolve1 e k.0 k.1 (part2 e (part2 e (at A 0) j.1 j.2) k.1 k.2) (joint1 A B e origin j) ∷ [])
swap2 end B A j k = []

-- ---- a host: the joint step from its own list v and the unseen list u, the words that a step uses of each, and the
-- ---- words swapped
pub record Side : Type 0 where
  pub step : Step → (v u : List ℕ) → Triple → Triple
  pub seen : Step → ℕ
  pub unseen : Step → ℕ
  pub swap : Step → (v u : List ℕ) (j k : Triple) → List ℕ

abbrev pub side1 : Side
side1 =
    record {
      step = λ x A B j. act A B x origin j;
      seen = λ x. (past x origin).a;
      unseen = λ x. (past x origin).b;
      swap = swap1;
    }

abbrev pub side2 : Side
side2 =
    record {
      step = λ x B A j. act A B x origin j;
      seen = λ x. (past x origin).b;
      unseen = λ x. (past x origin).a;
      swap = swap2;
    }

module _ (P : Side) where
  -- the unseen list of the run from the lanes k, where the run from the lanes j has the list u
  unfoldable pub others : List Step → (v u : List ℕ) (j k : Triple) → List ℕ
  others [] v u j k = u
  others (x ∷ ss) v u j k =
      P.swap x v u j k
      ++ others ss (drop (P.seen x) v) (drop (P.unseen x) u) (P.step x v u j) (P.step x v (P.swap x v u j k) k)

-- ---- a given value's unseen mask

-- the mask that hides y as l hides x: L + x - y, of every value given
unfoldable pub moved : ℕ → (x y l : List ℕ) → Lane
moved w [] ys ls = []
moved w (x ∷ xs) [] ls = []
moved w (x ∷ xs) (y ∷ ys) [] = []
moved w (x ∷ xs) (y ∷ ys) (l ∷ ls) = sub w (add w l x) y ∷ moved w xs ys ls

-- ---- the masks for the values y, from those for the values x

module _ (w : ℕ) (ss : List Step) where
  -- m, L1 and L2 of the values x at the start of a walk
  abbrev pub lanes : (x : List ℕ) → Masks → Triple
  lanes x M = (fresh (mask_all w x M.l1 M.l2), fresh M.l1, fresh M.l2)

  -- host 1 does not see L2 and B
  abbrev pub moved1 : (x y : List ℕ) → Masks → (B : List ℕ) → Masks
  moved1 x y M B = record { l1 = M.l1; l2 = moved w x y M.l2; A = M.A; B = B }

  unfoldable pub other1 : (x y : List ℕ) → Masks → Masks
  other1 x y M = moved1 x y M (others side1 ss M.A M.B (lanes x M) (lanes y (moved1 x y M [])))

  -- host 2 does not see L1 and A
  abbrev pub moved2 : (x y : List ℕ) → Masks → (A : List ℕ) → Masks
  moved2 x y M A = record { l1 = moved w x y M.l1; l2 = M.l2; A = A; B = M.B }

  unfoldable pub other2 : (x y : List ℕ) → Masks → Masks
  other2 x y M = moved2 x y M (others side2 ss M.B M.A (lanes x M) (lanes y (moved2 x y M [])))

-- host 0 sees every mask
abbrev pub other0 : (x y : List ℕ) → Masks → Masks
other0 x y M = M

-- ---- of a day: its shares lie behind the registers and kept words, which are zero

abbrev pub laid : Masks → Masks
laid M = record { l1 = behind_zeros M.l1; l2 = behind_zeros M.l2; A = M.A; B = M.B }

module _ (w : ℕ) (ss : List Step) where
  abbrev pub day_other1 : (x y : List ℕ) → Masks → Masks
  day_other1 x y M = moved1 w ss x y M (other1 w ss (behind_zeros x) (behind_zeros y) (laid M)).B

  abbrev pub day_other2 : (x y : List ℕ) → Masks → Masks
  day_other2 x y M = moved2 w ss x y M (other2 w ss (behind_zeros x) (behind_zeros y) (laid M)).A
