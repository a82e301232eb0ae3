-- Document 01's gates, and R-4's, on the joint walk: the words that each takes from A and B, what host 0 deals there,
-- what hosts 1 and 2 speak, and the share that it leaves; and that the lists are used in turn. Assumes nothing.
use Rattle.std.specs.Prelude.{◌≢◌, ◌≡◌, List, [], ◌∷◌, ◌++◌, ℕ, zero, suc, ◌+◌, ◌%◌, ◌^◌, length}
use Rattle.std.specs.Int.Bits.{bit_xor}
use Rattle.words.specs.Ring.{Ops}
use Rattle.words.specs.Words.{add, sub, neg, mul, bit, shl, numbers, bits}
use Rattle.shares.specs.Gates as Shares
use Rattle.shares.specs.Gates.{Share, mask, known, product_deal, product_word1, product_word2, refresh_word1}
use Rattle.shares.specs.Gates.{refresh_word2, known_product_word1, known_product_word2}
use Rattle.gates.specs.Gates.{Part, Dealt, Gate, Add, Sub, Xor, Mul, And, Refresh, Scale, Plus, Up, Bit, Const}
use Rattle.gates.specs.Gates.{MulKnown, AndKnown, Public, Deal, DealBits}
use Rattle.gates.specs.Steps.{Step, end, Cursor, origin, past}
use Rattle.gates.specs.Meaning.{part, dealt_of, meaning}
use Rattle.gates.specs.Hosts.{Triple, share, Slot, of0, dealt, joint1, joint2, act, Starts}
use Rattle.gates.specs.Duet.{utter}
use Rattle.gates.specs.Costs.{step_cost, cost}

-- What a gate does: the words that it takes from A and from B, the deals that host 0 sends to host 2, the words that
-- hosts 1 and 2 speak, and the share that it leaves in its target
pub record Effect : Type 0 where
  pub a : List ℕ
  pub b : List ℕ
  pub deals : List ℕ
  pub says1 : List ℕ
  pub says2 : List ℕ
  pub left : Share ℕ

-- "Product of a and b: host 0 takes g1 from A and sends g2 = La × Lb - g1 to host 2. New masks: L1 from A, after
-- g1, and L2 from B. Host 1 speaks ma × mb - ma × Lb1 - mb × La1 + g1 + L1; host 2 speaks g2 - ma × Lb2 - mb × La2
-- + L2. The new m is the sum of the two spoken words." "For bits: and for times, xor for plus and minus."
abbrev pub a_product : Ops ℕ → (x y : Share ℕ) (g1 l1 l2 : ℕ) → Effect
a_product O x y g1 l1 l2 =
    record {
      a = g1 ∷ l1 ∷ [];
      b = l2 ∷ [];
      deals = product_deal O x.l1 x.l2 y.l1 y.l2 g1 ∷ [];
      says1 = product_word1 O x.m y.m x.l1 y.l1 g1 l1 ∷ [];
      says2 = product_word2 O x.m y.m x.l2 y.l2 (product_deal O x.l1 x.l2 y.l1 y.l2 g1) l2
          ∷ [];
      left = Shares.product O x y g1 l1 l2;
    }

-- "Refresh of a: new L1 from A, L2 from B; host 1 speaks ma - La1 + L1, host 2 speaks L2 - La2; the new m is the sum."
abbrev pub a_refresh : Ops ℕ → (x : Share ℕ) (l1 l2 : ℕ) → Effect
a_refresh O x l1 l2 =
    record {
      a = l1 ∷ [];
      b = l2 ∷ [];
      deals = [];
      says1 = refresh_word1 O x.m x.l1 l1 ∷ [];
      says2 = refresh_word2 O x.l2 l2 ∷ [];
      left = Shares.refresh O x l1 l2;
    }

-- R-4: "A product with a known value has a zero mask on one side, so its g1 and g2 are 0. Such a product takes one A
-- word and sends no deal.": v × mb - v × Lb1 + L1, and L2 - v × Lb2
abbrev pub a_known_product : Ops ℕ → (v : ℕ) (y : Share ℕ) (l1 l2 : ℕ) → Effect
a_known_product O v y l1 l2 =
    record {
      a = l1 ∷ [];
      b = l2 ∷ [];
      deals = [];
      says1 = known_product_word1 O v y.m y.l1 l1 ∷ [];
      says2 = known_product_word2 O v y.l2 l2 ∷ [];
      left = Shares.known_product O v y l1 l2;
    }

-- "Deal of v, known to host 0: L1 = next A word, L2 = -L1 - v, sent to host 2; m = 0. For bits L2 = L1 xor v."
abbrev pub a_deal : Ops ℕ → (v l1 : ℕ) → Effect
a_deal O v l1 =
    record {
      a = l1 ∷ [];
      b = [];
      deals = (Shares.deal O v l1).l2 ∷ [];
      says1 = [];
      says2 = [];
      left = Shares.deal O v l1;
    }

-- a gate that takes, sends and speaks nothing
abbrev pub alone : Share ℕ → Effect
alone s = record { a = []; b = []; deals = []; says1 = []; says2 = []; left = s }

-- the same operation on m and on both masks
abbrev pub each1 : (ℕ → ℕ) → Share ℕ → Share ℕ
each1 f x = record { m = f x.m; l1 = f x.l1; l2 = f x.l2 }

abbrev pub each2 : (ℕ → ℕ → ℕ) → (x y : Share ℕ) → Share ℕ
each2 f x y = record { m = f x.m y.m; l1 = f x.l1 y.l1; l2 = f x.l2 y.l2 }

-- an operation on m alone
abbrev pub to_m : (ℕ → ℕ) → Share ℕ → Share ℕ
to_m f x = record { m = f x.m; l1 = x.l1; l2 = x.l2 }

module _ (A B : List ℕ) (c : Cursor) (j : Triple) where
  -- the step x, at the cursor c and on the lanes j of the joint walk, has the effect e on slot d
  pub record Has (x : Step) (d : ℕ) (e : Effect) : Type 0 where
    pub target : Slot j d → share (act A B x c j) d ≡ e.left
    pub others : (i : ℕ) → i ≢ d → share (act A B x c j) i ≡ share j i
    pub deals : (later : List ℕ) → dealt A B x c (of0 j) later ≡ e.deals ++ later
    pub says1 : (later : List ℕ) → utter (joint1 A B) x c j later ≡ e.says1 ++ later
    pub says2 : (later : List ℕ) → utter (joint2 A B) x c j later ≡ e.says2 ++ later
    -- behind it, the next word of A, of B and of the deals is the one after those that it took or dealt
    pub used_a : (past x c).a ≡ c.a + length e.a
    pub used_b : (past x c).b ≡ c.b + length e.b
    pub used_deals : (past x c).deals ≡ c.deals + length e.deals
    -- and just these are counted
    pub counted_deals : (step_cost x).deals ≡ length e.deals
    pub counted_words : (step_cost x).words ≡ length e.says1 + length e.says2
    pub counted_a : (step_cost x).a ≡ length e.a
    pub counted_b : (step_cost x).b ≡ length e.b

  module _ (w : ℕ) where
    -- gate g has the effect e on slot d, where what e takes are the next words of A and of B
    abbrev pub Does : Gate → (d : ℕ) → Effect → Type 0
    Does g d e = Starts A c.a e.a → Starts B c.b e.b → Has (meaning w g) d e

    -- every gate, of the target d and the sources a and b
    pub record Formulas : Type 0 where
      pub product : (d a b g1 l1 l2 : ℕ)
          → Does (Mul d a b) d (a_product (numbers w) (share j a) (share j b) g1 l1 l2)
      pub product_bits : (d a b g1 l1 l2 : ℕ)
          → Does (And d a b) d (a_product (bits w) (share j a) (share j b) g1 l1 l2)
      pub refresh : (d a l1 l2 : ℕ) → Does (Refresh d a) d (a_refresh (numbers w) (share j a) l1 l2)
      pub known_product : (d a b l1 l2 : ℕ)
          → Does (MulKnown d a b) d (a_known_product (numbers w) (share j a).m (share j b) l1 l2)
      pub known_product_bits : (d a b l1 l2 : ℕ)
          → Does (AndKnown d a b) d (a_known_product (bits w) (share j a).m (share j b) l1 l2)
      -- a value of the masks of a
      pub deal : (d a : ℕ) (f : Dealt) (l1 : ℕ)
          → Does (Deal d a f) d (a_deal (numbers w) (dealt_of w f (share j a).l1 (share j a).l2) l1)
      -- "Let n = -L. The adder deals n as bits"
      pub deal_bits : (d a l1 : ℕ) → Does (DealBits d a) d
          (a_deal (bits w) (neg w (mask (numbers w) (share j a))) l1)
      -- "Known value v of hosts 1 and 2: m = v, masks 0."
      pub const : (d n : ℕ) → Does (Const d n) d (alone (known (numbers w) (n % 2 ^ w)))
      pub public : (d a : ℕ) (f : Part) → Does (Public d a f) d
          (alone (known (numbers w) (part w f (share j a).m)))
      -- the same on m and on both masks
      pub sum : (d a b : ℕ) → Does (Add d a b) d (alone (each2 (add w) (share j a) (share j b)))
      pub difference : (d a b : ℕ) → Does (Sub d a b) d (alone (each2 (sub w) (share j a) (share j b)))
      pub xor : (d a b : ℕ) → Does (Xor d a b) d (alone (each2 bit_xor (share j a) (share j b)))
      pub scale : (d a n : ℕ) → Does (Scale d a n) d (alone (each1 (λ x. mul w x n) (share j a)))
      pub up : (d a n : ℕ) → Does (Up d a n) d (alone (each1 (shl w n) (share j a)))
      pub bit_of : (d a n : ℕ) → Does (Bit d a n) d (alone (each1 (λ x. bit x n) (share j a)))
      -- "add constant (to m)"
      pub plus : (d a n : ℕ) → Does (Plus d a n) d (alone (to_m (λ x. add w x n) (share j a)))
      -- the end of an order is no gate: every slot keeps its share
      pub ends : (d : ℕ) → Has end d (alone (share j d))

-- ---- "Each is used from its start, one word after another, none twice."

-- the n places from i on
unfoldable pub places : (i n : ℕ) → List ℕ
places i zero = []
places i (suc n) = i ∷ places (suc i) n

-- the places that the steps of a walk use, step by step, each as many as it counts from the cursor's next one on
unfoldable pub used : (Step → ℕ) → (Cursor → ℕ) → List Step → Cursor → List ℕ
used count next [] c = []
used count next (x ∷ ss) c = places (next c) (count x) ++ used count next ss (past x c)

-- from the start they are 0, 1, 2 and so on, each once: of A, of B, and of the deals
pub record InTurn (ss : List Step) : Type 0 where
  pub a : used (λ x. (step_cost x).a) (λ c. c.a) ss origin ≡ places 0 (cost ss).a
  pub b : used (λ x. (step_cost x).b) (λ c. c.b) ss origin ≡ places 0 (cost ss).b
  pub deals : used (λ x. (step_cost x).deals) (λ c. c.deals) ss origin ≡ places 0 (cost ss).deals
