-- Host 0 on its way: what it writes at a step on its lanes and into the buffer of deals, and what it has used then; and
-- its walk over a list of steps. Assumes nothing.
use Rattle.std.specs.Prelude.{◌≡◌, List, [], ◌∷◌, ℕ, ◌+◌, ◌≤◌, length, set}
use Rattle.gates.specs.declared.Shape.{Shape}
use Rattle.gates.specs.declared.Shape.TheVariants.{Local, Dealing, Product, Undealt}
use Rattle.gates.specs.declared.Used.{Used}
use Rattle.gates.specs.Steps.{Lane, at, Step}
use Rattle.gates.specs.Costs.{cost}
use Rattle.gates.specs.Hosts.{on_mask}
use Rattle.gates.specs.Speech.{dealt_word, shape}

-- the words used of A and of B, the deals written, the lanes and the buffer
pub record Dealer : Type 0 where
  pub a : ℕ
  pub b : ℕ
  pub deals : ℕ
  pub l1 : Lane
  pub l2 : Lane
  pub buffer : List ℕ

abbrev pub dealer : Used → (l1 l2 : Lane) (buffer : List ℕ) → Dealer
dealer u l1 l2 buf = record { a = u.a; b = u.b; deals = u.deals; l1 = l1; l2 = l2; buffer = buf }

-- nothing used yet
abbrev pub outset : (l1 l2 : Lane) (buffer : List ℕ) → Dealer
outset l1 l2 buf = record { a = 0; b = 0; deals = 0; l1 = l1; l2 = l2; buffer = buf }

-- these are its lanes and its buffer
abbrev pub Holds : Dealer → (l1 l2 : Lane) (buffer : List ℕ) → Type 0
Holds s l1 l2 buf = (l1 ≡ s.l1) × (l2 ≡ s.l2) × (buf ≡ s.buffer)

-- this is what it has used
abbrev pub Counts : Dealer → Used → Type 0
Counts s u = (u.a ≡ s.a) × (u.b ≡ s.b) × (u.deals ≡ s.deals)

-- ---- a step of each shape

-- a gate on each lane alone
abbrev pub with_local : Step → Dealer → Dealer
with_local x s =
    record {
      a = s.a;
      b = s.b;
      deals = s.deals;
      l1 = on_mask x 0 s.l1;
      l2 = on_mask x 0 s.l2;
      buffer = s.buffer;
    }

-- what is dealt at a step, with the next word of A
abbrev pub next_deal : (A : List ℕ) → Step → Dealer → ℕ
next_deal A x s = dealt_word x (at A s.a) s.l1 s.l2

-- a deal: L1 of slot d is the next word of A, and L2 is what is dealt
abbrev pub with_deal : (A : List ℕ) → Step → (d : ℕ) → Dealer → Dealer
with_deal A x d s =
    record {
      a = s.a + 1;
      b = s.b;
      deals = s.deals + 1;
      l1 = set s.l1 d (at A s.a);
      l2 = set s.l2 d (next_deal A x s);
      buffer = set s.buffer s.deals (next_deal A x s);
    }

-- a product: "New masks: L1 from A, after g1, and L2 from B"
abbrev pub with_product : (A B : List ℕ) → Step → (d : ℕ) → Dealer → Dealer
with_product A B x d s =
    record {
      a = s.a + 2;
      b = s.b + 1;
      deals = s.deals + 1;
      l1 = set s.l1 d (at A (s.a + 1));
      l2 = set s.l2 d (at B s.b);
      buffer = set s.buffer s.deals (next_deal A x s);
    }

-- a refresh: "new L1 from A, L2 from B"; a product with a known value: "takes one A word and sends no deal"
abbrev pub with_undealt : (A B : List ℕ) (d : ℕ) → Dealer → Dealer
with_undealt A B d s =
    record {
      a = s.a + 1;
      b = s.b + 1;
      deals = s.deals;
      l1 = set s.l1 d (at A s.a);
      l2 = set s.l2 d (at B s.b);
      buffer = s.buffer;
    }

module _ (A B : List ℕ) where
  abbrev pub shaped : Shape → Step → Dealer → Dealer
  shaped Local x s = with_local x s
  shaped (Dealing d) x s = with_deal A x d s
  shaped (Product d) x s = with_product A B x d s
  shaped (Undealt d) x s = with_undealt A B d s

  unfoldable pub dealing : Step → Dealer → Dealer
  dealing x s = shaped (shape x) x s

  -- ---- a list of steps

  unfoldable pub deal_all : List Step → Dealer → Dealer
  deal_all [] s = s
  deal_all (x ∷ ss) s = deal_all ss (dealing x s)

  -- the lists and the buffer have room for the steps to come
  pub record Room (ss : List Step) (s : Dealer) : Type 0 where
    pub a : s.a + (cost ss).a ≤ length A
    pub b : s.b + (cost ss).b ≤ length B
    pub deals : s.deals + (cost ss).deals ≤ length s.buffer
