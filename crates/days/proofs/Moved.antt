-- A gate on other slots: where a lane stands inside a larger one, its slot i as slot ρ i there, the gate moved by ρ does there what the
-- gate does on the lane. Slot 15 of the lane is read, and never written. Assumes nothing.
use mathlib.Core.Path.{◌≡◌, refl, sym, ap, ap₂, ◌∙◌}
use mathlib.Core.Bool.{false}
use Prim.Native.Nat.{ℕ}
use borrow.Author.Tests.{eqb-false}
use lib.Dec.{eqb}
use lib.Bits.{bit_xor}
use lib.ListN.{length, set, length-set}
use lib.Seq.{get_or-set_other}
use Rattle.words.specs.Words.{add, sub, neg, mul, bit, shl, numbers, bits}
use Rattle.shares.specs.Gates as Shares
use Rattle.gates.specs.Gates.{Gate, Add, Sub, Xor, Mul, And, Refresh, MulKnown, AndKnown, Scale, Plus, Up, Bit, Const, Public, Deal, DealBits}
use Rattle.gates.specs.Steps.{Lane, at, Exchange, product, refresh, known_product, Step, local, deal, exchange}
use Rattle.gates.specs.Meaning.{part, dealt_of, meaning}
use Rattle.programs.proofs.Points.{target}

unfoldable pub moved : (ℕ → ℕ) → Gate → Gate
moved ρ (Add d a b) = Add (ρ d) (ρ a) (ρ b)
moved ρ (Sub d a b) = Sub (ρ d) (ρ a) (ρ b)
moved ρ (Xor d a b) = Xor (ρ d) (ρ a) (ρ b)
moved ρ (Mul d a b) = Mul (ρ d) (ρ a) (ρ b)
moved ρ (And d a b) = And (ρ d) (ρ a) (ρ b)
moved ρ (Refresh d a) = Refresh (ρ d) (ρ a)
moved ρ (MulKnown d a b) = MulKnown (ρ d) (ρ a) (ρ b)
moved ρ (AndKnown d a b) = AndKnown (ρ d) (ρ a) (ρ b)
moved ρ (Scale d a n) = Scale (ρ d) (ρ a) n
moved ρ (Plus d a n) = Plus (ρ d) (ρ a) n
moved ρ (Up d a n) = Up (ρ d) (ρ a) n
moved ρ (Bit d a n) = Bit (ρ d) (ρ a) n
moved ρ (Const d n) = Const (ρ d) n
moved ρ (Public d a f) = Public (ρ d) (ρ a) f
moved ρ (Deal d a f) = Deal (ρ d) (ρ a) f
moved ρ (DealBits d a) = DealBits (ρ d) (ρ a)

unfoldable pub moved_exchange : (ℕ → ℕ) → Exchange → Exchange
moved_exchange ρ (product O a b) = product O (ρ a) (ρ b)
moved_exchange ρ (refresh O a) = refresh O (ρ a)
moved_exchange ρ (known_product O a b) = known_product O (ρ a) (ρ b)

-- a lane of the code, which holds x in its slot 15
pub record Ready (x : ℕ) (c : Lane) : Type 0 where
  pub long : length c ≡ 24
  pub holds : at c 15 ≡ x

-- e puts such a lane into a larger one
pub record Embeds (ρ : ℕ → ℕ) (x : ℕ) (e : Lane → Lane) : Type 0 where
  pub seen : (c : Lane) → Ready x c → (i : ℕ) → at (e c) (ρ i) ≡ at c i
  pub put : (c : Lane) → Ready x c → (d v : ℕ) → eqb 15 d ≡ false → e (set c d v) ≡ set (e c) (ρ d) v

-- the same word of a lane and of the larger one; of two lanes
abbrev Word : (ρ : ℕ → ℕ) (f f' : Lane → ℕ) → Type 0
Word ρ f f' = (x : ℕ) (e : Lane → Lane) → Embeds ρ x e → (c : Lane) → Ready x c → f' (e c) ≡ f c

abbrev Word2 : (ρ : ℕ → ℕ) (f f' : ℕ → Lane → Lane → ℕ) → Type 0
Word2 ρ f f' =
    (x y : ℕ) (e e' : Lane → Lane) → Embeds ρ x e → Embeds ρ y e' → (v : ℕ) (c c' : Lane) → Ready x c → Ready y c'
    → f' v (e c) (e' c') ≡ f v c c'

-- a step with the target d, and the step moved
pub data Same (ρ : ℕ → ℕ) (d : ℕ) : Step → Step → Type 0 where
  same_local : {m l m' l' : Lane → ℕ} → Word ρ m m' → Word ρ l l' → Same ρ d (local d m l) (local (ρ d) m' l')
  same_deal : {f f' : ℕ → Lane → Lane → ℕ} → Word2 ρ f f' → Same ρ d (deal d f) (deal (ρ d) f')
  same_exchange : (e : Exchange) → Same ρ d (exchange d e) (exchange (ρ d) (moved_exchange ρ e))

module _ (ρ : ℕ → ℕ) where
  -- a word of one slot, of two slots
  one : (f : ℕ → ℕ) (a : ℕ) → Word ρ (λ l. f (at l a)) (λ l. f (at l (ρ a)))
  one f a x e E c r = ap f (E.seen c r a)

  two : (f : ℕ → ℕ → ℕ) (a b : ℕ) → Word ρ (λ l. f (at l a) (at l b)) (λ l. f (at l (ρ a)) (at l (ρ b)))
  two f a b x e E c r = ap₂ f (E.seen c r a) (E.seen c r b)

  still : (n : ℕ) → Word ρ (λ l. n) (λ l. n)
  still n x e E c r = refl

  -- of the two masks of a slot
  masks : (f : ℕ → ℕ → ℕ → ℕ) (a : ℕ) → Word2 ρ (λ v l1 l2. f v (at l1 a) (at l2 a)) (λ v l1 l2. f v (at l1 (ρ a)) (at l2 (ρ a)))
  masks f a x y e e' E E' v c c' r r' = ap₂ (f v) (E.seen c r a) (E'.seen c' r' a)

  pub same_gate : (w : ℕ) (g : Gate) → Same ρ (target g) (meaning w g) (meaning w (moved ρ g))
  unfolding meaning moved moved_exchange target
  same_gate w (Add d a b) = same_local (two (add w) a b) (two (add w) a b)
  same_gate w (Sub d a b) = same_local (two (sub w) a b) (two (sub w) a b)
  same_gate w (Xor d a b) = same_local (two bit_xor a b) (two bit_xor a b)
  same_gate w (Mul d a b) = same_exchange (product (numbers w) a b)
  same_gate w (And d a b) = same_exchange (product (bits w) a b)
  same_gate w (Refresh d a) = same_exchange (refresh (numbers w) a)
  same_gate w (MulKnown d a b) = same_exchange (known_product (numbers w) a b)
  same_gate w (AndKnown d a b) = same_exchange (known_product (bits w) a b)
  same_gate w (Scale d a n) = same_local (one (λ x. mul w x n) a) (one (λ x. mul w x n) a)
  same_gate w (Plus d a n) = same_local (one (λ x. add w x n) a) (one (λ x. x) a)
  same_gate w (Up d a n) = same_local (one (shl w n) a) (one (shl w n) a)
  same_gate w (Bit d a n) = same_local (one (λ x. bit x n) a) (one (λ x. bit x n) a)
  same_gate w (Const d n) = same_local (still _) (still 0)
  same_gate w (Public d a f) = same_local (one (part w f) a) (still 0)
  same_gate w (Deal d a f) = same_deal (masks (λ v p q. (Shares.deal (numbers w) (dealt_of w f p q) v).l2) a)
  same_gate w (DealBits d a) = same_deal (masks (λ v p q. (Shares.deal (bits w) (neg w (add w p q)) v).l2) a)

-- ---- a slot is written on the lane and on the larger one

module _ (ρ : ℕ → ℕ) (x : ℕ) (c : Lane) (r : Ready x c) (d v : ℕ) (n : eqb 15 d ≡ false) where
  pub still_ready : Ready x (set c d v)
  still_ready = record { long = length-set c d v ∙ r.long; holds = get_or-set_other c d 15 v 0 (eqb-false 15 d n) ∙ r.holds }

  -- by a word that is the same
  pub put_same : (e : Lane → Lane) → Embeds ρ x e → (v' : ℕ) → v' ≡ v → set (e c) (ρ d) v' ≡ e (set c d v)
  put_same e E v' p = ap (set (e c) (ρ d)) p ∙ sym (E.put c r d v n)
