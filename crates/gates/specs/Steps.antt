-- The steps of a walk: what a walk sees of a gate. The words of a product or refresh, and the cursor that counts what
-- is used. Assumes nothing.
use Rattle.std.specs.Prelude.{List, ◌∷◌, ℕ, suc, get_or}
use Rattle.words.specs.Ring.{Ops}
use Rattle.shares.specs.Gates.{product_deal, product_word1, product_word2, refresh_word1, refresh_word2}
use Rattle.shares.specs.Gates.{known_product_word1, known_product_word2}

-- a host's words of one kind, m or a mask: slots 0 to 15 are the registers, 16 to 23 the temporaries ("the words kept
-- between gates")
abbrev pub Lane : Type 0
Lane = List ℕ

abbrev pub at : List ℕ → ℕ → ℕ
at l i = get_or l i 0

-- a product or a refresh of slots, over the operations of numbers or of bits; R-4: or "a product with a known value",
-- which slot a holds: its m enters alone
pub data Exchange : Type 0 where
  product : (O : Ops ℕ) (a b : ℕ) → Exchange
  refresh : (O : Ops ℕ) (a : ℕ) → Exchange
  known_product : (O : Ops ℕ) (a b : ℕ) → Exchange

-- What a walk sees of a gate with the target d. A local step gives slot d on the lane m and on a mask lane; a deal
-- gives the second mask of slot d from the first, the next word of A, and from the two mask lanes. `end` ends an order
pub data Step : Type 0 where
  local : (d : ℕ) (m l : Lane → ℕ) → Step
  deal : (d : ℕ) (f : ℕ → Lane → Lane → ℕ) → Step
  exchange : (d : ℕ) (e : Exchange) → Step
  end : Step

-- the word that host 1 speaks, from its lanes m and l, its part g1 of a product and its new mask L1
unfoldable pub say1 : Exchange → (m l : Lane) (g1 l1 : ℕ) → ℕ
say1 (product O a b) m l g1 l1 = product_word1 O (at m a) (at m b) (at l a) (at l b) g1 l1
say1 (refresh O a) m l g1 l1 = refresh_word1 O (at m a) (at l a) l1
say1 (known_product O a b) m l g1 l1 = known_product_word1 O (at m a) (at m b) (at l b) l1

-- host 2's, with the deal g2 and the new mask L2
unfoldable pub say2 : Exchange → (m l : Lane) (g2 l2 : ℕ) → ℕ
say2 (product O a b) m l g2 l2 = product_word2 O (at m a) (at m b) (at l a) (at l b) g2 l2
say2 (refresh O a) m l g2 l2 = refresh_word2 O (at l a) l2
say2 (known_product O a b) m l g2 l2 = known_product_word2 O (at m a) (at l b) l2

-- "the new m is the sum" of host 1's word and host 2's
unfoldable pub meet : Exchange → ℕ → ℕ → ℕ
meet (product O a b) u v = O.add u v
meet (refresh O a) u v = O.add u v
meet (known_product O a b) u v = O.add u v

-- the deal g2 of a product; a refresh and a product with a known value have none
unfoldable pub part2 : Exchange → (g1 : ℕ) (l1 l2 : Lane) → ℕ
part2 (product O a b) g1 l1 l2 = product_deal O (at l1 a) (at l2 a) (at l1 b) (at l2 b) g1
part2 (refresh O a) g1 l1 l2 = 0
part2 (known_product O a b) g1 l1 l2 = 0

-- "New masks: L1 from A, after g1": where L1 stands, where g1 is next; R-4: "Such a product takes one A word and sends
-- no deal"
unfoldable pub new_at : Exchange → ℕ → ℕ
new_at (product O a b) i = suc i
new_at (refresh O a) i = i
new_at (known_product O a b) i = i

unfoldable pub past_deal : Exchange → ℕ → ℕ
past_deal (product O a b) n = suc n
past_deal (refresh O a) n = n
past_deal (known_product O a b) n = n

unfoldable pub emit : Exchange → ℕ → List ℕ → List ℕ
emit (product O a b) x ds = x ∷ ds
emit (refresh O a) x ds = ds
emit (known_product O a b) x ds = ds

-- how far a walk has come: its place (order, and which of its products and refreshes), and the words used of A, of B
-- and of the deals
pub record Cursor : Type 0 where
  pub order : ℕ
  pub turn : ℕ
  pub a : ℕ
  pub b : ℕ
  pub deals : ℕ

abbrev pub origin : Cursor
origin = record { order = 0; turn = 0; a = 0; b = 0; deals = 0 }

-- the cursor behind a step: a deal uses one word of A, a product two of A, one of B and a deal, a refresh and a product
-- with a known value one of A and one of B
unfoldable pub past : Step → Cursor → Cursor
past (local d m l) c = c
past (deal d f) c = record { order = c.order; turn = c.turn; a = suc c.a; b = c.b; deals = suc c.deals }
past (exchange d e) c =
    record {
      order = c.order;
      turn = suc c.turn;
      a = suc (new_at e c.a);
      b = suc c.b;
      deals = past_deal e c.deals;
    }
past end c = record { order = suc c.order; turn = 0; a = c.a; b = c.b; deals = c.deals }
