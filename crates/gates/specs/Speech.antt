-- What a step asks to be dealt and spoken, whatever the step; and its shape, by which a walk goes. Assumes nothing.
use Rattle.std.specs.Prelude.{ℕ}
use Rattle.gates.specs.declared.Shape.{Shape}
use Rattle.gates.specs.declared.Shape.TheVariants.{Local, Dealing, Product, Undealt}
use Rattle.gates.specs.Steps.{Lane, product, refresh, known_product, Step, local, deal, exchange, end}
use Rattle.gates.specs.Steps.{say1, say2, meet, part2}

-- host 0's deal: the second mask of a deal, or g2 of a product; x is the A word of the first mask, or g1
unfoldable pub dealt_word : Step → (x : ℕ) (l1 l2 : Lane) → ℕ
dealt_word (local d m l) x l1 l2 = 0
dealt_word (deal d f) x l1 l2 = f x l1 l2
dealt_word (exchange d e) x l1 l2 = part2 e x l1 l2
dealt_word end x l1 l2 = 0

-- the word that host 1 speaks, from its lanes, g1 and its new mask
unfoldable pub spoken1 : Step → (m l : Lane) (g1 l1 : ℕ) → ℕ
spoken1 (local d p q) m l g1 l1 = 0
spoken1 (deal d f) m l g1 l1 = 0
spoken1 (exchange d e) m l g1 l1 = say1 e m l g1 l1
spoken1 end m l g1 l1 = 0

-- the word that host 2 speaks, from its lanes, g2 and its new mask
unfoldable pub spoken2 : Step → (m l : Lane) (g2 l2 : ℕ) → ℕ
spoken2 (local d p q) m l g2 l2 = 0
spoken2 (deal d f) m l g2 l2 = 0
spoken2 (exchange d e) m l g2 l2 = say2 e m l g2 l2
spoken2 end m l g2 l2 = 0

-- the new m, from host 1's word and host 2's
unfoldable pub met : Step → (u v : ℕ) → ℕ
met (local d p q) u v = 0
met (deal d f) u v = 0
met (exchange d e) u v = meet e u v
met end u v = 0

-- the shape of a step, with the target where a walk needs it: of the exchanges document 01's product alone has a deal;
-- the end of an order, where a host does nothing, counts as local
unfoldable pub shape : Step → Shape
shape (local d m l) = Local
shape (deal d f) = Dealing d
shape (exchange d (product O a b)) = Product d
shape (exchange d (refresh O a)) = Undealt d
shape (exchange d (known_product O a b)) = Undealt d
shape end = Local
