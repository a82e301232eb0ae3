-- What a step's shape tells: where hosts 1 and 2 exchange words, and where none is taken for a deal. Assumes nothing.
use Rattle.std.proofs.Common.{◌≡◌, ℕ, [], ◌∷◌, refl, rules}
use mathlib.Core.Logic.{◌⊎◌}
use Rattle.gates.specs.declared.Shape.{Shape}
use Rattle.gates.specs.declared.Shape.TheVariants.{Dealing, Product, Undealt}
use Rattle.gates.specs.Steps.{Lane, product, refresh, known_product, Step, local, deal, exchange, end}
use Rattle.gates.specs.Speech.{shape}
use Rattle.gates.specs.Walk.{Exchanging}
use Rattle.gates.specs.Hosts.{on_mask}

pub spoken : (x : Step) (s : Shape) → s ≡ shape x → ((d : ℕ) × (s ≡ Product d)) ⊎ ((d : ℕ) × (s ≡ Undealt d))
    → Exchanging (x ∷ [])
unfolding shape
spoken (local d m l) s e h = search rules
spoken (deal d f) s e h = search rules
spoken (exchange d e') s e h = tt
spoken end s e h = search rules

pub quiet : (x : Step) (s : Shape) → s ≡ shape x → ((d : ℕ) → s ≡ Product d → ⊥) → ((d : ℕ) → s ≡ Undealt d → ⊥)
    → Exchanging (x ∷ []) → ⊥
unfolding shape
quiet (local d m l) s e p u h = h
quiet (deal d f) s e p u h = h
quiet (exchange d (product O a b)) s e p u h = p d e
quiet (exchange d (refresh O a)) s e p u h = u d e
quiet (exchange d (known_product O a b)) s e p u h = u d e
quiet end s e p u h = h

-- but for a deal, a mask is what it is whatever the word
pub any_word : (x : Step) (s : Shape) → s ≡ shape x → ((d : ℕ) → s ≡ Dealing d → ⊥) → (u v : ℕ) (l : Lane)
    → on_mask x u l ≡ on_mask x v l
unfolding shape on_mask
any_word (local d m q) s e n u v l = refl
any_word (deal d f) s e n u v l = absurd (n d e)
any_word (exchange d x) s e n u v l = refl
any_word end s e n u v l = refl
