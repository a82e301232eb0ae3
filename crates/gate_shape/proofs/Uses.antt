-- What is used at a step, by the step's shape. Assumes nothing.
use mathlib.Core.Path.{◌≡◌, refl, sym, ap, ◌∙◌}
use Prim.Native.Nat.{ℕ}
use Rattle.gates.specs.declared.Shape.{Shape}
use Rattle.gates.specs.declared.Shape.TheVariants.{Local, Dealing, Product, Undealt}
use Rattle.gates.specs.declared.Used.{Used}
use Rattle.gates.specs.Steps.{product, refresh, known_product, Step, local, deal, exchange, end}
use Rattle.gates.specs.Speech.{shape}
use Rattle.gates.specs.Costs.{step_cost, used_at}

abbrev uses : (a b deals : ℕ) → Used
uses a b k = record { a = a; b = b; deals = k }

abbrev pub by_shape : Shape → Used
by_shape Local = uses 0 0 0
by_shape (Dealing d) = uses 1 0 1
by_shape (Product d) = uses 2 1 1
by_shape (Undealt d) = uses 1 1 0

same : (x : Step) → by_shape (shape x) ≡ used_at x
unfolding shape used_at step_cost
same (local d m l) = refl
same (deal d f) = refl
same (exchange d (product O a b)) = refl
same (exchange d (refresh O a)) = refl
same (exchange d (known_product O a b)) = refl
same end = refl

-- with the shape that the code found
pub used_there : (x : Step) (sh t : Shape) → sh ≡ shape x → sh ≡ t → by_shape t ≡ used_at x
used_there x sh t e p = ap by_shape (sym p ∙ e) ∙ same x
