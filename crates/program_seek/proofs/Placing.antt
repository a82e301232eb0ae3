-- The number of a search: 8 where the program has no such product or refresh. Assumes nothing.
use mathlib.Core.Path.{◌≡◌, ap, ◌∙◌}
use mathlib.Core.Bool.{cond}
use mathlib.Core.List.{List, [], ◌∷◌}
use Prim.Native.Nat.{ℕ, zero, suc, ◌+◌}
use native.Mathlib.Omega.{arith}
use borrow.Author.Tests.{lt-ltb}
use lib.Dec.{ltb, leb-suc-zero, leb-suc-suc}
use Rattle.std.specs.Prelude.{Option}
use Rattle.gates.specs.Gates.{Gate}
use Rattle.gates.specs.Steps.{product, refresh, known_product, Step, local, deal, exchange, end}
use Rattle.gates.specs.Meaning.{meaning, order_steps}
use Rattle.gates.specs.Speech.{shape}
use Rattle.gates.specs.Costs.{plus, step_cost, cost}
use Rattle.programs.specs.Costs.{program_cost}
use Rattle.programs.specs.declared.GatePlace.{GatePlace}
use Rattle.programs.specs.Seek.{sought_at, sought, placing, Seeks}

-- 8 from b on
abbrev from : (n b : ℕ) → ℕ
from n b = cond (ltb n b) 0 8

same : (n b : ℕ) → from n b ≡ from n (0 + b)
same n b = ap (from n) (omega arith)

first : (b : ℕ) → 0 ≡ from 0 (1 + b)
first b = rw (lt-ltb 0 (1 + b) (omega arith))

next : (n b : ℕ) → from n b ≡ from (suc n) (1 + b)
next n b = let e : 1 + b ≡ suc b = omega arith in rw (e, leb-suc-suc (suc n) b)

-- past a step, whatever comes of the gates behind it
module _ (go : ℕ → ℕ → ℕ → ℕ → Option GatePlace) (b : ℕ) (h : (m i a deals : ℕ) → (placing (go m i a deals)).number ≡ from m b) where
  step_number : (y : Step) (n i a deals : ℕ) → (placing (sought_at (shape y) n i a deals go)).number ≡ from n ((step_cost y).b + b)
  unfolding shape sought_at step_cost
  step_number (local d m l) n i a deals = h n (suc i) a deals ∙ same n b
  step_number (deal d f) n i a deals = h n (suc i) (suc a) (suc deals) ∙ same n b
  step_number (exchange d (product O x y)) zero i a deals = first b
  step_number (exchange d (product O x y)) (suc n) i a deals = h n (suc i) (2 + a) (suc deals) ∙ next n b
  step_number (exchange d (refresh O x)) zero i a deals = first b
  step_number (exchange d (known_product O x y)) zero i a deals = first b
  step_number (exchange d (refresh O x)) (suc n) i a deals = h n (suc i) (suc a) deals ∙ next n b
  step_number (exchange d (known_product O x y)) (suc n) i a deals = h n (suc i) (suc a) deals ∙ next n b
  step_number end n i a deals = h n (suc i) a deals ∙ same n b

number_of : (w : ℕ) (gs : List Gate) (n i a deals : ℕ) → (placing (sought w gs n i a deals)).number ≡ from n (program_cost w gs).b
unfolding sought program_cost order_steps cost step_cost plus
number_of w [] n i a deals = rw (leb-suc-zero n)
number_of w (g ∷ gs) n i a deals = step_number (sought w gs) (program_cost w gs).b (number_of w gs) (meaning w g) n i a deals

pub told : (w : ℕ) (gs : List Gate) (n : ℕ) (s : Option GatePlace) → s ≡ sought w gs n 0 0 0 → Seeks w gs n s
told w gs n s e = record { is = e; number = ap (λ (x : Option GatePlace). (placing x).number) e ∙ number_of w gs n 0 0 0 }
