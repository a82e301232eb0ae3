-- The size of a program: its gates, and its counts in document 01's table of costs. Each is computed from the program
-- itself, at any width; what slots and constants it has does not matter. Assumes nothing.
use Rattle.std.specs.Prelude.{List, [], ◌∷◌, ℕ, zero, suc, ◌+◌, ◌*◌, length}
use Rattle.gates.specs.Gates.{Gate, Add, Mul, Refresh}
use Rattle.gates.specs.Costs.{Cost, cost_of, plus}
use Rattle.programs.specs.Programs.{relu_program, slack_program, one_bit_program, exact_program, row_program}
use Rattle.programs.specs.Programs.{saturation}
use Rattle.programs.specs.Costs.{program_cost}

pub record Size : Type 0 where
  pub gates : ℕ
  pub cost : Cost

abbrev pub size : (gates : ℕ) → Cost → Size
size n k = record { gates = n; cost = k }

abbrev pub size_of : (w : ℕ) → List Gate → Size
size_of w gs = size (length gs) (program_cost w gs)

unfoldable pub slack_size : ℕ → Size
slack_size w = size_of w (slack_program 0 0 0)

unfoldable pub one_bit_size : ℕ → Size
one_bit_size w = size_of w (one_bit_program w 0 0 0)

unfoldable pub exact_size : ℕ → Size
exact_size w = size_of w (exact_program w 0 0 0)

unfoldable pub relu_size : ℕ → Size
relu_size w = size_of w (relu_program w 0 0)

-- ---- a row of a curve

unfoldable pub row_size : ℕ → Size
row_size w = size_of w (row_program w 0 0 0)

abbrev pub row_gates : ℕ → ℕ
row_gates w = (row_size w).gates

abbrev pub row_deals : ℕ → ℕ
row_deals w = (row_size w).cost.deals

abbrev pub row_words_a : ℕ → ℕ
row_words_a w = (row_size w).cost.a

-- each product and each refresh uses one word of B, and nothing else does
abbrev pub row_exchanges : ℕ → ℕ
row_exchanges w = (row_size w).cost.b

-- ---- one program after another, and n of a size

unfoldable pub plus_size : Size → Size → Size
plus_size x y = size (x.gates + y.gates) (plus x.cost y.cost)

unfoldable pub times_cost : ℕ → Cost → Cost
times_cost n k = cost_of (k.deals * n) (k.words * n) (k.a * n) (k.b * n)

unfoldable pub times_size : ℕ → Size → Size
times_size n x = size (x.gates * n) (times_cost n x.cost)

-- ---- kinds of orders

-- kind 10 after its sum: "kind 8 .., or kind 5 and kind 7"
unfoldable pub truncation_size : (w mode : ℕ) → Size
truncation_size w zero = exact_size w
truncation_size w (suc m) = plus_size (size_of w (Refresh 0 0 ∷ [])) (one_bit_size w)

-- .. and then R-1's steps
unfoldable pub saturation_size : ℕ → Size
saturation_size w = size_of w (saturation w 0 0 0)

-- the first term, n rows, the truncation and R-1's steps
unfoldable pub curve_size : (w mode n : ℕ) → Size
curve_size w mode n =
    plus_size (plus_size (size 1 (cost_of 0 0 0 0)) (times_size n (row_size w)))
    (plus_size (truncation_size w mode) (saturation_size w))

-- in the kinds' order, for a fourth word c and a table of n rows
unfoldable pub kind_sizes : (w c n : ℕ) → List Size
kind_sizes w c n =
    linear ∷ linear ∷ linear ∷ linear ∷ size_of w (Mul 0 0 0 ∷ []) ∷ size_of w (Refresh 0 0 ∷ [])
    ∷ slack_size w ∷ one_bit_size w ∷ exact_size w ∷ relu_size w ∷ curve_size w c n ∷ []
  where
    linear : Size
    linear = size_of w (Add 0 0 0 ∷ [])
