-- R-4, "No deal where a mask is known to be zero": where products with a known value stand in the programs, and how
-- many. Assumes nothing.
use Rattle.std.specs.Prelude.{◌≡◌, List, [], ◌∷◌, map, ℕ, zero, suc, ◌+◌, ◌*◌, length, get_or}
use Rattle.tables.specs.Table.{Row}
use Rattle.gates.specs.Gates.{Gate}
use Rattle.gates.specs.Steps.{product, refresh, known_product, Step, local, deal, exchange, end}
use Rattle.gates.specs.Meaning.{meaning}
use Rattle.gates.specs.Known.{saved}
use Rattle.programs.specs.declared.Order.{Order}
use Rattle.programs.specs.Programs.{sign_program, relu_program, one_bit_program, exact_program}
use Rattle.programs.specs.Orders.{program}

-- how many a program has
abbrev pub saved_in : (w : ℕ) → List Gate → ℕ
saved_in w gs = saved (map (meaning w) gs)

-- "the adder's first product, each bit made a number, and the product of kind 7": kind 8 has an adder and two bits, a
-- ReLU an adder and a bit
abbrev pub truncation_saved : (mode : ℕ) → ℕ
truncation_saved zero = 3
truncation_saved (suc m) = 1

-- kind by kind, on n rows: a curve has a ReLU for each row, its truncation, and R-1's steps, which have an adder and a
-- bit
abbrev pub kinds_saved : (mode n : ℕ) → List ℕ
kinds_saved c n = 0 ∷ 0 ∷ 0 ∷ 0 ∷ 0 ∷ 0 ∷ 0 ∷ 1 ∷ 3 ∷ 2 ∷ (2 * n + (truncation_saved c + 2)) ∷ []

-- which of the products and refreshes they are, of steps the first of which would be the x-th
unfoldable pub turns_from : (x : ℕ) → List Step → List ℕ
turns_from x [] = []
turns_from x (local d m l ∷ ss) = turns_from x ss
turns_from x (deal d f ∷ ss) = turns_from x ss
turns_from x (exchange d (product O a b) ∷ ss) = turns_from (suc x) ss
turns_from x (exchange d (refresh O a) ∷ ss) = turns_from (suc x) ss
turns_from x (exchange d (known_product O a b) ∷ ss) = x ∷ turns_from (suc x) ss
turns_from x (end ∷ ss) = turns_from x ss

abbrev pub turns : List Gate → List ℕ
turns gs = turns_from 0 (map (meaning 32) gs)

pub record Savings : Type 0 where
  -- so many are in the program of each kind, and no more, at every width
  pub amounts : (w : ℕ) (ps : List Row) (o : Order)
      → saved_in w (program w ps o) ≡ get_or (kinds_saved o.fourth (length ps)) o.kind 0
  -- in the blocks that hold them: the adder's first product is the first of all, a bit comes behind the adder's ten
  pub one_bit : (k x d : ℕ) → turns (one_bit_program 32 k x d) ≡ 0 ∷ []
  pub exact : (k x d : ℕ) → turns (exact_program 32 k x d) ≡ 0 ∷ 10 ∷ 11 ∷ []
  pub relu : (x d : ℕ) → turns (relu_program 32 x d) ≡ 0 ∷ 10 ∷ []
  pub sign : (x : ℕ) → turns (sign_program 32 x) ≡ 0 ∷ 10 ∷ []
