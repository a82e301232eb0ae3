-- The gate that the code's five numbers stand for, and the gate at an index of a list. Assumes nothing.
use Rattle.std.specs.Prelude.{List, [], ◌∷◌, ℕ, zero, suc, get_or}
use Rattle.gates.specs.declared.GateCode.{GateCode}
use Rattle.gates.specs.declared.Op.{Op}
use Rattle.gates.specs.Gates.{Field, Signed, OfSum, OfNegated, OfBits, Gate, Add, Sub, Xor, Mul, And, Refresh}
use Rattle.gates.specs.Gates.{MulKnown, AndKnown, Scale, Plus, Up, Bit, Const, Public, Deal, DealBits}
use Rattle.gates.specs.Steps.{Step, end}
use Rattle.gates.specs.Meaning.{meaning}

-- the gate at an index of a list, or past the last one
pub data Fetched : Type 0 where
  At : Gate → Fetched
  Past : Fetched

unfoldable pub fetched : List Gate → ℕ → Fetched
fetched [] i = Past
fetched (g ∷ gs) zero = At g
fetched (g ∷ gs) (suc i) = fetched gs i

-- the operations in the order of their numbers: first those that each host does alone, then the deals, then the
-- exchanges, those with a deal first
abbrev pub operations : List Op
operations =
    Op.Add ∷ Op.Sub ∷ Op.Xor ∷ Op.Scale ∷ Op.Plus ∷ Op.Up ∷ Op.Bit ∷ Op.Const ∷ Op.Public ∷ Op.PublicSigned
    ∷ Op.DealSum ∷ Op.DealNegated ∷ Op.DealSigned ∷ Op.DealXor ∷ Op.DealBits
    ∷ Op.Mul ∷ Op.And ∷ Op.Refresh ∷ Op.MulKnown ∷ Op.AndKnown ∷ []

-- the operation of a number; every number past the last one is no gate's
unfoldable pub op_of : ℕ → Op
op_of n = get_or operations n Op.Past

-- the gate of an operation with these operands, or none
unfoldable pub gate_with : Op → (d a b n : ℕ) → Fetched
gate_with Op.Add d a b n = At (Add d a b)
gate_with Op.Sub d a b n = At (Sub d a b)
gate_with Op.Xor d a b n = At (Xor d a b)
gate_with Op.Scale d a b n = At (Scale d a n)
gate_with Op.Plus d a b n = At (Plus d a n)
gate_with Op.Up d a b n = At (Up d a n)
gate_with Op.Bit d a b n = At (Bit d a n)
gate_with Op.Const d a b n = At (Const d n)
gate_with Op.Public d a b n = At (Public d a (Field n b))
gate_with Op.PublicSigned d a b n = At (Public d a (Signed n))
gate_with Op.DealSum d a b n = At (Deal d a (OfSum (Field n b)))
gate_with Op.DealNegated d a b n = At (Deal d a (OfNegated (Field n b)))
gate_with Op.DealSigned d a b n = At (Deal d a (OfNegated (Signed n)))
gate_with Op.DealXor d a b n = At (Deal d a OfBits)
gate_with Op.DealBits d a b n = At (DealBits d a)
gate_with Op.Mul d a b n = At (Mul d a b)
gate_with Op.And d a b n = At (And d a b)
gate_with Op.Refresh d a b n = At (Refresh d a)
gate_with Op.MulKnown d a b n = At (MulKnown d a b)
gate_with Op.AndKnown d a b n = At (AndKnown d a b)
gate_with Op.Past d a b n = Past

-- the gates with these operands, in the order of the operations' numbers
unfoldable pub gates_with : (d a b n : ℕ) → List Gate
gates_with d a b n =
    Add d a b ∷ Sub d a b ∷ Xor d a b ∷ Scale d a n ∷ Plus d a n ∷ Up d a n ∷ Bit d a n ∷ Const d n
    ∷ Public d a (Field n b) ∷ Public d a (Signed n)
    ∷ Deal d a (OfSum (Field n b)) ∷ Deal d a (OfNegated (Field n b)) ∷ Deal d a (OfNegated (Signed n))
    ∷ Deal d a OfBits ∷ DealBits d a
    ∷ Mul d a b ∷ And d a b ∷ Refresh d a ∷ MulKnown d a b ∷ AndKnown d a b ∷ []

-- the gate that a code stands for: that of its number among those with its operands, or none (`read_by_number`)
unfoldable pub read : GateCode → Fetched
read c = gate_with (op_of c.op) c.d c.a c.b c.n

-- the step of a gate, and the end of its order past the last one
unfoldable pub fetched_step : ℕ → Fetched → Step
fetched_step w (At g) = meaning w g
fetched_step w Past = end

unfoldable pub step_of : ℕ → GateCode → Step
step_of w c = fetched_step w (read c)
