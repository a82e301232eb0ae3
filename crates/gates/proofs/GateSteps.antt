-- The step that a gate gives: every one but `end`. Assumes nothing.
use Prim.Native.Nat.{ℕ}
use Rattle.gates.specs.Gates.{Gate, Add, Sub, Xor, Mul, And, Refresh, MulKnown, AndKnown, Scale, Plus, Up, Bit, Const, Public, Deal, DealBits}
use Rattle.gates.specs.Steps.{Step, local, deal, exchange, end}
use Rattle.gates.specs.Meaning.{meaning}

abbrev pub OfGate : Step → Type 0
OfGate (local d m l) = Unit
OfGate (deal d f) = Unit
OfGate (exchange d e) = Unit
OfGate end = ⊥

pub of_gate : (w : ℕ) (g : Gate) → OfGate (meaning w g)
unfolding meaning
of_gate w (Add d a b) = tt
of_gate w (Sub d a b) = tt
of_gate w (Xor d a b) = tt
of_gate w (Mul d a b) = tt
of_gate w (And d a b) = tt
of_gate w (Refresh d a) = tt
of_gate w (MulKnown d a b) = tt
of_gate w (AndKnown d a b) = tt
of_gate w (Scale d a n) = tt
of_gate w (Plus d a n) = tt
of_gate w (Up d a n) = tt
of_gate w (Bit d a n) = tt
of_gate w (Const d n) = tt
of_gate w (Public d a f) = tt
of_gate w (Deal d a f) = tt
of_gate w (DealBits d a) = tt
