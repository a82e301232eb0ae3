-- What a gate's code stands for, by its operation. Assumes nothing.
use Rattle.std.proofs.Common.{◌≡◌, ℕ, zero, suc, List, [], ◌∷◌, length, drop, map, get_or, refl, sym, ap, ◌≤◌, arith}
use Rattle.std.proofs.lemmas.List.{get_or_past}
use denote.Enum.Declared.{tag_of}
use Rattle.gates.specs.contracts.Op.{the_type}
use Rattle.gates.specs.declared.GateCode.{GateCode}
use Rattle.gates.specs.declared.Op.{Op}
use Rattle.gates.specs.Gates.{Gate}
use Rattle.gates.specs.Steps.{Step, end}
use Rattle.gates.specs.Meaning.{meaning}
use Rattle.gates.specs.Codes.{Fetched, At, Past, fetched, operations, op_of, gate_with, gates_with, read, fetched_step, step_of}

-- the step of an operation with the code's operands
abbrev pub step_with : (w : ℕ) (c : GateCode) → Op → Step
step_with w c k = fetched_step w (gate_with k c.d c.a c.b c.n)

-- the operation is k
pub coded : (w : ℕ) (c : GateCode) (k : Op) → op_of c.op ≡ k → step_of w c ≡ step_with w c k
unfolding step_of read
coded w c k h = ap (step_with w c) h

-- ---- a code is the gate of its operation's number among those with its operands

number_among : (f : Op → Fetched) → f Op.Past ≡ Past → (ks : List Op) (gs : List Gate) → map f ks ≡ map At gs → (i : ℕ)
    → f (get_or ks i Op.Past) ≡ fetched gs i
unfolding fetched
number_among f p [] [] e i = p
number_among f p (k ∷ ks) (g ∷ gs) e zero = ap (λ (l : List Fetched). get_or l 0 Past) e
number_among f p (k ∷ ks) (g ∷ gs) e (suc i) = number_among f p ks gs (ap (λ (l : List Fetched). drop 1 l) e) i
number_among f p [] (g ∷ gs) e i = absurd (omega (arith, ap length e))
number_among f p (k ∷ ks) [] e i = absurd (omega (arith, ap length e))

pub by_number : (op d a b n : ℕ) → gate_with (op_of op) d a b n ≡ fetched (gates_with d a b n) op
unfolding op_of gate_with gates_with
by_number op d a b n = number_among (λ (k : Op). gate_with k d a b n) refl operations (gates_with d a b n) refl op

pub read_by_number : (c : GateCode) → read c ≡ fetched (gates_with c.d c.a c.b c.n) c.op
unfolding read
read_by_number c = by_number c.op c.d c.a c.b c.n

-- no number from 20 on is an operation's
pub no_operation : (i : ℕ) → 20 ≤ i → Op.Past ≡ op_of i
unfolding op_of
no_operation i h = sym (get_or_past operations i Op.Past h)

-- an operation's number is read as that operation
pub op_of_number : (k : Op) → op_of (tag_of the_type k) ≡ k
unfolding op_of
op_of_number Op.Add = refl
op_of_number Op.Sub = refl
op_of_number Op.Xor = refl
op_of_number Op.Scale = refl
op_of_number Op.Plus = refl
op_of_number Op.Up = refl
op_of_number Op.Bit = refl
op_of_number Op.Const = refl
op_of_number Op.Public = refl
op_of_number Op.PublicSigned = refl
op_of_number Op.DealSum = refl
op_of_number Op.DealNegated = refl
op_of_number Op.DealSigned = refl
op_of_number Op.DealXor = refl
op_of_number Op.DealBits = refl
op_of_number Op.Mul = refl
op_of_number Op.And = refl
op_of_number Op.Refresh = refl
op_of_number Op.MulKnown = refl
op_of_number Op.AndKnown = refl
op_of_number Op.Past = refl

-- a code's step is that of the gate it is read as
pub read_at : (w : ℕ) (c : GateCode) (g : Gate) → read c ≡ At g → step_of w c ≡ meaning w g
unfolding step_of fetched_step
read_at w c g h = ap (fetched_step w) h

pub read_past : (w : ℕ) (c : GateCode) → read c ≡ Past → step_of w c ≡ end
unfolding step_of fetched_step
read_past w c h = ap (fetched_step w) h
