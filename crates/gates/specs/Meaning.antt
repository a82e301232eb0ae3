-- What each gate does, at the width w, as a step of a walk; and the steps of a job. Assumes nothing.
use Rattle.std.specs.Prelude.{List, [], ◌∷◌, ℕ, ◌%◌, ◌^◌}
use Rattle.std.specs.Int.Bits.{bit_xor}
use Rattle.words.specs.Words.{add, sub, neg, mul, bit, shl, shr, numbers, bits}
use Rattle.words.specs.Signed.{shr_signed}
use Rattle.shares.specs.Gates as Shares
use Rattle.gates.specs.Gates.{Part, Field, Signed, Dealt, OfSum, OfNegated, OfBits, Gate, Add, Sub, Xor, Mul}
use Rattle.gates.specs.Gates.{And, Refresh, MulKnown, AndKnown, Scale, Plus, Up, Bit, Const, Public, Deal}
use Rattle.gates.specs.Gates.{DealBits}
use Rattle.gates.specs.Steps.{Lane, at, product, refresh, known_product, Step, local, deal, exchange, end}

-- floor(x / 2^k) mod 2^j, or floor(signed(x) / 2^k)
unfoldable pub part : ℕ → Part → ℕ → ℕ
part w (Field k j) x = shr k x % 2 ^ j
part w (Signed k) x = shr_signed w k x

-- what host 0 deals of the masks L1 and L2: a part of L, a part of -L, or L1 xor L2
unfoldable pub dealt_of : ℕ → Dealt → ℕ → ℕ → ℕ
dealt_of w (OfSum f) l1 l2 = part w f (add w l1 l2)
dealt_of w (OfNegated f) l1 l2 = part w f (neg w (add w l1 l2))
dealt_of w OfBits l1 l2 = bit_xor l1 l2

-- the same operation on every lane
abbrev pub each : ℕ → (Lane → ℕ) → Step
each d f = local d f f

-- a value that hosts 1 and 2 know: m = v, masks 0
abbrev pub known : ℕ → (Lane → ℕ) → Step
known d v = local d v (λ l. 0)

unfoldable pub meaning : ℕ → Gate → Step
meaning w (Add d a b) = each d (λ l. add w (at l a) (at l b))
meaning w (Sub d a b) = each d (λ l. sub w (at l a) (at l b))
meaning w (Xor d a b) = each d (λ l. bit_xor (at l a) (at l b))
meaning w (Mul d a b) = exchange d (product (numbers w) a b)
meaning w (And d a b) = exchange d (product (bits w) a b)
meaning w (Refresh d a) = exchange d (refresh (numbers w) a)
meaning w (MulKnown d a b) = exchange d (known_product (numbers w) a b)
meaning w (AndKnown d a b) = exchange d (known_product (bits w) a b)
meaning w (Scale d a n) = each d (λ l. mul w (at l a) n)
meaning w (Plus d a n) = local d (λ m. add w (at m a) n) (λ l. at l a)
meaning w (Up d a n) = each d (λ l. shl w n (at l a))
meaning w (Bit d a n) = each d (λ l. bit (at l a) n)
meaning w (Const d n) = known d (λ m. n % 2 ^ w)
meaning w (Public d a f) = known d (λ m. part w f (at m a))
meaning w (Deal d a f) = deal d (λ x l1 l2. (Shares.deal (numbers w) (dealt_of w f (at l1 a) (at l2 a)) x).l2)
meaning w (DealBits d a) = deal d (λ x l1 l2. (Shares.deal (bits w) (neg w (add w (at l1 a) (at l2 a))) x).l2)

-- the steps of an order's gates, then `end`, then the steps ss
unfoldable pub order_steps : ℕ → List Gate → List Step → List Step
order_steps w [] ss = end ∷ ss
order_steps w (g ∷ gs) ss = meaning w g ∷ order_steps w gs ss

-- the steps of a job, whose orders are lists of gates
unfoldable pub job_steps : ℕ → List (List Gate) → List Step
job_steps w [] = []
job_steps w (o ∷ os) = order_steps w o (job_steps w os)
