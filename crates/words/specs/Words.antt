-- Words of w bits, used at w = 32. Document 01: "Words are 32 bits wide, written in decimal; arithmetic on them is
-- modulo 2^32." Assumes nothing.
use Rattle.std.specs.Prelude.{ℕ, ◌+◌, ◌-◌, ◌*◌, ◌/◌, ◌%◌, ◌^◌}
use Rattle.std.specs.Int.Bits.{bit_and, bit_xor}
use Rattle.words.specs.Ring.{Ops}

-- modulo 2^w
unfoldable pub add : ℕ → ℕ → ℕ → ℕ
add w a b = (a + b) % 2 ^ w

unfoldable pub sub : ℕ → ℕ → ℕ → ℕ
sub w a b = (a + (2 ^ w - b)) % 2 ^ w

unfoldable pub neg : ℕ → ℕ → ℕ
neg w a = (2 ^ w - a) % 2 ^ w

unfoldable pub mul : ℕ → ℕ → ℕ → ℕ
mul w a b = a * b % 2 ^ w

-- bit i of x
unfoldable pub bit : ℕ → ℕ → ℕ
bit x i = x / 2 ^ i % 2

-- x shifted up by d, in w bits
unfoldable pub shl : ℕ → ℕ → ℕ → ℕ
shl w d x = x * 2 ^ d % 2 ^ w

-- x shifted down by k: floor(x / 2^k), x unsigned
unfoldable pub shr : ℕ → ℕ → ℕ
shr k x = x / 2 ^ k

-- the operations of numbers
abbrev pub numbers : ℕ → Ops ℕ
numbers w = record { add = add w; sub = sub w; mul = mul w; neg = neg w; nil = 0; one = 1 % 2 ^ w }

-- the operations of bits, w to a word: "exclusive or for plus", "and for times, xor for plus and minus"
abbrev pub bits : ℕ → Ops ℕ
bits w = record { add = bit_xor; sub = bit_xor; mul = bit_and; neg = λ x. x; nil = 0; one = 2 ^ w - 1 }
