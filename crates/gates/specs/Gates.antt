-- The gates of a program on shares: d is the target slot, a and b are source slots. Assumes nothing.
use Rattle.std.specs.Prelude.{ℕ}

-- a part of a word
pub data Part : Type 0 where
  -- floor(x / 2^k) mod 2^j, x unsigned
  Field : (k j : ℕ) → Part
  -- floor(x / 2^k), x signed
  Signed : (k : ℕ) → Part

-- what host 0 deals of a value's masks: a part of L = L1 + L2, a part of -L, or the mask L1 xor L2 of a bit share
pub data Dealt : Type 0 where
  OfSum : Part → Dealt
  OfNegated : Part → Dealt
  OfBits : Dealt

pub data Gate : Type 0 where
  Add : (d a b : ℕ) → Gate
  Sub : (d a b : ℕ) → Gate
  Xor : (d a b : ℕ) → Gate
  -- the product of two numbers
  Mul : (d a b : ℕ) → Gate
  -- the product of two bit words
  And : (d a b : ℕ) → Gate
  Refresh : (d a : ℕ) → Gate
  -- R-4, "a product with a known value": a is known, of two numbers
  MulKnown : (d a b : ℕ) → Gate
  -- and of two bit words
  AndKnown : (d a b : ℕ) → Gate
  -- times a constant
  Scale : (d a n : ℕ) → Gate
  -- plus a constant, which enters m alone
  Plus : (d a n : ℕ) → Gate
  -- bits shifted up
  Up : (d a n : ℕ) → Gate
  -- one bit
  Bit : (d a n : ℕ) → Gate
  Const : (d n : ℕ) → Gate
  -- a known value of hosts 1 and 2: a part of a's m
  Public : (d a : ℕ) → Part → Gate
  -- a number of a's masks, dealt by host 0
  Deal : (d a : ℕ) → Dealt → Gate
  -- the bits of -L, dealt by host 0
  DealBits : (d a : ℕ) → Gate
