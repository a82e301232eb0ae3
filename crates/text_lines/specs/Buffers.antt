-- Bytes that stand in an array of a fixed size. Assumes nothing.
use Rattle.std.specs.Prelude.{cond, List, [], ◌∷◌, ◌++◌, ℕ, ◌+◌, ◌-◌, ltb, length, set, replicate}

-- all bytes of an array, and how many of them count
pub record Buffer : Type 0 where
  pub bytes : List ℕ
  pub len : ℕ

abbrev pub buffer : (bytes : List ℕ) (len : ℕ) → Buffer
buffer bs n = record { bytes = bs; len = n }

-- A line in an array: the line, zeros behind it up to the array's size, and its length. Nothing is cut off: what a
-- longer line gives is no array of that size
unfoldable pub filled : (size : ℕ) (line : List ℕ) → Buffer
filled size line = buffer (line ++ replicate (size - length line) 0) (length line)

-- a byte more, where there is room
unfoldable pub with_byte : (size : ℕ) → Buffer → ℕ → Buffer
with_byte size t b = cond (ltb t.len size) (buffer (set t.bytes t.len b) (t.len + 1)) t

-- bytes more, one after the other
unfoldable pub with_bytes : (size : ℕ) → Buffer → List ℕ → Buffer
with_bytes size t [] = t
with_bytes size t (b ∷ s) = with_bytes size (with_byte size t b) s
