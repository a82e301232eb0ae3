-- Document 02, R-5, in plain words: which condition each number stands for, and the text of a table. Assumes nothing.
use Rattle.std.specs.Prelude.{◌≡◌, List, [], ◌∷◌, ℕ, suc, ◌+◌, ◌*◌, ◌/◌, ◌%◌, ◌≤◌, ◌<◌, length}
use Rattle.tables.specs.Table.{Row}
use Rattle.table_load.specs.Loading.{byte, records, count_of, value_of}

-- each is a byte; past the end stands 0
abbrev pub Bytes : List ℕ → Type 0
Bytes t = (i : ℕ) → byte t i < 256

-- no record is cut short, and before each stand 195 and 90
pub record Marked (t : List ℕ) : Type 0 where
  pub whole : length t ≡ 6 * records t
  pub first : (k : ℕ) → k < records t → byte t (6 * k) ≡ 195
  pub second : (k : ℕ) → k < records t → byte t (6 * k + 1) ≡ 90

-- 2 to 16 records
abbrev pub TwoToSixteen : List ℕ → Type 0
TwoToSixteen t = (2 ≤ records t) × (records t ≤ 16)

-- every row's range and rise is kept: "r rises strictly within 0 to 4095, c is 0 to 20000"
pub record Sound (t : List ℕ) : Type 0 where
  pub count_fits : (k : ℕ) → k < records t → count_of t k ≤ 4095
  pub value_fits : (k : ℕ) → k < records t → value_of t k ≤ 20000
  pub count_rises : (k : ℕ) → suc k < records t → count_of t k < count_of t (suc k)

-- a text has the number n: that of its first broken condition, "in this order", and 0 where none is broken
pub data TextNumbered (t : List ℕ) : (n : ℕ) → Type 0 where
  faultless : Marked t → TwoToSixteen t → Sound t → TextNumbered t 0
  -- "13, record cut short or mark wrong"
  unmarked : (Marked t → ⊥) → TextNumbered t 13
  -- "14, fewer than 2 or more than 16 records"
  miscounted : Marked t → (TwoToSixteen t → ⊥) → TextNumbered t 14
  -- "15, a row's range or rise is broken"
  unsound : Marked t → TwoToSixteen t → (Sound t → ⊥) → TextNumbered t 15

-- a table's text: "Before each record stand the two bytes 195 and 90, then r and c, each in two bytes, low byte first."
unfoldable pub encode : List Row → List ℕ
encode [] = []
encode (p ∷ ps) = 195 ∷ 90 ∷ p.r % 256 ∷ p.r / 256 ∷ p.c % 256 ∷ p.c / 256 ∷ encode ps
