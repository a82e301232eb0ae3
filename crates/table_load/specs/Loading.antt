-- Document 02, R-5: what loading a table from bytes gives. A text is its list of bytes. Assumes nothing.
use Rattle.std.specs.Prelude.{Bool, true, ◌&&◌, not, cond, List, [], ◌∷◌, ◌++◌, ℕ, zero, suc, ◌+◌}
use Rattle.std.specs.Prelude.{◌-◌, ◌*◌, ◌/◌, ◌%◌, eqb, leb, length, get_or, take, replicate}
use Rattle.tables.specs.Table.{rows, rises}

-- byte i of a text
abbrev pub byte : List ℕ → ℕ → ℕ
byte t i = get_or t i 0

-- "in two bytes, low byte first"
abbrev pub two_bytes : (low high : ℕ) → ℕ
two_bytes low high = low + 256 * high

-- how many whole records a text has: six bytes each, two of mark, two of r, two of c. Record k begins at byte 6 × k
abbrev pub records : List ℕ → ℕ
records t = length t / 6

-- "Before each record stand the two bytes 195 and 90"
abbrev pub has_mark : List ℕ → (k : ℕ) → Bool
has_mark t k = eqb (byte t (6 * k)) 195 && eqb (byte t (6 * k + 1)) 90

-- "then r and c": those of record k
abbrev pub count_of : List ℕ → (k : ℕ) → ℕ
count_of t k = two_bytes (byte t (6 * k + 2)) (byte t (6 * k + 3))

abbrev pub value_of : List ℕ → (k : ℕ) → ℕ
value_of t k = two_bytes (byte t (6 * k + 4)) (byte t (6 * k + 5))

-- of n records from record k on: whether each has its mark; their r and c in turn
unfoldable pub marks : (n k : ℕ) → List ℕ → Bool
marks zero k t = true
marks (suc n) k t = has_mark t k && marks n (suc k) t

unfoldable pub words : (n k : ℕ) → List ℕ → List ℕ
words zero k t = []
words (suc n) k t = count_of t k ∷ value_of t k ∷ words n (suc k) t

-- no "record cut short or mark wrong", in the whole text
unfoldable pub marked : List ℕ → Bool
marked t = eqb (length t % 6) 0 && marks (records t) 0 t

-- not "fewer than 2 or more than 16 records"
unfoldable pub two_to_sixteen : (n : ℕ) → Bool
two_to_sixteen n = leb 2 n && leb n 16

-- the words of a text's table
abbrev pub table_in : List ℕ → List ℕ
table_in t = words (records t) 0 t

-- what a text gives: the check's number, 0 for none; the table's words, with zeros behind them, and how many there are
pub record Loaded : Type 0 where
  pub number : ℕ
  pub table : List ℕ
  pub len : ℕ

-- a table as an answer holds it: its words, with zeros behind them to 32; and how many they are
unfoldable pub padded : List ℕ → List ℕ
padded ws = ws ++ replicate (32 - length ws) 0

abbrev pub loaded : List ℕ → Loaded
loaded ws = record { number = 0; table = padded ws; len = length ws }

-- refused: an empty table, and everything but the number is 0
abbrev pub refused : (number : ℕ) → Loaded
refused n = record { number = n; table = replicate 32 0; len = 0 }

-- "13, record cut short or mark wrong; 14, fewer than 2 or more than 16 records; 15, a row's range or rise is broken;
-- all on loading, in this order"
unfoldable pub loading : List ℕ → Loaded
loading t =
    cond (not (marked t)) (refused 13) (cond (not (two_to_sixteen (records t))) (refused 14)
    (cond (not (rises (rows (table_in t)))) (refused 15) (loaded (table_in t))))

-- "gives the table that the job's calls then take": the words that a caller lends on
abbrev pub lent_on : Loaded → List ℕ
lent_on a = take a.len a.table
