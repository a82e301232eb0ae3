-- Document 01, "The curve": what a calibration table is, its rules, and the slopes of its segments. Assumes nothing.
use Rattle.std.specs.Prelude.{Bool, true, false, ◌&&◌, cond, List, [], ◌∷◌, ◌≡◌, ℕ, suc}
use Rattle.std.specs.Prelude.{◌-◌, ◌*◌, ◌≤◌, ◌<◌, leb, ltb, ℤ, pos, length, get_or}
use Rattle.std.proofs.Math.IntN.{sub_ℕ}
use Rattle.words.specs.Signed.{floor}

-- a row: "count r, then micrograms per litre c"
pub record Row : Type 0 where
  pub r : ℕ
  pub c : ℕ

abbrev pub row : ℕ → ℕ → Row
row r c = record { r = r; c = c }

-- "rows of two words": the row of two words, and row k of a list of two words each
abbrev pub row_in : List ℕ → Row
row_in w = row (get_or w 0 0) (get_or w 1 0)

abbrev pub row_of : List (List ℕ) → ℕ → Row
row_of ws k = row_in (get_or ws k [])

-- the rows of a table's words
unfoldable pub rows : List ℕ → List Row
rows [] = []
rows (r ∷ []) = []
rows (r ∷ c ∷ ws) = row r c ∷ rows ws

-- no word is left over
unfoldable pub paired : List ℕ → Bool
paired [] = true
paired (r ∷ []) = false
paired (r ∷ c ∷ ws) = paired ws

-- "within 0 to 4095, c is 0 to 20000"
unfoldable pub row_fits : Row → Bool
row_fits p = leb p.r 4095 && leb p.c 20000

-- every row fits, and "r rises strictly"
unfoldable pub rises : List Row → Bool
rises [] = true
rises (p ∷ []) = row_fits p
rises (p ∷ q ∷ ps) = row_fits p && ltb p.r q.r && rises (q ∷ ps)

-- the rules: "2 to 16 rows of two words ..; r rises strictly within 0 to 4095, c is 0 to 20000 and may fall"
unfoldable pub keeps_rules : List ℕ → Bool
keeps_rules ws = paired ws && leb 2 (length (rows ws)) && leb (length (rows ws)) 16 && rises (rows ws)

-- the row at an index
abbrev pub row_at : List Row → ℕ → Row
row_at ps k = get_or ps k (row 0 0)

-- the same rules in plain words
pub record Rules (ws : List ℕ) : Type 0 where
  pub whole_rows : length ws ≡ 2 * length (rows ws)
  pub at_least : 2 ≤ length (rows ws)
  pub at_most : length (rows ws) ≤ 16
  pub count_fits : (k : ℕ) → k < length (rows ws) → (row_at (rows ws) k).r ≤ 4095
  pub value_fits : (k : ℕ) → k < length (rows ws) → (row_at (rows ws) k).c ≤ 20000
  pub count_rises : (k : ℕ) → suc k < length (rows ws) → (row_at (rows ws) k).r < (row_at (rows ws) (suc k)).r

-- "Slope S of a segment is floor((next c - c) × 4096 / (next r - r))"; of two rows that do not rise, 0
unfoldable pub slope : Row → Row → ℤ
slope p q = cond (ltb p.r q.r) (floor (sub_ℕ (q.c * 4096) (p.c * 4096)) (q.r - p.r)) (pos 0)

-- of each segment, in row order
unfoldable pub slopes : List Row → List ℤ
slopes [] = []
slopes (p ∷ []) = []
slopes (p ∷ q ∷ ps) = slope p q ∷ slopes (q ∷ ps)

-- "The house table, a constant"
unfoldable pub house : List ℕ
house =
    200 ∷ 0 ∷ 456 ∷ 250 ∷ 712 ∷ 520 ∷ 1224 ∷ 1100 ∷ 1736 ∷ 1720 ∷ 2760 ∷ 3100 ∷ 3272 ∷ 3850
    ∷ 3572 ∷ 4250 ∷ []
