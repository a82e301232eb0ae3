-- Document 01, "House table by hand", with R-1 and R-4: what rehearsal prints for a line, in plain arithmetic. Assumes
-- nothing.
use Rattle.std.specs.Prelude.{cond, List, ℕ, zero, suc, ◌*◌, ◌%◌, ◌^◌, ℤ, pos, neg_ℤ, ◌+ℤ◌}
use Rattle.std.specs.Int.Signed.{lt_z}
use Rattle.words.specs.Words.{add}
use Rattle.words.specs.Signed.{floor, wrap, in_range}
use Rattle.truncations.specs.Truncation.{slip}
use Rattle.tables.specs.Table.{rows, house}
use Rattle.curves.specs.Curve.{scaled, last_count}
use Rattle.text_lines.specs.Lines.{Parsed, refusing, asking, parsed}
use Rattle.text_prints.specs.Printed.{answered, refused}

-- "Word j of A, from j = 1, is 2654435769 × j, of B 2246822519 × j"
abbrev pub first_a : ℕ
first_a = 2654435769

abbrev pub first_b : ℕ
first_b = 2246822519

-- Y of the house table
unfoldable pub Y : ℤ → ℤ
Y x = scaled (rows house) x

-- "L is the sum of the two mask words of the curve's refresh": the lists begin at j = 2, and the eight rows' kind 9
-- before it take 192 words of A and 96 of B
unfoldable pub refresh_L : ℕ
refresh_L = add 32 (first_a * 194 % 2 ^ 32) (first_b * 98 % 2 ^ 32)

-- demand 3, up to the last r: "exactly floor(Y / 4096) in exact mode"; in one-bit mode "one more exactly when (Y mod
-- 4096) + (L mod 4096) is at least 4096"
unfoldable pub covered : (mode : ℕ) → ℤ → ℤ
covered zero x = floor (Y x) 4096
covered (suc m) x = floor (Y x) 4096 +ℤ pos (slip 12 (wrap 12 (Y x)) refresh_L)

-- R-1: "The curve therefore opens -1 for x above the last r; at the last r itself nothing changes."
unfoldable pub value : (mode : ℕ) → ℤ → ℤ
value mode x = cond (lt_z (pos (last_count (rows house))) x) (neg_ℤ (pos 1)) (covered mode x)

-- R-4: "The house curve has 121 exact and 110 one-bit. Spoken words are as many as before"
abbrev pub deals : (mode : ℕ) → ℕ
deals zero = 121
deals (suc m) = 110

abbrev pub words : (mode : ℕ) → ℕ
words zero = 240
words (suc m) = 220

-- "Other lines, or over 64 bytes, print "refused 0"; a number out of range prints "refused 11"."
unfoldable pub answer_of : Parsed → List ℕ
answer_of (refusing n) = refused n
answer_of (asking mode x) = cond (in_range 32 x) (answered mode x (value mode x) (deals mode) (words mode)) (refused 11)

-- "It prints mode, reading, value, deals, words spoken"
unfoldable pub answer : (line : List ℕ) → List ℕ
answer line = answer_of (parsed line)
