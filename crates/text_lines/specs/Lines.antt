-- Document 01, "House table by hand": the lines that rehearsal reads, without their newline; bytes as numbers.
-- Assumes nothing.
use Rattle.std.specs.Prelude.{Bool, true, false, ◌&&◌, cond, List, [], ◌∷◌, ℕ, ◌+◌}
use Rattle.std.specs.Prelude.{◌-◌, ◌*◌, eqb, leb, ltb, ℤ, pos, neg_ℤ, length}

-- what a line asks for: the mode (0 exact, 1 one-bit) and the reading; or the number that it is refused with
pub data Parsed : Type 0 where
  refusing : (number : ℕ) → Parsed
  asking : (mode : ℕ) (reading : ℤ) → Parsed

-- "Other lines, or over 64 bytes, print "refused 0""
abbrev pub malformed : Parsed
malformed = refusing 0

-- "an optional minus and 1 to 10 digits": the number that they stand for; -0 is 0
unfoldable pub with_sign : (minus : Bool) → ℕ → ℤ
with_sign minus n = cond minus (neg_ℤ (pos n)) (pos n)

-- "1 to 10 digits": from "0" (48) to "9" (57), and nothing else, to the end of the line; n is what the digits before
-- them stand for
unfoldable pub digits : (mode : ℕ) (minus : Bool) (n : ℕ) → List ℕ → Parsed
digits mode minus n [] = asking mode (with_sign minus n)
digits mode minus n (b ∷ s) = cond (leb 48 b && leb b 57) (digits mode minus (n * 10 + (b - 48)) s) malformed

-- "1 to 10 digits": their count
unfoldable pub after_sign : (mode : ℕ) (minus : Bool) → List ℕ → Parsed
after_sign mode minus s = cond (leb 1 (length s) && leb (length s) 10) (digits mode minus 0 s) malformed

-- "an optional minus" (45)
unfoldable pub after_space : (mode : ℕ) → List ℕ → Parsed
after_space mode [] = malformed
after_space mode (b ∷ s) = cond (eqb b 45) (after_sign mode true s) (after_sign mode false (b ∷ s))

-- "a space" (32)
unfoldable pub after_letter : (mode : ℕ) → List ℕ → Parsed
after_letter mode [] = malformed
after_letter mode (b ∷ s) = cond (eqb b 32) (after_space mode s) malformed

-- "for each line: "E" or "S" (one-bit), a space, an optional minus and 1 to 10 digits"; "E" is 69 and "S" is 83
unfoldable pub from_letter : List ℕ → Parsed
from_letter [] = malformed
from_letter (b ∷ s) = cond (eqb b 69) (after_letter 0 s) (cond (eqb b 83) (after_letter 1 s) malformed)

-- "or over 64 bytes"
unfoldable pub parsed : (line : List ℕ) → Parsed
parsed line = cond (ltb 64 (length line)) malformed (from_letter line)
