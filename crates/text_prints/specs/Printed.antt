-- Document 01, "House table by hand": the lines that rehearsal prints; bytes as numbers. Assumes nothing.
use Rattle.std.specs.Prelude.{cond, List, [], ◌∷◌, ◌++◌, ℕ, zero, suc, ◌+◌, ◌/◌, ◌%◌, eqb, ltb, ℤ, pos, negsuc}

-- the decimal digits of a number that has at most so many, without leading zeros: the last behind those of a tenth
unfoldable pub decimal : (places : ℕ) → ℕ → List ℕ
decimal zero n = []
decimal (suc k) n = cond (ltb n 10) ((48 + n) ∷ []) (decimal k (n / 10) ++ ((48 + n % 10) ∷ []))

-- a number of 64 bits has at most 20 digits
unfoldable pub shown : ℕ → List ℕ
shown n = decimal 20 n

-- a minus (45) in front of a negative number; "the reading is printed as a number, so 007 as 7 and -0 as 0"
unfoldable pub signed_shown : ℤ → List ℕ
signed_shown (pos n) = shown n
signed_shown (negsuc n) = 45 ∷ shown (suc n)

-- the mode's letter: "E" or "S" (one-bit)
unfoldable pub letter : (mode : ℕ) → ℕ
letter mode = cond (eqb mode 0) 69 83

-- "It prints mode, reading, value, deals, words spoken, one space between", and a newline (10)
unfoldable pub answered : (mode : ℕ) (reading value : ℤ) (deals words : ℕ) → List ℕ
answered mode reading value deals words =
    letter mode ∷ []
    ++ (32 ∷ signed_shown reading)
    ++ (32 ∷ signed_shown value)
    ++ (32 ∷ shown deals)
    ++ (32 ∷ shown words)
    ++ (10 ∷ [])

-- "refused " with its space
abbrev pub refused_word : List ℕ
refused_word = 114 ∷ 101 ∷ 102 ∷ 117 ∷ 115 ∷ 101 ∷ 100 ∷ 32 ∷ []

-- "print "refused 0"; a number out of range prints "refused 11"", and a newline (10)
unfoldable pub refused : (number : ℕ) → List ℕ
refused number = refused_word ++ shown number ++ (10 ∷ [])
