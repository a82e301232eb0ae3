-- The 96 quarters of a day as bits, 32 to a word: quarter q at bit q % 32 of word q / 32. Assumes nothing.
use Rattle.std.specs.Prelude.{Bool, ◌&&◌, cond, [], ◌∷◌, ◌≡◌, ℕ, ◌/◌, ◌%◌, eqb, ltb, leb, get_or}
use Rattle.words.specs.Words.{bit}
use Rattle.calendars.specs.declared.Quarters.{Quarters}
use Rattle.calendars.specs.Ranges.{packed}
use Rattle.calendars.specs.Calendar.{rule, factor}

-- whether quarter q's bit is 1; there is none from 96 on
unfoldable pub held : Quarters → ℕ → Bool
held x q = ltb q 96 && eqb (bit (get_or x.words (q / 32) 0) (q % 32)) 1

-- the quarters of a day that a test holds of
abbrev pub quarters_where : (ℕ → Bool) → Quarters
quarters_where f = record { words = packed f 0 32 ∷ packed f 32 32 ∷ packed f 64 32 ∷ [] }

-- the rule of the two kinds of window, of 32 quarters at once: where o and k have the bits of those in open and in
-- cleaning windows, r has the bits of those that count
abbrev pub Ruled : (opened cleaned r : ℕ) → Type 0
Ruled o k r =
    (f g : ℕ → Bool) (q : ℕ) → o ≡ packed f q 32 → k ≡ packed g q 32
    → r ≡ packed (λ x. rule (f x) (g x)) q 32

-- the factor "from a table for n from 1 to 96"; 0 where the table has none
unfoldable pub tabled : ℕ → ℕ
tabled n = cond (leb n 96) (factor n) 0
