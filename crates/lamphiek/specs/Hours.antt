-- A weekday's quarters (R-6), as C is answered: the number and how many count are given, their bits are left in lent
-- words. Assumes nothing.
use Rattle.std.specs.Prelude.{List, ℕ}
use Rattle.calendars.specs.Answers.{Counted}
use Rattle.lamphiek.specs.declared.Answer.{Answer}
use Rattle.lamphiek.specs.Layout.{answer, written}

-- count: how many quarters count
abbrev pub counted_told : Counted → Answer
counted_told c = answer c.number 0 c.n 0

-- the quarters' bits, quarter q at bit q % 32 of word q / 32; where the call is refused, what stood there
abbrev pub quarters_left : Counted → (quarters : List ℕ) → List ℕ
quarters_left c l = written c.number c.quarters.words l
