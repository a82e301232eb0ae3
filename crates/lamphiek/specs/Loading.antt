-- Loading a table (R-5), as C is answered: the number and how many words there are are given, the table is left in lent
-- words. Assumes nothing.
use Rattle.std.specs.Prelude.{List, ℕ}
use Rattle.table_load.specs.Loading.{Loaded}
use Rattle.lamphiek.specs.declared.Answer.{Answer}
use Rattle.lamphiek.specs.Layout.{answer, written}

-- count: how many words the table has
abbrev pub told : Loaded → Answer
told a = answer a.number 0 a.len 0

abbrev pub table_left : Loaded → (old : List ℕ) → List ℕ
table_left a old = written a.number a.table old
