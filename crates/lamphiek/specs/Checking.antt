-- Checking a job and asking for unused masks, as C is answered. Assumes nothing.
use Rattle.std.specs.Prelude.{List, ℕ, ◌-◌, length, drop}
use Rattle.jobs.specs.Answers.{Verdict, leftover_number, leftover_part}
use Rattle.jobs.specs.declared.Which.{Which}
use Rattle.lamphiek.specs.declared.Answer.{Answer}
use Rattle.lamphiek.specs.Layout.{answer, written, counts_out}

-- the number and the order's index; the counts are lent
abbrev pub checked : Verdict → Answer
checked v = answer v.number v.index 0 0

abbrev pub counts_left : Verdict → (old : List ℕ) → List ℕ
counts_left v old = written v.number (counts_out v.counts) old

-- "the part of A or B after the job's need; the whole list if refused"
abbrev pub unused : Which → (job table list : List ℕ) → List ℕ
unused x J T l = leftover_part (leftover_number 32 J T x l) 32 J T x l

-- the last n words of a list; all where it has fewer
abbrev pub last : ℕ → List ℕ → List ℕ
last n l = drop (length l - n) l
