-- What asking for unused masks gives, as document 01's values: "the part of A or B after the job's need; the whole list
-- if refused". Assumes nothing.
use Rattle.std.specs.Prelude.{List, ℕ, Result, Ok, Err}
use Rattle.std.specs.Borrow.{Bor}
use Rattle.jobs.specs.declared.Condition.{Condition}

abbrev pub part_of : Result (Bor (List ℕ)) Condition → (list : List ℕ) → List ℕ
part_of (Ok part) l = part.now
part_of (Err c) l = l
