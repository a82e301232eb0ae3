-- What `load` refuses has a number. Assumes nothing.
use Rattle.std.proofs.Common.{◌≡◌, arith}
use Rattle.table_load.specs.declared.LoadError.{LoadError}
use Rattle.table_load.specs.declared.LoadError.TheVariants.{Unmarked, Miscounted, Unsound}
use Rattle.table_load.specs.Answers.{number_of}

pub has_number : (e : LoadError) → number_of e ≡ 0 → ⊥
has_number Unmarked z = omega arith
has_number Miscounted z = omega arith
has_number Unsound z = omega arith
