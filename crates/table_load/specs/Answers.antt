-- What `load` answers, in document 02's numbers and values. Assumes nothing.
use Rattle.std.specs.Prelude.{ℕ, Result, Ok, Err}
use Rattle.table_load.specs.declared.LoadedTable.{LoadedTable}
use Rattle.table_load.specs.declared.LoadError.{LoadError}
use Rattle.table_load.specs.declared.LoadError.TheVariants.{Unmarked, Miscounted, Unsound}
use Rattle.table_load.specs.Loading.{Loaded, refused}

-- "Checks: 13, record cut short or mark wrong; 14, fewer than 2 or more than 16 records; 15, a row's range or rise is
-- broken"
abbrev pub number_of : LoadError → ℕ
number_of Unmarked = 13
number_of Miscounted = 14
number_of Unsound = 15

-- a table with the number 0; a number with nothing else
abbrev pub answer_of : Result LoadedTable LoadError → Loaded
answer_of (Ok t) = record { number = 0; table = t.table; len = t.len }
answer_of (Err e) = refused (number_of e)
