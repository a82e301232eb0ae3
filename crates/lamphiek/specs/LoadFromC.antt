-- R-5: what a C caller lends on after a loading. Assumes nothing.
use Rattle.std.specs.Prelude.{◌≡◌, List, ℕ, take}
use Rattle.table_load.specs.Loading.{loading, lent_on}
use Rattle.lamphiek.specs.Loading.{told, table_left}

pub record LoadFromC : Type 0 where
  -- "gives the table that the job's calls then take": the first so many of the caller's words, as the answer counts
  -- them, are the table that was loaded; refused, none
  pub lends_on : (text old : List ℕ)
      → take (told (loading text)).count (table_left (loading text) old) ≡ lent_on (loading text)
