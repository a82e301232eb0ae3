-- What is proved of loading. Assumes nothing.
use mathlib.Core.Path.{◌≡◌, refl}
use mathlib.Core.Bool.{Bool, true, false, not, cond}
use mathlib.Core.Logic.{◌≢◌}
use mathlib.Core.List.{List}
use Prim.Native.Nat.{ℕ, ◌≤◌}
use native.Mathlib.Omega.{arith}
use Rattle.tables.specs.Table.{rows, rises}
use Rattle.table_load.specs.Loading.{Loaded}
use Rattle.table_load.specs.Loading.{records, marked, two_to_sixteen, table_in, loaded, refused, loading}
use Rattle.table_load.specs.Loads.{Loads}
use Rattle.table_load.proofs.Reading.{two_each, two_to_sixteen_is}
use Rattle.table_load.proofs.Numbers.{numbered, one_number}
use Rattle.table_load.proofs.Encodings.{loads_exactly, gives, text_bytes, text_loads, lent, kept}

-- by what the three tests found, and the answer where none has
abbrev picked : (marks count rise : Bool) → Loaded → Loaded
picked m n r a = cond (not m) (refused 13) (cond (not n) (refused 14) (cond (not r) (refused 15) a))

empty : (m n r : Bool) (a : Loaded) → a.number ≡ 0 → (picked m n r a).number ≢ 0 → picked m n r a ≡ refused (picked m n r a).number
empty false n r a e h = refl
empty true false r a e h = refl
empty true true false a e h = refl
empty true true true a e h = absurd (h e)

refused_empty : (t : List ℕ) → (loading t).number ≢ 0 → loading t ≡ refused (loading t).number
unfolding loading
refused_empty t h = empty (marked t) (two_to_sixteen (records t)) (rises (rows (table_in t))) (loaded (table_in t)) refl h

few : (m n r : Bool) (a : Loaded) → (n ≡ true → a.len ≤ 32) → (picked m n r a).len ≤ 32
few false n r a h = omega arith
few true false r a h = omega arith
few true true false a h = omega arith
few true true true a h = h refl

few_words : (t : List ℕ) → (loading t).len ≤ 32
unfolding loading
few_words t =
    few (marked t) (two_to_sixteen (records t)) (rises (rows (table_in t))) (loaded (table_in t))
    (λ e. omega (arith, two_each (records t) 0 t, two_to_sixteen_is (records t) e))

pub loads : Loads
loads = record {
  numbered = numbered;
  one_number = one_number;
  refused_empty = refused_empty;
  loads_exactly = loads_exactly;
  gives = gives;
  every_table = λ ws r. (text_bytes ws r, text_loads ws r);
  few_words = few_words;
  lent = lent;
  kept = kept;
}
