-- Texts by hand: one that loads, and some for each number. Assumes nothing.
use mathlib.Core.Path.{◌≡◌, refl}
use mathlib.Core.List.{List, [], ◌∷◌, ◌++◌}
use Prim.Native.Nat.{ℕ, zero, suc}
use Rattle.tables.specs.Table.{rows, row_fits, rises}
use Rattle.table_load.specs.Loading.{marks, words, marked, two_to_sixteen, padded, loaded, refused, loading}

-- the house table's first two rows, (200, 0) and (456, 250); 456 is 200 + 256
two_rows : List ℕ
two_rows = 195 ∷ 90 ∷ 200 ∷ 0 ∷ 0 ∷ 0 ∷ 195 ∷ 90 ∷ 200 ∷ 1 ∷ 250 ∷ 0 ∷ []

-- the record (200, 0), so many times
times : ℕ → List ℕ
times zero = []
times (suc n) = 195 ∷ 90 ∷ 200 ∷ 0 ∷ 0 ∷ 0 ∷ times n

two_rows_load : loading two_rows ≡ loaded (200 ∷ 0 ∷ 456 ∷ 250 ∷ [])
unfolding loading marked marks words two_to_sixteen rises rows row_fits two_rows padded
two_rows_load = refl

nothing : loading [] ≡ refused 14
unfolding loading marked marks words two_to_sixteen
nothing = refl

-- one record is too few, and still 13 where it is cut short or its mark is wrong
too_few : loading (times 1) ≡ refused 14
unfolding loading marked marks words two_to_sixteen times
too_few = refl

cut_short : loading (195 ∷ 90 ∷ 200 ∷ 0 ∷ 0 ∷ []) ≡ refused 13
unfolding loading marked marks words two_to_sixteen
cut_short = refl

mark_wrong : loading (195 ∷ 91 ∷ 200 ∷ 0 ∷ 0 ∷ 0 ∷ []) ≡ refused 13
unfolding loading marked marks words two_to_sixteen
mark_wrong = refl

-- seventeen are too many, and still 13 where the mark of one past the sixteenth is wrong
too_many : loading (times 17) ≡ refused 14
unfolding loading marked marks words two_to_sixteen times
too_many = refl

mark_wrong_behind : loading (times 16 ++ (195 ∷ 91 ∷ 200 ∷ 0 ∷ 0 ∷ 0 ∷ [])) ≡ refused 13
unfolding loading marked marks words two_to_sixteen times
mark_wrong_behind = refl

-- r stays equal
level : loading (times 2) ≡ refused 15
unfolding loading marked marks words two_to_sixteen rises rows row_fits times
level = refl
