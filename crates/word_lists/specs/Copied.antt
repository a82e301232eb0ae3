-- Words copied from list to list. Assumes nothing.
use Rattle.std.specs.Prelude.{◌||◌, cond, List, ◌++◌, ℕ, ltb, length, take, drop}

-- the first n words of s in the place of d's, where both have so many
unfoldable pub front_copied : (s d : List ℕ) (n : ℕ) → List ℕ
front_copied s d n = cond (ltb (length s) n || ltb (length d) n) d (take n s ++ drop n d)
