-- The copy of a list's front, as the code goes about it. Assumes nothing.
use mathlib.Core.Path.{◌≡◌}
use mathlib.Core.List.{List, ◌++◌}
use Prim.Native.Nat.{ℕ, ◌≤◌, ◌<◌}
use borrow.Author.Tests.{lt-ltb, le-ltb}
use lib.ListN.{length, take, drop}
use Rattle.word_lists.specs.Copied.{front_copied}

module _ (s d : List ℕ) (n : ℕ) where
  pub short_source : length s < n → d ≡ front_copied s d n
  unfolding front_copied
  short_source h = rw (lt-ltb (length s) n h)

  module _ (h : n ≤ length s) where
    pub short_target : length d < n → d ≡ front_copied s d n
    unfolding front_copied
    short_target k = rw (le-ltb (length s) n h, lt-ltb (length d) n k)

    pub all_copied : n ≤ length d → take n s ++ drop n d ≡ front_copied s d n
    unfolding front_copied
    all_copied k = rw (le-ltb (length s) n h, le-ltb (length d) n k)
