-- A list copied over the front of another, one word at a time. Assumes nothing.
use Rattle.std.proofs.Common.{◌≡◌, ℕ, ◌+◌, ◌<◌, List, ◌++◌, length, get_or, take, drop, set, add-one, arith, length-take-le, drop-cons, take-suc}
use lib.Seq.{set_at, append_snoc}

-- the first i words of s in the place of d's
abbrev pub copied : (d s : List ℕ) → ℕ → List ℕ
copied d s i = take i s ++ drop i d

pub copy_more : (d s : List ℕ) (i : ℕ) → i < length d → i < length s → set (copied d s i) i (get_or s i 0) ≡ copied d s (i + 1)
copy_more d s i h k =
    let l : length (take i s) ≡ i = length-take-le i s (omega arith) in
    rw (add-one, drop-cons d i 0 h, set_at (take i s) _ _ _ i l, take-suc s i 0 k, append_snoc)
