-- Worked lines, by computation. Assumes nothing.
use mathlib.Core.Path.{◌≡◌, refl}
use mathlib.Core.List.{[], ◌∷◌}
use lib.IntN.{pos, negsuc}
use Rattle.text_prints.specs.Printed.{decimal, shown, signed_shown, letter, answered, refused}

-- a line of output, "E 5000 -1 121 240", and document 01's last, "refused 11"
printed : (answered 0 (pos 5000) (negsuc 0) 121 240
    ≡ 69 ∷ 32 ∷ 53 ∷ 48 ∷ 48 ∷ 48 ∷ 32 ∷ 45 ∷ 49 ∷ 32 ∷ 49 ∷ 50 ∷ 49 ∷ 32 ∷ 50 ∷ 52 ∷ 48 ∷ 10 ∷ [])
    × (refused 11 ≡ 114 ∷ 101 ∷ 102 ∷ 117 ∷ 115 ∷ 101 ∷ 100 ∷ 32 ∷ 49 ∷ 49 ∷ 10 ∷ [])
unfolding answered refused letter signed_shown shown decimal
printed = (refl, refl)
