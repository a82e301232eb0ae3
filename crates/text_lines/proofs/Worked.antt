-- Worked lines, by computation. Assumes nothing.
use mathlib.Core.Path.{◌≡◌, refl}
use mathlib.Core.List.{[], ◌∷◌}
use lib.IntN.{pos, negsuc}
use Rattle.text_lines.specs.Lines.{malformed, asking, with_sign, digits, after_sign, after_space, after_letter, from_letter, parsed}

-- "E 202"; "S 007" is 7; "E -0" is 0; "S -12"
read : (parsed (69 ∷ 32 ∷ 50 ∷ 48 ∷ 50 ∷ []) ≡ asking 0 (pos 202))
    × (parsed (83 ∷ 32 ∷ 48 ∷ 48 ∷ 55 ∷ []) ≡ asking 1 (pos 7))
    × (parsed (69 ∷ 32 ∷ 45 ∷ 48 ∷ []) ≡ asking 0 (pos 0))
    × (parsed (83 ∷ 32 ∷ 45 ∷ 49 ∷ 50 ∷ []) ≡ asking 1 (negsuc 11))
unfolding parsed from_letter after_letter after_space after_sign digits with_sign
read = (refl, refl, refl, refl)

-- ""; "E 12345678901", of eleven digits; "X 1"; "E 1 ", with a space behind it
not_read : (parsed [] ≡ malformed)
    × (parsed (69 ∷ 32 ∷ 49 ∷ 50 ∷ 51 ∷ 52 ∷ 53 ∷ 54 ∷ 55 ∷ 56 ∷ 57 ∷ 48 ∷ 49 ∷ []) ≡ malformed)
    × (parsed (88 ∷ 32 ∷ 49 ∷ []) ≡ malformed)
    × (parsed (69 ∷ 32 ∷ 49 ∷ 32 ∷ []) ≡ malformed)
unfolding parsed from_letter after_letter after_space after_sign digits
not_read = (refl, refl, refl, refl)
