-- Mask lists of the rehearsal (document 01, "House table by hand"). Assumes nothing.
use Rattle.std.specs.Prelude.{ℕ, zero, suc, ◌*◌, ◌%◌, ◌^◌, List, [], ◌∷◌}

-- n words of a list from its j-th on: "Word j of A, from j = 1, is 2654435769 × j"
unfoldable pub multiples : (factor j n : ℕ) → List ℕ
multiples f j zero = []
multiples f j (suc n) = (f * j % 2 ^ 32) ∷ multiples f (suc j) n
