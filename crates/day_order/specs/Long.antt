-- The size of a host's lanes, which a clause does not read off an array behind a reference. Assumes nothing.
use Rattle.std.specs.Prelude.{◌≡◌, length}
use Rattle.gates.specs.declared.Lanes.{Lanes}

-- each lane has the sixteen registers and the eight temporaries
abbrev pub Long : Lanes → Type 0
Long l = (length l.first ≡ 24) × (length l.second ≡ 24)
