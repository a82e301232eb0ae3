-- Places of gates behind blocks. Assumes nothing.
use Rattle.std.specs.Prelude.{ℕ, ◌+◌, ◌<◌}
use Rattle.programs.specs.declared.BlockSize.{BlockSize}
use Rattle.programs.specs.declared.GatePlace.{GatePlace}

-- behind a block that starts at p
abbrev pub after : GatePlace → BlockSize → GatePlace
after p z = record { gate = p.gate + z.gates; a = p.a + z.a; deals = p.deals + z.deals }

-- each of a place's three numbers is below b
abbrev pub Below : (b : ℕ) → GatePlace → Type 0
Below b p = (p.gate < b) × (p.a < b) × (p.deals < b)
