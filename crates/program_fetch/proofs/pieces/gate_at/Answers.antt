use Rattle.gates.specs.Codes.{fetched}
use Rattle.program_fetch.specs.Pieces.{part_gates, piece_gates}
use Rattle.program_fetch.proofs.pieces.gate_at.Goals as goal

pub returns-in-Nothing : goal.returns-in-Nothing
unfolding part_gates piece_gates fetched
returns-in-Nothing c = simp c.in-Nothing.is c.past.ensures
