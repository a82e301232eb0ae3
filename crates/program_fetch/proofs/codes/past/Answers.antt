use Rattle.gates.specs.Codes.{gate_with, fetched}
use Rattle.program_fetch.proofs.codes.past.Goals as goal

pub returns : goal.returns
unfolding gate_with fetched
returns c = c.on_slots.ensures
