use Rattle.std.proofs.Common.{rules}
use Rattle.gates.specs.Codes.{gate_with, read, fetched_step, step_of}
use Rattle.gates.specs.Meaning.{meaning}
use Rattle.gates.specs.Speech.{shape}
use Rattle.gate_shape.proofs.shape_of.Goals as goal

pub returns-in-Add : goal.returns-in-Add
unfolding step_of read gate_with fetched_step meaning shape
returns-in-Add c = search rules

pub returns-in-DealSum : goal.returns-in-DealSum
unfolding step_of read gate_with fetched_step meaning shape
returns-in-DealSum c = search rules

pub returns-in-Mul : goal.returns-in-Mul
unfolding step_of read gate_with fetched_step meaning shape
returns-in-Mul c = search rules

pub returns-in-Refresh : goal.returns-in-Refresh
unfolding step_of read gate_with fetched_step meaning shape
returns-in-Refresh c = search rules

pub returns-in-Past : goal.returns-in-Past
unfolding step_of read gate_with fetched_step meaning shape
returns-in-Past c = search rules
