use Rattle.std.proofs.Common.{rules}
use Rattle.gates.specs.Codes.{step_of, read, gate_with, fetched_step}
use Rattle.gates.specs.Meaning.{meaning}
use Rattle.gates.specs.Speech.{spoken2}
use Rattle.gates.specs.Steps.{say2}
use Rattle.gate_speak.proofs.word2.Goals as goal

pub returns-in-Mul : goal.returns-in-Mul
unfolding step_of read gate_with fetched_step meaning spoken2 say2
returns-in-Mul c = search rules

pub returns-in-And : goal.returns-in-And
unfolding step_of read gate_with fetched_step meaning spoken2 say2
returns-in-And c = search rules

pub returns-in-Refresh : goal.returns-in-Refresh
unfolding step_of read gate_with fetched_step meaning spoken2 say2
returns-in-Refresh c = search rules

pub returns-in-MulKnown : goal.returns-in-MulKnown
unfolding step_of read gate_with fetched_step meaning spoken2 say2
returns-in-MulKnown c = search rules

pub returns-in-AndKnown : goal.returns-in-AndKnown
unfolding step_of read gate_with fetched_step meaning spoken2 say2
returns-in-AndKnown c = search rules

pub returns-in_default : goal.returns-in_default
unfolding step_of read gate_with fetched_step meaning spoken2 say2
returns-in_default c = search rules
