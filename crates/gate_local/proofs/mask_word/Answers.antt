use Rattle.std.proofs.Common.{rules}
use Rattle.gates.specs.Codes.{step_of, read, gate_with, fetched_step}
use Rattle.gates.specs.Meaning.{meaning}
use Rattle.gates.specs.Hosts.{on_mask}
use Rattle.words.specs.Words.{add, sub, mul}
use Rattle.gate_local.proofs.mask_word.Goals as goal

pub returns-in-Add : goal.returns-in-Add
unfolding step_of read gate_with fetched_step meaning on_mask add
returns-in-Add c = search rules

pub returns-in-Sub : goal.returns-in-Sub
unfolding step_of read gate_with fetched_step meaning on_mask sub
returns-in-Sub c = search rules

pub returns-in-Xor : goal.returns-in-Xor
unfolding step_of read gate_with fetched_step meaning on_mask
returns-in-Xor c = search rules

pub returns-in-Scale : goal.returns-in-Scale
unfolding step_of read gate_with fetched_step meaning on_mask mul
returns-in-Scale c = search rules

pub returns-in-Plus : goal.returns-in-Plus
unfolding step_of read gate_with fetched_step meaning on_mask
returns-in-Plus c = search rules

pub returns-in-Up : goal.returns-in-Up
unfolding step_of read gate_with fetched_step meaning on_mask
returns-in-Up c = search rules

pub returns-in-Bit : goal.returns-in-Bit
unfolding step_of read gate_with fetched_step meaning on_mask
returns-in-Bit c = search rules

pub returns-in-Const : goal.returns-in-Const
unfolding step_of read gate_with fetched_step meaning on_mask
returns-in-Const c = search rules

pub returns-in-DealSum : goal.returns-in-DealSum
unfolding step_of read gate_with fetched_step meaning on_mask
returns-in-DealSum c = search rules

pub returns-in_default : goal.returns-in_default
unfolding step_of read gate_with fetched_step meaning on_mask
returns-in_default c = search rules
