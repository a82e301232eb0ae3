use Rattle.std.proofs.Common.{rules}
use Rattle.gates.specs.Codes.{step_of, read, gate_with, fetched_step}
use Rattle.gates.specs.Meaning.{meaning, part}
use Rattle.gates.specs.Hosts.{on_m, on_mask}
use Rattle.words.specs.Words.{add}
use Rattle.gate_local.proofs.m_word.Goals as goal

pub returns-in-Plus : goal.returns-in-Plus
unfolding step_of read gate_with fetched_step meaning on_m add
returns-in-Plus c = search rules

pub returns-in-Const : goal.returns-in-Const
unfolding step_of read gate_with fetched_step meaning on_m
returns-in-Const c = search rules

pub returns-in-Public : goal.returns-in-Public
unfolding step_of read gate_with fetched_step meaning on_m part
returns-in-Public c = search rules

pub returns-in-PublicSigned : goal.returns-in-PublicSigned
unfolding step_of read gate_with fetched_step meaning on_m part
returns-in-PublicSigned c = search rules

pub returns-in_default : goal.returns-in_default
unfolding step_of read gate_with fetched_step meaning on_mask on_m
returns-in_default c = search rules
