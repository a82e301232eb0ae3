use Rattle.std.proofs.Common.{rules}
use Rattle.gates.specs.Codes.{step_of, read, gate_with, fetched_step}
use Rattle.gates.specs.Meaning.{meaning, dealt_of, part}
use Rattle.gates.specs.Speech.{dealt_word}
use Rattle.gates.specs.Steps.{part2}
use Rattle.gate_deal.proofs.deal_word.Goals as goal

pub returns-in-DealSum : goal.returns-in-DealSum
unfolding step_of read gate_with fetched_step meaning dealt_word dealt_of part
returns-in-DealSum c = search rules

pub returns-in-DealNegated : goal.returns-in-DealNegated
unfolding step_of read gate_with fetched_step meaning dealt_word dealt_of part
returns-in-DealNegated c = search rules

pub returns-in-DealSigned : goal.returns-in-DealSigned
unfolding step_of read gate_with fetched_step meaning dealt_word dealt_of part
returns-in-DealSigned c = search rules

pub returns-in-DealXor : goal.returns-in-DealXor
unfolding step_of read gate_with fetched_step meaning dealt_word dealt_of
returns-in-DealXor c = search rules

pub returns-in-DealBits : goal.returns-in-DealBits
unfolding step_of read gate_with fetched_step meaning dealt_word
returns-in-DealBits c = search rules

pub returns-in-Mul : goal.returns-in-Mul
unfolding step_of read gate_with fetched_step meaning dealt_word part2
returns-in-Mul c = search rules

pub returns-in-And : goal.returns-in-And
unfolding step_of read gate_with fetched_step meaning dealt_word part2
returns-in-And c = search rules

pub returns-in_default : goal.returns-in_default
unfolding step_of read gate_with fetched_step meaning dealt_word part2
returns-in_default c = search rules
