use Rattle.std.proofs.Common.{sym, ◌∙◌}
use Rattle.gates.specs.Codes.{fetched, gate_with}
use Rattle.gates.proofs.Fetched.{beyond}
use Rattle.programs.specs.Programs.{to_number}
use Rattle.program_fetch.proofs.Fetched.{none_below}
use Rattle.program_fetch.proofs.blocks.number_gate.Goals as goal

pub returns-in-0 : goal.returns-in-0
unfolding gate_with fetched to_number
returns-in-0 c = simp c.in-0.is c.on_slots.ensures

pub returns-in-1 : goal.returns-in-1
unfolding gate_with fetched to_number
returns-in-1 c = simp c.in-1.is c.with_part.ensures

pub returns-in-2 : goal.returns-in-2
unfolding gate_with fetched to_number
returns-in-2 c = simp c.in-2.is c.on_slots-in-2.ensures

pub returns-in-3 : goal.returns-in-3
unfolding gate_with fetched to_number
returns-in-3 c = simp c.in-3.is c.with_constant.ensures

pub returns-in-4 : goal.returns-in-4
unfolding gate_with fetched to_number
returns-in-4 c = simp c.in-4.is c.on_slots-in-4.ensures

pub returns-in-5 : goal.returns-in-5
unfolding gate_with fetched to_number
returns-in-5 c = simp c.in-5.is c.on_slots-in-5.ensures

pub returns-in_default : goal.returns-in_default
unfolding to_number
returns-in_default c = c.past.ensures ∙ sym (beyond (to_number 32) _ (none_below 6 _ c.in_default.in_default-own.rest))
