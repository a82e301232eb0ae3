use Rattle.std.proofs.Common.{sym, ◌∙◌}
use Rattle.gates.specs.Codes.{fetched, gate_with}
use Rattle.gates.proofs.Fetched.{beyond}
use Rattle.programs.specs.Programs.{one_bit_program}
use Rattle.program_fetch.proofs.Fetched.{none_below}
use Rattle.program_fetch.proofs.kinds.one_bit_gate.Goals as goal

pub returns-in-0 : goal.returns-in-0
unfolding gate_with fetched one_bit_program
returns-in-0 c = simp c.in-0.is (simp c.power.ensures at c.with_constant.ensures)

pub returns-in-1 : goal.returns-in-1
unfolding gate_with fetched one_bit_program
returns-in-1 c = simp c.in-1.is (simp c.saturating_sub.ensures at c.with_part.ensures)

pub returns-in-2 : goal.returns-in-2
unfolding gate_with fetched one_bit_program
returns-in-2 c = simp c.in-2.is c.with_part-in-2.ensures

pub returns-in-3 : goal.returns-in-3
unfolding gate_with fetched one_bit_program
returns-in-3 c = simp c.in-3.is (simp c.saturating_sub-in-3.ensures at c.with_part-in-3.ensures)

pub returns-in-4 : goal.returns-in-4
unfolding gate_with fetched one_bit_program
returns-in-4 c = simp c.in-4.is c.with_part-in-4.ensures

pub returns-in-5 : goal.returns-in-5
unfolding gate_with fetched one_bit_program
returns-in-5 c = simp c.in-5.is c.on_slots.ensures

pub returns-in-6 : goal.returns-in-6
unfolding gate_with fetched one_bit_program
returns-in-6 c = simp c.in-6.is c.with_constant-in-6.ensures

pub returns-in-7 : goal.returns-in-7
unfolding gate_with fetched one_bit_program
returns-in-7 c = simp c.in-7.is c.on_slots-in-7.ensures

pub returns-in-8 : goal.returns-in-8
unfolding gate_with fetched one_bit_program
returns-in-8 c = simp c.in-8.is c.on_slots-in-8.ensures

pub returns-in-9 : goal.returns-in-9
unfolding gate_with fetched one_bit_program
returns-in-9 c = simp c.in-9.is (simp c.power-in-9.ensures at c.with_constant-in-9.ensures)

pub returns-in-10 : goal.returns-in-10
unfolding gate_with fetched one_bit_program
returns-in-10 c = simp c.in-10.is c.on_slots-in-10.ensures

pub returns-in-11 : goal.returns-in-11
unfolding gate_with fetched one_bit_program
returns-in-11 c = simp c.in-11.is c.on_slots-in-11.ensures

pub returns-in-12 : goal.returns-in-12
unfolding gate_with fetched one_bit_program
returns-in-12 c =
    simp c.in-12.is
    (simp (c.negative.ensures, c.power-in-12.ensures) at c.with_constant-in-12.ensures)

pub returns-in_default : goal.returns-in_default
unfolding one_bit_program
returns-in_default c = c.past.ensures ∙ sym (beyond (one_bit_program 32 _ _ _) _ (none_below 13 _ c.in_default.in_default-own.rest))
