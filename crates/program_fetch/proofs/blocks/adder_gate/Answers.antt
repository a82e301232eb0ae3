use Rattle.std.proofs.Common.{take, ◌∙◌, arith}
use Rattle.truncations.specs.Adder.{distances, updates}
use Rattle.gates.specs.Codes.{fetched, gate_with}
use Rattle.programs.specs.Programs.{rounds, adder}
use Rattle.program_fetch.proofs.Fetched.{behind}
use Rattle.program_fetch.proofs.blocks.adder_gate.Goals as goal

pub returns-in-0 : goal.returns-in-0
unfolding gate_with fetched adder
returns-in-0 c = simp c.in-0.is c.on_slots.ensures

pub returns-in-1 : goal.returns-in-1
unfolding gate_with fetched adder
returns-in-1 c = simp c.in-1.is c.with_part.ensures

pub returns-in-2 : goal.returns-in-2
unfolding gate_with fetched adder
returns-in-2 c = simp c.in-2.is c.on_slots-in-2.ensures

pub returns-in-3 : goal.returns-in-3
unfolding gate_with fetched adder
returns-in-3 c = simp c.in-3.is c.on_slots-in-3.ensures

pub returns-in-4 : goal.returns-in-4
unfolding gate_with fetched adder
returns-in-4 c = simp c.in-4.is c.with_constant.ensures

pub returns-in_default : goal.returns-in_default
unfolding adder
returns-in_default c = c.round_gate.ensures ∙ behind (take 5 (adder 32 _)) (rounds (updates (distances 32))) _ _ (omega arith)
