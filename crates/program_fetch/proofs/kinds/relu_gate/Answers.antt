use Rattle.std.proofs.Common.{drop, sym, ◌∙◌, arith}
use Rattle.truncations.specs.Adder.{doubled, distances, updates}
use Rattle.gates.specs.Codes.{fetched, gate_with}
use Rattle.gates.proofs.Fetched.{beyond}
use Rattle.programs.specs.Programs.{update_gates, rounds, adder, to_number, sign_program, relu_program}
use Rattle.program_fetch.proofs.Fetched.{inside}
use Rattle.program_fetch.proofs.kinds.relu_gate.Goals as goal

pub returns-then-i-lt-RELU_ONE : goal.returns-then-i-lt-RELU_ONE
unfolding relu_program sign_program adder rounds update_gates updates distances doubled to_number
returns-then-i-lt-RELU_ONE c =
    let s = c.args in
    c.sign_gate.ensures ∙ inside (sign_program 32 s.x) (drop 36 (relu_program 32 s.x s.d)) s.i c.if-i-lt-RELU_ONE.true

pub returns-in-36 : goal.returns-in-36
unfolding gate_with fetched relu_program sign_program adder rounds update_gates updates distances doubled to_number
returns-in-36 c = simp c.in-36.is c.with_constant.ensures

pub returns-in-37 : goal.returns-in-37
unfolding gate_with fetched relu_program sign_program adder rounds update_gates updates distances doubled to_number
returns-in-37 c = simp c.in-37.is c.on_slots.ensures

pub returns-in-38 : goal.returns-in-38
unfolding gate_with fetched relu_program sign_program adder rounds update_gates updates distances doubled to_number
returns-in-38 c = simp c.in-38.is c.on_slots-in-38.ensures

pub returns-in_default : goal.returns-in_default
unfolding relu_program sign_program adder rounds update_gates updates distances doubled to_number
returns-in_default c =
    let s = c.args in
    c.past.ensures ∙ sym (beyond (relu_program 32 s.x s.d) s.i (omega arith))
