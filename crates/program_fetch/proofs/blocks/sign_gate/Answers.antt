use Rattle.std.proofs.Common.{◌-◌, take, drop, ◌∙◌, arith}
use Rattle.truncations.specs.Adder.{doubled, distances, updates}
use Rattle.gates.specs.Codes.{fetched, gate_with}
use Rattle.programs.specs.Programs.{update_gates, rounds, adder, to_number, sign_program}
use Rattle.program_fetch.proofs.Fetched.{inside, behind}
use Rattle.program_fetch.proofs.blocks.sign_gate.Goals as goal

pub returns-then-i-lt-SIGN_BIT : goal.returns-then-i-lt-SIGN_BIT
unfolding sign_program adder rounds update_gates updates distances doubled to_number
returns-then-i-lt-SIGN_BIT c =
    let s = c.args in
    c.adder_gate.ensures ∙ inside (adder 32 s.x) (drop 28 (sign_program 32 s.x)) s.i c.if-i-lt-SIGN_BIT.true

pub returns-in-28 : goal.returns-in-28
unfolding gate_with fetched sign_program adder rounds update_gates updates distances doubled to_number
returns-in-28 c = simp c.in-28.is c.with_constant.ensures

pub returns-in-29 : goal.returns-in-29
unfolding gate_with fetched sign_program adder rounds update_gates updates distances doubled to_number
returns-in-29 c = simp c.in-29.is c.on_slots.ensures

pub returns-in_default : goal.returns-in_default
unfolding sign_program adder rounds update_gates updates distances doubled to_number
returns-in_default c =
    let s = c.args in
    c.number_gate.ensures ∙ behind (take 30 (sign_program 32 s.x)) (to_number 32) s.i (s.i - 30) (omega arith)
