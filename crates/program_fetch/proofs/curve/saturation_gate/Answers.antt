use Rattle.std.proofs.Common.{ℕ, List, take, drop, sym, ap, ◌∙◌, arith}
use Rattle.truncations.specs.Adder.{doubled, distances, updates}
use Rattle.gates.specs.Gates.{Gate, Const}
use Rattle.gates.specs.Codes.{At, fetched, gate_with}
use Rattle.gates.proofs.Fetched.{beyond}
use Rattle.tables.specs.Table.{rows}
use Rattle.curves.specs.Curve.{last_count}
use Rattle.programs.specs.Programs.{y_slot, update_gates, rounds, adder, to_number, sign_program, saturation_head, saturation_end}
use Rattle.programs.specs.Programs.{saturation}
use Rattle.program_fetch.proofs.Fetched.{within}
use Rattle.program_fetch.proofs.curve.saturation_gate.Goals as goal

pub returns-in-0 : goal.returns-in-0
unfolding gate_with fetched saturation saturation_head
returns-in-0 c =
    simp c.in-0.is
    (c.with_constant.ensures ∙ ap (λ (n : ℕ). At (Const y_slot n)) c.last_count.ensures)

pub returns-in-1 : goal.returns-in-1
unfolding gate_with fetched saturation saturation_head
returns-in-1 c = simp c.in-1.is c.on_slots.ensures

pub returns-in-38 : goal.returns-in-38
unfolding gate_with fetched saturation saturation_head saturation_end sign_program adder rounds update_gates updates distances doubled to_number
returns-in-38 c = simp c.in-38.is c.with_constant-in-38.ensures

pub returns-in-39 : goal.returns-in-39
unfolding gate_with fetched saturation saturation_head saturation_end sign_program adder rounds update_gates updates distances doubled to_number
returns-in-39 c = simp c.in-39.is c.on_slots-in-39.ensures

pub returns-in-40 : goal.returns-in-40
unfolding gate_with fetched saturation saturation_head saturation_end sign_program adder rounds update_gates updates distances doubled to_number
returns-in-40 c = simp c.in-40.is c.on_slots-in-40.ensures

pub returns-in-2-to-37 : goal.returns-in-2-to-37
unfolding saturation saturation_head saturation_end sign_program adder rounds update_gates updates distances doubled to_number
returns-in-2-to-37 c =
    let t = c in
    let s = t.args in
    let gs : List Gate = saturation 32 (last_count (rows s.table.now)) s.x s.d in
    c.sign_gate.ensures ∙ within (take 2 gs) (sign_program 32 y_slot) (drop 38 gs) s.i (omega arith) (omega arith)

pub returns-in_default : goal.returns-in_default
unfolding saturation saturation_head saturation_end sign_program adder rounds update_gates updates distances doubled to_number
returns-in_default c =
    let s = c.args in
    c.past.ensures ∙ sym (beyond (saturation 32 (last_count (rows s.table.now)) s.x s.d) s.i (omega arith))
