use Rattle.std.proofs.Common.{◌≤◌, List, take, drop, sym, ◌∙◌, arith}
use Rattle.truncations.specs.Adder.{doubled, distances, updates}
use Rattle.gates.specs.Gates.{Gate}
use Rattle.gates.specs.Codes.{fetched, gate_with}
use Rattle.gates.proofs.Fetched.{beyond}
use Rattle.programs.specs.Programs.{y_slot, update_gates, rounds, adder, to_number, exact_program}
use Rattle.program_fetch.proofs.Fetched.{within}
use Rattle.program_fetch.proofs.kinds.exact_gate.Goals as goal

pub returns-in-0 : goal.returns-in-0
unfolding gate_with fetched exact_program adder rounds update_gates updates distances doubled to_number
returns-in-0 c = simp c.in-0.is (simp c.power.ensures at c.with_constant.ensures)

pub returns-in-1 : goal.returns-in-1
unfolding gate_with fetched exact_program adder rounds update_gates updates distances doubled to_number
returns-in-1 c = simp c.in-1.is c.with_part.ensures

pub returns-in-2 : goal.returns-in-2
unfolding gate_with fetched exact_program adder rounds update_gates updates distances doubled to_number
returns-in-2 c = simp c.in-2.is c.with_part-in-2.ensures

pub returns-in-3 : goal.returns-in-3
unfolding gate_with fetched exact_program adder rounds update_gates updates distances doubled to_number
returns-in-3 c = simp c.in-3.is c.on_slots.ensures

pub returns-in-32 : goal.returns-in-32
unfolding gate_with fetched exact_program adder rounds update_gates updates distances doubled to_number
returns-in-32 c = simp c.in-32.is (simp c.saturating_sub.ensures at c.with_constant-in-32.ensures)

pub returns-in-39 : goal.returns-in-39
unfolding gate_with fetched exact_program adder rounds update_gates updates distances doubled to_number
returns-in-39 c = simp c.in-39.is c.on_slots-in-39.ensures

pub returns-in-40 : goal.returns-in-40
unfolding gate_with fetched exact_program adder rounds update_gates updates distances doubled to_number
returns-in-40 c = simp c.in-40.is c.with_constant-in-40.ensures

pub returns-in-47 : goal.returns-in-47
unfolding gate_with fetched exact_program adder rounds update_gates updates distances doubled to_number
returns-in-47 c = simp c.in-47.is (simp c.full_power.ensures at c.with_constant-in-47.ensures)

pub returns-in-48 : goal.returns-in-48
unfolding gate_with fetched exact_program adder rounds update_gates updates distances doubled to_number
returns-in-48 c = simp c.in-48.is c.on_slots-in-48.ensures

pub returns-in-49 : goal.returns-in-49
unfolding gate_with fetched exact_program adder rounds update_gates updates distances doubled to_number
returns-in-49 c =
    simp c.in-49.is
    (simp (c.negative.ensures, c.power-in-49.ensures) at c.with_constant-in-49.ensures)

pub returns-in-4-to-31 : goal.returns-in-4-to-31
unfolding exact_program adder rounds update_gates updates distances doubled to_number
returns-in-4-to-31 c =
    let t = c in
    let s = t.args in
    let gs : List Gate = exact_program 32 s.k s.x s.d in
    let l : 4 ≤ s.i = omega arith in
    c.adder_gate.ensures ∙ within (take 4 gs) (adder 32 y_slot) (drop 32 gs) s.i l (omega arith)

pub returns-in-33-to-38 : goal.returns-in-33-to-38
unfolding exact_program adder rounds update_gates updates distances doubled to_number
returns-in-33-to-38 c =
    let t = c in
    let s = t.args in
    let gs : List Gate = exact_program 32 s.k s.x s.d in
    let l : 33 ≤ s.i = omega arith in
    c.number_gate.ensures ∙ within (take 33 gs) (to_number 32) (drop 39 gs) s.i l (omega arith)

pub returns-in-41-to-46 : goal.returns-in-41-to-46
unfolding exact_program adder rounds update_gates updates distances doubled to_number
returns-in-41-to-46 c =
    let t = c in
    let s = t.args in
    let gs : List Gate = exact_program 32 s.k s.x s.d in
    let l : 41 ≤ s.i = omega arith in
    c.number_gate-in-41-to-46.ensures ∙ within (take 41 gs) (to_number 32) (drop 47 gs) s.i l (omega arith)

pub returns-in_default : goal.returns-in_default
unfolding exact_program adder rounds update_gates updates distances doubled to_number
returns-in_default c =
    let t = c in
    let s = t.args in
    let l : 50 ≤ s.i = omega arith in
    c.past.ensures ∙ sym (beyond (exact_program 32 s.k s.x s.d) s.i l)
