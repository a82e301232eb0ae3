use Rattle.std.proofs.Common.{◌≡◌, sym, ◌∙◌, arith}
use Rattle.gates.specs.Codes.{fetched, gate_with}
use Rattle.programs.specs.Orders.{program, kinds}
use Rattle.program_fetch.proofs.OneGate.{one_past}
use Rattle.program_fetch.proofs.kinds.one_gate.Goals as goal

pub returns-then-i-gt0 : goal.returns-then-i-gt0
returns-then-i-gt0 c =
    let s = c in c.past.ensures ∙ sym (one_past 32 s.args.o s.requires s.args.i c.if-i-gt0.true)

pub returns-in-0 : goal.returns-in-0
unfolding program kinds gate_with fetched
returns-in-0 c = let z : c.args.i ≡ 0 = omega arith in simp (z, c.in-0.is) c.on_slots.ensures

pub returns-in-1 : goal.returns-in-1
unfolding program kinds gate_with fetched
returns-in-1 c = let z : c.args.i ≡ 0 = omega arith in simp (z, c.in-1.is) c.on_slots-in-1.ensures

pub returns-in-2 : goal.returns-in-2
unfolding program kinds gate_with fetched
returns-in-2 c = let z : c.args.i ≡ 0 = omega arith in simp (z, c.in-2.is) c.with_constant.ensures

pub returns-in-3 : goal.returns-in-3
unfolding program kinds gate_with fetched
returns-in-3 c = let z : c.args.i ≡ 0 = omega arith in simp (z, c.in-3.is) c.with_constant-in-3.ensures

pub returns-in-4 : goal.returns-in-4
unfolding program kinds gate_with fetched
returns-in-4 c = let z : c.args.i ≡ 0 = omega arith in simp (z, c.in-4.is) c.on_slots-in-4.ensures

pub returns-in_default : goal.returns-in_default
unfolding program kinds gate_with fetched
returns-in_default c =
    let s = c in
    let z : s.args.i ≡ 0 = omega arith in
    let five : s.args.o.kind ≡ 5 = omega arith in
    simp (z, five) c.on_slots-in_default.ensures
