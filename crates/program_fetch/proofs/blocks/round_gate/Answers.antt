use Rattle.std.proofs.Common.{sym, refl, ◌∙◌, arith}
use Rattle.truncations.specs.Adder.{doubled, distances, updates}
use Rattle.gates.specs.Codes.{fetched, gate_with}
use Rattle.gates.proofs.Fetched.{beyond}
use Rattle.programs.specs.Programs.{rounds, update_gates}
use Rattle.program_fetch.proofs.Powers.{shifted}
use Rattle.program_fetch.proofs.Rounds.{doubled_round}
use Rattle.program_fetch.proofs.blocks.round_gate.Goals as goal

pub returns-then-i : goal.returns-then-i
unfolding rounds updates update_gates distances doubled
returns-then-i c = c.past.ensures ∙ sym (beyond (rounds (updates (distances 32))) c.args.i c.if-i.true)

pub returns-in-0 : goal.returns-in-0
unfolding rounds updates update_gates distances doubled gate_with fetched
returns-in-0 c =
    let s = c in
    c.with_constant.ensures
    ∙ doubled_round 32 s.args.i 0 _ s.if-i.false c.in-0.is (shifted 32 _ (omega arith))

pub returns-in-1 : goal.returns-in-1
unfolding rounds updates update_gates distances doubled gate_with fetched
returns-in-1 c =
    let s = c in
    c.on_slots.ensures ∙ doubled_round 32 s.args.i 1 _ s.if-i.false c.in-1.is refl

pub returns-in-2 : goal.returns-in-2
unfolding rounds updates update_gates distances doubled gate_with fetched
returns-in-2 c =
    let s = c in
    c.on_slots-in-2.ensures ∙ doubled_round 32 s.args.i 2 _ s.if-i.false c.in-2.is refl

pub returns-in-3 : goal.returns-in-3
unfolding rounds updates update_gates distances doubled gate_with fetched
returns-in-3 c =
    let s = c in
    c.with_constant-in-3.ensures
    ∙ doubled_round 32 s.args.i 3 _ s.if-i.false c.in-3.is (shifted 32 _ (omega arith))

pub returns-in_default : goal.returns-in_default
unfolding rounds updates update_gates distances doubled gate_with fetched
returns-in_default c =
    let s = c in
    c.on_slots-in_default.ensures ∙ doubled_round 32 s.args.i 4 _ s.if-i.false (omega arith) refl
