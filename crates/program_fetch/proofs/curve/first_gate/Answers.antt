use Rattle.std.proofs.Common.{ℕ, sym, ap, ◌∙◌, arith}
use Rattle.gates.specs.Gates.{Const}
use Rattle.gates.specs.Codes.{At, fetched, gate_with}
use Rattle.gates.proofs.Fetched.{beyond}
use Rattle.tables.specs.Table.{rows}
use Rattle.programs.specs.Programs.{acc_slot}
use Rattle.program_fetch.specs.Pieces.{first_gates}
use Rattle.program_fetch.proofs.curve.first_gate.Goals as goal

pub returns-in-0 : goal.returns-in-0
unfolding gate_with fetched first_gates
returns-in-0 c =
    simp c.in-0.is
    (c.with_constant.ensures ∙ ap (λ (n : ℕ). At (Const acc_slot n)) c.first_term.ensures)

pub returns-in_default : goal.returns-in_default
unfolding first_gates
returns-in_default c =
    let s = c in
    c.past.ensures ∙ sym (beyond (first_gates 32 (rows s.args.table.now)) s.args.i (omega (arith, c.in_default.in_default-own.rest.1)))
