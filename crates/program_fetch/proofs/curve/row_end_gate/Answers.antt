use Rattle.std.proofs.Common.{ℕ, sym, ap, ◌∙◌, arith}
use Rattle.gates.specs.Gates.{Scale}
use Rattle.gates.specs.Codes.{At, fetched, gate_with}
use Rattle.gates.proofs.Fetched.{beyond}
use Rattle.tables.specs.Table.{rows}
use Rattle.programs.specs.Programs.{res_slot}
use Rattle.program_fetch.specs.Pieces.{row_end}
use Rattle.program_fetch.proofs.curve.row_end_gate.Goals as goal

pub returns-in-0 : goal.returns-in-0
unfolding gate_with fetched row_end
returns-in-0 c =
    simp c.in-0.is
    (c.with_constant.ensures ∙ ap (λ (n : ℕ). At (Scale res_slot res_slot n)) c.slope_change.ensures)

pub returns-in-1 : goal.returns-in-1
unfolding gate_with fetched row_end
returns-in-1 c = simp c.in-1.is c.on_slots.ensures

pub returns-in_default : goal.returns-in_default
unfolding row_end
returns-in_default c =
    let s = c in
    let r = c.in_default.in_default-own.rest in
    c.past.ensures
    ∙ sym (beyond (row_end 32 (rows s.args.table.now) s.args.row) s.args.i (omega (arith, r.0.1, r.1)))
