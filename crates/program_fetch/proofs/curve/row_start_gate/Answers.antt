use Rattle.std.proofs.Common.{ℕ, sym, ap, ◌∙◌, arith}
use Rattle.words.specs.Words.{neg}
use Rattle.gates.specs.Gates.{Plus}
use Rattle.gates.specs.Codes.{At, fetched, gate_with}
use Rattle.gates.proofs.Fetched.{beyond}
use Rattle.tables.specs.Table.{rows}
use Rattle.programs.specs.Programs.{y_slot}
use Rattle.program_fetch.specs.Pieces.{row_start}
use Rattle.program_fetch.proofs.curve.row_start_gate.Goals as goal

pub returns-in-0 : goal.returns-in-0
unfolding gate_with fetched row_start
returns-in-0 c =
    let s = c in
    simp c.in-0.is
    (c.with_constant.ensures
    ∙ ap (λ (n : ℕ). At (Plus y_slot s.args.x n)) (c.negative.ensures ∙ ap (neg 32) c.row_count.ensures))

pub returns-in_default : goal.returns-in_default
unfolding row_start
returns-in_default c =
    let s = c in
    let gs = row_start 32 (rows s.args.table.now) s.args.row s.args.x in
    c.past.ensures ∙ sym (beyond gs s.args.i (omega (arith, c.in_default.in_default-own.rest.1)))
