use Rattle.std.proofs.Common.{arith, sym, ap, ◌∙◌}
use Rattle.tables.specs.Table.{rows}
use Rattle.programs.specs.Kinds.{kind_number}
use Rattle.programs.proofs.CurveGates.{rows_count}
use Rattle.program_fetch.proofs.Cases.{below_slack, in_single, in_whole, in_curve, in_none}
use Rattle.program_fetch.proofs.pieces.piece_at.Goals as goal

pub returns-in_default : goal.returns-in_default
returns-in_default c = c.last_part.ensures ∙ in_none (rows c.args.table.now) c.args.o c.args.i c.in_default.ensures.1

pub returns-in-Slack : goal.returns-in-Slack
returns-in-Slack c =
    let a = c.args in
    c.last_part-in-Slack.ensures
    ∙ in_whole (rows a.table.now) a.o a.i 6 (sym c.in-Ok.ensures ∙ ap kind_number c.in-Slack.is) (omega arith)

pub returns-in-OneBit : goal.returns-in-OneBit
returns-in-OneBit c =
    let a = c.args in
    c.last_part-in-OneBit.ensures
    ∙ in_whole (rows a.table.now) a.o a.i 7 (sym c.in-Ok.ensures ∙ ap kind_number c.in-OneBit.is) (omega arith)

pub returns-in-Exact : goal.returns-in-Exact
returns-in-Exact c =
    let a = c.args in
    c.last_part-in-Exact.ensures
    ∙ in_whole (rows a.table.now) a.o a.i 8 (sym c.in-Ok.ensures ∙ ap kind_number c.in-Exact.is) (omega arith)

pub returns-in-Relu : goal.returns-in-Relu
returns-in-Relu c =
    let a = c.args in
    c.last_part-in-Relu.ensures
    ∙ in_whole (rows a.table.now) a.o a.i 9 (sym c.in-Ok.ensures ∙ ap kind_number c.in-Relu.is) (omega arith)

pub returns-in-Curve : goal.returns-in-Curve
returns-in-Curve c =
    let a = c.args in
    let t = a.table.now in
    c.curve_piece.ensures ∙ in_curve (rows t) a.o a.i (sym c.in-Ok.ensures ∙ ap kind_number c.in-Curve.is) _ (rows_count t)

pub returns-in_default-kind : goal.returns-in_default-kind
returns-in_default-kind c =
    let a = c.args in
    let d = c.in_default-kind in
    let m = below_slack _ d.not-Slack d.not-OneBit d.not-Exact d.not-Relu d.not-Curve in
    c.last_part-in_default-kind.ensures ∙ in_single (rows a.table.now) a.o a.i (omega (arith, c.in-Ok.ensures, m))
