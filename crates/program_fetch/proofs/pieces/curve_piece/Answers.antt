use Rattle.std.proofs.Common.{◌∙◌}
use Rattle.program_fetch.proofs.Cases.{curve_first, curve_row, curve_ends}
use Rattle.program_fetch.proofs.pieces.curve_piece.Goals as goal

pub returns-then-i-eq0 : goal.returns-then-i-eq0
returns-then-i-eq0 c =
    let a = c.args in
    c.part.ensures ∙ curve_first a.count a.o a.i c.if-i-eq0.true

pub returns-then-row-count : goal.returns-then-row-count
returns-then-row-count c =
    let a = c.args in
    c.row_piece.ensures ∙ curve_row a.count a.o a.i c.if-i-eq0.false c.if-row-count.true

pub returns : goal.returns
returns c =
    let a = c.args in
    c.end_piece.ensures ∙ curve_ends a.count a.o a.i c.if-i-eq0.false c.if-row-count.false
