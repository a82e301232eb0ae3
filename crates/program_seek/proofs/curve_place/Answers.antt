use mathlib.Core.Path.{◌∙◌}
use Rattle.tables.specs.Table.{rows}
use Rattle.curves.specs.Curve.{last_count}
use Rattle.programs.specs.Sizes.{row_gates, row_deals, row_words_a, row_exchanges}
use Rattle.programs.proofs.Sizes.{row_32}
use Rattle.program_seek.proofs.Places.{curve_row_place, rest_place}
use Rattle.program_seek.proofs.curve_place.Goals as goal

pub returns-then-row-count : goal.returns-then-row-count
returns-then-row-count c =
    λ x d.
    let s = c in
    (rw (c.past.ensures, c.behind_rows.ensures) at (c.relu_place.ensures 21 23)) ∙ rw (row_32, row_gates, row_exchanges, row_words_a, row_deals) at
    (curve_row_place 32 x d s.args.table.now s.args.mode s.args.n (rw (row_32, row_exchanges) c.if-row-count.true))

pub returns : goal.returns
returns c =
    λ x d.
    let s = c in
    (rw c.behind_rows-2.ensures at (c.end_place.ensures (last_count (rows s.args.table.now)) x d))
    ∙ rw (row_32, row_gates, row_exchanges, row_words_a, row_deals) at
    (rest_place 32 x d s.args.table.now s.args.mode s.args.n (rw (row_32, row_exchanges) c.if-row-count.false))
