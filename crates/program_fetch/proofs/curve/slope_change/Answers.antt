use Rattle.tables.specs.Table.{rows}
use Rattle.program_fetch.proofs.Indices.{changed}
use Rattle.program_fetch.proofs.curve.slope_change.Goals as goal

pub returns : goal.returns
returns c =
    let a = c.slope_after in
    let b = c.slope_before in
    changed 32 (rows c.args.table.now) c.args.row (record { sfits = a.type_inv }) (record { sfits = b.type_inv }) a.ensures
    b.ensures c.word_of-after.ensures c.word_of-before.ensures c.minus.ensures
