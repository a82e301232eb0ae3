use Rattle.program_fetch.proofs.Indices.{count_at, no_count}
use Rattle.program_fetch.proofs.curve.row_count.Goals as goal

pub returns-then-row-table : goal.returns-then-row-table
returns-then-row-table c = let s = c in count_at s.args.table.now s.args.row c.if-row-table.true

pub returns-else-row-table : goal.returns-else-row-table
returns-else-row-table c = let s = c in no_count s.args.table.now s.args.row c.if-row-table.false
