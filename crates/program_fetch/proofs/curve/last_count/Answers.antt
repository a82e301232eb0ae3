use Rattle.std.proofs.Common.{refl, arith}
use Rattle.program_fetch.proofs.Indices.{no_count, last_counted}
use Rattle.program_fetch.proofs.curve.last_count.Goals as goal

pub returns-in-0 : goal.returns-in-0
returns-in-0 c = let ws = c.args.table.now in last_counted ws 0 (omega arith) (no_count ws 0 (omega arith))

pub returns-in_default : goal.returns-in_default
returns-in_default c = last_counted c.args.table.now _ refl c.row_count.ensures
