use Rattle.std.proofs.Common.{◌∙◌, arith}
use Rattle.program_fetch.proofs.Indices.{no_first_term, some_first_term}
use Rattle.program_fetch.proofs.curve.first_term.Goals as goal

pub returns-then-table-lt2 : goal.returns-then-table-lt2
returns-then-table-lt2 c = no_first_term c.args.table.now 32 c.if-table-lt2.true

pub returns : goal.returns
returns c = let s = c in c.times.ensures ∙ some_first_term s.args.table.now 32 (omega arith)
