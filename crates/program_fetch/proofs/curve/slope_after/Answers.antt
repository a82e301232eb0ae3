use Rattle.std.proofs.Common.{◌∙◌, arith, to_z-of_z, w64}
use Rattle.program_fetch.proofs.Indices.{no_slope_after, some_slope_after}
use Rattle.program_fetch.proofs.curve.slope_after.Goals as goal

pub returns-then-count-row : goal.returns-then-count-row
returns-then-count-row c = let s = c in no_slope_after s.args.table.now s.args.row (omega arith)

pub returns-then-count-row-lt2 : goal.returns-then-count-row-lt2
returns-then-count-row-lt2 c = let s = c in no_slope_after s.args.table.now s.args.row (omega arith)

pub returns : goal.returns
returns c =
    let s = c in
    to_z-of_z {w = w64} (record { sfits = c.slope.type_inv }) ∙ c.slope.ensures ∙ some_slope_after s.args.table.now s.args.row (omega arith)
