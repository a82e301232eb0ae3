use Rattle.std.proofs.Common.{◌∙◌, to_z-of_z, w64}
use Rattle.tables.specs.Table.{rows, slopes}
use Rattle.program_fetch.proofs.Indices.{some_slope_before}
use Rattle.program_fetch.proofs.curve.slope_before.Goals as goal

pub returns-in-0 : goal.returns-in-0
returns-in-0 c = simp c.in-0.is

pub returns-in_default : goal.returns-in_default
returns-in_default c =
    let s = c in
    to_z-of_z {w = w64} (record { sfits = c.slope_after.type_inv }) ∙ c.slope_after.ensures
    ∙ some_slope_before (slopes (rows s.args.table.now)) _ c.in_default.in_default-own.rest.1
