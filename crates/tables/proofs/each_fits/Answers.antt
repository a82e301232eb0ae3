use Rattle.std.proofs.Common.{rules}
use Rattle.tables.specs.Table.{row_fits}
use Rattle.tables.proofs.each_fits.Goals as goal

pub returns : goal.returns
unfolding row_fits
returns c = search rules
