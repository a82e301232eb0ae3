use mathlib.Core.Path.{refl}
use Rattle.tables.specs.Table.{house}
use Rattle.tables.proofs.house.Goals as goal

pub returns : goal.returns
unfolding house
returns c = refl
