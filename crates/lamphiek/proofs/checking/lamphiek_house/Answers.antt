use mathlib.Core.Path.{refl}
use Rattle.tables.specs.Table.{house}
use Rattle.lamphiek.proofs.checking.lamphiek_house.Goals as goal

pub returns : goal.returns
unfolding house
returns c = refl
