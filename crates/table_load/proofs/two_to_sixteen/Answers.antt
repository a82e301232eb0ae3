use Rattle.std.proofs.Common.{rules}
use Rattle.table_load.specs.Loading.{two_to_sixteen}
use Rattle.table_load.proofs.two_to_sixteen.Goals as goal

pub returns : goal.returns
unfolding two_to_sixteen
returns c = search rules
