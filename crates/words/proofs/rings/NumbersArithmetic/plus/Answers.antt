use Rattle.std.proofs.Common.{refl}
use Rattle.words.specs.Words.{add}
use Rattle.words.proofs.rings.NumbersArithmetic.plus.Goals as goal

pub returns : goal.returns
unfolding add
returns c = refl
