use Rattle.std.proofs.Common.{refl}
use Rattle.words.specs.Words.{sub}
use Rattle.words.proofs.rings.NumbersArithmetic.minus.Goals as goal

pub returns : goal.returns
unfolding sub
returns c = refl
