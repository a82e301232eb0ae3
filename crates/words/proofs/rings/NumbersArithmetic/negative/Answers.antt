use Rattle.std.proofs.Common.{zero-add}
use Rattle.words.specs.Words.{neg}
use Rattle.words.proofs.rings.NumbersArithmetic.negative.Goals as goal

pub returns : goal.returns
unfolding neg
returns c = simp zero-add
