use Rattle.words.specs.Words.{bit, shr}
use Rattle.word_parts.proofs.bit_of.Goals as goal

pub returns : goal.returns
unfolding bit shr
returns c = rw c.shift_down.ensures
