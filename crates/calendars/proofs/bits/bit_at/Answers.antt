use mathlib.Core.Path.{refl}
use Rattle.words.specs.Words.{bit}
use Rattle.calendars.proofs.bits.bit_at.Goals as goal

pub returns : goal.returns
unfolding bit
returns c = refl
