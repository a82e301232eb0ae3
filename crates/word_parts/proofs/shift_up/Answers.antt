use Rattle.std.proofs.Common.{rules}
use Rattle.words.specs.Words.{shl}
use Rattle.word_parts.proofs.Floors.{shl_past}
use Rattle.word_parts.proofs.shift_up.Goals as goal

pub returns : goal.returns
unfolding shl
returns c = let past = shl_past 32 c.args.n c.args.x in search rules
