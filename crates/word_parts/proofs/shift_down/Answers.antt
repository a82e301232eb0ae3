use Rattle.std.proofs.Common.{◌≡◌, ◌≤◌, rules}
use Rattle.words.specs.Words.{shr}
use Rattle.word_parts.proofs.Floors.{shr_past}
use Rattle.word_parts.proofs.shift_down.Goals as goal

pub returns : goal.returns
unfolding shr
returns c =
    let past : 32 ≤ c.args.k → shr c.args.k c.args.x ≡ 0 = λ h. shr_past 32 c.args.k c.args.x h c.ranges.x.fits in
    search rules
