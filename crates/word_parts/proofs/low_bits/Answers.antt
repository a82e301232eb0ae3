use mathlib.Core.Path.{sym}
use native.Mathlib.Omega.{arith}
use Rattle.word_parts.proofs.Floors.{ones_positive, low_masked, low_whole}
use Rattle.word_parts.proofs.low_bits.Goals as goal

pub overflow_sub-result : goal.overflow_sub-result
overflow_sub-result c = ones_positive 32 _ c.if-j-lt32.true

pub returns-then-j-lt32 : goal.returns-then-j-lt32
returns-then-j-lt32 c = low_masked 32 _ _ c.if-j-lt32.true

pub returns-else-j-lt32 : goal.returns-else-j-lt32
returns-else-j-lt32 c = sym (low_whole 32 _ _ c.if-j-lt32.false (omega arith))
