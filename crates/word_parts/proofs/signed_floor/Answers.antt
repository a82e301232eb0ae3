use mathlib.Core.Path.{◌∙◌}
use native.Mathlib.Omega.{arith}
use Rattle.word_parts.proofs.Floors.{floor_positive, floor_negative}
use Rattle.word_parts.proofs.signed_floor.Goals as goal

pub returns-then-x-lt2147483648 : goal.returns-then-x-lt2147483648
returns-then-x-lt2147483648 c = c.shift_down.ensures ∙ floor_positive 32 _ _ c.if-x-lt2147483648.true (omega arith)

pub returns-else-x-lt2147483648 : goal.returns-else-x-lt2147483648
returns-else-x-lt2147483648 c = rw c.shift_down-else-x-lt2147483648.ensures (floor_negative 32 _ _ c.if-x-lt2147483648.false (omega arith))
