use mathlib.Core.Path.{◌∙◌}
use Rattle.gates.specs.Speech.{shape}
use Rattle.gates.specs.Meaning.{meaning}
use Rattle.programs.specs.Seek.{sought, sought_at}
use Rattle.program_seek.proofs.Places.{refresh_next}
use Rattle.program_seek.proofs.refreshed_place.Goals as goal

pub returns-then-n-eq0 : goal.returns-then-n-eq0
unfolding sought sought_at meaning shape
returns-then-n-eq0 c = simp c.if-n-eq0.true

pub returns : goal.returns
returns c = c.one_bit_place.ensures 12 22 22 ∙ rw c.after.ensures (refresh_next 32 _ _ _ _ _ c.if-n-eq0.false)
