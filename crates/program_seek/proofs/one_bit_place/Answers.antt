use Rattle.program_seek.proofs.Products.{one_bit_place, one_bit_past}
use Rattle.program_seek.proofs.one_bit_place.Goals as goal

pub returns-then-n-eq0 : goal.returns-then-n-eq0
returns-then-n-eq0 c = λ k x d. rw c.after.ensures (one_bit_place 32 k x d _ _ _ _ c.if-n-eq0.true)

pub returns-else-n-eq0 : goal.returns-else-n-eq0
returns-else-n-eq0 c = λ k x d. one_bit_past 32 k x d _ _ _ _ c.if-n-eq0.false
