use Rattle.program_seek.proofs.Products.{adder_first, adder_later, rounds_32}
use Rattle.program_seek.proofs.adder_place.Goals as goal

pub returns-then-n-eq0 : goal.returns-then-n-eq0
returns-then-n-eq0 c = λ x gs. rw c.after.ensures (adder_first 32 gs x _ _ _ _ c.if-n-eq0.true)

pub returns : goal.returns
returns c = λ x gs. rw c.after-2.ensures (adder_later 32 gs x _ _ _ _ c.if-n-eq0.false (rw rounds_32 c.requires.0))
