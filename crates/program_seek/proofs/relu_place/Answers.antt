use mathlib.Core.Path.{◌∙◌}
use Rattle.programs.specs.Programs.{s_slot, relu_program}
use Rattle.program_seek.proofs.Products.{relu_last}
use Rattle.program_seek.proofs.relu_place.Goals as goal

pub returns-then-n : goal.returns-then-n
unfolding relu_program
returns-then-n c = λ x d. c.sign_place.ensures x _

pub returns : goal.returns
returns c = λ x d. c.at_once.ensures.product d x s_slot ∙ rw (c.past.ensures, c.after.ensures) (relu_last x d _ _ _ _ c.if-n.false)
