use mathlib.Core.Path.{◌∙◌}
use Rattle.programs.specs.Programs.{t_slot, y_slot, res_slot, saturation_end}
use Rattle.program_seek.proofs.Products.{saturation_sign, saturation_last}
use Rattle.program_seek.proofs.saturation_place.Goals as goal

pub returns-then-n : goal.returns-then-n
returns-then-n c = λ r x d. c.sign_place.ensures y_slot (saturation_end d) ∙ rw c.past-sign.ensures (saturation_sign r x d _ _ _ _)

pub returns : goal.returns
returns c = λ r x d. c.at_once.ensures.product res_slot t_slot res_slot ∙ rw (c.past.ensures, c.after.ensures, c.past-sign.ensures) (saturation_last r x d _ _ _ _ c.if-n.false)
