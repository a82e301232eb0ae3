use mathlib.Core.Path.{◌∙◌}
use mathlib.Core.List.{◌++◌}
use native.Mathlib.Omega.{arith}
use Rattle.programs.proofs.AdderParts.{sign_rest}
use Rattle.program_seek.proofs.Products.{sign_adder, sign_number}
use Rattle.program_seek.proofs.sign_place.Goals as goal

pub returns-then-n : goal.returns-then-n
returns-then-n c = λ x gs. c.adder_place.ensures x (sign_rest 32 ++ gs) ∙ sign_adder gs x _ _ _ _

pub returns : goal.returns
returns c = λ x gs. rw (c.after-2.ensures, c.past.ensures, c.after.ensures) (sign_number gs x _ _ _ _ (omega arith))
