use mathlib.Core.Path.{◌∙◌}
use native.Mathlib.Omega.{arith}
use Rattle.programs.specs.Programs.{y_slot}
use Rattle.programs.proofs.AdderParts.{exact_rest}
use Rattle.program_seek.proofs.Products.{exact_adder, exact_low, exact_high, exact_past}
use Rattle.program_seek.proofs.exact_place.Goals as goal

pub returns-then-n : goal.returns-then-n
returns-then-n c = λ k x d. c.adder_place.ensures y_slot (exact_rest 32 k d) ∙ rw (c.past-adder.ensures, c.after.ensures) (exact_adder k x d _ _ _ _)

pub returns-in-0 : goal.returns-in-0
returns-in-0 c = λ k x d. rw (c.after-in-0.ensures, c.past-low.ensures, c.after-2.ensures, c.past-adder.ensures, c.after.ensures) (exact_low k x d _ _ _ _ (omega arith))

pub returns-in-1 : goal.returns-in-1
returns-in-1 c =
    λ k x d. rw (c.after-in-1-2.ensures, c.past.ensures, c.after-in-1.ensures, c.past-low.ensures, c.after-2.ensures, c.past-adder.ensures, c.after.ensures)
    (exact_high k x d _ _ _ _ (omega arith))

pub returns-in_default : goal.returns-in_default
returns-in_default c = λ k x d. exact_past k x d _ _ _ _ (omega arith)
