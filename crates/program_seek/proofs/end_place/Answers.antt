use mathlib.Core.Path.{◌∙◌}
use Rattle.programs.specs.Programs.{acc_slot, saturation}
use Rattle.program_seek.proofs.Products.{in_exact, after_exact, in_refreshed, after_refreshed}
use Rattle.program_seek.proofs.end_place.Goals as goal

pub returns-then-n : goal.returns-then-n
returns-then-n c =
    λ r x d. c.exact_place.ensures 12 acc_slot acc_slot
    ∙ in_exact (saturation 32 r x d) _ _ _ _ _ c.if-mode-eq0.true c.if-n.true

pub returns-then-mode-eq0 : goal.returns-then-mode-eq0
returns-then-mode-eq0 c =
    λ r x d. c.saturation_place.ensures r x d
    ∙ rw c.after.ensures (after_exact (saturation 32 r x d) _ _ _ _ _ c.if-mode-eq0.true c.if-n.false)

pub returns-then-n-2 : goal.returns-then-n-2
returns-then-n-2 c =
    λ r x d. c.refreshed_place.ensures
    ∙ in_refreshed (saturation 32 r x d) _ _ _ _ _ c.if-mode-eq0.false c.if-n-2.true

pub returns : goal.returns
returns c =
    λ r x d. c.saturation_place-2.ensures r x d
    ∙ rw c.after-2.ensures (after_refreshed (saturation 32 r x d) _ _ _ _ _ c.if-mode-eq0.false c.if-n-2.false)
