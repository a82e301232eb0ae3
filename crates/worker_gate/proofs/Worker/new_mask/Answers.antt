use mathlib.Core.Path.{◌∙◌}
use Rattle.walks.proofs.Workers.{mask_after, mask_next, mask_of_b}
use Rattle.worker_gate.proofs.Worker.new_mask.Goals as goal

pub returns-in-2 : goal.returns-in-2
returns-in-2 c = c.word_after.ensures ∙ mask_after _ _ _ _ _ _ c.used_by-more.ensures c.in-1.is c.in-2.is

pub returns-in_default-more : goal.returns-in_default-more
returns-in_default-more c =
    c.word_at.ensures ∙ mask_next _ _ _ _ _ _ c.used_by-more.ensures c.in-1.is c.in_default-more.in_default-more-own.rest.1

pub returns-in_default : goal.returns-in_default
returns-in_default c = c.word_at-in_default.ensures ∙ mask_of_b _ _ _ _ _ c.in_default.in_default-own.rest.1
