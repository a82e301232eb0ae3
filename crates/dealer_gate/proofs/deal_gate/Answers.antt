use mathlib.Core.Path.{sym, ◌∙◌}
use Rattle.walks.proofs.Dealers.{holds_local, holds_deal, holds_product, holds_undealt}
use Rattle.dealer_gate.proofs.deal_gate.Goals as goal

pub returns-in-Local : goal.returns-in-Local
returns-in-Local c =
    holds_local _ _ _ _ (sym c.in-Local.is ∙ c.shape_of-shape.ensures) c.step_mask.ensures c.step_mask-in-Local.ensures

pub returns-in-Undealt : goal.returns-in-Undealt
returns-in-Undealt c =
    holds_undealt _ _ _ _ _ (sym c.in-Undealt.is ∙ c.shape_of-shape.ensures) c.word_at.ensures c.word_at-in-Undealt.ensures
    c.put.ensures c.put-in-Undealt.ensures

pub returns-in-Dealing-shape : goal.returns-in-Dealing-shape
returns-in-Dealing-shape c =
    holds_deal _ _ _ _ _ (sym c.in-Dealing-shape.is ∙ c.shape_of-shape.ensures) c.word_at-x.ensures c.deal_word-word.ensures
    c.put-in-Dealing-shape.ensures c.put-in-Dealing-shape-2.ensures c.put_word.ensures

pub returns-in-Product : goal.returns-in-Product
returns-in-Product c =
    holds_product _ _ _ _ _ (sym c.in-Product.is ∙ c.shape_of-shape.ensures) c.word_at-x.ensures c.deal_word-word.ensures
    c.word_after.ensures c.word_at-in-Product.ensures c.put-in-Product.ensures c.put-in-Product-2.ensures c.put_word.ensures
