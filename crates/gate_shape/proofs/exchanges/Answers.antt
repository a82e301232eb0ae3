use Rattle.std.proofs.Common.{rules, refl}
use Rattle.gates.proofs.Shapes.{spoken, quiet}
use Rattle.gate_shape.proofs.exchanges.Goals as goal

pub returns-in-Product : goal.returns-in-Product
returns-in-Product c = (λ t. spoken _ _ c.shape_of.ensures c.in-Product.is, λ x. refl)

pub returns-in_default : goal.returns-in_default
returns-in_default c = (
  λ t. search rules,
  λ x. absurd (quiet _ _ c.shape_of.ensures c.in_default.not-Product c.in_default.not-Undealt x),
)
