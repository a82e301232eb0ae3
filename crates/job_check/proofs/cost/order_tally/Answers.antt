use mathlib.Core.Path.{refl, ◌∙◌}
use mathlib.Core.Logic.{inl, inr}
use Rattle.jobs.specs.CostTable.{kind_cost, kind_costs}
use Rattle.jobs.proofs.Sums.{one_bit_cost, entry_of, no_entry}
use Rattle.job_check.specs.Tally.{tallied}
use Rattle.job_check.proofs.Tallies.{nothing}
use Rattle.job_check.proofs.cost.order_tally.Goals as goal

pub returns-in_default : goal.returns-in_default
returns-in_default c = λ n h. nothing ∙ no_entry _ _ n c.in_default.ensures.1

pub returns-in-Add : goal.returns-in-Add
unfolding tallied kind_cost kind_costs
returns-in-Add c =
    λ n h.
    elim c.in-Add.is [
      | inl e ↦ entry_of c.in-Ok.ensures e _ n refl
      | inr r ↦ elim r [
        | inl e ↦ entry_of c.in-Ok.ensures e _ n refl
        | inr t ↦ elim t [ inl e ↦ entry_of c.in-Ok.ensures e _ n refl | inr e ↦ entry_of c.in-Ok.ensures e _ n refl ]
      ]
    ]

pub returns-in-Product : goal.returns-in-Product
unfolding tallied kind_cost kind_costs
returns-in-Product c = λ n h. entry_of c.in-Ok.ensures c.in-Product.is _ n refl

pub returns-in-Refresh : goal.returns-in-Refresh
unfolding tallied kind_cost kind_costs
returns-in-Refresh c = λ n h. entry_of c.in-Ok.ensures c.in-Refresh.is _ n refl

pub returns-in-Slack : goal.returns-in-Slack
unfolding tallied kind_cost kind_costs
returns-in-Slack c = λ n h. entry_of c.in-Ok.ensures c.in-Slack.is _ n refl

pub returns-in-OneBit : goal.returns-in-OneBit
unfolding tallied kind_cost kind_costs
returns-in-OneBit c = λ n h. entry_of c.in-Ok.ensures c.in-OneBit.is _ n refl

pub returns-in-Exact : goal.returns-in-Exact
unfolding tallied kind_cost kind_costs
returns-in-Exact c = λ n h. entry_of c.in-Ok.ensures c.in-Exact.is _ n refl

pub returns-in-Relu : goal.returns-in-Relu
unfolding tallied kind_cost kind_costs
returns-in-Relu c = λ n h. entry_of c.in-Ok.ensures c.in-Relu.is _ n refl

pub returns-then-mode-eq0 : goal.returns-then-mode-eq0
unfolding kind_cost kind_costs
returns-then-mode-eq0 c = λ n h. entry_of c.in-Ok.ensures c.in-Curve.is _ n (h.0 ∙ rw c.if-mode-eq0.true)

pub returns-else-mode-eq0 : goal.returns-else-mode-eq0
returns-else-mode-eq0 c = λ n h. entry_of c.in-Ok.ensures c.in-Curve.is _ n (h.1 ∙ one_bit_cost _ n c.if-mode-eq0.false)
