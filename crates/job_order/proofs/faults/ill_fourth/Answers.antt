use mathlib.Core.Path.{refl}
use mathlib.Core.Logic.{inl, inr}
use borrow.Author.Tests.{lt-ltb, le-ltb}
use Rattle.jobs.specs.Job.{ill_fourths}
use Rattle.jobs.proofs.Conditions.{fourth_of, any_fourth}
use Rattle.job_order.proofs.faults.ill_fourth.Goals as goal

pub returns-in-Refresh : goal.returns-in-Refresh
unfolding ill_fourths
returns-in-Refresh c =
    elim c.in-Refresh.is [
      | inl h ↦ fourth_of _ _ _ _ c.requires h refl
      | inr h ↦ fourth_of _ _ _ _ c.requires h refl
    ]

pub returns-in-Slack : goal.returns-in-Slack
unfolding ill_fourths
returns-in-Slack c =
    elim c.in-Slack.is [
      | inl h ↦ fourth_of _ _ _ _ c.requires h c.no_shift.ensures
      | inr h ↦ fourth_of _ _ _ _ c.requires h c.no_shift.ensures
    ]

pub returns-in-OneBit : goal.returns-in-OneBit
unfolding ill_fourths
returns-in-OneBit c = fourth_of _ _ _ _ c.requires c.in-OneBit.is c.no_shift-in-OneBit.ensures

pub returns-then-fourth-gt1 : goal.returns-then-fourth-gt1
unfolding ill_fourths
returns-then-fourth-gt1 c = fourth_of _ _ _ _ c.requires c.in-Curve.is (rw (lt-ltb 1 c.args.o.fourth c.if-fourth-gt1.true))

pub returns-else-fourth-gt1 : goal.returns-else-fourth-gt1
unfolding ill_fourths
returns-else-fourth-gt1 c = fourth_of _ _ _ _ c.requires c.in-Curve.is (rw (le-ltb 1 c.args.o.fourth c.if-fourth-gt1.false))

pub returns-in_default : goal.returns-in_default
returns-in_default c =
    let n = c.in_default in
    any_fourth _ _ _ _ c.requires n.not-Refresh n.not-Slack n.not-OneBit n.not-Exact n.not-Relu n.not-Curve
