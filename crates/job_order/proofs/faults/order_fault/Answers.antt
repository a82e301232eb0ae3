use Rattle.jobs.proofs.Conditions.{fault_3, fault_4, fault_5, no_fault}
use Rattle.job_order.proofs.faults.order_fault.Goals as goal

pub returns-in_default : goal.returns-in_default
returns-in_default c = fault_3 32 c.args.ruled _ c.in_default.ensures.1

pub returns-then-unknown_register : goal.returns-then-unknown_register
returns-then-unknown_register c =
    fault_4 32 c.args.ruled _ _ c.in-Ok.ensures c.unknown_register.ensures c.if-unknown_register.true

pub returns-then-ill_fourth : goal.returns-then-ill_fourth
returns-then-ill_fourth c =
    fault_5 32 c.args.ruled _ _ c.in-Ok.ensures c.unknown_register.ensures c.if-unknown_register.false
    c.ill_fourth.ensures c.if-ill_fourth.true

pub returns : goal.returns
returns c =
    no_fault 32 c.args.ruled _ _ c.in-Ok.ensures c.unknown_register.ensures c.if-unknown_register.false
    c.ill_fourth.ensures c.if-ill_fourth.false
