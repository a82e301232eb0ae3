use native.Mathlib.Omega.{arith}
use lib.ListN.{length}
use Rattle.days.specs.Day.{hours, day_script}
use Rattle.call_check.proofs.Hosts.{of_host, other_host}
use Rattle.call_check.proofs.Days.{by_script}
use Rattle.call_check.proofs.day.check_day_lent.Goals as goal

pub returns-in-1-clause-fault : goal.returns-in-1-clause-fault
returns-in-1-clause-fault c =
    let a = c.args in
    let T = a.table.now in
    let n = length a.shares.now in
    let H = hours a.calendar.now a.weekday in
    of_host (day_script 32 T n H) _ _ _ _ (omega arith) (omega arith)
    (by_script T n H a.host a.masks.now a.masks.now a.deals.now _ c.check_day.ensures.fault)

pub returns-in_default-clause-fault : goal.returns-in_default-clause-fault
returns-in_default-clause-fault c = other_host _ _ _ _ (λ l u. omega arith)

pub returns-in_default-2-clause-fault : goal.returns-in_default-2-clause-fault
returns-in_default-2-clause-fault c = other_host _ _ _ _ (λ l u. omega arith)
