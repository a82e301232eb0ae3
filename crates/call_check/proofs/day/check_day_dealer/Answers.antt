use lib.ListN.{length}
use Rattle.calls.specs.Lent.{dealer_fault}
use Rattle.days.specs.Day.{hours}
use Rattle.call_check.specs.Needs.{needs_of}
use Rattle.call_check.proofs.Days.{by_script}
use Rattle.call_check.proofs.day.check_day_dealer.Goals as goal

pub returns-clause-fault : goal.returns-clause-fault
unfolding dealer_fault needs_of
returns-clause-fault c =
    let a = c.args in
    by_script a.table.now (length a.shares.now) (hours a.calendar.now a.weekday) 0 a.a.now a.b.now a.deals.now _ c.check_day.ensures.fault
