use Rattle.walks.specs.Dealers.{dealer, outset}
use Rattle.calendars.specs.Quarters.{held}
use Rattle.days.proofs.Dealt.{Reached}
use Rattle.dealer.proofs.day.deal_day.Given as goal

abbrev pub invariant-loop-o : goal.invariant-loop-o
invariant-loop-o l = Reached l.lists.a.now l.lists.b.now l.shares 32 l.table (held l.day.quarters) (outset l.initial.lanes.first l.initial.lanes.second l.initial.deals) l.o (dealer l.used l.lanes.first l.lanes.second l.deals)
