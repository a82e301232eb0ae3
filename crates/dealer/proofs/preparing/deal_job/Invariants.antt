use mathlib.Core.Path.{◌≡◌}
use Prim.Native.Nat.{◌/◌}
use lib.ListN.{length}
use Rattle.jobs.specs.Job.{steps_of}
use Rattle.walks.specs.Dealers.{dealer}
use Rattle.walks.proofs.Preparing.{Midway}
use Rattle.dealer.proofs.Orders.{left}
use Rattle.dealer.proofs.preparing.deal_job.Given as goal

abbrev pub invariant-loop-o : goal.invariant-loop-o
invariant-loop-o l = (l.n ≡ length l.job / 4)
    × Midway l.lists.a.now l.lists.b.now (steps_of 32 l.job l.table) (left 32 l.lists.a.now l.lists.b.now l.job l.table l.o l.gate) (dealer l.initial.at l.initial.lanes.first l.initial.lanes.second l.initial.deals) (dealer l.at l.lanes.first l.lanes.second l.deals)

abbrev pub decreases-loop-o : goal.decreases-loop-o
decreases-loop-o l = length (left 32 l.lists.a.now l.lists.b.now l.job l.table l.o l.gate)
