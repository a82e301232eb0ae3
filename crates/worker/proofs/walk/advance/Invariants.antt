use mathlib.Core.Path.{◌≡◌}
use Prim.Native.Nat.{◌*◌, ◌/◌, ◌+◌, ◌-◌, ◌^◌, ◌<◌, ◌≤◌}
use lib.ListN.{length, drop}
use Rattle.jobs.specs.Job.{job_gates}
use Rattle.gates.specs.Hosts.{pair_of}
use Rattle.walks.specs.Halts.{steps_from, reported}
use Rattle.worker_gate.specs.Workers.{worker, used_to}
use Rattle.worker.proofs.walk.advance.Given as goal

abbrev pub invariant-loop-order : goal.invariant-loop-order
invariant-loop-order l = (l.n ≡ length l.job.orders.now / 4) × (l.at.gate ≤ 1000) × (l.order < 2 ^ 32)
    × (l.at.used.a + 2000 * l.initial.order ≤ 2 ^ 31 + 2000 * l.order + l.at.gate)
    × (l.at.used.deals + 2000 * l.initial.order ≤ 2 ^ 31 + 2000 * l.order + l.at.gate)
    × (l.order ≤ l.initial.order + 64) × (l.at.used.b ≡ l.initial.at.used.b)
    × (reported (worker l.host) (steps_from 32 l.at.gate (drop l.order (job_gates 32 l.job.orders.now l.job.table.now)))
    (used_to l.order l.turn l.at.used) (pair_of l.lanes)
    ≡ reported (worker l.host)
    (steps_from 32 l.initial.at.gate (drop l.initial.order (job_gates 32 l.job.orders.now l.job.table.now)))
    (used_to l.initial.order l.initial.turn l.initial.at.used) (pair_of l.initial.lanes))

-- the gates left of the order, and those of the orders left
abbrev pub decreases-loop-order : goal.decreases-loop-order
decreases-loop-order l = 1001 * (l.n - l.order) + (1000 - l.at.gate)
