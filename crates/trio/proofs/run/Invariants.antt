use mathlib.Core.Path.{◌≡◌}
use Prim.Native.Nat.{◌/◌}
use Rattle.std.specs.Prelude.{Ok}
use lib.ListN.{length}
use Rattle.calls.specs.Scripts.{job_script}
use Rattle.worker.specs.Answers.{state_of}
use Rattle.trio.specs.Together.{trio_of}
use Rattle.trio.proofs.Ends.{ahead}
use Rattle.trio.proofs.Turns.{Going}
use Rattle.trio.proofs.run.Given as goal

abbrev pub invariant-loop-s : goal.invariant-loop-s
invariant-loop-s l = (l.orders ≡ length l.job / 4) × Going (job_script 32 l.job l.table) l.a l.b (trio_of (Ok l.initial.s) l.deals) (trio_of (Ok l.s) l.deals)

abbrev pub decreases-loop-s : goal.decreases-loop-s
decreases-loop-s l = ahead (job_script 32 l.job l.table) (state_of l.s.one.state)
