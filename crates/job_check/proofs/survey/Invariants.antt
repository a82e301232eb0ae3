-- `survey` answers as document 01 asks: its loop keeps `Going`, over the orders still to come, and `Marked`, of tallies. Assumes nothing.

use Rattle.jobs.proofs.Sums.{row_count}
use Rattle.jobs.proofs.Turns.{Given, Going}
use Rattle.jobs.proofs.Marks.{Marked}
use Rattle.job_check.specs.Tally.{tallied, CurveTallied}
use Rattle.job_check.proofs.survey.Given as goal

-- `survey` answers as document 01 asks: its loop keeps `Going`, over the orders still to come, and `Marked`, of tallies. Assumes nothing.
abbrev pub invariant-loop-i : goal.invariant-loop-i
invariant-loop-i l = Given l.job l.table l.ruled × CurveTallied l.curve (row_count l.ruled l.table)
    × Going 32 l.job l.table l.i (tallied l.whole) × Marked 32 l.job l.table l.place l.i (tallied l.before)
