-- The loop's invariant: a cut from here on, behind the line so far, gives what the whole cut does.
use Rattle.std.proofs.Common.{◌≡◌, ◌≤◌, drop, length, max}
use Rattle.text_lines.specs.Input.{cut_from}
use Rattle.text_lines.specs.Answers.{held}
use Rattle.text_lines.proofs.cutting.cut.Given as goal

-- The loop's invariant: a cut from here on, behind the line so far, gives what the whole cut does.
abbrev pub invariant-loop-i : goal.invariant-loop-i
invariant-loop-i l = record {
  within : l.i ≤ max l.at (length l.chunk);
  same : cut_from l.i (drop l.i l.chunk) (held l.line) ≡ cut_from l.at (drop l.at l.chunk) (held l.fn.begun);
}
