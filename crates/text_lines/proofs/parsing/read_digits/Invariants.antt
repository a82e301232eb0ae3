-- The loop's invariant: the digits that are left, behind the number so far, read as all of them; the number has as many
-- digits as were read.
use Rattle.std.proofs.Common.{◌≡◌, ◌<◌, ◌^◌, drop}
use Rattle.text_lines.specs.Lines.{digits}
use Rattle.text_lines.specs.Answers.{mode_number}
use Rattle.text_lines.proofs.parsing.read_digits.Given as goal

-- The loop's invariant: the digits that are left, behind the number so far, read as all of them; the number has as many
-- digits as were read.
abbrev pub invariant-loop-digit : goal.invariant-loop-digit
invariant-loop-digit l = record {
  few : l.size < 10 ^ l.digit-index;
  same : digits (mode_number l.mode) l.minus l.size (drop l.digit-index l.digits) ≡ digits (mode_number l.mode) l.minus 0 l.digits;
}
