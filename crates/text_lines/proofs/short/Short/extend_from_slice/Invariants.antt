-- The loop's invariant: the text has the bytes so far behind it.
use Rattle.std.proofs.Common.{◌≡◌, take}
use Rattle.text_lines.specs.Buffers.{with_bytes}
use Rattle.text_lines.specs.Answers.{held}
use Rattle.text_lines.proofs.short.Short.extend_from_slice.Given as goal

-- The loop's invariant: the text has the bytes so far behind it.
abbrev pub invariant-loop-byte : goal.invariant-loop-byte
invariant-loop-byte g l = held l.self ≡ with_bytes g.row.N (held l.initial.self) (take l.byte-index l.bytes)
