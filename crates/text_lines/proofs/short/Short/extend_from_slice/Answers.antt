use mathlib.Core.Path.{refl}
use Rattle.text_lines.specs.Buffers.{with_bytes}
use Rattle.text_lines.specs.Answers.{held}
use Rattle.text_lines.proofs.Buffers.{next_behind}
use Rattle.text_lines.proofs.short.Short.extend_from_slice.Goals as goal

pub loop-byte-init : goal.loop-byte-init
unfolding with_bytes
loop-byte-init g c = refl

pub loop-byte-preserved : goal.loop-byte-preserved
unfolding with_bytes
loop-byte-preserved g c =
    let l = c.loop-byte in
    next_behind g.row.N (held c.args.self.now) c.args.bytes.now l.byte-index c.loop-byte-test.true l.invariant
    c.push.ensures
