use mathlib.Core.Path.{◌≡◌, sym, ◌∙◌}
use native.Mathlib.Omega.{arith}
use Rattle.text_lines.specs.Answers.{held}
use Rattle.text_lines.proofs.Chunks.{newline, goes_on, chunk_ends}
use Rattle.text_lines.proofs.cutting.cut.Goals as goal

pub returns-then-byte-eq10 : goal.returns-then-byte-eq10
returns-then-byte-eq10 c =
    let l = c.loop-i in
    sym (newline c.args.chunk.now l.i (held l.line) c.loop-i-test.true c.if-byte-eq10.true) ∙ l.invariant.same

pub loop-i-preserved : goal.loop-i-preserved
loop-i-preserved c =
    let l = c.loop-i in
    record {
      within = omega arith;
      same = rw c.push.ensures
          (sym (goes_on c.args.chunk.now l.i (held l.line) c.loop-i-test.true c.if-byte-eq10.false) ∙ l.invariant.same);
    }

pub returns : goal.returns
returns c =
    let l = c.loop-i in
    let stop : c.max.result ≡ l.i = omega (arith, c.max.ensures) in
    rw stop (sym (chunk_ends c.args.chunk.now l.i (held l.line) c.loop-i-test.false) ∙ l.invariant.same)
