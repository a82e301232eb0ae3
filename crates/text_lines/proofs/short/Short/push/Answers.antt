use borrow.Author.Tests.{lt-ltb, le-ltb}
use native.Mathlib.Omega.{arith}
use Rattle.text_lines.specs.Buffers.{with_byte}
use Rattle.text_lines.proofs.short.Short.push.Goals as goal

pub returns-then-self : goal.returns-then-self
unfolding with_byte
returns-then-self g c = rw (lt-ltb c.args.self.now.len g.row.N (omega arith))

pub returns-else-self : goal.returns-else-self
unfolding with_byte
returns-else-self g c = rw (le-ltb c.args.self.now.len g.row.N (omega arith))
