use native.Mathlib.Numerals.{unary_clauses}
use Rattle.text_lines.specs.Buffers.{filled}
use Rattle.text_lines.proofs.short.Short.new.Goals as goal

pub returns : goal.returns
unfolding filled
returns g c = simp unary_clauses
