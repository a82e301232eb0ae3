-- The measure is what is left to cut of the chunk.
use Rattle.text_lines.specs.Answers.{piece}
use Rattle.text_lines.proofs.Chunks.{left}
use Rattle.rehearsal.proofs.take_in.Given as goal

abbrev pub decreases-loop-piece : goal.decreases-loop-piece
decreases-loop-piece g l = left l.chunk (piece l.piece)
