use Rattle.std.proofs.Common.{◌∙◌}
use Rattle.program_fetch.proofs.Cases.{end_last}
use Rattle.program_fetch.proofs.pieces.last_piece.Goals as goal

pub returns : goal.returns
returns c = let a = c.args in c.last_part.ensures ∙ end_last a.source a.target a.i
