use Rattle.std.proofs.Common.{◌∙◌}
use Rattle.std.proofs.lemmas.Int.{to_z-of_z}
use mir.Syntax.{w32, w64}
use Rattle.words.proofs.Machine.{cast_reads}
use Rattle.words.proofs.signed_reading.Goals as goal

pub returns : goal.returns
returns c =
    to_z-of_z w64 _ (record { sfits = c.from.type_inv }) ∙ c.from.ensures
    ∙ to_z-of_z w32 _ (record { sfits = c.cast_signed.type_inv })
    ∙ c.cast_signed.ensures
    ∙ cast_reads c.args.x c.ranges.x
