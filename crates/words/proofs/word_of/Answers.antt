use Rattle.std.proofs.Common.{pos, nat_abs, ap, ◌∙◌}
use Rattle.std.proofs.lemmas.Int.{to_z-of_z}
use Rattle.std.specs.Int.{int_rem_euclid}
use mir.Syntax.{w64}
use lib.IntN.{ℤ}
use Rattle.words.proofs.Machine.{rem_word}
use Rattle.words.proofs.word_of.Goals as goal

pub returns : goal.returns
returns c =
    ap nat_abs
    (to_z-of_z w64 _ (record { sfits = c.rem_euclid.type_inv }) ∙ c.rem_euclid.ensures.value
    ∙ ap (λ (y : ℤ). int_rem_euclid y (pos 4294967296)) (to_z-of_z w64 c.args.z c.ranges.z))
    ∙ rem_word c.args.z
