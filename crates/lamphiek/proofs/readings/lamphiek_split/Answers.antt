use mathlib.Core.Path.{sym, ap, ◌∙◌}
use lib.IntN.{ℤ}
use mir.Syntax.{w64}
use mir.Facts.{to_z-of_z}
use Rattle.shares.specs.Sharing.{split, nothing}
use Rattle.shares.specs.Answers.{words, sharing}
use Rattle.lamphiek.specs.Layout.{written, six_out}
use Rattle.lamphiek.proofs.Told.{told}
use Rattle.lamphiek.proofs.readings.lamphiek_split.Goals as goal

pub returns-in_default : goal.returns-in_default
unfolding written
returns-in_default c =
    let answered = told six_out 11 nothing c.args.shares.now (sym (ap sharing c.in_default.is) ∙ c.share.ensures ∙ ap (λ (x : ℤ). split 32 x c.args.l1 c.args.l2) (to_z-of_z {w = w64} c.ranges.reading)) in
    record { number = answered.0; words = answered.1 }

pub returns : goal.returns
unfolding written
returns c =
    let answered = told six_out 0 (words c.in-Ok.s) c.args.shares.now (sym (ap sharing c.in-Ok.is) ∙ c.share.ensures ∙ ap (λ (x : ℤ). split 32 x c.args.l1 c.args.l2) (to_z-of_z {w = w64} c.ranges.reading)) in
    record { number = answered.0; words = answered.1 }
