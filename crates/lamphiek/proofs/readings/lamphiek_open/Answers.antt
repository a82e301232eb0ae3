use mathlib.Core.Path.{◌≡◌, sym, ap, ◌∙◌}
use mir.Syntax.{w64}
use mir.Val.{to_z, of_z}
use lib.IntN.{ℤ, pos}
use Rattle.shares.specs.Answers.{opening}
use Rattle.lamphiek.specs.Layout.{written}
use Rattle.lamphiek.proofs.Told.{told}
use borrow.Author.Rules.{rules}
use Rattle.lamphiek.proofs.readings.lamphiek_open.Goals as goal

pub returns-in_default : goal.returns-in_default
unfolding written
returns-in_default c =
    let answered = told (λ (x : ℤ). x) 10 (pos 0) c.args.value.now (sym (ap opening c.in_default.is) ∙ c.reconstruct.ensures) in
    record { number = answered.0; value = answered.1 }

pub returns : goal.returns
unfolding written
returns c =
    let e = told (λ (x : ℤ). x) 0 c.in-Ok.x c.args.value.now (sym (ap opening c.in-Ok.is) ∙ c.reconstruct.ensures) in
    let same : to_z w64 (of_z w64 c.in-Ok.x) ≡ c.in-Ok.x = search rules in
    record { number = e.0; value = same ∙ e.1 }
