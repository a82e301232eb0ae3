use mathlib.Core.Path.{◌≡◌, sym, ap, ◌∙◌}
use Rattle.tables.specs.Table.{house}
use Rattle.text_lines.specs.Answers.{mode_number}
use Rattle.trio.specs.Together.{Trio, trio_of}
use Rattle.rehearsal_answer.specs.Trial.{trial}
use Rattle.rehearsal_answer.proofs.Answers.{mode_word_is}
use Rattle.rehearsal_answer.proofs.Trials.{goes_through, not_turned}
use Rattle.rehearsal_answer.proofs.curve.Goals as goal

pub unwrap-requires : goal.unwrap-requires
unfolding trial house
unwrap-requires c =
    let is : trio_of c.run.result c.run.new.deals ≡ trial (mode_number c.args.mode) c.args.m c.args.l1 c.args.l2 =
    c.run.ensures
    ∙ rw (
      c.fill.ensures,
      c.fill-2.ensures,
      c.number.ensures ∙ mode_word_is c.args.mode,
      c.in_first.ensures,
      c.in_first-2.ensures,
      c.in_first-3.ensures,
    ) in
    not_turned c.run.result c.run.new.deals (ap (λ (x : Trio). x.number) is ∙ goes_through (mode_number c.args.mode) c.args.m c.args.l1 c.args.l2)

pub returns : goal.returns
unfolding trial house
returns c =
    let is : trio_of c.run.result c.run.new.deals ≡ trial (mode_number c.args.mode) c.args.m c.args.l1 c.args.l2 =
    c.run.ensures
    ∙ rw (
      c.fill.ensures,
      c.fill-2.ensures,
      c.number.ensures ∙ mode_word_is c.args.mode,
      c.in_first.ensures,
      c.in_first-2.ensures,
      c.in_first-3.ensures,
    ) in
    record { buffer = c.run.new.deals; is = ap (λ r. trio_of r c.run.new.deals) (sym c.unwrap.ensures) ∙ is }
