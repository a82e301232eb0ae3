use native.Mathlib.Omega.{arith}
use mathlib.Core.Path.{◌∙◌}
use Rattle.text_lines.specs.Answers.{mode_number}
use Rattle.rehearsal_answer.proofs.Answers.{out_of_range, agreed, few, words_is, printed}
use borrow.Author.Rules.{rules}
use Rattle.rehearsal_answer.proofs.rehearse.Goals as goal

pub returns-in_default : goal.returns-in_default
returns-in_default c =
    let r = c.args.request in
    out_of_range (mode_number r.mode) r.reading (search rules) c.share.result c.share.ensures
    _ c.in_default.is _ c.refusal_text.ensures

pub returns-in_default-opened : goal.returns-in_default-opened
returns-in_default-opened c =
    let r = c.args.request in
    absurd (agreed (mode_number r.mode) r.reading (search rules) c.share.result c.share.ensures _ c.in-Ok.is
    c.curve-done.result c.curve-done.ensures c.opened.result c.opened.ensures _ c.in_default-opened.is)

pub overflow_add-words : goal.overflow_add-words
overflow_add-words c =
    let r = c.args.request in
    let few_words =
    few (mode_number r.mode) _ (words_is (mode_number r.mode) r.reading (search rules) c.share.result c.share.ensures _
    c.in-Ok.is c.curve-done.result c.curve-done.ensures) in
    omega (arith, few_words)

pub returns : goal.returns
returns c =
    let r = c.args.request in
    let h = rw c.number.ensures at c.answer_text.ensures in
    printed (mode_number r.mode) r.reading (search rules) c.share.result c.share.ensures _ c.in-Ok.is
    c.curve-done.result c.curve-done.ensures c.opened.result c.opened.ensures _
    c.in-Ok-opened.is _ (h ∙ search rules)
