use mathlib.Core.Path.{ap₂, ◌∙◌}
use mathlib.Core.List.{[], ◌∷◌}
use Prim.Native.Nat.{ℕ}
use mir.Syntax.{w64}
use mir.ValLaws.{to_z-of_z}
use Rattle.text_lines.specs.Buffers.{Buffer, with_bytes}
use Rattle.text_prints.proofs.Signs.{shows_word}
use Rattle.text_prints.proofs.Rows.{answer}
use Rattle.text_prints.proofs.answer_text.Goals as goal

pub returns : goal.returns
unfolding with_bytes
returns c =
    let a = c.args in
    let r = c.ranges in
    answer a.mode a.reading a.value a.deals a.words r.reading r.value r.deals r.words
    (c.push.ensures ∙ ap₂ (λ (x : Buffer) (y : ℕ). with_bytes 80 x (y ∷ [])) c.new-line.ensures c.letter_of.ensures)
    (rw (to_z-of_z w64 a.reading r.reading) at c.put_column.ensures)
    (rw (to_z-of_z w64 a.value r.value) at c.put_column-2.ensures)
    (rw (shows_word a.deals c.from.result r.deals c.from.ensures) at c.put_column-3.ensures)
    (rw (shows_word a.words c.from-2.result r.words c.from-2.ensures) at c.put_column-4.ensures)
    c.push-2.ensures
