use mathlib.Core.Path.{ap, ◌∙◌}
use Rattle.text_lines.specs.Buffers.{Buffer, with_bytes}
use Rattle.text_prints.specs.Printed.{refused_word}
use Rattle.text_prints.proofs.Rows.{refusal}
use Rattle.text_prints.proofs.refusal_text.Goals as goal

pub returns : goal.returns
unfolding with_bytes
returns c =
    refusal c.args.number c.ranges.number
    (c.extend_from_slice.ensures ∙ ap (λ (x : Buffer). with_bytes 80 x refused_word) c.new-refusal.ensures)
    (rw c.from.ensures at c.put_number.ensures)
    c.push.ensures
