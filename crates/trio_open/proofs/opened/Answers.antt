use mathlib.Core.Path.{◌∙◌}
use Rattle.trio_open.proofs.opened.Goals as goal

pub returns : goal.returns
returns c =
    let one = c.held.ensures in
    let two = c.held-2.ensures in
    c.reconstruct.ensures ∙ rw (
      c.word_at.ensures,
      c.word_at-2.ensures,
      one.0,
      one.1,
      two.0,
      two.1,
    )
