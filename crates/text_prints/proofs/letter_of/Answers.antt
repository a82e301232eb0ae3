use borrow.Author.Tests.{eq-eqb, ne_eqb}
use Rattle.text_prints.specs.Printed.{letter}
use Rattle.text_prints.proofs.letter_of.Goals as goal

pub returns-then-mode-eq0 : goal.returns-then-mode-eq0
unfolding letter
returns-then-mode-eq0 c = rw (eq-eqb c.args.mode 0 c.if-mode-eq0.true)

pub returns-else-mode-eq0 : goal.returns-else-mode-eq0
unfolding letter
returns-else-mode-eq0 c = rw (ne_eqb c.args.mode 0 c.if-mode-eq0.false)
