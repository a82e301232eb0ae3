use mathlib.Core.Path.{◌∙◌}
use borrow.Author.Rules.{rules}
use Rattle.calls.specs.Calls.{given}
use Rattle.calls.proofs.Lists.{given_registers}
use Rattle.trio.proofs.given.Goals as goal

pub returns : goal.returns
unfolding given
returns c =
    rw (
      c.copy_front.ensures ∙ given_registers c.args.m (search rules),
      c.copy_front-2.ensures ∙ given_registers c.args.mask (search rules),
    )
