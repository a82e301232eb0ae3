use mathlib.Core.Path.{sym, ap, ◌∙◌}
use Rattle.calls.specs.Calls.{Answer}
use Rattle.worker.specs.Answers.{answer_of}
use Rattle.trio.specs.Together.{heard}
use Rattle.trio.proofs.Turns.{not_turned}
use Rattle.trio.proofs.exchange.Goals as goal

pub unwrap-one-requires : goal.unwrap-one-requires
unfolding heard
unwrap-one-requires c = not_turned c.hear.result (ap (λ (x : Answer). x.number) c.hear.ensures ∙ c.requires.0)

pub unwrap-two-requires : goal.unwrap-two-requires
unfolding heard
unwrap-two-requires c = not_turned c.hear-2.result (ap (λ (x : Answer). x.number) c.hear-2.ensures ∙ c.requires.1)

pub returns : goal.returns
unfolding heard
returns c =
    rw (
      ap answer_of (sym c.unwrap-one.ensures) ∙ c.hear.ensures,
      ap answer_of (sym c.unwrap-two.ensures) ∙ c.hear-2.ensures,
    )
