use mathlib.Core.Path.{ap, ◌∙◌}
use mathlib.Core.List.{List, ◌++◌}
use Prim.Native.Nat.{ℕ}
use lib.ListN.{drop}
use Rattle.word_lists.proofs.Copied.{short_source, short_target, all_copied}
use Rattle.word_lists.proofs.copy_front.Goals as goal

pub returns-then-from-n : goal.returns-then-from-n
returns-then-from-n c = short_source _ _ _ c.if-from-n.true

pub returns-then-to-n : goal.returns-then-to-n
returns-then-to-n c = short_target _ _ _ c.if-from-n.false c.if-to-n.true

pub returns : goal.returns
returns c =
    ap (λ (x : List ℕ). x ++ drop c.args.n c.args.to.now) c.copy_from_slice.ensures.after
    ∙ all_copied c.args.from.now c.args.to.now c.args.n c.if-from-n.false c.if-to-n.false
