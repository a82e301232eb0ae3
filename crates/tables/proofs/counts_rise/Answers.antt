use Rattle.std.proofs.Common.{ltb, get_or, List, ℕ, rules}
use Rattle.std.proofs.lemmas.List.Sorted.{answers_always}
use borrow.Author.Tests.{tests}
use Rattle.tables.proofs.Rules.{rise_answer}
use Rattle.tables.proofs.counts_rise.Goals as goal

pub returns : goal.returns
returns c =
    rise_answer _ _ (c.is_sorted_by.ensures.cases (λ (x y : List ℕ). ltb (get_or x 0 0) (get_or y 0 0))
    (answers_always _ _ _ (λ p a r q k. search (rules, tests))))
