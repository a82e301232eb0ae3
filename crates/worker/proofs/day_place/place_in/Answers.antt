use mathlib.Core.Path.{sym, ◌∙◌}
use borrow.Author.Tests.{not-true, not-false}
use Rattle.worker.specs.Days.{sought_run}
use Rattle.worker.proofs.Days.{own_sought}
use Rattle.worker.proofs.day_place.place_in.Goals as goal

pub returns-then-not-is_run : goal.returns-then-not-is_run
unfolding sought_run
returns-then-not-is_run c = rw (sym c.is_run.ensures ∙ not-true _ c.if-not-is_run.true-raw)

pub returns : goal.returns
unfolding sought_run
returns c =
    let a = c.args in
    rw (sym c.is_run.ensures ∙ not-false _ c.if-not-is_run.false-raw)
    (c.seek.ensures.is ∙ own_sought a.table.now a.order a.turn _ c.order_words-job.ensures _ c.order_at.ensures)
