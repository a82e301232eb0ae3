use mathlib.Core.Path.{◌≡◌, sym, ◌∙◌}
use native.Mathlib.Omega.{arith}
use Rattle.calendars.proofs.Ranges.{next_stop, next_go, next_done}
use Rattle.calendars.proofs.bits.next_counted.Goals as goal

pub returns-then-counts_at : goal.returns-then-counts_at
returns-then-counts_at c =
    next_stop _ _ 96 c.loop-q-test.true (sym c.counts_at.ensures ∙ c.if-counts_at.true) ∙ sym c.loop-q.invariant.same

pub loop-q-preserved : goal.loop-q-preserved
loop-q-preserved c =
    record {
      same = c.loop-q.invariant.same ∙ next_go _ _ 96 c.loop-q-test.true (sym c.counts_at.ensures ∙ c.if-counts_at.false);
      within = omega arith;
    }

pub returns : goal.returns
returns c =
    let last : c.max.result ≡ c.loop-q.q = omega (arith, c.max.ensures) in
    last ∙ next_done _ _ 96 c.loop-q-test.false ∙ sym c.loop-q.invariant.same
