use mathlib.Core.Path.{sym, ap₂, ◌∙◌}
use Prim.Native.Nat.{ℕ, ◌≤◌, ◌<◌}
use native.Mathlib.Omega.{arith}
use borrow.Author.Tests.{not-true, not-false}
use Rattle.gates.specs.Steps.{Lane}
use Rattle.walks.specs.Dealers.{dealer, outset}
use Rattle.calendars.specs.Quarters.{held}
use Rattle.days.specs.Orders.{entered}
use Rattle.days.proofs.Quarters.{factor_tabled}
use Rattle.days.proofs.Dealt.{day_begins, day_done, order_idle, order_room, order_done}
use Rattle.dealer.proofs.day.deal_day.Goals as goal

pub loop-o-init : goal.loop-o-init
loop-o-init c =
    let s = c.args in
    day_begins s.lists.a.now s.lists.b.now s.shares.now 32 s.table.now (held s.day.quarters)
    (outset s.lanes.now.first s.lanes.now.second s.deals.now) c.requires.3 c.requires.1.0 c.requires.1.1

-- a quarter that is left out
pub loop-o-preserved-then-not-is_run : goal.loop-o-preserved-then-not-is_run
loop-o-preserved-then-not-is_run c =
    let l = c.loop-o in
    let s = c.args in
    order_idle s.lists.a.now s.lists.b.now s.shares.now 32 s.table.now (held s.day.quarters)
    (outset s.lanes.now.first s.lanes.now.second s.deals.now) l.o (dealer l.used l.lanes.first l.lanes.second l.deals)
    (omega (arith, c.loop-o-test.true)) (sym c.is_run.ensures ∙ not-true _ c.if-not-is_run.true-raw) l.invariant

pub deal_job-used-requires : goal.deal_job-used-requires
deal_job-used-requires c =
    let l = c.loop-o in
    let s = c.args in
    let i : l.o ≤ 96 = omega (arith, c.loop-o-test.true) in
    order_room s.lists.a.now s.lists.b.now s.shares.now 32 s.table.now (held s.day.quarters)
    (outset s.lanes.now.first s.lanes.now.second s.deals.now)
    l.o i (sym c.is_run.ensures ∙ not-false _ c.if-not-is_run.false-raw) _ c.order_words-job.ensures l.used l.lanes.first l.lanes.second l.deals l.invariant _ _

pub loop-o-preserved : goal.loop-o-preserved
loop-o-preserved c =
    let l = c.loop-o in
    let s = c.args in
    let i : l.o ≤ 96 = omega (arith, c.loop-o-test.true) in
    let k = factor_tabled (held s.day.quarters) s.day.n c.requires.2 in
    order_done s.lists.a.now s.lists.b.now s.shares.now 32 s.table.now (held s.day.quarters)
    (outset s.lanes.now.first s.lanes.now.second s.deals.now)
    l.o i (sym c.is_run.ensures ∙ not-false _ c.if-not-is_run.false-raw) _ c.order_words-job.ensures l.used l.lanes.first l.lanes.second l.deals l.invariant
    c.requires.0 _ _
    (c.enter.ensures.0 ∙ ap₂ (λ (by : ℕ) (z : Lane). entered 32 by l.o z) k c.take_share.ensures.0)
    (c.enter.ensures.1 ∙ ap₂ (λ (by : ℕ) (z : Lane). entered 32 by l.o z) k c.take_share.ensures.1)
    _ _ _ _ c.deal_job-used.ensures _ _ c.leave.ensures.0 c.leave.ensures.1

pub shape_of-deals : goal.shape_of-deals
shape_of-deals c = c.loop-o.invariant.midway.size

pub returns : goal.returns
returns c =
    let l = c.loop-o in
    let s = c.args in
    let d = dealer l.used l.lanes.first l.lanes.second l.deals in
    let over : 96 < l.o = omega (arith, c.loop-o-test.false) in record {
      long = (l.invariant.long₁, l.invariant.long₂);
      dealt = day_done s.lists.a.now s.lists.b.now s.shares.now 32 s.table.now (held s.day.quarters)
          (outset s.lanes.now.first s.lanes.now.second s.deals.now) l.o d over l.invariant;
    }
