use mathlib.Core.Path.{refl, sym, ◌∙◌}
use Prim.Native.Nat.{◌/◌, ◌<◌}
use native.Mathlib.Omega.{arith}
use lib.ListN.{length}
use Rattle.walks.specs.Dealers.{dealer}
use Rattle.job_add.proofs.Here.{here}
use Rattle.program_fetch.proofs.Stands.{piece_stands}
use Rattle.program_fetch.proofs.PieceSteps.{still_within}
use Rattle.dealer.proofs.Orders.{job_begins, job_done, fewer_orders, fewer_gates, piece_room, order_done, piece_done}
use Rattle.dealer.proofs.Orders.{few_gates, fewer_left, added_done}
use Rattle.dealer.proofs.preparing.deal_job.Goals as goal

pub loop-o-init : goal.loop-o-init
loop-o-init c =
    let s = c.args in (
      refl,
      job_begins 32 s.lists.a.now s.lists.b.now s.job.now s.table.now (dealer s.used s.lanes.now.first s.lanes.now.second s.deals.now)
          c.requires,
    )

pub deal_piece-at-requires : goal.deal_piece-at-requires
deal_piece-at-requires c =
    let s = c.args in
    let l = c.loop-o in
    let n : l.o < length s.job.now / 4 = omega (arith, c.loop-o-test.true, l.invariant.0) in (
      (piece_stands c.piece_at-piece.ensures).end,
      piece_room 32 s.lists.a.now s.lists.b.now s.job.now s.table.now l.o l.gate n _ c.order_at-order.ensures
          _ (piece_stands c.piece_at-piece.ensures)
          (dealer s.used s.lanes.now.first s.lanes.now.second s.deals.now) (dealer l.at l.lanes.first l.lanes.second l.deals) l.invariant.1,
    )

pub overflow_add-o : goal.overflow_add-o
overflow_add-o c =
    omega (arith, c.loop-o-test.true, c.loop-o.invariant.0, c.well_formed.0)

pub loop-o-smaller-then-adds_here : goal.loop-o-smaller-then-adds_here
loop-o-smaller-then-adds_here c =
    let s = c.args in
    let l = c.loop-o in
    let n : l.o < length s.job.now / 4 = omega (arith, c.loop-o-test.true, l.invariant.0) in
    let k = here _ _ (sym c.if-adds_here.true ∙ c.adds_here.ensures) in
    fewer_left 32 s.lists.a.now s.lists.b.now s.job.now s.table.now l.o l.gate n _ c.order_at-order.ensures k.0 k.1

pub loop-o-preserved-then-adds_here : goal.loop-o-preserved-then-adds_here
loop-o-preserved-then-adds_here c =
    let s = c.args in
    let l = c.loop-o in
    let n : l.o < length s.job.now / 4 = omega (arith, c.loop-o-test.true, l.invariant.0) in
    let k = here _ _ (sym c.if-adds_here.true ∙ c.adds_here.ensures) in (
      l.invariant.0,
      added_done 32 s.lists.a.now s.lists.b.now s.job.now s.table.now l.o l.gate n _ c.order_at-order.ensures k.0 k.1
          (dealer s.used s.lanes.now.first s.lanes.now.second s.deals.now) l.at l.lanes.first l.lanes.second l.deals l.invariant.1
          _ _ c.add_in_place.ensures.0 c.add_in_place.ensures.1,
    )

-- ---- behind a last piece
pub overflow_add-o-then-piece : goal.overflow_add-o-then-piece
overflow_add-o-then-piece c =
    omega (arith, c.loop-o-test.true, c.loop-o.invariant.0, c.well_formed.0)

pub loop-o-smaller-then-piece : goal.loop-o-smaller-then-piece
loop-o-smaller-then-piece c =
    let s = c.args in
    let l = c.loop-o in
    let n : l.o < length s.job.now / 4 = omega (arith, c.loop-o-test.true, l.invariant.0) in
    fewer_orders 32 s.lists.a.now s.lists.b.now s.job.now s.table.now l.o l.gate n _ c.order_at-order.ensures
    _ (piece_stands c.piece_at-piece.ensures) c.if-piece.true

pub loop-o-preserved-then-piece : goal.loop-o-preserved-then-piece
loop-o-preserved-then-piece c =
    let s = c.args in
    let l = c.loop-o in
    let n : l.o < length s.job.now / 4 = omega (arith, c.loop-o-test.true, l.invariant.0) in (
      l.invariant.0,
      order_done 32 s.lists.a.now s.lists.b.now s.job.now s.table.now l.o l.gate n _ c.order_at-order.ensures
          _ (piece_stands c.piece_at-piece.ensures)
          (dealer s.used s.lanes.now.first s.lanes.now.second s.deals.now) (dealer l.at l.lanes.first l.lanes.second l.deals) l.invariant.1
          _ c.deal_piece-at.ensures c.if-piece.true,
    )

-- ---- behind any other
pub overflow_sub-gate : goal.overflow_sub-gate
overflow_sub-gate c =
    omega (arith, (piece_stands c.piece_at-piece.ensures).some c.if-piece.false)

pub overflow_add-gate : goal.overflow_add-gate
overflow_add-gate c =
    let s = c.args in
    let l = c.loop-o in
    let n : l.o < length s.job.now / 4 = omega (arith, c.loop-o-test.true, l.invariant.0) in
    let within = still_within 32 _ _ l.gate _ (piece_stands c.piece_at-piece.ensures) c.if-piece.false in
    let few =
    few_gates s.lists.a.now s.lists.b.now s.job.now s.table.now (dealer s.used s.lanes.now.first s.lanes.now.second s.deals.now)
    c.requires l.o n _ c.order_at-order.ensures in
    omega (arith, within, few, c.well_formed.1.1.0)

pub loop-o-smaller : goal.loop-o-smaller
loop-o-smaller c =
    let s = c.args in
    let l = c.loop-o in
    let n : l.o < length s.job.now / 4 = omega (arith, c.loop-o-test.true, l.invariant.0) in
    fewer_gates 32 s.lists.a.now s.lists.b.now s.job.now s.table.now l.o l.gate n _ c.order_at-order.ensures
    _ (piece_stands c.piece_at-piece.ensures) c.if-piece.false

pub loop-o-preserved : goal.loop-o-preserved
loop-o-preserved c =
    let s = c.args in
    let l = c.loop-o in
    let n : l.o < length s.job.now / 4 = omega (arith, c.loop-o-test.true, l.invariant.0) in (
      l.invariant.0,
      piece_done 32 s.lists.a.now s.lists.b.now s.job.now s.table.now l.o l.gate n _ c.order_at-order.ensures
          _ (piece_stands c.piece_at-piece.ensures)
          (dealer s.used s.lanes.now.first s.lanes.now.second s.deals.now) (dealer l.at l.lanes.first l.lanes.second l.deals) l.invariant.1
          _ c.deal_piece-at.ensures c.if-piece.false,
    )

pub shape_of-deals : goal.shape_of-deals
shape_of-deals c = c.loop-o.invariant.1.size

pub returns : goal.returns
returns c =
    let s = c.args in
    let l = c.loop-o in
    job_done 32 s.lists.a.now s.lists.b.now s.job.now s.table.now l.o l.gate
    (dealer s.used s.lanes.now.first s.lanes.now.second s.deals.now)
    (dealer l.at l.lanes.first l.lanes.second l.deals) l.invariant.1 (omega (arith, c.loop-o-test.false, l.invariant.0))
