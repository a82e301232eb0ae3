use mathlib.Core.Path.{refl, sym, ap, ◌∙◌}
use native.Mathlib.Omega.{arith}
use Prim.Native.Nat.{◌/◌, ◌<◌}
use lib.ListN.{length}
use Rattle.std.proofs.lemmas.Option.{MatchOption-at_some, MatchOption-at_none}
use Rattle.gates.specs.Codes.{step_of}
use Rattle.gates.proofs.Uses as Uses
use Rattle.tables.specs.Table.{rows}
use Rattle.jobs.specs.Job.{job_gates}
use Rattle.calls.specs.declared.Stored.{Stored}
use Rattle.walks.specs.Halts.{going_on}
use Rattle.walks.proofs.Programs.{finished, at_once}
use Rattle.job_add.proofs.Here.{here}
use Rattle.program_fetch.proofs.Stands.{piece_stands}
use Rattle.program_fetch.proofs.PieceSteps.{still_within}
use Rattle.jobs.proofs.Additions.{additive_steps}
use Rattle.jobs.proofs.Indices.{order_there, gates_over}
use Rattle.worker.proofs.Jobs.{short_order}
use Rattle.worker.proofs.Pieces.{few_used, at_exchange, next_piece, next_order}
use Rattle.worker.proofs.walk.advance.Goals as goal

pub loop-order-init : goal.loop-order-init
loop-order-init c =
    let p = c.requires in
    (refl, p.1, omega arith, omega (arith, p), omega (arith, p), omega arith, refl, refl)

pub overflow_add-order : goal.overflow_add-order
overflow_add-order c = omega arith

pub loop-order-smaller-then-adds_here : goal.loop-order-smaller-then-adds_here
loop-order-smaller-then-adds_here c =
    omega (arith, c.loop-order-test.true)

pub loop-order-preserved-then-adds_here : goal.loop-order-preserved-then-adds_here
loop-order-preserved-then-adds_here c =
    let l = c.loop-order in
    let a = c.args in
    let J = a.job.orders.now in
    let T = a.job.table.now in
    let h : c.loop-order.order < length c.args.job.orders.now / 4 = omega (arith, c.loop-order-test.true, c.loop-order.invariant.0) in
    let first = here _ _ (sym c.if-adds_here.true ∙ c.adds_here.ensures) in
    let next =
    at_once 32 a.host.now.host a.host.now.masks.now a.host.now.deals.now (job_gates 32 J T) l.order l.turn l.at.gate l.at.used.a l.at.used.b
    l.at.used.deals (l.lanes.first, l.lanes.second) _ (order_there 32 J T l.order h _ c.order_at-o.ensures) first.0 _ _
    (additive_steps 32 (rows T) _ first.1) _ _ c.add_in_place.ensures.0 c.add_in_place.ensures.1 in (
      l.invariant.0,
      l.invariant.1,
      omega (arith, h, c.requires.0.few_words),
      omega (arith, l.invariant.3),
      omega (arith, l.invariant.4),
      omega (arith, h, c.requires.0.few_words),
      l.invariant.6,
      sym next ∙ l.invariant.7,
    )

pub walk_piece-stop-requires : goal.walk_piece-stop-requires
walk_piece-stop-requires c =
    let l = c.loop-order.invariant in
    let p = c.requires in
    let S = piece_stands c.piece_at-p.ensures in
    let h : c.loop-order.order < length c.args.job.orders.now / 4 = omega (arith, c.loop-order-test.true, c.loop-order.invariant.0) in
    (S.end, S.few, omega (arith, l.1, l.3, h, p.0.few_words), omega (arith, l.1, l.4, h, p.0.few_words))

pub places_with-stored-requires : goal.places_with-stored-requires
places_with-stored-requires c =
    let l = c.loop-order in
    let S = piece_stands c.piece_at-p.ensures in
    let h : c.loop-order.order < length c.args.job.orders.now / 4 = omega (arith, c.loop-order-test.true, c.loop-order.invariant.0) in
    let f = few_used 32 (rows c.args.job.table.now) _ l.at.gate _ S _ _ _ _ _ _ _ _ c.walk_piece-stop.ensures.1 in
    let g = Uses.few_used (step_of 32 c.in-Some.g) _ c.used_by.ensures in (
      omega (arith, g),
      omega (arith, g),
      omega (arith, f, S.few, l.invariant.1, l.invariant.3, h, c.requires.0.few_words),
      omega (arith, f, S.few, l.invariant.1, l.invariant.4, h, c.requires.0.few_words),
      omega (arith, c.requires.4),
    )

pub overflow_cast-order-in-Some : goal.overflow_cast-order-in-Some
overflow_cast-order-in-Some c =
    omega (arith, c.loop-order.invariant.2)

pub returns-in-Some : goal.returns-in-Some
returns-in-Some c =
    let l = c.loop-order in
    let a = c.args in
    let J = a.job.orders.now in
    let T = a.job.table.now in
    let there = order_there 32 J T l.order (omega (arith, c.loop-order-test.true, c.loop-order.invariant.0)) _ c.order_at-o.ensures in
    let r = c.walk_piece-stop.ensures in
    let there_is = MatchOption-at_some _ _ _ c.in-Some.is r.2 in
    c.halted.ensures _ _
    ∙ sym (at_exchange 32 (rows T) _ l.at.gate _ (piece_stands c.piece_at-p.ensures) a.host.now.host a.host.now.masks.now a.host.now.deals.now
    (job_gates 32 J T) l.order l.turn l.at.used.a l.at.used.b l.at.used.deals (l.lanes.first, l.lanes.second) there _ _ _ _ _ r.1 c.in-Some.g there_is.0
    there_is.1 _ (rw (← r.3) c.say-word.ensures) _ c.used_by.ensures _
    (rw (← r.3) c.places_with-stored.ensures))
    ∙ l.invariant.7

pub overflow_add-order-then-p : goal.overflow_add-order-then-p
overflow_add-order-then-p c = omega arith

pub overflow_sub-at : goal.overflow_sub-at
overflow_sub-at c =
    omega (arith, (piece_stands c.piece_at-p.ensures).some c.if-p.false)

pub overflow_add-at : goal.overflow_add-at
overflow_add-at c =
    let S = piece_stands c.piece_at-p.ensures in
    let short = short_order 32 c.args.job.orders.now c.args.job.table.now c.requires.0 c.loop-order.order
    (omega (arith, c.loop-order-test.true, c.loop-order.invariant.0)) _ c.order_at-o.ensures in
    omega (arith, still_within 32 _ _ c.loop-order.at.gate _ S c.if-p.false, short)

pub loop-order-smaller-then-p : goal.loop-order-smaller-then-p
loop-order-smaller-then-p c = omega arith

pub loop-order-preserved-then-p : goal.loop-order-preserved-then-p
loop-order-preserved-then-p c =
    let l = c.loop-order in
    let a = c.args in
    let J = a.job.orders.now in
    let T = a.job.table.now in
    let M = a.host.now.masks.now in
    let D = a.host.now.deals.now in
    let S = piece_stands c.piece_at-p.ensures in
    let h : c.loop-order.order < length c.args.job.orders.now / 4 = omega (arith, c.loop-order-test.true, c.loop-order.invariant.0) in
    let there = order_there 32 J T l.order h _ c.order_at-o.ensures in
    let r = c.walk_piece-stop.ensures in
    let f = few_used 32 (rows T) _ l.at.gate _ S _ _ _ _ _ _ _ _ r.1 in
    let next =
    next_order 32 (rows T) _ l.at.gate _ S a.host.now.host M D (job_gates 32 J T) l.order l.turn l.at.used.a l.at.used.b l.at.used.deals
    (l.lanes.first, l.lanes.second) there _ _ _ _ _ r.1 (MatchOption-at_none _ _ c.in_default.is r.2) c.if-p.true in (
      l.invariant.0,
      omega arith,
      omega (arith, h, c.requires.0.few_words),
      omega (arith, f, S.few, l.invariant.1, l.invariant.3),
      omega (arith, f, S.few, l.invariant.1, l.invariant.4),
      omega (arith, h, c.requires.0.few_words),
      c.walk_piece-stop.ensures.3 ∙ l.invariant.6,
      rw c.walk_piece-stop.ensures.3 (sym next ∙ l.invariant.7),
    )

pub loop-order-smaller : goal.loop-order-smaller
loop-order-smaller c =
    let S = piece_stands c.piece_at-p.ensures in
    let short = short_order 32 c.args.job.orders.now c.args.job.table.now c.requires.0 c.loop-order.order
    (omega (arith, c.loop-order-test.true, c.loop-order.invariant.0)) _ c.order_at-o.ensures in
    omega (arith, S.some c.if-p.false, still_within 32 _ _ c.loop-order.at.gate _ S c.if-p.false, short)

pub loop-order-preserved : goal.loop-order-preserved
loop-order-preserved c =
    let l = c.loop-order in
    let a = c.args in
    let J = a.job.orders.now in
    let T = a.job.table.now in
    let M = a.host.now.masks.now in
    let D = a.host.now.deals.now in
    let S = piece_stands c.piece_at-p.ensures in
    let there = order_there 32 J T l.order (omega (arith, c.loop-order-test.true, c.loop-order.invariant.0)) _ c.order_at-o.ensures in
    let r = c.walk_piece-stop.ensures in
    let f = few_used 32 (rows T) _ l.at.gate _ S _ _ _ _ _ _ _ _ r.1 in
    let next =
    next_piece 32 (rows T) _ l.at.gate _ S a.host.now.host M D (job_gates 32 J T) l.order l.turn l.at.used.a l.at.used.b l.at.used.deals
    (l.lanes.first, l.lanes.second) there _ _ _ _ _ r.1 (MatchOption-at_none _ _ c.in_default.is r.2) c.if-p.false in (
      l.invariant.0,
      omega (
        arith,
        still_within 32 _ _ l.at.gate _ S c.if-p.false,
        short_order 32 J T c.requires.0 l.order
            (omega (arith, c.loop-order-test.true, c.loop-order.invariant.0)) _ c.order_at-o.ensures,
      ),
      l.invariant.2,
      omega (arith, f, l.invariant.3),
      omega (arith, f, l.invariant.4),
      l.invariant.5,
      c.walk_piece-stop.ensures.3 ∙ l.invariant.6,
      rw c.walk_piece-stop.ensures.3 (sym next ∙ l.invariant.7),
    )

pub overflow_cast-order-2 : goal.overflow_cast-order-2
overflow_cast-order-2 c = omega (arith, c.loop-order.invariant.2)

pub places-requires : goal.places-requires
places-requires c =
    let v = c.loop-order.invariant in
    (omega (arith, v.1, v.3, v.5), omega (arith, v.1, v.4, v.5), omega (arith, c.requires.4))

pub returns : goal.returns
returns c =
    let l = c.loop-order in
    let a = c.args in
    let J = a.job.orders.now in
    let T = a.job.table.now in
    let over = gates_over 32 J T l.order (omega (arith, c.loop-order-test.false, l.invariant.0)) in
    c.halted-2.ensures _ _
    ∙ ap (λ (u : Stored). going_on u.b 0 l.lanes.first l.lanes.second l.order l.turn u) c.places.ensures
    ∙ sym (finished 32 a.host.now.host a.host.now.masks.now a.host.now.deals.now (job_gates 32 J T) l.order l.turn l.at.gate l.at.used.a l.at.used.b
    l.at.used.deals (l.lanes.first, l.lanes.second) over)
    ∙ l.invariant.7
