use mathlib.Core.List.{map}
use Prim.Native.Nat.{◌≤◌, ◌<◌}
use native.Mathlib.Omega.{arith}
use lib.ListN.{length, drop}
use Rattle.tables.specs.Table.{rows}
use Rattle.gates.specs.Meaning.{meaning}
use Rattle.gates.specs.Codes.{step_of}
use Rattle.program_fetch.specs.Pieces.{piece_gates}
use Rattle.walks.specs.Dealers.{dealer, dealing}
use Rattle.walks.proofs.Dealers.{joined}
use Rattle.walks.proofs.Preparing.{begins}
use Rattle.dealer.proofs.Pieces.{gate_room, gate_done, gates_done}
use Rattle.dealer.proofs.preparing.deal_piece.Goals as goal

pub loop-i-init : goal.loop-i-init
loop-i-init c =
    let s = c.args in
    begins s.lists.a.now s.lists.b.now (map (meaning 32) (drop s.p.from (piece_gates 32 (rows s.table.now) s.p)))
    (dealer s.used s.lanes.now.first s.lanes.now.second s.deals.now) c.requires.1

pub behind-at-requires : goal.behind-at-requires
behind-at-requires c =
    let s = c.args in
    let l = c.loop-i in
    let gs = piece_gates 32 (rows s.table.now) s.p in
    let i : l.i < length gs = omega (arith, c.loop-i-test.true, c.requires.0) in
    let r =
    gate_room 32 s.lists.a.now s.lists.b.now (map (meaning 32) (drop s.p.from gs))
    (dealer s.used s.lanes.now.first s.lanes.now.second s.deals.now) (dealer l.at l.lanes.first l.lanes.second l.deals) gs l.i l.invariant
    _ c.gate_at-gate.ensures i in
    omega (arith, r.a, r.b, r.deals, l.invariant.size, c.ranges.lists.0, c.ranges.lists.1, c.loop-i.auto.deals, c.well_formed)

pub loop-i-preserved : goal.loop-i-preserved
loop-i-preserved c =
    let s = c.args in
    let l = c.loop-i in
    let gs = piece_gates 32 (rows s.table.now) s.p in
    let i : l.i < length gs = omega (arith, c.loop-i-test.true, c.requires.0) in
    let d = dealer l.at l.lanes.first l.lanes.second l.deals in
    let t = dealing s.lists.a.now s.lists.b.now (step_of 32 _) d in
    gate_done 32 s.lists.a.now s.lists.b.now (map (meaning 32) (drop s.p.from gs))
    (dealer s.used s.lanes.now.first s.lanes.now.second s.deals.now) d gs l.i l.invariant _ c.gate_at-gate.ensures i _
    (joined t _ _ _ _ (c.behind-at.ensures s.lists.a.now s.lists.b.now l.lanes.first l.lanes.second l.deals)
    c.deal_gate.ensures)

pub shape_of-deals : goal.shape_of-deals
shape_of-deals c = c.loop-i.invariant.size

pub returns : goal.returns
returns c =
    let s = c.args in
    let l = c.loop-i in
    let gs = piece_gates 32 (rows s.table.now) s.p in
    let i : length gs ≤ l.i = omega (arith, c.loop-i-test.false, c.requires.0) in
    gates_done 32 s.lists.a.now s.lists.b.now (map (meaning 32) (drop s.p.from gs))
    (dealer s.used s.lanes.now.first s.lanes.now.second s.deals.now) (dealer l.at l.lanes.first l.lanes.second l.deals) gs l.i l.invariant i
