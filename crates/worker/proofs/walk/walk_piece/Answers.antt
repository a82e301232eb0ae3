use mathlib.Core.Path.{refl, ◌∙◌}
use Rattle.gates.specs.Hosts.{pair_of}
use native.Mathlib.Omega.{arith}
use Prim.Native.Nat.{◌<◌}
use lib.ListN.{length}
use Rattle.tables.specs.Table.{rows}
use Rattle.gates.specs.Codes.{step_of}
use Rattle.gates.proofs.Fetched.{never}
use Rattle.gates.proofs.Uses.{few_used}
use Rattle.program_fetch.specs.Pieces.{piece_gates}
use Rattle.program_fetch.proofs.PieceSteps.{first_step}
use Rattle.walks.proofs.Within.{going_from, passed}
use Rattle.worker.proofs.walk.walk_piece.Goals as goal

pub loop-i-init : goal.loop-i-init
loop-i-init c = (going_from 32 _ _ _ _ _ _, refl)

pub returns-then-exchanges : goal.returns-then-exchanges
returns-then-exchanges c = (
  c.loop-i.i,
  c.loop-i.invariant.0,
  (c.gate_at-gate.ensures, c.exchanges.ensures.0 c.if-exchanges.true),
  c.loop-i.invariant.1,
)

pub past-at-requires : goal.past-at-requires
past-at-requires c =
    let p = c.requires in
    let i = c.loop-i.invariant.0 in
    let n = few_used (step_of 32 c.gate_at-gate.result) _ c.used_by.ensures in
    (omega (arith, n), omega (arith, n), omega (arith, c.loop-i-test.true, i.few_a, p), omega (arith, c.loop-i-test.true, i.few_deals, p))

pub loop-i-preserved : goal.loop-i-preserved
loop-i-preserved c =
    let a = c.args in
    let h = a.host.now in
    let l = c.loop-i in
    let hs = piece_gates 32 (rows a.table.now) a.p in
    let b = c.past-at.ensures in
    let s = c.step.ensures in
    let within : l.i < length hs = omega (arith, c.loop-i-test.true, c.requires.0) in (
      passed 32 h.host h.masks.now h.deals.now hs a.p.from a.used.a a.used.deals (pair_of a.lanes.now)
          l.i l.at.a l.at.deals l.lanes.first l.lanes.second l.invariant.0 c.gate_at-gate.result
          (λ e. let t = c.exchanges.ensures.1 e in let f = c.if-exchanges.false in never (cc)) within (first_step 32 hs l.i _ c.gate_at-gate.ensures within) _ c.used_by.ensures _ _
          s.0 s.1 _ _ _ refl b.0 b.2,
      b.1 ∙ l.invariant.1,
    )

-- past its last gate
pub returns : goal.returns
returns c = (c.loop-i.i, c.loop-i.invariant.0, omega (arith, c.loop-i-test.false, c.requires.0), c.loop-i.invariant.1)
