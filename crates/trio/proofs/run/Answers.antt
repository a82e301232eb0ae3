use mathlib.Core.Path.{refl, ap, ◌∙◌}
use native.Mathlib.Omega.{arith}
use Prim.Native.Nat.{◌≤◌}
use lib.ListN.{length}
use Rattle.jobs.proofs.Refusals.{numbered, exits_with}
use Rattle.calls.specs.Scripts.{job_script}
use Rattle.runs.proofs.Chain.{job_closed}
use Rattle.trio.specs.Together.{trio_of, shared}
use Rattle.trio.proofs.Turns.{few_words, order_number, going_in, going_on, still_speaks, nearer, arrived, refused_together}
use Rattle.trio.proofs.run.Goals as goal

pub returns-in_err-s : goal.returns-in_err-s
returns-in_err-s c =
    let s = c.args in
    ap (λ r. trio_of r c.begin.new.deals) (exits_with c.from_residual.result c.from_residual.ensures.1)
    ∙ refused_together (job_script 32 s.job.now s.table.now) s.a.now s.b.now (shared s.registers) s.deals.now _
    c.in_err-s.ensures.deals_after (numbered c.in_err-s.field-0.0.refusal.condition)

pub overflow_cast-orders : goal.overflow_cast-orders
overflow_cast-orders c =
    let s = c.args in
    let k : length s.job.now ≤ 256 =
    few_words s.job.now s.table.now s.a.now s.b.now (shared s.registers) s.deals.now _ c.in_ok-s.ensures.deals_after
    refl in
    omega (arith, k)

pub loop-s-init : goal.loop-s-init
loop-s-init c =
    (refl, going_in _ _ _ _)

pub exchange-s-requires : goal.exchange-s-requires
exchange-s-requires c =
    let s = c.args in
    still_speaks (job_script 32 s.job.now s.table.now) s.a.now s.b.now (job_closed 32 s.job.now s.table.now) _
    (order_number s.job.now s.table.now) _ _ c.loop-s.invariant.1 (shared s.registers)
    c.in_ok-s.ensures.full s.deals.now c.in_ok-s.ensures.deals_after refl c.loop-s-test.true

pub loop-s-smaller : goal.loop-s-smaller
loop-s-smaller c =
    let s = c.args in
    nearer (job_script 32 s.job.now s.table.now) s.a.now s.b.now (job_closed 32 s.job.now s.table.now) _
    (order_number s.job.now s.table.now) _ _ c.loop-s.invariant.1 (shared s.registers)
    c.in_ok-s.ensures.full s.deals.now c.in_ok-s.ensures.deals_after refl _
    c.exchange-s.ensures c.loop-s-test.true

pub loop-s-preserved : goal.loop-s-preserved
loop-s-preserved c =
    let s = c.args in (
      refl,
      going_on _ _ _ (job_closed 32 s.job.now s.table.now) _ (order_number s.job.now s.table.now) _ _
          c.loop-s.invariant.1 _ c.exchange-s.ensures c.loop-s-test.true,
    )

pub returns : goal.returns
returns c =
    let s = c.args in
    arrived (job_script 32 s.job.now s.table.now) s.a.now s.b.now (job_closed 32 s.job.now s.table.now) _
    (order_number s.job.now s.table.now) _ _ c.loop-s.invariant.1 (shared s.registers) c.in_ok-s.ensures.full
    s.deals.now c.in_ok-s.ensures.deals_after refl c.loop-s-test.false
