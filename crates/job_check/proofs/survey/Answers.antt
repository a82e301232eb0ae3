use mathlib.Core.Path.{sym, ap, ◌∙◌}
use mathlib.Core.Logic.{inl, inr}
use Prim.Native.Nat.{◌*◌, ◌+◌, ◌≤◌}
use native.Mathlib.Omega.{arith}
use lib.ListN.{length}
use Rattle.jobs.specs.Refusals.{number_met}
use Rattle.jobs.proofs.Refusals.{numbered}
use Rattle.jobs.proofs.Sums.{job_counts, rows_few}
use Rattle.jobs.proofs.Turns.{given, refused, accepted, ill, starts, done, faulty, few_so_far, turn}
use Rattle.jobs.proofs.Marks.{unmarked, next_mark, all_marked}
use Rattle.job_check.specs.Tally.{tallied}
use Rattle.job_check.proofs.Tallies.{nothing, sum_fits, tallied_sum}
use Rattle.job_check.proofs.survey.Goals as goal
use Rattle.job_check.proofs.survey.Goals.{then-i-place, else-i-place}

pub returns-then-ill_sized : goal.returns-then-ill_sized
returns-then-ill_sized c =
    let q = refused 32 _ _ _ 2 0 (ill 32 _ _ (sym c.ill_sized.ensures ∙ c.if-ill_sized.true)) (λ z. omega arith) in
    record { found = q.0; passed = q.1 }

pub curve_tallies-curve-requires : goal.curve_tallies-curve-requires
curve_tallies-curve-requires c = rw c.rows_of.ensures (rows_few _ _ c.keeps_rules-ruled.ensures)

pub loop-i-init : goal.loop-i-init
loop-i-init c = (
  given _ _ (sym c.ill_sized.ensures ∙ c.if-ill_sized.false) c.keeps_rules-ruled.ensures,
  rw (← c.rows_of.ensures) c.curve_tallies-curve.ensures,
  starts 32 _ _ job_counts _ nothing,
  unmarked 32 _ _ _ job_counts _ nothing,
)

pub overflow_cast-index : goal.overflow_cast-index
overflow_cast-index c = let m = c.loop-i.invariant.0.most in omega (arith, m)

pub returns-in-Some : goal.returns-in-Some
returns-in-Some c =
    let l = c.loop-i in
    let h : l.i * 4 + 4 ≤ length c.args.job.now = omega arith in
    let ne = numbered c.in-Some.condition in
    let is = sym (ap number_met c.in-Some.is) ∙ c.order_fault.ensures in
    let q = refused 32 _ _ _ _ _ (faulty 32 _ _ l.invariant.2 l.invariant.0 h c.order_at-order.ensures is ne) ne in
    record { found = q.0; passed = q.1 }

pub overflow_add-whole : goal.overflow_add-whole
overflow_add-whole c =
    let l = c.loop-i in
    let h : l.i * 4 + 4 ≤ length c.args.job.now = omega arith in
    let f = few_so_far 32 _ _ l.invariant.2 l.invariant.0 h c.order_at-order.ensures
    c.order_fault.ensures (ap number_met c.in_default.is) (c.order_tally-whole.ensures _ l.invariant.1) in
    omega (arith, sum_fits _ _ f.0 f.1)

pub loop-i-preserved : goal.loop-i-preserved
loop-i-preserved c =
    let l = c.loop-i in
    let h : l.i * 4 + 4 ≤ length c.args.job.now = omega arith in
    let k = c.order_tally-whole.ensures _ l.invariant.1 in
    let z = ap number_met c.in_default.is in
    let f = few_so_far 32 _ _ l.invariant.2 l.invariant.0 h c.order_at-order.ensures c.order_fault.ensures z k in
    let g = turn 32 _ _ l.invariant.2 l.invariant.0 h c.order_at-order.ensures c.order_fault.ensures z k
    (tallied_sum _ _ f.0 f.1) in (
      l.invariant.0,
      l.invariant.1,
      g,
      next_mark 32 _ _ _ l.invariant.3 job_counts g (omega arith)
          (elim c.if-i-place.branch [ then-i-place w ↦ inl (w.if-i-place.true, ap tallied w.before-is) | else-i-place w ↦ inr (w.if-i-place.false, ap tallied w.before-is) ]),
    )

pub returns : goal.returns
returns c =
    let l = c.loop-i in
    let d = done 32 _ _ l.invariant.2 l.invariant.0 (omega arith) in
    let answered = accepted 32 _ _ _ _ _ d.0 (d.1 ∙ sym c.counts_of.ensures)
    (c.counts_of-2.ensures ∙ all_marked 32 _ _ _ l.invariant.3 (omega (arith, l.invariant.0.fours))) in
    record { found = answered.0; passed = answered.1 }
