use mathlib.Core.Path.{refl, sym, ◌∙◌}
use Rattle.jobs.specs.Job.{job_gates, steps_of}
use Rattle.jobs.specs.Counts.{counted}
use Rattle.jobs.proofs.Refusals.{numbered}
use Rattle.calls.proofs.Faults.{all_passed}
use Rattle.calls.specs.Scripts.{job_script}
use Rattle.calls.proofs.Scripts.{job_made}
use Rattle.worker.specs.Answers.{state_of}
use Rattle.jobs.proofs.Indices.{gates_count}
use Rattle.worker.proofs.Jobs.{sized}
use Rattle.walks.proofs.Answers.{hear_refused, at_nowhere, at_unequal, at_exchange, past_programs}
use Rattle.worker.proofs.Places.{are_equal, are_unequal, accepted, none_there, found_there, stands_by, whole_job}
use Rattle.worker.proofs.Places.{steps_here, speaks_here, walked_here}
use Rattle.worker.proofs.State.hear.Goals as goal

pub returns-in-Err : goal.returns-in-Err
returns-in-Err c =
    let a = c.args in
    hear_refused a.host (job_script 32 a.job.now a.table.now) a.masks.now a.deals.now _ _
    c.in-Err.ensures.fault (state_of a.self) a.heard (numbered c.in-Err.refusal.condition)

pub returns-then-n-order : goal.returns-then-n-order
returns-then-n-order c =
    let a = c.args in
    let u = c.in-Ok.ensures in
    let counts = u.counts ∙ all_passed _ in
    let J = a.job.now in
    let T = a.table.now in
    let past = c.if-n-order.true in
    c.refused.ensures
    ∙ past_programs a.host (job_script 32 J T) a.masks.now a.deals.now _ _ u.fault
    (state_of a.self) a.heard refl 32 (job_gates 32 J T) (job_made 32 J T) _ (gates_count 32 J T)
    (counted c.in-Ok.before)
    (whole_job 32 J T a.host a.masks.now a.deals.now _ _ u.fault refl
    (sized J T (accepted 32 J T a.host a.masks.now a.deals.now _ _ u.fault refl)) a.self.order past _
    counts) _ past c.end_fault-condition.ensures

pub returns-in_default : goal.returns-in_default
unfolding steps_of
returns-in_default c =
    let a = c.args in
    let u = c.in-Ok.ensures in
    let counts = u.counts ∙ all_passed _ in
    let J = a.job.now in
    let T = a.table.now in
    c.refused-in_default.ensures
    ∙ at_nowhere a.host (job_script 32 J T) a.masks.now a.deals.now _ _ u.fault (state_of a.self) a.heard refl
    (none_there 32 J T a.host a.masks.now a.deals.now _ _ u.fault refl a.self.order a.self.turn
    c.if-n-order.false _ c.order_at-o.ensures _ c.seek.ensures.is c.in_default.is)

pub stand_at-stand-requires : goal.stand_at-stand-requires
stand_at-stand-requires c =
    let a = c.args in
    let u = c.in-Ok.ensures in
    let counts = u.counts ∙ all_passed _ in
    let J = a.job.now in
    let T = a.table.now in
    let t = found_there 32 J T a.host a.masks.now a.deals.now _ _ u.fault refl a.self.order a.self.turn
    c.if-n-order.false _ c.order_at-o.ensures _ c.seek.ensures.is
    (sized J T (accepted 32 J T a.host a.masks.now a.deals.now _ _ u.fault refl)) _ c.in-Some.is (counted c.in-Ok.before) counts in
    (t.few_a, t.few_b, t.few_deals)

pub returns-then-ne : goal.returns-then-ne
unfolding steps_of
returns-then-ne c =
    let a = c.args in
    let u = c.in-Ok.ensures in
    let counts = u.counts ∙ all_passed _ in
    let J = a.job.now in
    let T = a.table.now in
    let small = sized J T (accepted 32 J T a.host a.masks.now a.deals.now _ _ u.fault refl) in
    let S = stands_by 32 J T a.host a.masks.now a.deals.now _ _ u.fault refl a.self.order a.self.turn
    c.if-n-order.false _ c.order_at-o.ensures _ c.seek.ensures.is small _ c.in-Some.is
    (counted c.in-Ok.before) counts _ c.stand_at-stand.ensures in
    let o = a.self.order in
    c.refused-then-ne.ensures
    ∙ at_unequal a.host (job_script 32 J T) a.masks.now a.deals.now _ _ u.fault
    (state_of a.self) a.heard refl _ _ _ _ (speaks_here 32 J T o _ _ _ _ S.0.standing _ S.1)
    (steps_here 32 J T o _ _ _ _ S.0.standing _ S.1) S.0.is
    (λ e. are_unequal a.self.stored _ c.if-ne.ensures (e ∙ sym (walked_here 32 J T o _ _ _ _ S.0.standing _ S.1 a.self.turn)))

pub resume-h-requires : goal.resume-h-requires
resume-h-requires c =
    let a = c.args in
    let u = c.in-Ok.ensures in
    let counts = u.counts ∙ all_passed _ in
    let J = a.job.now in
    let T = a.table.now in
    let small = sized J T (accepted 32 J T a.host a.masks.now a.deals.now _ _ u.fault refl) in
    let S = stands_by 32 J T a.host a.masks.now a.deals.now _ _ u.fault refl a.self.order a.self.turn
    c.if-n-order.false _ c.order_at-o.ensures _ c.seek.ensures.is small _ c.in-Some.is
    (counted c.in-Ok.before) counts _ c.stand_at-stand.ensures in (
      small,
      record {
        standing = S.0.standing;
        is = S.1;
        few_gates = S.0.few_gates;
        few_turns = S.0.few_turns;
        few_a = S.0.few_a;
        few_b = S.0.few_b;
        few_deals = S.0.few_deals;
      },
    )

pub returns : goal.returns
unfolding steps_of
returns c =
    let a = c.args in
    let u = c.in-Ok.ensures in
    let counts = u.counts ∙ all_passed _ in
    let J = a.job.now in
    let T = a.table.now in
    let small = sized J T (accepted 32 J T a.host a.masks.now a.deals.now _ _ u.fault refl) in
    let S = stands_by 32 J T a.host a.masks.now a.deals.now _ _ u.fault refl a.self.order a.self.turn
    c.if-n-order.false _ c.order_at-o.ensures _ c.seek.ensures.is small _ c.in-Some.is
    (counted c.in-Ok.before) counts _ c.stand_at-stand.ensures in
    let o = a.self.order in
    c.answered.ensures
    ∙ c.resume-h.ensures a.self.stored
    ∙ at_exchange a.host (job_script 32 J T) a.masks.now a.deals.now _ _ u.fault
    (state_of a.self) a.heard refl _ _ _ _ (speaks_here 32 J T o _ _ _ _ S.0.standing _ S.1)
    (steps_here 32 J T o _ _ _ _ S.0.standing _ S.1) S.0.is
    (are_equal a.self.stored _ c.if-ne.ensures ∙ walked_here 32 J T o _ _ _ _ S.0.standing _ S.1 a.self.turn)
