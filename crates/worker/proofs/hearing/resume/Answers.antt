use mathlib.Core.Path.{refl, ◌∙◌}
use native.Mathlib.Omega.{arith}
use Rattle.gates.specs.Codes.{step_of}
use Rattle.gates.specs.Costs.{used_at}
use Rattle.jobs.specs.Job.{job_gates}
use Rattle.worker.specs.Answers.{state_with}
use Rattle.walks.proofs.Programs.{resumed}
use Rattle.worker.proofs.Places.{steps_here, speaks_here, behind_a, behind_deals, few_behind}
use Rattle.worker.proofs.hearing.resume.Goals as goal

pub advance-requires : goal.advance-requires
advance-requires c =
    let s = c.requires.1 in
    let a = c.args in
    let f = few_behind 32 a.job.orders.now a.job.table.now a.place.order _ _ _ _ s.standing a.stand s.is in
    (c.requires.0, omega (arith, s.few_gates), omega (arith, f, s.few_a), omega (arith, f, s.few_deals), omega (arith, s.few_b))

pub returns : goal.returns
returns c =
    let a = c.args in
    let z = a.stand in
    let h = a.host.now in
    let l = a.lanes.now in
    let J = a.job.orders.now in
    let T = a.job.table.now in
    let o = a.place.order in
    let S = c.requires.1.standing in
    let Z = c.requires.1.is in
    λ q.
    c.advance.ensures
    ∙ resumed 32 h.host h.masks.now h.deals.now (job_gates 32 J T) o z.at.gate (step_of 32 z.gate)
    (steps_here 32 J T o _ _ _ _ S z Z) (speaks_here 32 J T o _ _ _ _ S z Z)
    (state_with l.first l.second o a.place.turn q) a.heard
    z.at.used.a z.at.used.b z.at.used.deals _ _ _ _ _ (used_at (step_of 32 z.gate)) refl c.meet.ensures refl
    (behind_a 32 J T o _ _ _ _ S z Z) (behind_deals 32 J T o _ _ _ _ S z Z)
