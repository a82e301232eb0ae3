use mathlib.Core.Path.{sym, ap, ◌∙◌}
use Rattle.gates.specs.Costs.{Cost}
use Rattle.jobs.specs.Job.{Fault, job_cost}
use Rattle.jobs.proofs.Refusals.{numbered}
use Rattle.calls.specs.Scripts.{job_script}
use Rattle.calls.proofs.Lists.{given_registers}
use Rattle.walks.proofs.Prepared.{room_outset, refused, dealt_count, finished}
use borrow.Author.Rules.{rules}
use Rattle.dealer.proofs.preparing.prepare.Goals as goal

pub returns-in-Err : goal.returns-in-Err
returns-in-Err c =
    let s = c.args in
    refused (job_script 32 s.job.now s.table.now) s.a.now s.b.now s.deals.now (s.masks.l1, s.masks.l2) _ _
    c.in-Err.ensures.fault (numbered c.in-Err.refusal.condition)

pub deal_job-used-requires : goal.deal_job-used-requires
deal_job-used-requires c =
    let s = c.args in
    room_outset (job_script 32 s.job.now s.table.now) s.a.now s.b.now s.deals.now _ _
    (sym (ap (λ (f : Fault). f.0) c.in-Ok.ensures.fault))

pub prove-unreachable-requires : goal.prove-unreachable-requires
unfolding job_cost
prove-unreachable-requires c =
    let s = c.args in
    let e = sym (ap (λ (f : Fault). f.0) c.in-Ok.ensures.fault) in
    let n = dealt_count (job_script 32 s.job.now s.table.now) s.a.now s.b.now s.deals.now (s.masks.l1, s.masks.l2)
    _ _ _ e (c.copy_front.ensures ∙ given_registers s.masks.l1 (search rules))
    (c.copy_front-2.ensures ∙ given_registers s.masks.l2 (search rules)) c.deal_job-used.ensures in
    c.if-prove.true (n ∙ sym (ap (λ (k : Cost). k.deals) c.in-Ok.ensures.counts))

pub returns : goal.returns
returns c =
    let s = c.args in
    let e = sym (ap (λ (f : Fault). f.0) c.in-Ok.ensures.fault) in
    finished (job_script 32 s.job.now s.table.now) s.a.now s.b.now s.deals.now (s.masks.l1, s.masks.l2)
    _ _ _ e (c.copy_front.ensures ∙ given_registers s.masks.l1 (search rules))
    (c.copy_front-2.ensures ∙ given_registers s.masks.l2 (search rules))
    c.deal_job-used.ensures _ _ c.registers.ensures.0 c.registers.ensures.1
