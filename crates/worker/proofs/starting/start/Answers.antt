use mathlib.Core.Path.{refl, sym, ap, ◌∙◌}
use native.Mathlib.Omega.{arith}
use Rattle.jobs.specs.Job.{Fault, job_gates}
use Rattle.jobs.specs.Refusals.{fault_found}
use Rattle.jobs.proofs.Refusals.{numbered}
use Rattle.calls.specs.Calls.{refused}
use Rattle.calls.specs.Scripts.{job_script}
use Rattle.calls.proofs.Scripts.{job_made}
use Rattle.worker.specs.Answers.{lanes_of}
use Rattle.calls.proofs.Faults.{no_fault}
use Rattle.calls.proofs.Lists.{given_registers}
use Rattle.worker.proofs.Jobs.{sized}
use Rattle.walks.proofs.Answers.{start_refused, started}
use borrow.Author.Rules.{rules}
use Rattle.worker.proofs.starting.start.Goals as goal

pub returns-in-Err : goal.returns-in-Err
returns-in-Err c =
    let a = c.args in
    ap (refused _) c.first_state-state.ensures
    ∙ start_refused a.host (job_script 32 a.job.now a.table.now) a.masks.now a.deals.now _ _
    c.in-Err.ensures.fault
    (lanes_of a.registers) _ _ (c.copy_front.ensures ∙ given_registers a.registers.m (search rules))
    (c.copy_front-2.ensures ∙ given_registers a.registers.mask (search rules)) (numbered c.in-Err.refusal.condition)

pub advance-h-requires : goal.advance-h-requires
advance-h-requires c =
    let a = c.args in
    let none = ap (λ (f : Fault). f.0) (sym (sym (ap fault_found c.in_default.is) ∙ c.check_lent.ensures.fault)) in (
      sized a.job.now a.table.now (no_fault _ (job_script 32 a.job.now a.table.now) _ _ none),
      omega arith,
      omega arith,
      omega arith,
      omega arith,
    )

pub returns : goal.returns
returns c =
    let a = c.args in
    let J = a.job.now in
    let T = a.table.now in
    c.answered.ensures
    ∙ c.advance-h.ensures
    ∙ started a.host (job_script 32 J T) a.masks.now a.deals.now _ _ (sym (ap fault_found c.in_default.is) ∙ c.check_lent.ensures.fault) (lanes_of a.registers) _ _
    (c.copy_front.ensures ∙ given_registers a.registers.m (search rules))
    (c.copy_front-2.ensures ∙ given_registers a.registers.mask (search rules)) 32 (job_gates 32 J T) (job_made 32 J T) refl
