use mathlib.Core.Path.{refl, sym, ap, ◌∙◌}
use native.Mathlib.Omega.{arith}
use Rattle.jobs.proofs.Refusals.{numbered}
use Rattle.calls.specs.Calls.{Answer, refused}
use Rattle.calls.specs.Scripts.{job_script}
use Rattle.runs.proofs.Progress.{unless_zero}
use Rattle.worker.specs.Answers.{answer_of}
use Rattle.trio.specs.Together.{shared}
use Rattle.trio.proofs.Turns.{not_turned, no_start, begins, start1_speaks, start2_speaks}
use Rattle.trio.proofs.begin.Goals as goal

pub returns-in-Err : goal.returns-in-Err
returns-in-Err c =
    let a = c.args in
    let ne = numbered c.in-Err.refused.refusal.condition in record {
      deals_after = begins (job_script 32 a.job.now a.table.now) a.a.now a.b.now (shared a.registers) a.deals.now _ _ _ _
          c.in-Err.ensures refl (ap (refused _) c.given.ensures ∙ no_start _ _ _ _ ne)
          (ap (refused _) c.given-in-Err.ensures ∙ no_start _ _ _ _ ne);
      full = record { m = omega (arith, c.well_formed); l1 = omega (arith, c.well_formed); l2 = omega (arith, c.well_formed) };
    }

pub unwrap-one-requires : goal.unwrap-one-requires
unwrap-one-requires c =
    let a = c.args in
    not_turned c.start.result
    (ap (λ (x : Answer). x.number) c.start.ensures
    ∙ start1_speaks (job_script 32 a.job.now a.table.now) a.a.now a.b.now (shared a.registers)
    (record { m = omega (arith, c.well_formed); l1 = omega (arith, c.well_formed); l2 = omega (arith, c.well_formed) })
    a.deals.now _ _ c.in-Ok.ensures refl refl)

pub unwrap-two-requires : goal.unwrap-two-requires
unwrap-two-requires c =
    let a = c.args in
    not_turned c.start-2.result
    (ap (λ (x : Answer). x.number) c.start-2.ensures
    ∙ start2_speaks (job_script 32 a.job.now a.table.now) a.a.now a.b.now (shared a.registers)
    (record { m = omega (arith, c.well_formed); l1 = omega (arith, c.well_formed); l2 = omega (arith, c.well_formed) })
    a.deals.now _ _ c.in-Ok.ensures refl refl)

pub returns : goal.returns
returns c =
    let a = c.args in record {
      deals_after = begins (job_script 32 a.job.now a.table.now) a.a.now a.b.now (shared a.registers) a.deals.now _ _ _ _
          c.in-Ok.ensures refl
          (ap answer_of (sym c.unwrap-one.ensures) ∙ c.start.ensures ∙ sym (unless_zero 0 _ _ _ refl))
          (ap answer_of (sym c.unwrap-two.ensures) ∙ c.start-2.ensures ∙ sym (unless_zero 0 _ _ _ refl));
      full = record { m = omega (arith, c.well_formed); l1 = omega (arith, c.well_formed); l2 = omega (arith, c.well_formed) };
    }
