use mathlib.Core.Path.{ap, ◌∙◌}
use Rattle.calls.specs.Calls as Calls
use Rattle.calls.specs.Scripts.{job_script}
use Rattle.lamphiek.proofs.Told.{from_dealer, buffer_of}
use Rattle.lamphiek.proofs.stepping.lamphiek_prepare.Goals as goal

pub returns : goal.returns
returns c =
    let h = c in
    let s = h in
    let a = s.args in
    let same = h.prepare-p.ensures
    ∙ ap (Calls.prepare (job_script 32 a.job.now a.table.now) a.a.now a.b.now a.deals.now) s.masks_in.ensures in
    let answered = from_dealer _ _ _ _ a.masks.now same (c.put_prepared.ensures.answer _) (c.put_prepared.ensures.masks _) in
    record { answer = answered.0; buffer = buffer_of c.prepare-p.result _ ∙ answered.1.0; masks = answered.1.1 }
