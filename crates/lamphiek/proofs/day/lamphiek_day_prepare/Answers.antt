use mathlib.Core.Path.{◌∙◌}
use Rattle.lamphiek.proofs.Told.{from_dealer, buffer_of}
use Rattle.lamphiek.proofs.day.lamphiek_day_prepare.Goals as goal

pub returns : goal.returns
returns c =
    let h = c in
    let a = h.args in
    let answered = from_dealer _ _ _ _ a.masks.now h.prepare_day-p.ensures (c.put_prepared.ensures.answer _) (c.put_prepared.ensures.masks _) in
    record { answer = answered.0; buffer = buffer_of c.prepare_day-p.result _ ∙ answered.1.0; masks = answered.1.1 }
