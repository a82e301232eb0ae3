use mathlib.Core.Path.{refl}
use Rattle.calendars.specs.Quarters.{held}
use Rattle.worker.specs.Answers.{state_with}
use Rattle.worker.proofs.DayCalls.{hear_done}
use Rattle.worker.proofs.day.hear_there.Goals as goal

pub returns : goal.returns
returns c =
    let a = c.args in
    let h = a.host.now in
    λ H same none.
    rw (c.put.ensures, c.put-2.ensures)
    (hear_done h.host a.daily.table.now a.daily.shares.now H h.masks.now h.deals.now _
    none (state_with a.lanes.now.first a.lanes.now.second a.place.order a.place.turn a.stand.walked) c.requires.2.0 c.requires.2.1 a.heard
    refl (held a.daily.day.quarters) same a.stand c.requires.1.0 c.requires.1.1 refl c.go_on-h.result _ _ _ _ c.go_on-h.ensures.long.0
    c.go_on-h.ensures.long.1 c.at-first.ensures c.at-second.ensures (c.go_on-h.ensures.halt _ _ a.stand.walked))
