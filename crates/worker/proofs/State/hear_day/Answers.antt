use mathlib.Core.Path.{refl, sym, ap, ◌∙◌}
use native.Mathlib.Omega.{arith}
use Rattle.jobs.proofs.Refusals.{numbered}
use Rattle.jobs.specs.Counts.{counted}
use Rattle.calls.specs.declared.Stored.{Stored}
use Rattle.calendars.specs.Quarters.{held}
use Rattle.days.specs.Day.{hours}
use Rattle.days.specs.DayCalls.{day_hear}
use Rattle.worker.specs.Answers.{state_of, state_with}
use Rattle.worker.proofs.Days.{lent_few, none_placed, placed_day, stands_in}
use Rattle.worker.proofs.Places.{are_equal, are_unequal}
use Rattle.worker.proofs.DayCalls.{same_day, day_lent, whole_day, hear_turned, hear_past, hear_nowhere, hear_unequal}
use Rattle.worker.proofs.State.hear_day.Goals as goal

pub returns-in-Err : goal.returns-in-Err
returns-in-Err c =
    let a = c.args in
    let H = hours a.calendar.now a.weekday in
    let l = c.in-Err in
    c.refused.ensures
    ∙ hear_turned a.host a.table.now a.shares.now H a.masks.now a.deals.now _ l.ensures.fault (state_of a.self) (omega (arith, c.well_formed)) (omega (arith, c.well_formed)) a.heard (numbered l.condition)

pub returns-then-order-gt-QUARTERS : goal.returns-then-order-gt-QUARTERS
returns-then-order-gt-QUARTERS c =
    let a = c.args in
    let H = hours a.calendar.now a.weekday in
    let l = c.in-Ok in
    c.refused-then-order-gt-QUARTERS.ensures
    ∙ hear_past a.host a.table.now a.shares.now H a.masks.now a.deals.now _ l.ensures.fault (state_of a.self) (omega (arith, c.well_formed)) (omega (arith, c.well_formed)) a.heard refl (counted l.checked.whole)
    (whole_day a.host a.table.now a.shares.now H a.masks.now a.deals.now _ l.ensures.fault refl _ l.ensures.day) _ (omega (arith, c.if-order-gt-QUARTERS.true)) c.end_fault-condition.ensures

pub returns-in_default : goal.returns-in_default
returns-in_default c =
    let a = c.args in
    let H = hours a.calendar.now a.weekday in
    let l = c.in-Ok in
    let f = held l.checked.day.quarters in
    c.refused-in_default.ensures
    ∙ hear_nowhere a.host a.table.now a.shares.now H a.masks.now a.deals.now _ l.ensures.fault (state_of a.self) (omega (arith, c.well_formed)) (omega (arith, c.well_formed)) a.heard refl f
    (same_day a.host a.table.now a.shares.now H a.masks.now a.deals.now _ l.ensures.fault refl _ l.ensures.day)
    (none_placed a.table.now f a.self.order a.self.turn (omega (arith, c.if-order-gt-QUARTERS.false)) _ c.place_in.ensures c.in_default.is)

pub used_before-requires : goal.used_before-requires
used_before-requires c =
    let a = c.args in
    let H = hours a.calendar.now a.weekday in
    let l = c.in-Ok in
    (lent_few _ _ _ _ _ (day_lent a.host a.table.now a.shares.now H a.masks.now a.deals.now _ l.ensures.fault refl _ l.ensures.day), omega (arith, c.if-order-gt-QUARTERS.false))

pub stand_at-stand-requires : goal.stand_at-stand-requires
stand_at-stand-requires c =
    let a = c.args in
    let H = hours a.calendar.now a.weekday in
    let l = c.in-Ok in
    let f = held l.checked.day.quarters in
    let L = day_lent a.host a.table.now a.shares.now H a.masks.now a.deals.now _ l.ensures.fault refl _ l.ensures.day in
    let placed = placed_day a.table.now f a.self.order a.self.turn (omega (arith, c.if-order-gt-QUARTERS.false)) _ c.place_in.ensures L.ruled _ c.in-Some.is
    (counted l.checked.day.curve) (counted c.used_before.result) L.counts c.used_before.ensures in
    (placed.few_a, placed.few_b, placed.few_deals)

pub returns-then-ne : goal.returns-then-ne
returns-then-ne c =
    let a = c.args in
    let H = hours a.calendar.now a.weekday in
    let l = c.in-Ok in
    let f = held l.checked.day.quarters in
    let L = day_lent a.host a.table.now a.shares.now H a.masks.now a.deals.now _ l.ensures.fault refl _ l.ensures.day in
    let placed = placed_day a.table.now f a.self.order a.self.turn (omega (arith, c.if-order-gt-QUARTERS.false)) _ c.place_in.ensures L.ruled _ c.in-Some.is
    (counted l.checked.day.curve) (counted c.used_before.result) L.counts c.used_before.ensures in
    let p = stands_in _ _ _ _ _ _ _ _ placed _ c.order_words-job.ensures _ c.order_at.ensures _ c.stand_at-stand.ensures in
    c.refused-then-ne.ensures
    ∙ hear_unequal a.host a.table.now a.shares.now H a.masks.now a.deals.now _ l.ensures.fault (state_of a.self) (omega (arith, c.well_formed)) (omega (arith, c.well_formed)) a.heard refl f
    (same_day a.host a.table.now a.shares.now H a.masks.now a.deals.now _ l.ensures.fault refl _ l.ensures.day) _ p.0 p.1 (are_unequal a.self.stored _ c.if-ne.ensures)

pub hear_there-h-requires : goal.hear_there-h-requires
hear_there-h-requires c =
    let a = c.args in
    let H = hours a.calendar.now a.weekday in
    let l = c.in-Ok in
    let f = held l.checked.day.quarters in
    let L = day_lent a.host a.table.now a.shares.now H a.masks.now a.deals.now _ l.ensures.fault refl _ l.ensures.day in
    let placed = placed_day a.table.now f a.self.order a.self.turn (omega (arith, c.if-order-gt-QUARTERS.false)) _ c.place_in.ensures L.ruled _ c.in-Some.is
    (counted l.checked.day.curve) (counted c.used_before.result) L.counts c.used_before.ensures in
    let p = stands_in _ _ _ _ _ _ _ _ placed _ c.order_words-job.ensures _ c.order_at.ensures _ c.stand_at-stand.ensures in
    (L, p, (omega (arith, c.well_formed), omega (arith, c.well_formed)))

pub returns : goal.returns
returns c =
    let a = c.args in
    let l = c.in-Ok in
    c.answered.ensures
    ∙ c.hear_there-h.ensures (hours a.calendar.now a.weekday)
    (same_day a.host a.table.now a.shares.now (hours a.calendar.now a.weekday) a.masks.now a.deals.now _ l.ensures.fault refl _ l.ensures.day)
    l.ensures.fault
    ∙ ap (λ (u : Stored). day_hear 32 a.host a.table.now a.shares.now (hours a.calendar.now a.weekday) a.masks.now
    a.deals.now (state_with a.self.m a.self.mask a.self.order a.self.turn u) a.heard)
    (sym (are_equal a.self.stored _ c.if-ne.ensures))
