use mathlib.Core.Path.{sym, ap, subst, ◌∙◌}
use mathlib.Core.List.{List}
use Prim.Native.Nat.{ℕ, ◌≤◌}
use native.Mathlib.Omega.{arith}
use Rattle.gates.specs.Costs.{Cost}
use Rattle.programs.specs.Sizes.{times_cost}
use Rattle.jobs.specs.Counts.{counted}
use Rattle.worker.specs.Jobs.{Sized}
use Rattle.calendars.specs.Quarters.{held}
use Rattle.calendars.specs.Ranges.{number}
use Rattle.calendars.proofs.Counting.{number_le}
use Rattle.days.proofs.Counts.{few_words}
use Rattle.worker.specs.Days.{used_until}
use Rattle.worker.proofs.Days.{lent_few, sized_own, begun_as}
use Rattle.worker.proofs.day.begin.Goals as goal

pub used_before-used-requires : goal.used_before-used-requires
used_before-used-requires c =
    (lent_few _ _ _ _ _ c.requires.0, c.requires.1)

pub advance-h-requires : goal.advance-h-requires
unfolding times_cost used_until
advance-h-requires c =
    let f = (let fact : (let u = c.used_before-used.result in (u.a ≤ 96000) × (u.b ≤ 96000) × (u.deals ≤ 96000)) =
    let k = c.args.daily.day.curve in
    let n = number (held c.args.daily.day.quarters) 0 c.args.order in
    let l : n ≤ 96 = omega (arith, number_le (held c.args.daily.day.quarters) 0 c.args.order, c.requires.1) in
    let f = lent_few _ _ _ _ _ c.requires.0 in
    let e = c.used_before-used.ensures in (omega (arith, ap (λ (k : Cost). k.a) e, few_words k.a n f.2 l), omega (arith, ap (λ (k : Cost). k.b) e, few_words k.b n f.3 l), omega (arith, ap (λ (k : Cost). k.deals) e, few_words k.deals n f.0 l)) in fact) in (
      subst (λ (J : List ℕ). Sized 32 J c.args.daily.table.now) (sym c.order_words-words.ensures)
          (sized_own c.args.daily.table.now c.args.order c.requires.0.ruled),
      omega arith,
      omega (arith, f.0),
      omega (arith, f.2),
      omega (arith, f.1),
    )

pub returns : goal.returns
returns c =
    let a = c.args in
    let w : (k l : ℕ) → _ = λ k l.
    begun_as a.host.now.host a.host.now.masks.now a.host.now.deals.now a.daily.table.now a.daily.shares.now (counted a.daily.day.curve) _ a.daily.day.n c.requires.0 a.order
    c.requires.1 c.requires.2 k l a.lanes.now.first a.lanes.now.second _ _ c.requires.3.0 c.requires.3.1 c.take_share.ensures.0
    c.take_share.ensures.1 _ c.order_words-words.ensures (counted c.used_before-used.result) c.used_before-used.ensures _ _
    c.enter.ensures.0 c.enter.ensures.1 _ c.advance-h.ensures in
    record { long = (w 0 0).1; halt = λ k l. c.halted.ensures _ _ ∙ (w k l).0 }
