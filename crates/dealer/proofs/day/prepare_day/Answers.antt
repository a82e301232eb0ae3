use mathlib.Core.Path.{refl, sym, ap, ◌∙◌}
use native.Mathlib.Omega.{arith}
use lib.ListN.{take}
use Rattle.jobs.specs.Job.{Fault}
use Rattle.jobs.proofs.Refusals.{numbered}
use Rattle.days.specs.Day.{hours}
use Rattle.std.specs.Prelude.{Err}
use Rattle.dealer.specs.Answers.{answer}
use Rattle.dealer.proofs.Days.{day_refused, day_lent, n_is, day_room, few_dealt, day_answer}
use Rattle.dealer.proofs.day.prepare_day.Goals as goal

pub returns-in-Err : goal.returns-in-Err
returns-in-Err c =
    let s = c.args in
    ap (λ r. answer (Err r) s.deals.now) c.refused.ensures
    ∙ day_refused s.table.now s.shares.now (hours s.calendar.now s.weekday) s.a.now s.b.now s.deals.now _
    c.in-Err.ensures.fault (numbered c.in-Err.condition)

pub deal_day-used-requires : goal.deal_day-used-requires
deal_day-used-requires c =
    let H = hours c.args.calendar.now c.args.weekday in
    let found = c.in-Ok.ensures in
    let none = sym (ap (λ (f : Fault). f.0) found.fault) in
    let s = c.args in (
      (day_lent s.table.now s.shares.now H s.a.now s.b.now s.deals.now none).0,
      (refl, refl),
      n_is s.table.now s.shares.now H s.a.now s.b.now s.deals.now none _ found.day,
      day_room s.table.now s.shares.now H s.a.now s.b.now s.deals.now none _ found.day _ _,
    )

pub overflow_cast-result : goal.overflow_cast-result
overflow_cast-result c =
    let H = hours c.args.calendar.now c.args.weekday in
    let found = c.in-Ok.ensures in
    let none = sym (ap (λ (f : Fault). f.0) found.fault) in
    let s = c.args in
    omega (
      arith,
      few_dealt s.table.now s.shares.now H s.a.now s.b.now s.deals.now none _
          found.day _ _ _ _ c.deal_day-used.ensures.dealt,
    )

pub returns : goal.returns
returns c =
    let H = hours c.args.calendar.now c.args.weekday in
    let found = c.in-Ok.ensures in
    let none = sym (ap (λ (f : Fault). f.0) found.fault) in
    let s = c.args in
    day_answer s.table.now s.shares.now H s.a.now s.b.now s.deals.now none _
    found.day _ _ _ _ c.deal_day-used.ensures.dealt c.deal_day-used.ensures.long.0 c.deal_day-used.ensures.long.1
    _ _ (c.registers.ensures.0 ∙ ap (take 16) c.put.ensures) (c.registers.ensures.1 ∙ ap (take 16) c.put-2.ensures)
