use mathlib.Core.Path.{◌≡◌, sym, ap, subst, ◌∙◌}
use mathlib.Core.Bool.{true, false}
use mathlib.Core.List.{List}
use Prim.Native.Nat.{ℕ, ◌+◌, ◌≤◌, ◌<◌}
use native.Mathlib.Omega.{arith}
use lib.ListN.{length}
use Rattle.tables.specs.Table.{rows}
use Rattle.programs.specs.declared.Order.{Order}
use Rattle.jobs.specs.Job.{order_at}
use Rattle.jobs.specs.Counts.{counted}
use Rattle.calls.specs.declared.Stored.{Stored}
use Rattle.calendars.specs.Quarters.{held}
use Rattle.days.specs.Orders.{is_run}
use Rattle.days.proofs.Idle.{next_run}
use Rattle.days.proofs.Own.{own_at}
use Rattle.worker.specs.Jobs.{Sized, Standing, StandIs}
use Rattle.worker.proofs.Days.{sized_own, halts_in, long_left, ends_day, next_order}
use Rattle.worker.proofs.day.go_on.Goals as goal

pub resume-h-requires : goal.resume-h-requires
resume-h-requires c =
    let T = c.args.daily.table.now in
    let z = c.args.stand in
    let p = c.requires.1.0 in
    let e = sym c.order_words-words.ensures in (
      subst (λ (J : List ℕ). Sized 32 J T) e (sized_own T c.args.place.order c.requires.0.ruled),
      record {
        standing = subst (λ (J : List ℕ). Standing 32 J T 0 z.at.gate) e p.standing;
        is = subst (λ (q : Order). StandIs 32 (rows T) q z.at.gate z.at.used.a z.at.used.b z.at.used.deals z)
            (sym (own_at c.args.place.order) ∙ ap (λ (J : List ℕ). order_at J 0) e) c.requires.1.1;
        few_gates = p.few_gates;
        few_turns = p.few_turns;
        few_a = p.few_a;
        few_b = p.few_b;
        few_deals = p.few_deals;
      },
    )

pub returns-then-h-eq0 : goal.returns-then-h-eq0
returns-then-h-eq0 c =
    let a = c.args in
    let w : (k l : ℕ) (u : Stored) → _ = λ k l u.
    halts_in a.host.now.host a.host.now.masks.now a.host.now.deals.now a.daily.table.now a.daily.shares.now (counted a.daily.day.curve) _ a.daily.day.n c.requires.0
    a.place.order c.requires.1.0.in_day c.requires.1.0.run k l a.lanes.now.first a.lanes.now.second _ _ c.requires.2.0 c.requires.2.1 c.take_share.ensures.0 c.take_share.ensures.1
    a.place.turn _ _ _ _ c.requires.1.0 u a.heard _ c.order_words-words.ensures _ (c.resume-h.ensures u)
    c.if-h-eq0.true in
    record { long = (w 0 0 a.stand.walked).1; halt = λ k l u. c.halted.ensures _ _ ∙ (w k l u).0 }

pub returns-then-order-eq-QUARTERS : goal.returns-then-order-eq-QUARTERS
returns-then-order-eq-QUARTERS c =
    let a = c.args in
    let long : (length c.leave.new.lanes.first ≡ 24) × (length c.leave.new.lanes.second ≡ 24) =
    long_left a.host.now.host a.host.now.masks.now a.host.now.deals.now a.daily.table.now a.daily.shares.now (counted a.daily.day.curve) _ a.daily.day.n c.requires.0
    a.place.order c.requires.1.0.in_day c.requires.1.0.run 0 0 a.lanes.now.first a.lanes.now.second _ _ c.requires.2.0 c.requires.2.1 c.take_share.ensures.0 c.take_share.ensures.1
    a.place.turn _ _ _ _ c.requires.1.0 a.stand.walked a.heard _ c.order_words-words.ensures _ (c.resume-h.ensures a.stand.walked)
    c.if-h-eq0.false _ _ c.leave.ensures.0 c.leave.ensures.1 in
    record {
      long = long;
      halt = λ k l u. c.halted-then-order-eq-QUARTERS.ensures _ _
          ∙ ends_day a.host.now.host a.host.now.masks.now a.host.now.deals.now a.daily.table.now a.daily.shares.now (counted a.daily.day.curve) _ a.daily.day.n c.requires.0
          a.place.order c.requires.1.0.in_day c.requires.1.0.run k l a.lanes.now.first a.lanes.now.second _ _ c.requires.2.0 c.requires.2.1 c.take_share.ensures.0 c.take_share.ensures.1
          a.place.turn _ _ _ _ c.requires.1.0 u a.heard _ c.order_words-words.ensures _ (c.resume-h.ensures u)
          c.if-h-eq0.false _ _ c.leave.ensures.0 c.leave.ensures.1 c.if-order-eq-QUARTERS.true;
    }

pub overflow_add-order-2 : goal.overflow_add-order-2
overflow_add-order-2 c =
    omega (arith, c.requires.1.0.in_day)

pub begin-requires : goal.begin-requires
begin-requires c =
    let a = c.args in
    -- the order that is run next
    let next : let f = held a.daily.day.quarters in
    let r = c.next_counted-next.result in
    (a.place.order + 1 ≤ r) × (r ≤ 96) × (is_run f r ≡ true) × ((k : ℕ) → a.place.order + 1 ≤ k → k < r → f k ≡ false) =
    next_run (held a.daily.day.quarters) (a.place.order + 1) c.next_counted-next.result (omega (arith, c.requires.1.0.in_day, c.if-order-eq-QUARTERS.false))
    c.next_counted-next.ensures in
    -- the lanes that are left are as long as before
    let long : (length c.leave.new.lanes.first ≡ 24) × (length c.leave.new.lanes.second ≡ 24) =
    long_left a.host.now.host a.host.now.masks.now a.host.now.deals.now a.daily.table.now a.daily.shares.now (counted a.daily.day.curve) _ a.daily.day.n c.requires.0
    a.place.order c.requires.1.0.in_day c.requires.1.0.run 0 0 a.lanes.now.first a.lanes.now.second _ _ c.requires.2.0 c.requires.2.1 c.take_share.ensures.0 c.take_share.ensures.1
    a.place.turn _ _ _ _ c.requires.1.0 a.stand.walked a.heard _ c.order_words-words.ensures _ (c.resume-h.ensures a.stand.walked)
    c.if-h-eq0.false _ _ c.leave.ensures.0 c.leave.ensures.1 in
    (c.requires.0, next.1, next.2, long)

pub returns : goal.returns
returns c =
    let a = c.args in
    let n = (let fact : (let f = held c.args.daily.day.quarters in
    let r = c.next_counted-next.result in (c.args.place.order + 1 ≤ r) × (r ≤ 96) × (is_run f r ≡ true) × ((k : ℕ) → c.args.place.order + 1 ≤ k → k < r → f k ≡ false)) =
    next_run (held c.args.daily.day.quarters) (c.args.place.order + 1) c.next_counted-next.result (omega (arith, c.requires.1.0.in_day, c.if-order-eq-QUARTERS.false)) c.next_counted-next.ensures in fact) in record {
      long = c.begin.ensures.long;
      halt = λ k l u. c.begin.ensures.halt k l
          ∙ next_order a.host.now.host a.host.now.masks.now a.host.now.deals.now a.daily.table.now a.daily.shares.now (counted a.daily.day.curve) _ a.daily.day.n c.requires.0
          a.place.order c.requires.1.0.in_day c.requires.1.0.run k l a.lanes.now.first a.lanes.now.second _ _ c.requires.2.0 c.requires.2.1 c.take_share.ensures.0
          c.take_share.ensures.1 a.place.turn _ _ _ _ c.requires.1.0 u a.heard _ c.order_words-words.ensures _
          (c.resume-h.ensures u) c.if-h-eq0.false _ _ c.leave.ensures.0 c.leave.ensures.1 c.next_counted-next.result
          (omega (arith, n.0)) n.1 (λ q u v. n.3 q (omega (arith, u)) v);
    }
