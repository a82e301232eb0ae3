-- The runs of a day's own calls are the runs of its script, whole ones exist, and at the day's end they open the mean and
-- the count. Assumes nothing.
use mathlib.Core.Path.{◌≡◌, ap, ap₂, ◌∙◌, subst}
use mathlib.Core.List.{List, []}
use Prim.Native.Nat.{ℕ, ◌≤◌, ◌<◌}
use native.Mathlib.Nat.{lt_of_lt_of_le}
use native.Mathlib.Omega.{arith}
use lib.Dec.{lit<, lit≤}
use lib.IntN.{ℤ, pos, ◌*ℤ◌}
use lib.ListN.{take}
use lib.Seq.{get_or-take}
use Rattle.words.specs.Signed.{floor}
use Rattle.gates.specs.Hosts.{Pair}
use Rattle.calls.specs.Scripts.{orders_in}
use Rattle.calls.specs.Calls.{State}
use Rattle.runs.specs.Runs.{Stage, Dealer, idle, ready, Side, waiting, going, dealer_holds, side_state, World, world, registers, Call}
use Rattle.runs.specs.Runs.{given_out, Run, side_order, Finished, opened_slot, buffer_of, Accepted}
use Rattle.runs.specs.Orders.{Words, Finishes}
use Rattle.runs.specs.Returned.{opened_now}
use Rattle.runs.proofs.Kept.{After, Ok, ok, kept}
use Rattle.runs.proofs.Standing.{order1_inside, order2_inside}
use Rattle.runs.proofs.Same.{strict}
use Rattle.demands.specs.Conditions.{PreparationIs}
use Rattle.demands.proofs.Whole.{whole}
use Rattle.days.specs.DayCalls.{own_state}
use Rattle.day_demands.specs.Settings.{DaySetting, day_staged}
use Rattle.day_demands.specs.Runs.{DayDealer, unprepared, prepared, DayHost, resting, running, DayWorld, day_world, host_state, DayCompletes, DayRun}
use Rattle.day_demands.specs.Runs.{SameDealer, SameHost, Same, day_buffer, dealer_masks, host_lanes, day_opened}
use Rattle.day_demands.specs.Numbers.{day_terms}
use Rattle.day_demands.specs.Opened.{sum_of, above_of, factor_of, Sheet}
use Rattle.day_demands.specs.Returned.{AtEnd, BothAtEnd, DayReturned}
use Rattle.day_demands.proofs.Opened.{day_opens}
use Rattle.day_demands.proofs.Whole.{old_factor, old_sum, old_above}
use Rattle.day_demands.proofs.DayRuns.{given_lanes, given_held, followed}
use Rattle.day_demands.proofs.Back.{back, led}

-- host 2 goes on only after the preparation
after : (S : Stage) {z : Dealer} {buf : List ℕ} {one two : Side} → Ok S (world z buf one two) → After S z two
after S (ok d p q a) = a

-- the registers that the day's hosts hold are those of the run's
slot_same : (w : ℕ) (r : Pair) (s t : State) (i : ℕ) → i < 16
    → opened_slot w (take 16 r.0, take 16 r.1) (registers 24 s) (registers 24 t) i
    ≡ opened_slot w r (registers 120 s) (registers 120 t) i
slot_same w r s t i h =
    let k : i < 24 = lt_of_lt_of_le h (lit≤ tt) in
    let n : i < 120 = lt_of_lt_of_le h (lit≤ tt) in
    rw (
      get_or-take 16 r.0 i 0 h,
      get_or-take 16 r.1 i 0 h,
      get_or-take 24 s.m i 0 k,
      get_or-take 24 s.mask i 0 k,
      get_or-take 24 t.m i 0 k,
      get_or-take 24 t.mask i 0 k,
      get_or-take 120 s.m i 0 n,
      get_or-take 120 s.mask i 0 n,
      get_or-take 120 t.m i 0 n,
      get_or-take 120 t.mask i 0 n,
    )

-- a host at the end: the run's host is past the mean, and holds the same
host_ended : (x : DayHost) (y : Side) → SameHost x y → AtEnd x → (96 < side_order y) × (host_state x ≡ own_state (side_state y))
host_ended (resting s) (waiting s') p e = absurd e
host_ended (resting s) (going s' t said') p e = absurd e
host_ended (running s said) (waiting s') p e = absurd p
host_ended (running s said) (going s' t said') p e = (omega (arith, ap (λ (x : State). x.order) p.0, e), p.0)

-- host 0 has prepared, and holds the same masks
dealer_ended : (S : Stage) (z : DayDealer) (z' : Dealer) (two : Side) → SameDealer z z' → After S z' two
    → 96 < side_order two
    → dealer_masks z ≡ (take 16 (dealer_holds z').0, take 16 (dealer_holds z').1)
dealer_ended S unprepared (idle r) (waiting s) p a h = absurd (omega (arith, h))
dealer_ended S unprepared (idle r) (going s t said) p a h = absurd a
dealer_ended S unprepared (ready r t) two p a h = absurd p
dealer_ended S (prepared r) (idle r') two p a h = absurd p
dealer_ended S (prepared r) (ready r' t) two p a h = p

-- where both hosts have come to the end, the mean is finished, and the day opens what the run opens
record Ended (w : ℕ) (u : DayWorld) (v : World) : Type 0 where
  finished : Finished v 96
  opens : (i : ℕ) → i < 16 → day_opened w u i ≡ opened_now w 120 v i

ended : (w : ℕ) (S : DaySetting) (cs : List Call) (u : DayWorld) (v : World) → Run (day_staged w S) cs v → Same u v → BothAtEnd u
    → Ended w u v
unfolding day_opened opened_now
ended w S cs (day_world z buf one two) (world z' buf' one' two') R (d, b, p, q) (e, f) =
    let x = host_ended one one' p e in
    let y = host_ended two two' q f in
    let r : Pair = (take 16 (dealer_holds z').0, take 16 (dealer_holds z').1) in
    let masks : dealer_masks z ≡ r = dealer_ended (day_staged w S) z z' two' d (after (day_staged w S) (kept (day_staged w S) R)) y.0 in
    record {
      finished = record { one = x.0; two = y.0 };
      opens = λ i h.
          ap (λ (m : Pair). opened_slot w m (host_lanes one) (host_lanes two) i) masks
          ∙ ap (λ (s : State). opened_slot w r (s.m, s.mask) (host_lanes two) i) x.1
          ∙ ap (λ (s : State). opened_slot w r (registers 24 (side_state one')) (s.m, s.mask) i) y.1
          ∙ slot_same w (dealer_holds z') (side_state one') (side_state two') i h;
    }

-- so a law of the day's runs at their end is one of its own calls
at_end : (S : DaySetting) → Words 32 (day_staged 32 S) → (cs : List Call) (u : DayWorld) → DayRun 32 S cs u → BothAtEnd u
    → (i : ℕ) → i < 16 → (x : ℕ × ℤ)
    → ((v : World) → Finishes 32 (day_staged 32 S) 96 v → opened_now 32 120 v i ≡ x)
    → day_opened 32 u i ≡ x
at_end S W cs u r e i h x law =
    let f = followed 32 S r in
    let d = ended 32 S cs u f.0 f.1 f.2 e in
    d.opens i h ∙ law f.0 (record { words = W; calls = cs; run = f.1; finished = d.finished })

-- a host past the mean is at the end
host_done : (x : DayHost) (y : Side) → SameHost x y → 96 < side_order y → side_order y ≤ 97 → AtEnd x
host_done (resting s) (waiting s') p l h = absurd (omega (arith, l))
host_done (resting s) (going s' t said') p l h = absurd p
host_done (running s said) (waiting s') p l h = absurd p
host_done (running s said) (going s' t said') p l h = omega (arith, ap (λ (x : State). x.order) p.0, l, h)

same_buffer : (u : DayWorld) (v : World) → Same u v → day_buffer u ≡ buffer_of v
same_buffer (day_world z buf one two) (world z' buf' one' two') (d, b, p, q) = b

module _ (S : DaySetting) where
  abbrev the_day : Stage
  the_day = day_staged 32 S

  abbrev Unrefused : (buf : List ℕ) → Type 0
  Unrefused buf = PreparationIs (day_terms S.table 192 S.hours) S.A S.B buf 0 0

  last_order : 96 < orders_in the_day.script
  last_order = omega (arith, day_opens.orders S.table 192 S.hours)

  -- the mean finished in the script's run: the day's hosts are at the end
  all_done : {cs : List Call} (u : DayWorld) (v : World) → Run the_day cs v → Same u v → Finished v 96 → BothAtEnd u
  all_done (day_world z b one two) (world z' b' one' two') R (d, e, p, q) f =
      let o = kept the_day R in
      let n : orders_in the_day.script ≡ 97 = day_opens.orders S.table 192 S.hours in (
        host_done one one' p f.one (omega (arith, inside1 o, n)),
        host_done two two' q f.two (omega (arith, inside2 o, n)),
      )
    where
      inside1 : {z : Dealer} {b : List ℕ} {x y : Side} → Ok the_day (world z b x y) → side_order x ≤ orders_in the_day.script
      inside1 (ok d p q a) = order1_inside the_day p

      inside2 : {z : Dealer} {b : List ℕ} {x y : Side} → Ok the_day (world z b x y) → side_order y ≤ orders_in the_day.script
      inside2 (ok d p q a) = order2_inside the_day q

  -- a whole run of the script is one of the day's calls
  whole_day : (buf : List ℕ) → Unrefused buf → (cs : List Call) × (u : DayWorld) × DayRun 32 S cs u × BothAtEnd u
  whole_day buf a =
      let one = given_held 32 S S.m S.l1 S.m_day S.l1_day in
      let two = given_held 32 S S.m S.l2 S.m_day S.l2_day in
      let n = whole.prepares the_day buf (the_day.r1, the_day.r2) ((day_opens.accepted S buf).0 a) in
      let f = whole.whole_run the_day [] buf (given_lanes 32 S S.m S.l1) (given_lanes 32 S S.m S.l2) one two n in
      let R =
      strict.wide the_day [] f.2.calls _ f.2.heard1 f.2.heard2
      (record { from = _; begins = given_out one two; calls = f.2.run }) in
      let d = led 32 S R in
      (f.2.calls, d.0, d.1, all_done d.0 _ R d.2 (f.2.finished 96 last_order))

  -- where no call of the day can complete, none of the script's can
  finish_day : (cs : List Call) (u : DayWorld) → DayRun 32 S cs u → Unrefused (day_buffer u)
      → ((c : Call) (u' : DayWorld) → DayCompletes 32 S c u u' → ⊥)
      → BothAtEnd u
  finish_day cs u r a none =
      let f = followed 32 S r in
      let n = strict.narrow the_day [] cs f.0 f.1 in
      let k : Accepted the_day (buffer_of f.0) =
      subst (Accepted the_day) (same_buffer u f.0 f.2) ((day_opens.accepted S (day_buffer u)).0 a) in
      all_done u f.0 f.1 f.2
      (strict.finishes the_day [] cs f.0 n.0 n.1 n.2 k (λ c v' x o. none c _ (back 32 S u x f.1 f.2).1) 96
      last_order)

-- what a day opens at its end
module _ (S : DaySetting) (sheet : Sheet S) (W : Words 32 (day_staged 32 S)) (cs : List Call) (u : DayWorld) (r : DayRun 32 S cs u) (e : BothAtEnd u)
  where
    mean : day_opened 32 u 0 ≡ (0, floor (pos (factor_of S) *ℤ sum_of S 96) 65536)
    mean = at_end S W cs u r e 0 (lit< tt) _ (λ v F. day_opens.returned_mean S sheet v F)

    count : day_opened 32 u 1 ≡ (0, pos (above_of S 96))
    count = at_end S W cs u r e 1 (lit< tt) _ (λ v F. day_opens.returned_count S sheet v F)

pub day_returned : DayReturned
day_returned =
    record {
      is_run = λ w S cs u r. followed w S r;
      of_run = λ w S cs v R. led w S R;
      whole = whole_day;
      finishes = finish_day;
      mean = mean;
      count = count;
      old_mean = λ S sheet all W cs u r e.
          mean S sheet W cs u r e
          ∙ ap₂ {C = ℕ × ℤ} (λ (k : ℕ) (z : ℤ). (0, floor (pos k *ℤ z) 65536)) (old_factor S all) (old_sum S all 96 (lit≤ tt));
      old_count = λ S sheet all W cs u r e.
          count S sheet W cs u r e ∙ ap {B = ℕ × ℤ} (λ (k : ℕ). (0, pos k)) (old_above S all 96 (lit≤ tt));
    }
