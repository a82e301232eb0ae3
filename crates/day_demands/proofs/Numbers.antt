-- The number and the index of each call of a day, by its conditions, and that a refused call changes nothing.
-- Assumes nothing.
use mathlib.Core.Path.{◌≡◌, refl, sym, ap, ◌∙◌, subst}
use mathlib.Core.Bool.{Bool, true, false, cond}
use mathlib.Core.List.{List}
use Prim.Native.Nat.{ℕ}
use native.Mathlib.Omega.{arith}
use borrow.Author.Tests.{eqb-true, eqb-false, eq-eqb, ne_eqb}
use lib.Dec.{T, eqb}
use lib.ListN.{length, take}
use Rattle.tables.specs.Table.{rows, keeps_rules, Rules}
use Rattle.tables.proofs.Rows.{rules}
use Rattle.gates.specs.Hosts.{Pair}
use Rattle.jobs.specs.Job.{Fault}
use Rattle.calls.specs.Calls.{State}
use Rattle.demands.specs.Conditions.{walks_places, Single}
use Rattle.demands.specs.Numbers.{Told, ToldPlaces}
use Rattle.demands.proofs.Numbers.{numbers}
use Rattle.demands.proofs.Placed.{gates_placed}
use Rattle.demands.proofs.Walked.{gates_walked, gates_all}
use Rattle.demands.proofs.Demand1.{demand1}
use Rattle.calendars.specs.Calendar.{calendar_number}
use Rattle.calendars.specs.Hours.{HoursNumbered}
use Rattle.calendars.proofs.OpeningHours.{opening_hours}
use Rattle.days.specs.Day.{day_gates, day_steps, Hours, counting, day_fault, day_script}
use Rattle.days.specs.DayCalls.{firsts, seconds, with_shares, own_state, day_given, day_lent, day_start, day_hear, day_prepare}
use Rattle.days.proofs.Lanes.{front_lane}
use Rattle.days.proofs.Quarters.{day_gates_count}
use Rattle.days.proofs.Counts.{day_counts, day_orders, day_orderly}
use Rattle.day_demands.specs.Numbers.{DayNumbered, no_day, no_hours, no_table, faultless, day_terms, DayNumbers}

-- ---- the day's own conditions

module _ (table : List ℕ) (n : ℕ) (H : Hours) where
  abbrev hours_number : ℕ
  hours_number = calendar_number H.calendar H.weekday

  pub fault_is : DayNumbered table n H (day_fault table n H).0 (day_fault table n H).1
  unfolding day_fault
  fault_is =
      go hours_number (eqb n 192) (eqb hours_number 0) (keeps_rules table) (opening_hours.numbered H.calendar H.weekday) refl refl
      (rules table).0 (rules table).1
    where
      go : (k : ℕ) (a b c : Bool) → HoursNumbered H.calendar H.weekday k → eqb n 192 ≡ a → eqb k 0 ≡ b
          → (T c → Rules table) → (Rules table → T c)
          → DayNumbered table n H (cond {A = Fault} a (cond b (cond c (0, 0) (5, 0)) (k, 0)) (12, 0)).0
          (cond {A = Fault} a (cond b (cond c (0, 0) (5, 0)) (k, 0)) (12, 0)).1
      go k true true true h e z f g = faultless (eqb-true n 192 e) (subst (HoursNumbered _ _) (eqb-true k 0 z) h) (f tt)
      go k true true false h e z f g = no_table (eqb-true n 192 e) (subst (HoursNumbered _ _) (eqb-true k 0 z) h) g
      go k true false c h e z f g = no_hours (eqb-true n 192 e) k h (eqb-false k 0 z)
      go k false b c h e z f g = no_day (eqb-false n 192 e)

  -- whatever the conditions hold of is what the test finds
  number_is : {k : ℕ} → HoursNumbered H.calendar H.weekday k → hours_number ≡ k
  number_is h = opening_hours.one_number H.calendar H.weekday _ _ (opening_hours.numbered H.calendar H.weekday) h

  found : {m i : ℕ} → DayNumbered table n H m i → day_fault table n H ≡ (m, i)
  unfolding day_fault
  found (no_day h) = rw (ne_eqb n 192 h)
  found (no_hours e k h z) = rw (eq-eqb n 192 e, number_is h, ne_eqb k 0 z)
  found (no_table e h r) = rw (eq-eqb n 192 e, number_is h, unkept (keeps_rules table) (λ t. r ((rules table).0 t)))
    where
      unkept : (b : Bool) → (T b → ⊥) → b ≡ false
      unkept true f = absurd (f tt)
      unkept false f = refl
  found (faultless e h r) = rw (eq-eqb n 192 e, number_is h, kept (keeps_rules table) ((rules table).1 r))
    where
      kept : (b : Bool) → T b → b ≡ true
      kept true t = refl
      kept false t = absurd t

  index_none : {m i : ℕ} → DayNumbered table n H m i → m ≡ 0 → DayNumbered table n H 0 0
  index_none (no_day h) e = absurd (omega arith)
  index_none (no_hours h k r z) e = absurd (z e)
  index_none (no_table h k r) e = absurd (omega arith)
  index_none (faultless h k r) e = faultless h k r

  pub single : Single (DayNumbered table n H)
  single m i k j p q = let e : ◌≡◌ {A = Fault} (m, i) (k, j) = sym (found p) ∙ found q in (ap (λ (f : Fault). f.0) e, ap (λ (f : Fault). f.1) e)

-- ---- the calls

pub told : (table : List ℕ) (n : ℕ) (H : Hours) → Told (day_script 32 table n H) (day_terms table n H)
unfolding day_steps
told table n H =
    record {
      none = λ e. index_none table n H (fault_is table n H) e;
      some = λ k e. subst (λ (m : ℕ). DayNumbered table n H m (day_fault table n H).1) e (fault_is table n H);
      needs = day_counts table n H;
      places = gates_placed 32 0 (day_gates 32 (counting H) (rows table));
      orders = day_orders 32 table n H;
    }

told_places : (table : List ℕ) (n : ℕ) (H : Hours) → ToldPlaces (day_script 32 table n H) (day_terms table n H)
unfolding day_steps
told_places table n H =
    let gs = day_gates 32 (counting H) (rows table) in
    record {
      walked = λ before behind d e p. gates_walked 32 gs before behind d e p;
      walked_all =
          gates_all 32 gs ∙ ap (λ (k : ℕ). walks_places 32 gs (k, 0)) (day_gates_count 32 (counting H) (rows table));
    }

pub day_numbers : DayNumbers
unfolding day_prepare day_start day_hear with_shares
day_numbers =
    record {
      preparing = λ T S H A B D.
          numbers.preparing (day_script 32 T (length S) H) (day_terms T (length S) H) (told T (length S) H) A B D (day_given S);
      starting = λ h T S H M D.
          numbers.starting (day_lent 32 h T S H M D) (day_terms T (length S) H) (told T (length S) H) (day_given S);
      hearing = λ h T S H M D s v.
          numbers.hearing (day_lent 32 h T S H M D) (day_terms T (length S) H) (told T (length S) H) (told_places T (length S) H)
          (day_orderly 32 T (length S) H) (with_shares s S) v;
      one_preparation = λ T S H. numbers.one_preparation (day_terms T (length S) H) (single T (length S) H);
      one_start = λ h T S H M D. numbers.one_start (day_terms T (length S) H) (single T (length S) H) h M D;
      one_hearing = λ h T S H M D o x u.
          numbers.one_hearing (day_script 32 T (length S) H) (day_terms T (length S) H) (told T (length S) H) (day_orderly 32 T (length S) H)
          (single T (length S) H) h M D o x u;
      told = told;
      told_places = told_places;
      preparing_unchanged = λ T S H A B D h.
          let p = demand1.preparing_unchanged (day_script 32 T (length S) H) A B D (day_given S) h in
          (ap {B = Pair} (λ (r : Pair). (take 16 r.0, take 16 r.1)) p.0, p.1, p.2);
      starting_unchanged = λ h T S H M D k.
          let p = demand1.starting_unchanged (day_lent 32 h T S H M D) (day_given S) k in
          (ap {B = State} (λ (s : State). own_state s) p.0, p.1, p.2);
      hearing_unchanged = λ h T S H M D s v a b k.
          let p = demand1.hearing_unchanged (day_lent 32 h T S H M D) (with_shares s S) v k in (
            ap {B = State} (λ (s : State). own_state s) p.0
                ∙ rw (front_lane s.m (firsts S) a, front_lane s.mask (seconds S) b),
            p.1,
            p.2,
          );
    }
