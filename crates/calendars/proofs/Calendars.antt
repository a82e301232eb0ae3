-- R-6's tests and its relations: the rules of a calendar, and which quarters count. Assumes nothing.
use mathlib.Core.Path.{◌≡◌}
use mathlib.Core.Bool.{true, ◌&&◌}
use mathlib.Core.List.{List}
use mathlib.Core.Logic.{◌↔◌}
use Prim.Native.Nat.{ℕ, ◌+◌, ◌≤◌, ◌<◌}
use native.Mathlib.Omega.{arith}
use borrow.Author.Tests.{ltb-true, leb-true, eqb-true, lt-ltb, le-leb, eq-eqb}
use lib.Dec.{leb, ltb, eqb}
use lib.ListN.{length}
use Rattle.calendars.specs.Ranges.{every, some}
use Rattle.calendars.specs.Calendar.{open_windows, cleaning_windows, open_at, cleaning_at, start, end, first_minute, well_ended, sound_window, sound_day, sound, holds, in_window, lies, in_open, in_cleaning, counts}
use Rattle.calendars.specs.Hours.{Windows, Weekday, Sound, LiesIn, Open, Cleaning, Counts}
use Rattle.calendars.proofs.Ranges.{both, and, every_below}
use Rattle.calendars.proofs.Days.{day_tests}
use Rattle.calendars.proofs.Tests.{below_every, Found, some_found, found_some}

-- ---- the rules

module _ (c : List ℕ) (at : ℕ) where
  window_of : (k : ℕ) → sound_window c at k ≡ true → (start c at k < end c at k) × (end c at k ≤ 1440)
  unfolding sound_window well_ended
  window_of k t =
      let b : (ltb (start c at k) (end c at k) ≡ true) × (leb (end c at k) 1440 ≡ true) = both (ltb (start c at k) (end c at k)) (leb (end c at k) 1440) t in
      (ltb-true _ _ b.0, leb-true _ _ b.1)

  window_test : (k : ℕ) → start c at k < end c at k → end c at k ≤ 1440 → sound_window c at k ≡ true
  unfolding sound_window well_ended
  window_test k h l = and (lt-ltb _ _ h) (le-leb _ _ l)

  pub windows : (n : ℕ) → (every (sound_window c at) 0 n ≡ true) ↔ Windows c at n
  windows n = (
    λ t. record {
      after = λ k l. (window_of k (every_below (sound_window c at) n t k l)).0;
      within = λ k l. (window_of k (every_below (sound_window c at) n t k l)).1;
    },
    λ w. below_every (sound_window c at) n (λ k l. window_test k (w.after k l) (w.within k l)),
  )

pub day : (c : List ℕ) (d : ℕ) → (sound_day c d ≡ true) ↔ Weekday c d
unfolding sound_day
day c d = (
  λ t. record {
    at_most_eight = leb-true _ _ (day_tests c d t).0;
    at_most_four = leb-true _ _ (day_tests c d t).1;
    opens = (windows c (open_at d) (open_windows c d)).0 (day_tests c d t).2;
    cleans = (windows c (cleaning_at d) (cleaning_windows c d)).0 (day_tests c d t).3;
  },
  λ w. and (and (and (le-leb _ _ w.at_most_eight) (le-leb _ _ w.at_most_four)) ((windows c (open_at d) (open_windows c d)).1 w.opens))
      ((windows c (cleaning_at d) (cleaning_windows c d)).1 w.cleans),
)

-- check 16 is met exactly by what `Sound` says
pub rules : (c : List ℕ) (d : ℕ) → (sound c d ≡ true) ↔ Sound c d
unfolding sound
rules c d = (
  λ t.
      let p : ((eqb (length c) 182 && leb d 6) ≡ true) × (every (sound_day c) 0 7 ≡ true) = both (eqb (length c) 182 && leb d 6) (every (sound_day c) 0 7) t in
      let q : (eqb (length c) 182 ≡ true) × (leb d 6 ≡ true) = both (eqb (length c) 182) (leb d 6) p.0 in
      record {
        sized = eqb-true _ _ q.0;
        weekday = leb-true _ _ q.1;
        each_day = λ e l. (day c e).0 (every_below (sound_day c) 7 p.1 e (omega arith));
      },
  λ s. and (and (eq-eqb _ _ s.sized) (le-leb _ _ s.weekday)) (below_every (sound_day c) 7 (λ e l. (day c e).1 (s.each_day e (omega arith)))),
)

-- ---- which quarters count

module _ (c : List ℕ) (at m : ℕ) where
  lies_of : (k : ℕ) → in_window c at m k ≡ true → (start c at k ≤ m) × (m < end c at k)
  unfolding in_window holds
  lies_of k t =
      let b : (leb (start c at k) m ≡ true) × (ltb m (end c at k) ≡ true) = both (leb (start c at k) m) (ltb m (end c at k)) t in
      (leb-true _ _ b.0, ltb-true _ _ b.1)

  lies_test : (k : ℕ) → start c at k ≤ m → m < end c at k → in_window c at m k ≡ true
  unfolding in_window holds
  lies_test k h l = and (le-leb _ _ h) (lt-ltb _ _ l)

  pub lies_in : (n : ℕ) → (some (in_window c at m) 0 n ≡ true) ↔ LiesIn c at n m
  lies_in n = (
    λ t.
        let w : Found (in_window c at m) 0 n = some_found (in_window c at m) 0 n t in
        let a : 0 + w.0 ≡ w.0 = omega arith in
        let r : in_window c at m w.0 ≡ true = rw a at w.2 in
        record { window = w.0; exists = w.1; included = (lies_of w.0 r).0; excluded = (lies_of w.0 r).1 },
    λ l.
        let a : 0 + l.window ≡ l.window = omega arith in
        found_some (in_window c at m) 0 n l.window l.exists (rw a (lies_test l.window l.included l.excluded)),
  )

module _ (c : List ℕ) (d q : ℕ) where
  pub open_quarter : (in_open c d q ≡ true) ↔ Open c d q
  unfolding in_open lies
  open_quarter = lies_in c (open_at d) (first_minute q) (open_windows c d)

  pub cleaning_quarter : (in_cleaning c d q ≡ true) ↔ Cleaning c d q
  unfolding in_cleaning lies
  cleaning_quarter = lies_in c (cleaning_at d) (first_minute q) (cleaning_windows c d)

  pub quarter : (counts c d q ≡ true) ↔ Counts c d q
  unfolding counts
  quarter = open_quarter
