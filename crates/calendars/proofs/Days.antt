-- The tests of a weekday that keeps the rules. Assumes nothing.
use mathlib.Core.Path.{◌≡◌}
use mathlib.Core.Bool.{Bool, true, ◌&&◌}
use mathlib.Core.List.{List}
use Prim.Native.Nat.{ℕ}
use lib.Dec.{leb}
use Rattle.calendars.specs.Ranges.{every}
use Rattle.calendars.specs.Calendar.{open_windows, cleaning_windows, open_at, cleaning_at, sound_window, sound_day}
use Rattle.calendars.proofs.Ranges.{both}

-- the four tests of a weekday that keeps the rules
pub day_tests : (c : List ℕ) (d : ℕ) → sound_day c d ≡ true
    → (leb (open_windows c d) 8 ≡ true) × (leb (cleaning_windows c d) 4 ≡ true)
    × (every (sound_window c (open_at d)) 0 (open_windows c d) ≡ true) × (every (sound_window c (cleaning_at d)) 0 (cleaning_windows c d) ≡ true)
unfolding sound_day
day_tests c d s = four (leb (open_windows c d) 8) (leb (cleaning_windows c d) 4) (every (sound_window c (open_at d)) 0 (open_windows c d))
    (every (sound_window c (cleaning_at d)) 0 (cleaning_windows c d)) s
  where
    four : (a b x y : Bool) → (a && b && x && y) ≡ true → (a ≡ true) × (b ≡ true) × (x ≡ true) × (y ≡ true)
    four a b x y e =
        let p : ((a && b && x) ≡ true) × (y ≡ true) = both (a && b && x) y e in
        let q : ((a && b) ≡ true) × (x ≡ true) = both (a && b) x p.0 in
        let r : (a ≡ true) × (b ≡ true) = both a b q.0 in
        (r.0, r.1, q.1, p.1)
