-- R-6, opening hours: a calendar's words, its rules, which quarters of a weekday count, and the factor of the day's
-- mean. Assumes nothing.
--
-- A calendar is 182 words, 26 for each weekday from 0 to 6: how many open windows, how many cleaning windows, then room
-- for eight open windows and for four cleaning windows, each "from a minute (included) to a minute (excluded)". Room
-- that is not used is not looked at.
use Rattle.std.specs.Prelude.{Bool, ◌&&◌, cond, List, ℕ, ◌+◌, ◌*◌, ◌/◌, leb, ltb, eqb, length, get_or}
use Rattle.calendars.specs.Ranges.{every, some, number}

-- ---- the words

abbrev pub open_windows : List ℕ → ℕ → ℕ
open_windows c d = get_or c (26 * d) 0

abbrev pub cleaning_windows : List ℕ → ℕ → ℕ
cleaning_windows c d = get_or c (26 * d + 1) 0

-- where a weekday's windows begin
abbrev pub open_at : ℕ → ℕ
open_at d = 26 * d + 2

abbrev pub cleaning_at : ℕ → ℕ
cleaning_at d = 26 * d + 18

-- window k of those at a place: its first minute, and the minute after its last
abbrev pub start : List ℕ → (at k : ℕ) → ℕ
start c at k = get_or c (at + 2 * k) 0

abbrev pub end : List ℕ → (at k : ℕ) → ℕ
end c at k = get_or c (at + 2 * k + 1) 0

-- ---- the rules: check 16

-- not "one whose end is not after its start or is above 1440"
unfoldable pub well_ended : (start end : ℕ) → Bool
well_ended s e = ltb s e && leb e 1440

unfoldable pub sound_window : List ℕ → (at k : ℕ) → Bool
sound_window c at k = well_ended (start c at k) (end c at k)

-- "up to eight open windows and four cleaning windows"
unfoldable pub sound_day : List ℕ → ℕ → Bool
sound_day c d =
    leb (open_windows c d) 8 && leb (cleaning_windows c d) 4
    && every (sound_window c (open_at d)) 0 (open_windows c d)
    && every (sound_window c (cleaning_at d)) 0 (cleaning_windows c d)

-- "on any weekday"; "a weekday above 6"
unfoldable pub sound : List ℕ → ℕ → Bool
sound c d = eqb (length c) 182 && leb d 6 && every (sound_day c) 0 7

-- ---- which quarters count

-- "from a minute (included) to a minute (excluded)"
unfoldable pub holds : (start end m : ℕ) → Bool
holds s e m = leb s m && ltb m e

unfoldable pub in_window : List ℕ → (at m k : ℕ) → Bool
in_window c at m k = holds (start c at k) (end c at k) m

-- "A quarter lies where its first minute does"
abbrev pub first_minute : ℕ → ℕ
first_minute q = 15 * q

-- quarter q lies in one of the n windows at a place
unfoldable pub lies : List ℕ → (at n q : ℕ) → Bool
lies c at n q = some (in_window c at (first_minute q)) 0 n

unfoldable pub in_open : List ℕ → (d q : ℕ) → Bool
in_open c d q = lies c (open_at d) (open_windows c d) q

unfoldable pub in_cleaning : List ℕ → (d q : ℕ) → Bool
in_cleaning c d q = lies c (cleaning_at d) (cleaning_windows c d) q

-- "It counts if it lies in an open window; otherwise, or if in a cleaning window only, it is left out": the rule of the
-- two kinds of window
abbrev pub rule : (opened cleaned : Bool) → Bool
rule opened cleaned = opened

unfoldable pub counts : List ℕ → (d q : ℕ) → Bool
counts c d q = rule (in_open c d q) (in_cleaning c d q)

-- ---- how many count

-- n: "With n counted quarters"
abbrev pub counted_quarters : List ℕ → ℕ → ℕ
counted_quarters c d = number (counts c d) 0 96

-- the check's number: 16, then "17, no quarter counted"
unfoldable pub calendar_number : List ℕ → ℕ → ℕ
calendar_number c d = cond (sound c d) (cond (eqb (counted_quarters c d) 0) 17 0) 16

-- "With n counted quarters, the factor is floor(65536 / n)"
unfoldable pub factor : ℕ → ℕ
factor n = 65536 / n
