-- R-6: "A day with all quarters counted gives the old mean." The old day, as R-3 had it before there were hours: its
-- gates, its script and its calls; and that the day's calls are the old ones, word for word, where all 96 quarters
-- count. Assumes nothing.
use Rattle.std.specs.Prelude.{◌≡◌, cond, List, [], ◌∷◌, ◌++◌, ℕ, zero, suc, ◌<◌, eqb, length}
use Rattle.gates.specs.Gates.{Gate}
use Rattle.gates.specs.Meaning.{job_steps}
use Rattle.tables.specs.Table.{Row, rows, keeps_rules}
use Rattle.jobs.specs.Job.{Fault}
use Rattle.calls.specs.Scripts.{Script}
use Rattle.calls.specs.Lent.{lent}
use Rattle.calls.specs.Calls.{State, Answer, start, hear, Prepared, prepare}
use Rattle.calendars.specs.Hours.{Sound, Counts}
use Rattle.days.specs.Day.{quarter_program, mean_program, Hours}
use Rattle.days.specs.DayCalls.{day_given, with_shares, own_answer, own_masks, day_start, day_hear, day_prepare}

-- "Every host runs the curve in exact mode on each, in day order": n quarters, from quarter q on
unfoldable pub all_quarters : (w : ℕ) → List Row → (q n : ℕ) → List (List Gate)
all_quarters w ps q zero = []
all_quarters w ps q (suc n) = quarter_program w q ps ∷ all_quarters w ps (suc q) n

-- "It multiplies the sum by 682 and takes the exact truncation by 16."
unfoldable pub old_gates : (w : ℕ) → List Row → List (List Gate)
old_gates w ps = all_quarters w ps 0 96 ++ (mean_program w 682 ∷ [])

-- 12, then 5
unfoldable pub old_fault : (table : List ℕ) (n : ℕ) → Fault
old_fault table n = cond (eqb n 192) (cond (keeps_rules table) (0, 0) (5, 0)) (12, 0)

abbrev pub old_script : (w : ℕ) (table : List ℕ) (n : ℕ) → Script
old_script w table n =
    record { fault = old_fault table n; slots = 120; steps = job_steps w (old_gates w (rows table)) }

-- its calls, lent no hours
abbrev pub old_start : (w host : ℕ) (table shares masks deals : List ℕ) → Answer
old_start w h T S M D = own_answer (start (lent h (old_script w T (length S)) M D) (day_given S))

abbrev pub old_hear : (w host : ℕ) (table shares masks deals : List ℕ) → State → (heard : ℕ) → Answer
old_hear w h T S M D s v = own_answer (hear (lent h (old_script w T (length S)) M D) (with_shares s S) v)

abbrev pub old_prepare : (w : ℕ) (table shares A B buffer : List ℕ) → Prepared
old_prepare w T S A B D = own_masks (prepare (old_script w T (length S)) A B D (day_given S))

-- a calendar that keeps its rules, and a weekday all of whose quarters count
pub record AllCounted (H : Hours) : Type 0 where
  pub sound : Sound H.calendar H.weekday
  pub counted : (q : ℕ) → q < 96 → Counts H.calendar H.weekday q

-- where all 96 quarters count, whatever else the calls are lent, at every width: every number, deal, spoken word,
-- register and count is the old one
pub record WholeDay : Type 0 where
  pub prepares : (H : Hours) → AllCounted H → (w : ℕ) (T S A B D : List ℕ)
      → day_prepare w T S H A B D ≡ old_prepare w T S A B D
  pub starts : (H : Hours) → AllCounted H → (w h : ℕ) (T S M D : List ℕ)
      → day_start w h T S H M D ≡ old_start w h T S M D
  pub hears : (H : Hours) → AllCounted H → (w h : ℕ) (T S M D : List ℕ) (s : State) (v : ℕ)
      → day_hear w h T S H M D s v ≡ old_hear w h T S M D s v
