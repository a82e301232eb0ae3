-- A call of a day that meets none of the conditions before 6: its list, its hours and its table. Assumes nothing.
use mathlib.Core.Path.{◌≡◌, refl}
use mathlib.Core.Bool.{Bool, true, false, cond}
use mathlib.Core.List.{List}
use Prim.Native.Nat.{ℕ}
use native.Mathlib.Omega.{arith}
use borrow.Author.Tests.{eqb-true, eqb-false}
use lib.Dec.{eqb}
use Rattle.tables.specs.Table.{Rules, keeps_rules}
use Rattle.tables.proofs.Rows.{rules}
use Rattle.jobs.specs.Job.{Fault}
use Rattle.calendars.specs.Calendar.{calendar_number}
use Rattle.days.specs.Day.{Hours, day_fault}

pub accepted : (table : List ℕ) (n : ℕ) (H : Hours) → (day_fault table n H).0 ≡ 0
    → (n ≡ 192) × (calendar_number H.calendar H.weekday ≡ 0) × Rules table
unfolding day_fault
accepted table n H e =
    go (calendar_number H.calendar H.weekday) (eqb n 192) (eqb (calendar_number H.calendar H.weekday) 0) (keeps_rules table) refl refl
    refl e
  where
    go : (k : ℕ) (a b c : Bool) → eqb n 192 ≡ a → eqb k 0 ≡ b → keeps_rules table ≡ c
        → (cond {A = Fault} a (cond b (cond c (0, 0) (5, 0)) (k, 0)) (12, 0)).0 ≡ 0 → (n ≡ 192) × (k ≡ 0) × Rules table
    go k true true true p r q z = (eqb-true n 192 p, eqb-true k 0 r, (rules table).0 (rw q tt))
    go k true true false p r q z = absurd (omega arith)
    go k true false c p r q z = absurd (eqb-false k 0 r z)
    go k false b c p r q z = absurd (omega arith)
