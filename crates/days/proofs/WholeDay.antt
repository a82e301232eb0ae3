-- Where all 96 quarters count, a day's script is the one that R-3 had. Assumes nothing.
use mathlib.Core.Path.{◌≡◌, refl, ap, ap₂, ◌∙◌}
use mathlib.Core.Bool.{Bool, true, cond}
use mathlib.Core.List.{List, [], ◌∷◌, ◌++◌}
use Prim.Native.Nat.{ℕ, zero, suc, ◌+◌, ◌<◌}
use native.Mathlib.Omega.{arith}
use lib.ListN.{length}
use Rattle.gates.specs.Gates.{Gate}
use Rattle.gates.specs.Meaning.{job_steps}
use Rattle.tables.specs.Table.{Row, rows}
use Rattle.jobs.specs.Job.{Fault}
use Rattle.calls.specs.Scripts.{Script}
use Rattle.calls.specs.Lent.{lent}
use Rattle.calls.specs.Calls.{Answer, start, hear, Prepared, prepare}
use Rattle.calendars.specs.Calendar.{factor}
use Rattle.calendars.proofs.OpeningHours.{opening_hours}
use Rattle.days.specs.Day.{quarter_program, mean_program, quarters, day_gates, day_steps, Hours, counting, day_fault, day_script}
use Rattle.days.specs.DayCalls.{day_given, with_shares, own_answer, own_masks, day_start, day_hear, day_prepare}
use Rattle.days.specs.WholeDay.{all_quarters, old_gates, old_fault, old_script, AllCounted, WholeDay}

module _ (w : ℕ) (f : ℕ → Bool) (ps : List Row) where
  quarters_all : (q n : ℕ) → ((k : ℕ) → k < n → f (q + k) ≡ true) → quarters w f ps q n ≡ all_quarters w ps q n
  unfolding quarters all_quarters
  quarters_all q zero h = refl
  quarters_all q (suc n) h =
      let a : q + 0 ≡ q = omega arith in
      ap₂ (λ (b : Bool) (gs : List (List Gate)). cond b (quarter_program w q ps) [] ∷ gs) (rw a at (h 0 (omega arith)))
      (quarters_all (suc q) n (λ k l. let b : q + suc k ≡ suc q + k = omega arith in rw b at (h (suc k) (omega arith))))

module _ (H : Hours) (all : AllCounted H) where
  counted : (q : ℕ) → q < 96 → counting H q ≡ true
  counted q l = (opening_hours.quarter H.calendar H.weekday q).1 (all.counted q l)

  gates_are : (w : ℕ) (ps : List Row) → day_gates w (counting H) ps ≡ old_gates w ps
  unfolding day_gates old_gates
  gates_are w ps =
      let p = opening_hours.all_counted H.calendar H.weekday all.sound all.counted in
      ap₂ (λ (gs : List (List Gate)) (k : ℕ). gs ++ (mean_program w k ∷ []))
      (quarters_all w (counting H) ps 0 96 (λ k l. let a : 0 + k ≡ k = omega arith in rw a (counted k l))) (ap factor p.1 ∙ p.2)

  fault_is : (T : List ℕ) (n : ℕ) → day_fault T n H ≡ old_fault T n
  unfolding day_fault old_fault
  fault_is T n = rw (opening_hours.all_counted H.calendar H.weekday all.sound all.counted).0

  script_is : (w : ℕ) (T : List ℕ) (n : ℕ) → day_script w T n H ≡ old_script w T n
  unfolding day_steps
  script_is w T n =
      let g = ap (job_steps w) (gates_are w (rows T)) in
      let f = fault_is T n in
      λ t. record { fault = f t; slots = 120; steps = g t }

pub whole_day : WholeDay
unfolding day_start day_hear day_prepare
whole_day =
    record {
      prepares = λ H all w T S A B D. ap (λ (σ : Script). own_masks (prepare σ A B D (day_given S))) (script_is H all w T (length S));
      starts = λ H all w h T S M D.
          ap {B = Answer} (λ (σ : Script). own_answer (start (lent h σ M D) (day_given S))) (script_is H all w T (length S));
      hears = λ H all w h T S M D s v.
          ap {B = Answer} (λ (σ : Script). own_answer (hear (lent h σ M D) (with_shares s S) v)) (script_is H all w T (length S));
    }
