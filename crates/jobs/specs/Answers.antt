-- The answers of checking a job and of asking for unused masks: whole, as functions of every input. Assumes nothing.
use Rattle.std.specs.Prelude.{Bool, true, false, cond, List, ℕ, zero, suc, ◌*◌, take, drop, Result, Ok, Err}
use Rattle.gates.specs.Costs.{Cost, cost_of}
use Rattle.jobs.specs.declared.Which.{Which}
use Rattle.jobs.specs.declared.Which.TheVariants.{ListA, ListB}
use Rattle.jobs.specs.declared.Counts.{Counts}
use Rattle.jobs.specs.declared.Survey.{Survey}
use Rattle.jobs.specs.declared.Refusal.{Refusal}
use Rattle.jobs.specs.Counts.{counted}
use Rattle.jobs.specs.Job.{Fault, job_fault, job_cost, short_a, short_b}
use Rattle.jobs.specs.Refusals.{fault_of}

-- accepted or refused; a number, 0 for none; the order's index; the counts, 0 where refused
pub record Verdict : Type 0 where
  pub accepted : Bool
  pub number : ℕ
  pub index : ℕ
  pub counts : Cost

abbrev pub refusal : Fault → Verdict
refusal f = record { accepted = false; number = f.0; index = f.1; counts = cost_of 0 0 0 0 }

abbrev pub acceptance : Cost → Verdict
acceptance k = record { accepted = true; number = 0; index = 0; counts = k }

-- the paper's number and values for each answer
abbrev pub verdict : Result Counts Refusal → Verdict
verdict (Ok k) = acceptance (counted k)
verdict (Err r) = refusal (fault_of r)

-- by the number of a fault: 0 gives the counts
unfoldable pub judged : ℕ → Fault → Cost → Verdict
judged zero f k = acceptance k
judged (suc n) f k = refusal f

-- checking a job with its table
unfoldable pub check_job : (w : ℕ) (job table : List ℕ) → Verdict
check_job w job table = judged (job_fault w job table).0 (job_fault w job table) (job_cost w job table)

-- a survey says the same
abbrev pub surveyed : Result Survey Refusal → Verdict
surveyed (Ok s) = acceptance (counted s.whole)
surveyed (Err r) = refusal (fault_of r)

-- its counts of the orders before a place, 0 where it is refused
abbrev pub counted_before : Result Survey Refusal → Cost
counted_before (Ok s) = counted s.before
counted_before (Err r) = cost_of 0 0 0 0

-- the counts of the orders before a place of the job, 0 where the job is refused
unfoldable pub counts_before : (w : ℕ) (job table : List ℕ) (place : ℕ) → Cost
counts_before w job table place =
    (judged (job_fault w job table).0 (job_fault w job table) (job_cost w (take (place * 4) job) table)).counts

-- ---- unused masks: "2 to 6 for the one list"; "the whole list if refused"

-- what a job needs of the one list, and whether the list is short
unfoldable pub need : Which → Cost → ℕ
need ListA k = k.a
need ListB k = k.b

unfoldable pub short : Which → Cost → List ℕ → Bool
short ListA k l = short_a k l
short ListB k l = short_b k l

-- the job's number, or 6 where the list is short
unfoldable pub or_short : ℕ → Bool → ℕ
or_short zero b = cond b 6 0
or_short (suc n) b = suc n

unfoldable pub leftover_number : (w : ℕ) (job table : List ℕ) → Which → List ℕ → ℕ
leftover_number w job table x l = or_short (job_fault w job table).0 (short x (job_cost w job table) l)

-- "the part of A or B after the job's need"
unfoldable pub leftover_part : (number : ℕ) → (w : ℕ) (job table : List ℕ) → Which → List ℕ → List ℕ
leftover_part zero w job table x l = drop (need x (job_cost w job table)) l
leftover_part (suc n) w job table x l = l
