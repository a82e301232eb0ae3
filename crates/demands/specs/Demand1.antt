-- The customer's demand 1, of preparation, starting and hearing: the number that the checking order reaches first with
-- the order's index, for every job and at every width; and that a refused call, of any script at all, changes nothing.
-- Assumes nothing.
use Rattle.std.specs.Prelude.{◌≡◌, ◌≢◌, List, ◌++◌, ℕ, length, replicate}
use Rattle.gates.specs.Hosts.{Pair}
use Rattle.tables.specs.Table.{rows}
use Rattle.gates.specs.Costs.{Cost}
use Rattle.jobs.specs.Job.{orders, job_gates, job_cost}
use Rattle.jobs.specs.CostTable.{table_counts}
use Rattle.jobs.specs.FirstFault.{Numbered}
use Rattle.calls.specs.Scripts.{Script, job_script}
use Rattle.calls.specs.Lent.{Lent, lent}
use Rattle.calls.specs.declared.Stored.{Stored}
use Rattle.calls.specs.Calls.{stored_places, State, Answer, Prepared, start, hear, prepare}
use Rattle.demands.specs.Conditions.{gate_places, walks_places, Terms, Single, PreparationIs, StartIs}
use Rattle.demands.specs.Conditions.{HearingIs}
use Rattle.demands.specs.Numbers.{Told, ToldPlaces}

-- a job with its table, whose counts are k: conditions 2 to 5 as jobs/specs/FirstFault.antt has them, and the products
-- and refreshes of its orders' gates
abbrev pub terms_of : (w : ℕ) (job table : List ℕ) → Cost → Terms
terms_of w job table k =
    record {
      own = Numbered w job table;
      needs = k;
      places = gate_places 0 (job_gates w job table);
      orders = length (orders job);
      walked = walks_places w (job_gates w job table);
    }

-- at 32 bits: its counts are the sum over its orders of document 01's table of costs
abbrev pub job_terms : (job table : List ℕ) → Terms
job_terms job table = terms_of 32 job table (table_counts (length (rows table)) (orders job))

-- at every width: those of its orders' gates
abbrev pub gate_terms : (w : ℕ) (job table : List ℕ) → Terms
gate_terms w job table = terms_of w job table (job_cost w job table)

abbrev pub prepare_job : (w : ℕ) (job table A B buffer : List ℕ) (masks : Pair) → Prepared
prepare_job w job table A B D r = prepare (job_script w job table) A B D r

abbrev pub start_job : (w h : ℕ) (job table masks deals : List ℕ) (registers : Pair) → Answer
start_job w h job table M D r = start (lent h (job_script w job table) M D) r

abbrev pub hear_job : (w h : ℕ) (job table masks deals : List ℕ) → State → (heard : ℕ) → Answer
hear_job w h job table M D s v = hear (lent h (job_script w job table) M D) s v

-- "Refused starting gives back the registers it was given .. every other number in a refused answer is 0": so the eight
-- kept words, the place and (R-7) the stored places
abbrev pub given_back : Pair → State
given_back r =
    record {
      m = r.0 ++ replicate 8 0;
      mask = r.1 ++ replicate 8 0;
      order = 0;
      turn = 0;
      stored = stored_places 0 0 0;
    }

-- at the width w, in these terms
pub record Demand1At (w : ℕ) (terms : (job table : List ℕ) → Terms) : Type 0 where
  -- "A call that meets a condition of document 01's list .. gives the number its checking order reaches first", and the
  -- order's index; "every other call completes its work": its number is 0
  pub preparing : (job table A B buffer : List ℕ) (r : Pair)
      → PreparationIs (terms job table) A B buffer
      (prepare_job w job table A B buffer r).number (prepare_job w job table A B buffer r).index
  pub starting : (h : ℕ) (job table M D : List ℕ) (r : Pair)
      → StartIs (terms job table) h M D (start_job w h job table M D r).number (start_job w h job table M D r).index
  pub hearing : (h : ℕ) (job table M D : List ℕ) (s : State) (v : ℕ)
      → HearingIs (terms job table) h M D (s.order, s.turn) s.stored
      (hear_job w h job table M D s v).number (hear_job w h job table M D s v).index
  -- and there is one such number and index
  pub one_preparation : (job table A B buffer : List ℕ) → Single (PreparationIs (terms job table) A B buffer)
  pub one_start : (h : ℕ) (job table M D : List ℕ) → Single (StartIs (terms job table) h M D)
  pub one_hearing : (h : ℕ) (job table M D : List ℕ) (o x : ℕ) (u : Stored)
      → Single (HearingIs (terms job table) h M D (o, x) u)
  -- a job's script is what these terms say, so that its calls are those of Numbers.antt
  pub told : (job table : List ℕ) → Told (job_script w job table) (terms job table)
  pub told_places : (job table : List ℕ) → ToldPlaces (job_script w job table) (terms job table)
  pub single : (job table : List ℕ) → Single (Numbered w job table)
  -- "and changes no state and no lent word"; "every other number in a refused answer is 0"
  pub preparing_unchanged : (σ : Script) (A B D : List ℕ) (r : Pair) → (prepare σ A B D r).number ≢ 0
      → ((prepare σ A B D r).masks ≡ r) × ((prepare σ A B D r).buffer ≡ D) × ((prepare σ A B D r).deals ≡ 0)
  pub starting_unchanged : (loan : Lent) (r : Pair) → (start loan r).number ≢ 0
      → ((start loan r).state ≡ given_back r) × ((start loan r).spoken ≡ 0) × ((start loan r).word ≡ 0)
  pub hearing_unchanged : (loan : Lent) (s : State) (v : ℕ) → (hear loan s v).number ≢ 0
      → ((hear loan s v).state ≡ s) × ((hear loan s v).spoken ≡ 0) × ((hear loan s v).word ≡ 0)

-- the customer's: at 32 bits, by document 01's table of costs
abbrev pub Demand1 : Type 0
Demand1 = Demand1At 32 job_terms
