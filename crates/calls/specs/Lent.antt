-- What a call is lent, and the checks 1 to 7. Assumes nothing.
use Rattle.std.specs.Prelude.{◌||◌, cond, List, ℕ, zero, suc, eqb}
use Rattle.gates.specs.Steps.{Step, Exchange, Cursor}
use Rattle.gates.specs.Hosts.{Pair, act1, word_of1, hear1, act2, word_of2, hear2}
use Rattle.gates.specs.Costs.{Cost, cost_of}
use Rattle.jobs.specs.Job.{Fault, short_a, short_b, short_deals}
use Rattle.calls.specs.Scripts.{Script, script_cost}

-- starting and hearing: the host's number, what it is to run, the host's own mask list (host 1: A; host 2: B), and the
-- deals, of which host 1 takes no notice
pub record Lent : Type 0 where
  pub host : ℕ
  pub script : Script
  pub masks : List ℕ
  pub deals : List ℕ

abbrev pub lent : (host : ℕ) → Script → (masks deals : List ℕ) → Lent
lent h σ M D = record { host = h; script = σ; masks = M; deals = D }

-- host 1 or 2, a worker: its steps, its word at a product or refresh, and its lanes when it has heard the other's
pub record Worker : Type 0 where
  pub act : Step → Cursor → Pair → Pair
  pub say : Exchange → Cursor → Pair → ℕ
  pub hear : ℕ → Exchange → Cursor → Pair → ℕ → Pair

abbrev pub worker1 : (A : List ℕ) → Worker
worker1 A = record { act = act1 A; say = word_of1 A; hear = hear1 A }

abbrev pub worker2 : (B D : List ℕ) → Worker
worker2 B D = record { act = act2 B D; say = word_of2 B D; hear = hear2 B D }

-- by the host's number, with its lists
unfoldable pub worker_with : (host : ℕ) (masks deals : List ℕ) → Worker
worker_with h M D = cond (eqb h 1) (worker1 M) (worker2 M D)

abbrev pub worker_of : Lent → Worker
worker_of loan = worker_with loan.host loan.masks loan.deals

-- ---- the checks

-- a fault, or where there is none another number with index 0
unfoldable pub or_else : Fault → ℕ → Fault
or_else f n = cond (eqb f.0 0) (n, 0) f

-- 6 and 7 of hosts 1 and 2
unfoldable pub lists_fault : Cost → Lent → ℕ
lists_fault k loan =
    cond (eqb loan.host 1) (cond (short_a k loan.masks) 6 0)
    (cond (short_b k loan.masks) 6 (cond (short_deals k loan.deals) 7 0))

-- 1 to 7: "1. Starting or stepping names a host other than 1 or 2."
unfoldable pub lent_fault : Lent → Fault
lent_fault loan = cond (eqb loan.host 1 || eqb loan.host 2)
    (or_else loan.script.fault (lists_fault (script_cost loan.script) loan)) (1, 0)

-- by the number found: the counts so far, or where the call is turned down none
unfoldable pub passed : (number : ℕ) → Cost → Cost
passed zero k = k
passed (suc n) k = cost_of 0 0 0 0

-- preparation: 2 to 7 of host 0
unfoldable pub dealer_lists_fault : Cost → (A B buffer : List ℕ) → ℕ
dealer_lists_fault k A B D = cond (short_a k A || short_b k B) 6 (cond (short_deals k D) 7 0)

unfoldable pub dealer_fault : Script → (A B buffer : List ℕ) → Fault
dealer_fault σ A B D = or_else σ.fault (dealer_lists_fault (script_cost σ) A B D)
