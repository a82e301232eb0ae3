-- What an order of a run finds and leaves: the three hosts' shares on the joint walk before it and after it, and the
-- mask of a curve's refresh. Assumes nothing.
use Rattle.std.specs.Prelude.{◌≡◌, false, ◌⊎◌, List, [], ◌∷◌, ℕ, zero, suc, ◌+◌, ◌^◌, ◌<◌, eqb, ℤ, get_or, length}
use Rattle.words.specs.Words.{add, numbers}
use Rattle.words.specs.Signed.{signed}
use Rattle.shares.specs.Gates.{Share, mask, value}
use Rattle.tables.specs.Table.{rows}
use Rattle.gates.specs.Steps.{at, Step, local, deal, exchange, end, origin}
use Rattle.gates.specs.Walk.{whole}
use Rattle.gates.specs.Hosts.{Triple, share, act}
use Rattle.gates.specs.Costs.{Cost, cost_of, plus}
use Rattle.gates.specs.Gates.{Gate}
use Rattle.programs.specs.declared.Order.{Order}
use Rattle.programs.specs.Programs.{sum_program}
use Rattle.programs.specs.Costs.{program_cost}
use Rattle.jobs.specs.Job.{orders, job_gates}
use Rattle.jobs.specs.FirstFault.{order}
use Rattle.calls.specs.Calls.{fresh}
use Rattle.runs.specs.Runs.{Stage, Setting, staged, World, Call, Run, Finished, opened_after}

-- all that the run is lent and given are words
pub record Words (w : ℕ) (S : Stage) : Type 0 where
  pub A : (i : ℕ) → at S.A i < 2 ^ w
  pub B : (i : ℕ) → at S.B i < 2 ^ w
  pub rm : (i : ℕ) → at S.rm i < 2 ^ w
  pub r1 : (i : ℕ) → at S.r1 i < 2 ^ w
  pub r2 : (i : ℕ) → at S.r2 i < 2 ^ w

-- the lanes m, L1 and L2 of all registers at the start
abbrev pub first : Stage → Triple
first S = (fresh S.rm, fresh S.r1, fresh S.r2)

-- as each order leaves them, in order
unfoldable pub trail : Stage → List Triple
trail S = (whole (act S.A S.B) S.script.steps origin (first S) []).trail

-- as order q leaves them, and just before it
unfoldable pub after_order : Stage → ℕ → Triple
after_order S q = get_or (trail S) q (first S)

unfoldable pub before_order : Stage → ℕ → Triple
before_order S zero = first S
before_order S (suc q) = after_order S q

-- the share in slot i just before order q, and as order q leaves it
abbrev pub share_before : Stage → (q i : ℕ) → Share ℕ
share_before S q i = share (before_order S q) i

abbrev pub share_after : Stage → (q i : ℕ) → Share ℕ
share_after S q i = share (after_order S q) i

-- what slot i opens just before order q, and its mask there, "L = L1 + L2"; and what it opens as order q leaves it
abbrev pub value_before : (w : ℕ) → Stage → (q i : ℕ) → ℕ
value_before w S q i = value (numbers w) (share_before S q i)

abbrev pub mask_before : (w : ℕ) → Stage → (q i : ℕ) → ℕ
mask_before w S q i = mask (numbers w) (share_before S q i)

abbrev pub value_after : (w : ℕ) → Stage → (q i : ℕ) → ℕ
value_after w S q i = value (numbers w) (share_after S q i)

-- no step of order q has slot i as its target
abbrev pub Unwritten : (i q : ℕ) → List Step → Type 0
Unwritten i q [] = Unit
Unwritten i zero (local d m l ∷ ss) = (eqb i d ≡ false) × Unwritten i zero ss
Unwritten i zero (deal d f ∷ ss) = (eqb i d ≡ false) × Unwritten i zero ss
Unwritten i zero (exchange d e ∷ ss) = (eqb i d ≡ false) × Unwritten i zero ss
Unwritten i zero (end ∷ ss) = Unit
Unwritten i (suc q) (local d m l ∷ ss) = Unwritten i (suc q) ss
Unwritten i (suc q) (deal d f ∷ ss) = Unwritten i (suc q) ss
Unwritten i (suc q) (exchange d e ∷ ss) = Unwritten i (suc q) ss
Unwritten i (suc q) (end ∷ ss) = Unwritten i q ss

-- P, where the order does not end here
abbrev pub GoingOn : List Step → Type 0 → Type 0
GoingOn [] P = P
GoingOn (local d m l ∷ ss) P = P
GoingOn (deal d f ∷ ss) P = P
GoingOn (exchange d e ∷ ss) P = P
GoingOn (end ∷ ss) P = Unit

-- no step of order q but its last has slot i as its target
abbrev pub WrittenLast : (i q : ℕ) → List Step → Type 0
WrittenLast i q [] = Unit
WrittenLast i zero (local d m l ∷ ss) = GoingOn ss (eqb i d ≡ false) × WrittenLast i zero ss
WrittenLast i zero (deal d f ∷ ss) = GoingOn ss (eqb i d ≡ false) × WrittenLast i zero ss
WrittenLast i zero (exchange d e ∷ ss) = GoingOn ss (eqb i d ≡ false) × WrittenLast i zero ss
WrittenLast i zero (end ∷ ss) = Unit
WrittenLast i (suc q) (local d m l ∷ ss) = WrittenLast i (suc q) ss
WrittenLast i (suc q) (deal d f ∷ ss) = WrittenLast i (suc q) ss
WrittenLast i (suc q) (exchange d e ∷ ss) = WrittenLast i (suc q) ss
WrittenLast i (suc q) (end ∷ ss) = WrittenLast i q ss

-- the order ends, and no product or refresh stands before its end
abbrev pub Silent : List Step → Type 0
Silent [] = ⊥
Silent (local d m l ∷ ss) = Silent ss
Silent (deal d f ∷ ss) = Silent ss
Silent (exchange d e ∷ ss) = ⊥
Silent (end ∷ ss) = Unit

-- "Between two exchanges of an order a state's registers are those before the order.": no step of order q that a
-- product or refresh of the order stands behind has slot i as its target; and no step at all, where the order does not
-- end
abbrev pub WrittenBehind : (i q : ℕ) → List Step → Type 0
WrittenBehind i q [] = Unit
WrittenBehind i zero (local d m l ∷ ss) = ((eqb i d ≡ false) ⊎ Silent ss) × WrittenBehind i zero ss
WrittenBehind i zero (deal d f ∷ ss) = ((eqb i d ≡ false) ⊎ Silent ss) × WrittenBehind i zero ss
WrittenBehind i zero (exchange d e ∷ ss) = ((eqb i d ≡ false) ⊎ Silent ss) × WrittenBehind i zero ss
WrittenBehind i zero (end ∷ ss) = Unit
WrittenBehind i (suc q) (local d m l ∷ ss) = WrittenBehind i (suc q) ss
WrittenBehind i (suc q) (deal d f ∷ ss) = WrittenBehind i (suc q) ss
WrittenBehind i (suc q) (exchange d e ∷ ss) = WrittenBehind i (suc q) ss
WrittenBehind i (suc q) (end ∷ ss) = WrittenBehind i q ss

-- the sum of the two mask words that stand behind the counts k and all that the gates gs use
abbrev pub mask_behind : (w : ℕ) (A B : List ℕ) → Cost → List Gate → ℕ
mask_behind w A B k gs = add w (at A (k.a + (program_cost w gs).a)) (at B (k.b + (program_cost w gs).b))

-- ---- of a job

-- order q
unfoldable pub order_of : Setting → ℕ → Order
order_of S q = order (orders S.job) q

-- register i is not the target of order q, if there is such an order
abbrev pub Untargeted : Setting → (q i : ℕ) → Type 0
Untargeted S q i = q < length (orders S.job) → eqb i (order_of S q).target ≡ false

-- the counts of the first q of a list of programs
unfoldable pub first_counts : (w q : ℕ) → List (List Gate) → Cost
first_counts w zero gs = cost_of 0 0 0 0
first_counts w (suc q) [] = cost_of 0 0 0 0
first_counts w (suc q) (g ∷ gs) = plus (program_cost w g) (first_counts w q gs)

-- the counts of the orders before order q
unfoldable pub used_before : ℕ → Setting → ℕ → Cost
used_before w S q = first_counts w q (job_gates w S.job S.table)

-- "L is the sum of the two mask words of the curve's refresh": the words of A and of B that come after all that the
-- orders before it and its own sum use
unfoldable pub refresh_mask : ℕ → Setting → ℕ → ℕ
refresh_mask w S q =
    mask_behind w S.A S.B (used_before w S q) (sum_program w (order_of S q).source (rows S.table))

-- what the first source of order q opens just before it, and its mask there; and what the second source opens: "The
-- fourth word is the second source, a register, for kinds 0, 1, 4"
abbrev pub source_value : (w : ℕ) → Setting → ℕ → ℕ
source_value w S q = value_before w (staged w S) q (order_of S q).source

abbrev pub source_mask : (w : ℕ) → Setting → ℕ → ℕ
source_mask w S q = mask_before w (staged w S) q (order_of S q).source

abbrev pub second_value : (w : ℕ) → Setting → ℕ → ℕ
second_value w S q = value_before w (staged w S) q (order_of S q).fourth

-- "x is the signed reading of what the order's source opens just before it"
unfoldable pub reading : (w : ℕ) → Setting → ℕ → ℤ
reading w S q = signed w (source_value w S q)

-- ---- in a run

-- a run that finishes order q
pub record Finishes (w : ℕ) (S : Stage) (q : ℕ) (v : World) : Type 0 where
  pub words : Words w S
  pub calls : List Call
  pub run : Run S calls v
  pub finished : Finished v q

-- what order q opens after a run: the number, 0 for none, and the value
abbrev pub opens : (w : ℕ) → Setting → World → ℕ → ℕ × ℤ
opens w S v q = opened_after w v q (order_of S q).target
