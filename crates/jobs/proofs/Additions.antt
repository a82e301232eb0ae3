-- Additions and subtractions: their steps, the slots that they leave and the registers among which they stay, and a job
-- with more orders at its end. Assumes nothing.
use mathlib.Core.Path.{◌≡◌, refl, ap, ◌∙◌}
use mathlib.Core.Bool.{Bool, true}
use mathlib.Core.Logic.{◌≢◌}
use mathlib.Core.List.{List, [], ◌∷◌, ◌++◌}
use Prim.Native.Nat.{ℕ, zero, suc, ◌%◌, ◌<◌}
use native.Mathlib.Omega.{arith}
use lib.ListN.{length, set, take}
use lib.Seq.{get_or-set_same, get_or-set_other, get_or-take, take-set-lt}
use Rattle.tables.specs.Table.{Row}
use Rattle.gates.specs.Steps.{Lane, at, Step, end}
use Rattle.gates.specs.Meaning.{each, meaning, order_steps}
use Rattle.gates.specs.Hosts.{Pair}
use Rattle.programs.specs.declared.Order.{Order}
use Rattle.programs.specs.Orders.{kinds, program}
use Rattle.jobs.specs.Job.{orders, two_sources, job_fault}
use Rattle.jobs.specs.Additions.{Additive, added_word, added, added2}
use Rattle.jobs.proofs.Accepted.{Good, faultless_parts}
use Rattle.jobs.proofs.Conditions.{sized}

-- one step on every lane, and the order's end
pub additive_steps : (w : ℕ) (ps : List Row) (o : Order) → Additive o → (ss : List Step)
    → order_steps w (program w ps o) ss ≡ each o.target (added_word w o) ∷ end ∷ ss
unfolding program kinds order_steps meaning added_word
additive_steps w ps o h ss = go o.kind refl h
  where
    go : (k : ℕ) → o.kind ≡ k → k < 2 → order_steps w (program w ps o) ss ≡ each o.target (added_word w o) ∷ end ∷ ss
    go zero e l = rw e
    go (suc zero) e l = rw e
    go (suc (suc k)) e l = absurd (omega arith)

-- ---- slots

module _ (w : ℕ) where
  -- every slot but the target
  pub others_kept : (o : Order) (s : Pair) (i : ℕ) → i ≢ o.target
      → (at (added2 w o s).0 i ≡ at s.0 i) × (at (added2 w o s).1 i ≡ at s.1 i)
  others_kept o s i n = (
    get_or-set_other s.0 o.target i _ 0 n,
    get_or-set_other s.1 o.target i _ 0 n,
  )

  -- and the target
  pub target_written : (o : Order) (s : Pair) → o.target < length s.0 → o.target < length s.1
      → (at (added2 w o s).0 o.target ≡ added_word w o s.0) × (at (added2 w o s).1 o.target ≡ added_word w o s.1)
  target_written o s h k = (
    get_or-set_same s.0 o.target (added_word w o s.0) 0 h,
    get_or-set_same s.1 o.target (added_word w o s.1) 0 k,
  )

  -- an accepted order stays among the sixteen registers
  pub registers_added : (ruled : Bool) (o : Order) → Additive o → Good w ruled o → (l : Lane)
      → take 16 (added w o l) ≡ added w o (take 16 l)
  unfolding added_word two_sources
  registers_added ruled o h g l =
      take-set-lt 16 l o.target (added_word w o l) g.target
      ∙ ap (λ (v : ℕ). set (take 16 l) o.target v)
      (rw (get_or-take 16 l o.source 0 g.source, get_or-take 16 l o.fourth 0 (g.second (two o.kind h))))
    where
      two : (k : ℕ) → k < 2 → two_sources k ≡ true
      two zero l = refl
      two (suc zero) l = refl
      two (suc (suc k)) l = absurd (omega arith)

-- ---- more orders at a job's end

pub orders_append : (job ws : List ℕ) → length job % 4 ≡ 0 → orders (job ++ ws) ≡ orders job ++ orders ws
unfolding orders
orders_append [] ws h = refl
orders_append (k ∷ []) ws h = absurd (omega arith)
orders_append (k ∷ d ∷ []) ws h = absurd (omega arith)
orders_append (k ∷ d ∷ a ∷ []) ws h = absurd (omega arith)
orders_append (k ∷ d ∷ a ∷ c ∷ job) ws h =
    ap (λ (os : List Order). record { kind = k; target = d; source = a; fourth = c } ∷ os) (orders_append job ws (omega arith))

pub in_fours : (w : ℕ) (job table : List ℕ) → (job_fault w job table).0 ≡ 0 → length job % 4 ≡ 0
in_fours w job table e = (sized job (faultless_parts w job table e).0).1
