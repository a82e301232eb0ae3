-- What every order of an accepted job leaves on the joint walk: its target opens the value that document 01 defines, other registers keep
-- their shares. Assumes nothing.
use mathlib.Core.Path.{◌≡◌, sym, subst}
use mathlib.Core.Bool.{true, false}
use mathlib.Core.List.{List, []}
use Prim.Native.Nat.{ℕ, ◌<◌}
use native.Mathlib.Omega.{arith}
use lib.Dec.{eqb}
use lib.ListN.{get_or, length}
use Rattle.tables.specs.Table.{rows, keeps_rules}
use Rattle.tables.proofs.Rows.{for_table}
use Rattle.gates.specs.Gates.{Gate}
use Rattle.gates.specs.Steps.{Step}
use Rattle.gates.specs.Meaning.{job_steps}
use Rattle.curves.specs.Curve.{last_count, above_last}
use Rattle.programs.specs.Programs.{t_slot}
use Rattle.programs.specs.Orders.{program}
use Rattle.programs.specs.Opens.{order_value}
use Rattle.jobs.specs.Job.{orders, job_fault, job_gates}
use Rattle.jobs.proofs.Accepted.{Good, accepted_orders}
use Rattle.calls.proofs.Scripts.{job_made}
use Rattle.runs.proofs.Lists.{get_d_map}
use Rattle.runs.specs.Runs.{Setting, staged}
use Rattle.runs.specs.Orders.{Words, share_before, share_after, value_after, Unwritten, WrittenLast, WrittenBehind}
use Rattle.runs.specs.Orders.{order_of, Untargeted, used_before, refresh_mask, source_value, source_mask, second_value}
use Rattle.jobs.proofs.Indices.{gates_length}
use Rattle.runs.proofs.Chain.{job_orders, job_orderly}
use Rattle.runs.proofs.Gated.{program_leaves, curve_leaves_a}
use Rattle.runs.proofs.Spared.{slot_kept}
use Rattle.runs.proofs.Written.{spares_program, front_program}
use Rattle.runs.proofs.Unwritten.{last_is_behind, unwritten_gates, last_gates}

module _ (w : ℕ) (S : Setting) where
  abbrev pub gates : List (List Gate)
  gates = job_gates w S.job S.table

  abbrev made : (staged w S).script.steps ≡ job_steps w gates
  made = job_made w S.job S.table

  module _ (q : ℕ) (hq : q < length (orders S.job)) where
    pub in_gates : q < length gates
    in_gates = rw (gates_length w S.job S.table) hq

    pub gates_is : get_or gates q [] ≡ program w (rows S.table) (order_of S q)
    unfolding job_gates order_of
    gates_is = get_d_map (program w (rows S.table)) (orders S.job) q _ [] hq

  -- ---- whatever the order: "the register keeps that until an order writes it"

  -- no step of order q writes a register that is not its target
  pub untargeted : (q i : ℕ) → i < 16 → Untargeted S q i → Unwritten i q (staged w S).script.steps
  untargeted q i hi f =
      subst (λ (ss : List Step). Unwritten i q ss) (sym made)
      (unwritten_gates w i q gates
      (λ h. let k : q < length (orders S.job) = rw (gates_length w S.job S.table) at h in
      rw (gates_is q k) (spares_program w (rows S.table) (order_of S q) i hi (f k))))

  -- no step of order q but its last writes a register, and behind that stands nothing
  pub target_behind : (q i : ℕ) → i < 16 → WrittenBehind i q (staged w S).script.steps
  target_behind q i hi =
      last_is_behind i q (staged w S).script.steps
      (subst (λ (ss : List Step). WrittenLast i q ss) (sym made)
      (last_gates w i q (order_of S q).target gates
      (λ h. rw (gates_is q (rw (gates_length w S.job S.table) at h)) (front_program w (rows S.table) (order_of S q) i hi))))

  pub order_keeps : (q : ℕ) → q < length (orders S.job) → (i : ℕ) → i < 16 → eqb i (order_of S q).target ≡ false
      → share_after (staged w S) q i ≡ share_before (staged w S) q i
  order_keeps q hq i hi e = slot_kept (staged w S) q i (rw (job_orders w S.job S.table) hq) (untargeted q i hi (λ h. e))

  -- ---- of an accepted job

  pub order_good : (job_fault w S.job S.table).0 ≡ 0 → (q : ℕ) → q < length (orders S.job)
      → Good w (keeps_rules S.table) (order_of S q)
  unfolding order_of
  order_good accepted q hq = accepted_orders w S.job S.table accepted q hq _

  some_row : keeps_rules S.table ≡ true → 0 < length (rows S.table)
  some_row e = for_table (λ rs. 0 < length rs) (λ p rs h. omega arith) S.table (rw e tt)

  -- "each order opens to the value that document 01 defines for it": at every width above the curve's shift by 12
  pub order_leaves : Words w (staged w S) → 12 < w → (job_fault w S.job S.table).0 ≡ 0 → (q : ℕ)
      → q < length (orders S.job)
      → value_after w (staged w S) q (order_of S q).target
      ≡ order_value w (rows S.table) (order_of S q) (source_value w S q) (second_value w S q) (source_mask w S q) (refresh_mask w S q)
  unfolding refresh_mask used_before
  order_leaves words wide accepted q hq =
      program_leaves w (staged w S) (job_orderly w S.job S.table) words gates made wide q (in_gates q hq) (rows S.table)
      (order_of S q)
      (gates_is q hq) (keeps_rules S.table) (order_good accepted q hq) some_row

  -- R-1's a, which a curve leaves in slot t
  pub a_left : Words w (staged w S) → 12 < w → (job_fault w S.job S.table).0 ≡ 0 → (q : ℕ) → q < length (orders S.job)
      → (order_of S q).kind ≡ 10
      → value_after w (staged w S) q t_slot ≡ above_last w (last_count (rows S.table)) (source_value w S q)
  a_left words wide accepted q hq k =
      curve_leaves_a w (staged w S) (job_orderly w S.job S.table) words gates made wide q (in_gates q hq) (rows S.table)
      (order_of S q)
      (gates_is q hq) (keeps_rules S.table) (order_good accepted q hq) some_row k
