-- An accepted job is small: its words, and the gates of its orders. Assumes nothing.
use mathlib.Core.Path.{◌≡◌, sym, subst}
use mathlib.Core.List.{List}
use Prim.Native.Nat.{ℕ, ◌/◌, ◌≤◌, ◌<◌}
use native.Mathlib.Omega.{arith}
use lib.Dec.{T}
use lib.ListN.{length}
use Rattle.tables.specs.Table.{rows, keeps_rules, Rules}
use Rattle.tables.proofs.Rows.{rules}
use Rattle.programs.specs.declared.Order.{Order}
use Rattle.programs.specs.Orders.{program}
use Rattle.jobs.proofs.Indices.{order_count, orders_drop, head_of}
use Rattle.jobs.specs.Job.{orders, job_fault, order_at}
use Rattle.jobs.proofs.Accepted.{Good, faultless_parts, accepted_orders, curve_ruled}
use Rattle.jobs.proofs.Conditions as Conditions
use Rattle.worker.specs.Jobs.{Sized}
use Rattle.programs.proofs.Sizes.{few_gates}

-- ---- an accepted job is small

module _ (w : ℕ) (job table : List ℕ) (e : (job_fault w job table).0 ≡ 0) where
  order_good : (o : ℕ) → o < length job / 4 → Good w (keeps_rules table) (order_at job o)
  order_good o h =
      subst (λ (x : Order). Good w (keeps_rules table) x) (head_of (orders job) o (order_at job o) (order_at job o) _ (orders_drop job o h))
      (accepted_orders w job table e o (omega (arith, order_count job)) (order_at job o))

  rules_kept : (o : ℕ) → o < length job / 4 → (order_at job o).kind ≡ 10 → Rules table
  rules_kept o h c =
      (rules table).0 (subst T (sym (curve_ruled w (keeps_rules table) (order_at job o) (order_good o h) c).1) tt)

  -- where the programs of the width are short
  pub sized_by : ((o : Order) → (o.kind ≡ 10 → length (rows table) ≤ 16) → length (program w (rows table) o) ≤ 1000) → Sized w job table
  sized_by short =
      let p = Conditions.sized job (faultless_parts w job table e).0 in
      record {
        few_words = p.0;
        whole_orders = omega (arith, p.1);
        few_gates = λ o h. short (order_at job o) (λ c. (rules_kept o h c).at_most);
        short_table = λ o h c. let u = rules_kept o h c in omega (arith, u.at_most, u.whole_rows);
      }

pub sized : (job table : List ℕ) → (job_fault 32 job table).0 ≡ 0 → Sized 32 job table
sized job table e = sized_by 32 job table e (few_gates (rows table))

-- the order at o, as the code has it, is short
pub short_order : (w : ℕ) (job table : List ℕ) → Sized w job table → (o : ℕ) → o < length job / 4
    → (ord : Order) → ord ≡ order_at job o → length (program w (rows table) ord) ≤ 1000
short_order w job table Z o h ord e = subst (λ (x : Order). length (program w (rows table) x) ≤ 1000) (sym e) (Z.few_gates o h)
