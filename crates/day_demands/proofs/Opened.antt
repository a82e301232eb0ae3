-- What a day opens, proved for every run of it. Assumes nothing.
use mathlib.Core.Path.{◌≡◌, refl, sym, ap, ◌∙◌}
use Prim.Native.Nat.{ℕ, suc, ◌^◌, ◌≤◌, ◌<◌}
use native.Mathlib.Omega.{arith}
use lib.Dec.{T, lit≤, lit<}
use lib.IntN.{ℤ, pos, ◌*ℤ◌}
use Rattle.words.specs.Words.{add, sub, numbers}
use Rattle.words.specs.Signed.{floor, signed, in_range}
use Rattle.words.proofs.Words.{sub_lt}
use Rattle.shares.specs.Gates.{Share, value}
use Rattle.shares.specs.Sharing.{hand_out, split, reconstruction}
use Rattle.shares.proofs.RoundTrip.{share_opens, round_trip}
use Rattle.gates.specs.Costs.{cost_of, plus}
use Rattle.programs.specs.Sizes.{times_cost}
use Rattle.jobs.specs.CostTable.{curve_cost, kind_costs, kind_cost}
use Rattle.runs.specs.Runs.{Setting, staged, World, opened_after}
use Rattle.runs.specs.Orders.{before_order, value_after, refresh_mask, source_value, reading, opens, Finishes}
use Rattle.runs.specs.Returned.{opened_now}
use Rattle.runs.proofs.Opening.{finished_opens}
use Rattle.runs.proofs.Standing.{in_script}
use Rattle.runs.proofs.Returned.{returned}
use Rattle.demands.specs.Demand3.{Exact}
use Rattle.demands.proofs.Curves.{rules_kept, curve_opens}
use Rattle.demands.proofs.Whole.{accepted_told}
use Rattle.day_demands.specs.Settings.{DaySetting, day_staged, quarter_share, quarter_reading}
use Rattle.day_demands.specs.Numbers.{day_terms}
use Rattle.day_demands.specs.Opened.{curve_alone, sum_of, above_of, factor_of, Sheet, DayOpens}
use Rattle.days.specs.Day.{day_of}
use Rattle.days.proofs.Counts.{day_counts, day_orders, day_orderly}
use Rattle.day_demands.proofs.Numbers.{told, single}
use Rattle.day_demands.proofs.Values.{alone_reads, alone_low, alone_high, sheet_keeps, product_within, count_reads}
use Rattle.day_demands.proofs.Sums.{other_share, sum_is, count_is, mean_is, mean_count_is}

module _ (S : DaySetting) (q : ℕ) (v : World) (F : Finishes 32 (day_staged 32 S) q v) where
  -- a slot that reads z on the joint walk opens z
  as_number : (i : ℕ) {z : ℤ} → signed 32 (value_after 32 (day_staged 32 S) q i) ≡ z → opened_after 32 v q i ≡ (0, z)
  as_number i e =
      finished_opens (day_staged 32 S) 32 v F.run q i F.finished ∙ ap {B = ℕ × ℤ} (λ (z : ℤ). (0, z)) e

  others : (i : ℕ) → 1 < i → i < 16 → opened_after 32 v q i ≡ (0, pos 0)
  unfolding signed sub add
  others i a b =
      let h : q < 97 = rw (day_orders 32 S.table 192 S.hours) at (in_script (day_staged 32 S) v F.run q F.finished.one) in
      as_number i (ap (λ (x : Share ℕ). signed 32 (value (numbers 32) x)) (other_share S F.words q i (omega arith) a b))

  module _ (sheet : Sheet S) (h : q < 96) where
    sum : opened_after 32 v q 0 ≡ (0, sum_of S (suc q))
    unfolding before_order
    sum = as_number 0 (sum_is S F.words sheet (suc q) (omega arith))

    count : opened_after 32 v q 1 ≡ (0, pos (above_of S (suc q)))
    unfolding before_order
    count = as_number 1 (count_reads S (suc q) (omega arith) (count_is S F.words sheet (suc q) (omega arith)))

module _ (S : DaySetting) (sheet : Sheet S) (v : World) (F : Finishes 32 (day_staged 32 S) 96 v) where
  mean : opened_after 32 v 96 0 ≡ (0, floor (pos (factor_of S) *ℤ sum_of S 96) 65536)
  mean = as_number S 96 v F 0 (mean_is S F.words sheet)

  mean_count : opened_after 32 v 96 1 ≡ (0, pos (above_of S 96))
  mean_count = as_number S 96 v F 1 (count_reads S 96 (lit≤ tt) (mean_count_is S F.words sheet))

  -- the last order is finished: what the hosts hold is as it left them
  now_as_left : (i : ℕ) → i < 120 → opened_now 32 120 v i ≡ opened_after 32 v 96 i
  now_as_left i h =
      (returned 32).all_done (day_staged 32 S) (day_orderly 32 S.table 192 S.hours) 96 v F (sym (day_orders 32 S.table 192 S.hours)) i h

-- a curve order of a job
alone : (J : Setting) (q : ℕ) (v : World) → Finishes 32 (staged 32 J) q v → Exact J q → T (in_range 32 (reading 32 J q))
    → opens 32 J v q ≡ (0, curve_alone J.table (reading 32 J q))
unfolding reading
alone J q v F e t =
    curve_opens 32 (lit< tt) J q v F 0 e.kind e.mode
    ∙ ap {B = ℕ × ℤ} (λ (z : ℤ). (0, z))
    (alone_reads J.table (rules_kept 32 J q v F e.kind) (source_value 32 J q) (sub_lt 32 _ _) t (refresh_mask 32 J q))

-- of what splitting gave
split_reading : (S : DaySetting) (q : ℕ) (x : ℤ) (l1 l2 : ℕ) → T (in_range 32 x) → l1 < 2 ^ 32 → l2 < 2 ^ 32
    → (split 32 x l1 l2).1 ≡ hand_out (quarter_share S q) → quarter_reading 32 S q ≡ x
unfolding quarter_reading
split_reading S q x l1 l2 r h1 h2 e =
    ap (λ (p : ℕ × ℤ). p.1)
    (sym (share_opens 32 (quarter_share S q)) ∙ ap (reconstruction 32) (sym e) ∙ (round_trip 32 x l1 l2 (lit≤ tt) r h1 h2).1)

house_counts : day_of 96 (kind_cost 10 0 8) ≡ cost_of 11629 23064 23161 11532
unfolding day_of times_cost kind_cost kind_costs curve_cost plus
house_counts = refl

pub day_opens : DayOpens
day_opens =
    record {
      sum = λ S sheet q v h F. sum S q v F sheet h;
      count = λ S sheet q v h F. count S q v F sheet h;
      mean = mean;
      mean_count = mean_count;
      others = λ S q i v F a b. others S q v F i a b;
      returned_mean = λ S sheet v F. now_as_left S sheet v F 0 (lit< tt) ∙ mean S sheet v F;
      returned_count = λ S sheet v F. now_as_left S sheet v F 1 (lit< tt) ∙ mean_count S sheet v F;
      alone = alone;
      split_reading = split_reading;
      value_low = λ S sheet q h. alone_low S.table (sheet_keeps S sheet) (quarter_reading 32 S q);
      value_high = λ S sheet q h. alone_high S.table (sheet_keeps S sheet) (quarter_reading 32 S q);
      sum_low = λ S sheet n h. (product_within S sheet n h).0;
      sum_high = λ S sheet n h. (product_within S sheet n h).1;
      counts = day_counts;
      house_counts = house_counts;
      orders = day_orders 32;
      orderly = day_orderly 32;
      accepted = λ S buf.
          accepted_told (day_staged 32 S) (day_terms S.table 192 S.hours) (told S.table 192 S.hours)
          (single S.table 192 S.hours) buf;
    }
