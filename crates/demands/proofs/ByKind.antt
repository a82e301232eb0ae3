-- What an order of each kind opens, proved for every run that finishes it. Assumes nothing.
use mathlib.Core.Path.{◌≡◌, sym, ap, ◌∙◌}
use Prim.Native.Nat.{ℕ, ◌-◌, ◌^◌, ◌≤◌, ◌<◌}
use native.Mathlib.Omega.{arith}
use borrow.Author.Tests.{ltb-false}
use lib.Dec.{T, eqb, ltb}
use lib.IntN.{ℤ, pos, neg_ℤ, ◌+ℤ◌, ◌-ℤ◌, ◌*ℤ◌}
use lib.Pow.{pow_mono}
use lib.Signed.{◌≤ℤ◌, ◌<ℤ◌}
use Rattle.words.specs.Words.{add}
use Rattle.words.specs.Signed.{floor, signed, wrap, shr_signed, in_range}
use Rattle.words.proofs.Words.{add_lt, sub_lt}
use Rattle.words.proofs.Signed.{signed_low, signed_shr, wrap_signed}
use Rattle.truncations.specs.Truncation.{one_bit, slip}
use Rattle.tables.specs.Table.{rows}
use Rattle.curves.specs.Curve.{relu, word_curve, above_last, saturated, word_scaled}
use Rattle.curves.proofs.WordCurve.{in_range_reads}
use Rattle.curves.proofs.Above.{above_one, not_above, above_digit, saturated_reads}
use Rattle.curves.proofs.Segments.{same_sum, scaled_lt}
use Rattle.programs.specs.Programs.{t_slot}
use Rattle.programs.specs.Opens.{truncated, curve_value, values}
use Rattle.programs.proofs.Calibration.{truncated_lt}
use Rattle.programs.proofs.Readings.{sum_reads, difference_reads, product_reads, plus_reads, times_reads, slack_reads}
use Rattle.programs.proofs.Readings.{relu_reads, one_bit_reads}
use Rattle.jobs.specs.Job.{ill_fourth, ill_fourths}
use Rattle.jobs.proofs.Accepted.{or_false}
use Rattle.runs.specs.Runs.{Setting, staged, World, opened_after}
use Rattle.runs.specs.Orders.{order_of, refresh_mask, source_value, source_mask, second_value, reading, opens, Finishes}
use Rattle.demands.specs.Demand3.{Y_of, Exact, OneBit, last_r}
use Rattle.demands.specs.ByKind.{reduced, second_reading, shift, m_of, W_of, a_of, less_product, ByKind}
use Rattle.runs.proofs.InJob.{in_job, checked, good_order}
use Rattle.runs.proofs.Opened.{a_left as a_left_on}
use Rattle.runs.proofs.Opening.{finished_opens}
use Rattle.demands.proofs.Curves.{rules_kept, kind_value, of_kind, curve_opens}

module _ (w : ℕ) (wide : 12 < w) (S : Setting) (q : ℕ) (v : World) (F : Finishes w (staged w S) q v) where
  abbrev x : ℕ
  x = source_value w S q

  abbrev y : ℕ
  y = second_value w S q

  abbrev L : ℕ
  L = source_mask w S q

  hx : x < 2 ^ w
  hx = sub_lt w _ _

  hy : y < 2 ^ w
  hy = sub_lt w _ _

  hL : L < 2 ^ w
  hL = add_lt w _ _

  one : 1 ≤ w
  one = omega arith

  two : 2 ≤ w
  two = omega arith

  -- an order of kind n whose value is that of a word, or reads a whole number
  as_word : (n : ℕ) {m : ℕ} → (order_of S q).kind ≡ n → kind_value w S q n ≡ m → opens w S v q ≡ (0, signed w m)
  as_word n k e = of_kind w wide S q v F n k ∙ ap {B = ℕ × ℤ} (λ (m : ℕ). (0, signed w m)) e

  as_number : (n : ℕ) {z : ℤ} → (order_of S q).kind ≡ n → signed w (kind_value w S q n) ≡ z → opens w S v q ≡ (0, z)
  as_number n k e = of_kind w wide S q v F n k ∙ ap {B = ℕ × ℤ} (λ (z : ℤ). (0, z)) e

  sum : (order_of S q).kind ≡ 0 → opens w S v q ≡ (0, reduced w (reading w S q +ℤ second_reading w S q))
  unfolding values reduced reading second_reading
  sum k = as_word 0 k (sum_reads w x hx y hy)

  difference : (order_of S q).kind ≡ 1 → opens w S v q ≡ (0, reduced w (reading w S q -ℤ second_reading w S q))
  unfolding values reduced reading second_reading
  difference k = as_word 1 k (difference_reads w x hx y hy)

  plus_constant : (order_of S q).kind ≡ 2 → opens w S v q ≡ (0, reduced w (reading w S q +ℤ pos (order_of S q).fourth))
  unfolding values reduced reading
  plus_constant k = as_word 2 k (plus_reads w x hx (order_of S q).fourth)

  times_constant : (order_of S q).kind ≡ 3 → opens w S v q ≡ (0, reduced w (reading w S q *ℤ pos (order_of S q).fourth))
  unfolding values reduced reading
  times_constant k = as_word 3 k (times_reads w x hx (order_of S q).fourth)

  product : (order_of S q).kind ≡ 4 → opens w S v q ≡ (0, reduced w (reading w S q *ℤ second_reading w S q))
  unfolding values reduced reading second_reading
  product k = as_word 4 k (product_reads w x hx y hy)

  refresh : (order_of S q).kind ≡ 5 → opens w S v q ≡ (0, reading w S q)
  unfolding values reading
  refresh k = of_kind w wide S q v F 5 k

  large_slack : (order_of S q).kind ≡ 6
      → opens w S v q
      ≡ (0, reduced w (floor (reduced w (neg_ℤ (pos L))) (2 ^ shift S q) +ℤ floor (signed w (m_of w S q)) (2 ^ shift S q)))
  unfolding values reduced reading m_of
  large_slack k = as_word 6 k (slack_reads w (shift S q) x L hx hL)

  -- "k 1 to 30"
  shift_low : (order_of S q).kind ≡ 7 → shift S q ≤ w - 2
  unfolding ill_fourth ill_fourths
  shift_low k =
      ltb-false (w - 2) (shift S q) (or_false (eqb (shift S q) 0) (ltb (w - 2) (shift S q)) (rw k at (good_order w S q v F).fourth)).1

  one_bit_range : (order_of S q).kind ≡ 7 → T (in_range w (reading w S q))
      → opens w S v q ≡ (0, floor (reading w S q) (2 ^ shift S q) +ℤ pos (slip (shift S q) (wrap (shift S q) (reading w S q)) L))
  unfolding values reading
  one_bit_range k h = as_number 7 k (one_bit_reads w (shift S q) x L two (shift_low k) hx hL h)

  one_bit_steps : (order_of S q).kind ≡ 7 → opens w S v q ≡ (0, signed w (one_bit w (shift S q) (m_of w S q) L))
  unfolding values reading m_of
  one_bit_steps k = as_word 7 k (ap (λ (m : ℕ). one_bit w (shift S q) m L) (plus_reads w x hx L))

  exact_floor : (order_of S q).kind ≡ 8 → opens w S v q ≡ (0, floor (reading w S q) (2 ^ shift S q))
  unfolding values reading
  exact_floor k = as_number 8 k (signed_shr w (shift S q) x one hx)

  larger : (order_of S q).kind ≡ 9 → opens w S v q ≡ (0, relu (reading w S q))
  unfolding values reading
  larger k = as_number 9 k (relu_reads w x one hx)

  -- ---- the curve, for every x

  W_is : word_curve w (rows S.table) x ≡ W_of w S q
  unfolding W_of reading
  W_is = same_sum w (rows S.table) x ∙ ap (word_scaled w (rows S.table)) (sym (wrap_signed w x hx))

  W_lt : W_of w S q < 2 ^ w
  unfolding W_of
  W_lt = scaled_lt w (rows S.table) _

  curve_range : 28 ≤ w → (order_of S q).kind ≡ 10 → T (in_range w (reading w S q)) → signed w (W_of w S q) ≡ Y_of w S q
  unfolding Y_of reading
  curve_range o k h = ap (signed w) (sym W_is) ∙ in_range_reads w o S.table (rules_kept w S q v F k) x hx h

  -- R-1's a
  a_is : above_last w (last_r S) x ≡ a_of w S q
  unfolding a_of reading
  a_is = ap (above_last w (last_r S)) (sym (wrap_signed w x hx))

  -- what R-1's steps make of a value
  less_a : (v : ℕ) → v < 2 ^ w → signed w (saturated w (above_last w (last_r S) x) v) ≡ less_product (a_of w S q) (signed w v)
  less_a v h =
      saturated_reads w v one h (above_last w (last_r S) x) (above_digit w (last_r S) x) ∙ ap (λ (a : ℕ). less_product a (signed w v)) a_is

  curve_exact : Exact S q → opens w S v q ≡ (0, less_product (a_of w S q) (floor (signed w (W_of w S q)) 4096))
  unfolding curve_value truncated
  curve_exact e =
      curve_opens w wide S q v F 0 e.kind e.mode
      ∙ ap {B = ℕ × ℤ} (λ (z : ℤ). (0, z))
      (less_a (shr_signed w 12 (word_curve w (rows S.table) x)) (truncated_lt w 0 (word_curve w (rows S.table) x) 0)
      ∙ ap (λ (n : ℕ). less_product (a_of w S q) (signed w (shr_signed w 12 n))) W_is
      ∙ ap (less_product (a_of w S q)) (signed_shr w 12 (W_of w S q) one W_lt))

  curve_one_bit : OneBit S q
      → opens w S v q
      ≡ (0, less_product (a_of w S q) (signed w (one_bit w 12 (add w (W_of w S q) (refresh_mask w S q)) (refresh_mask w S q))))
  unfolding curve_value truncated
  curve_one_bit e =
      let R = refresh_mask w S q in
      curve_opens w wide S q v F 1 e.kind e.mode
      ∙ ap {B = ℕ × ℤ} (λ (z : ℤ). (0, z))
      (less_a (one_bit w 12 (add w (word_curve w (rows S.table) x) R) R) (truncated_lt w 1 (word_curve w (rows S.table) x) R)
      ∙ ap (λ (n : ℕ). less_product (a_of w S q) (signed w (one_bit w 12 (add w n R) R))) W_is)

  a_below : 28 ≤ w → (order_of S q).kind ≡ 10 → T (in_range w (reading w S q)) → reading w S q ≤ℤ pos (last_r S) → a_of w S q ≡ 0
  unfolding reading
  a_below o k h l = sym a_is ∙ not_above w o S.table (rules_kept w S q v F k) x hx h l

  a_left : (order_of S q).kind ≡ 10 → opened_after w v q t_slot ≡ (0, pos (a_of w S q))
  a_left k =
      finished_opens (staged w S) w v F.run q t_slot F.finished
      ∙ ap {B = ℕ × ℤ} (λ (n : ℕ). (0, signed w n))
      (a_left_on w S F.words wide (checked w S q v F).script q (in_job w S q v F) k ∙ a_is)
      ∙ ap {B = ℕ × ℤ} (λ (z : ℤ). (0, z)) (signed_low w (a_of w S q) small)
    where
      small : a_of w S q < 2 ^ (w - 1)
      small = omega (arith, rw a_is at (above_digit w (last_r S) x), pow_mono {i = 1} {j = w - 1} (omega arith))

-- whatever the run
a_above : (w : ℕ) → 12 < w → (S : Setting) (q : ℕ) → pos (last_r S) <ℤ reading w S q → a_of w S q ≡ 1
unfolding a_of reading
a_above w wide S q l =
    let x = source_value w S q in
    let h : x < 2 ^ w = sub_lt w _ _ in
    ap (above_last w (last_r S)) (wrap_signed w x h) ∙ above_one w (last_r S) x (omega arith) h l

-- at every width above the 12 bits that a curve truncates by
pub by_kind : (w : ℕ) → 12 < w → ByKind w
by_kind w wide =
    record {
      sum = sum w wide;
      difference = difference w wide;
      plus_constant = plus_constant w wide;
      times_constant = times_constant w wide;
      product = product w wide;
      refresh = refresh w wide;
      large_slack = large_slack w wide;
      one_bit_range = one_bit_range w wide;
      one_bit_steps = one_bit_steps w wide;
      exact_floor = exact_floor w wide;
      larger = larger w wide;
      curve_exact = curve_exact w wide;
      curve_one_bit = curve_one_bit w wide;
      a_above = a_above w wide;
      a_below = λ o S q v F. a_below w wide S q v F o;
      a_left = a_left w wide;
      curve_sum = same_sum;
      curve_range = λ o S q v F. curve_range w wide S q v F o;
    }
