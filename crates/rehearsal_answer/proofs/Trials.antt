-- What the rehearsal's three hosts open and count: the curve's value of the reading, and document 01's table. Assumes nothing.
use mathlib.Core.Path.{◌≡◌, refl, sym, ap, ap₂, ◌∙◌}
use mathlib.Core.Bool.{Bool, true, false}
use mathlib.Core.List.{List}
use Prim.Native.Nat.{ℕ, zero, suc, ◌+◌, ◌^◌, ◌<◌}
use native.Mathlib.Nat.{zero-add}
use native.Mathlib.Omega.{arith}
use lib.Dec.{T, lit≤, lit<}
use lib.IntN.{ℤ, pos, ◌+ℤ◌}
use lib.ListN.{length, replicate}
use lib.Pow.{pow_pos}
use lib.Signed.{◌≤ℤ◌, lt_z, lt_z_yes, lt_z_no}
use Rattle.words.specs.Words.{add, numbers}
use Rattle.words.specs.Signed.{floor, signed, wrap, in_range}
use Rattle.truncations.specs.Truncation.{slip}
use Rattle.words.proofs.Words.{add_lt, sub_lt}
use Rattle.shares.specs.Gates.{value}
use Rattle.tables.specs.Table.{rows, keeps_rules, house}
use Rattle.curves.specs.Curve.{scaled, last_count}
use Rattle.tables.proofs.HouseTable.{house_keeps_rules}
use Rattle.gates.specs.Steps.{at}
use Rattle.gates.specs.Costs.{Cost, cost_of, plus}
use Rattle.programs.specs.Programs.{sum_program}
use Rattle.programs.specs.Orders.{program}
use Rattle.programs.specs.Opens.{curve_value, values, order_value}
use Rattle.programs.specs.Costs.{program_cost}
use Rattle.programs.specs.Sizes.{Size, plus_size, times_cost, times_size}
use Rattle.programs.proofs.Sizes.{sum_sized, row_32}
use Rattle.programs.proofs.Calibration.{above_curve, exact_curve, one_bit_curve}
use Rattle.jobs.specs.Job.{orders, ill_sized, unknown_kind, unknown_register, two_sources, ill_fourths, ill_fourth, order_fault}
use Rattle.jobs.specs.CostTable.{table_counts, curve_cost, kind_costs, kind_cost}
use Rattle.jobs.proofs.CostTable.{cost_table}
use Rattle.jobs.specs.Job.{fault_at, orders_fault, job_fault, job_gates, steps_of, job_cost}
use Rattle.calls.specs.Scripts.{job_script, script_cost}
use Rattle.calls.specs.Lent.{or_else, dealer_lists_fault, dealer_fault}
use Rattle.calls.specs.Calls.{fresh}
use Rattle.calls.proofs.Faults.{long_enough}
use Rattle.runs.specs.Runs.{Setting, staged, opened_slot}
use Rattle.runs.specs.Orders.{Words, before_order, after_order, value_after, order_of, first_counts, used_before, refresh_mask}
use Rattle.runs.specs.Orders.{source_value}
use Rattle.runs.proofs.Opened.{order_leaves}
use Rattle.sample_masks.proofs.Multiples.{multiples_length, multiples_at, multiples_fit}
use Rattle.gates.specs.Hosts.{Triple, share}
use Rattle.std.specs.Prelude.{Result, Ok, Err, IsOk}
use Rattle.jobs.proofs.Refusals.{numbered}
use Rattle.trio.specs.declared.Trio.{Trio as Trio'}
use Rattle.trio.specs.declared.Refused.{Refused}
use Rattle.trio.specs.Together.{Trio, trio_of, after_preparation, together}
use Rattle.trio.proofs.Positions.{prepare_number, left_of, P}
use Rattle.trio.proofs.Leaves.{left_one, register_opens, words_spoken, deals_dealt}
use Rattle.rehearsal_answer.specs.Rehearsal as Spec
use Rattle.rehearsal_answer.specs.Rehearsal.{first_a, first_b, refresh_L}
use Rattle.rehearsal_answer.specs.Trial.{mode_word, in_first, trial_job, trial_a, trial_b, trial}

-- what register 0 opens
abbrev pub opens_first : Trio → ℕ × ℤ
opens_first s = opened_slot 32 s.masks (s.one.state.m, s.one.state.mask) (s.two.state.m, s.two.state.mask) 0

-- ---- the job and its counts

abbrev last_r : ℕ
last_r = last_count (rows house)

eight : length (rows house) ≡ 8
unfolding rows house
eight = refl

counts : ℕ → Cost
counts zero = cost_of 121 240 241 120
counts (suc m) = cost_of 110 220 220 110

deals_counted : (mode : ℕ) → (counts mode).deals ≡ Spec.deals mode
unfolding counts
deals_counted zero = refl
deals_counted (suc n) = refl

words_counted : (mode : ℕ) → (counts mode).b + (counts mode).b ≡ Spec.words mode
unfolding counts
words_counted zero = refl
words_counted (suc n) = refl

mask_lt : refresh_L < 2 ^ 32
unfolding refresh_L
mask_lt = add_lt 32 _ _

job_counts : (mode : ℕ) → job_cost 32 (trial_job mode) house ≡ counts mode
unfolding orders counts table_counts kind_cost kind_costs curve_cost plus
job_counts zero =
    cost_table.job_counts (trial_job 0) house ∙ ap (λ (n : ℕ). table_counts n (orders (trial_job 0))) eight
job_counts (suc m) =
    cost_table.job_counts (trial_job 1) house ∙ ap (λ (n : ℕ). table_counts n (orders (trial_job 1))) eight

script_counts : (mode : ℕ) → script_cost (job_script 32 (trial_job mode) house) ≡ counts mode
unfolding job_cost
script_counts mode = job_counts mode

is_true : (b : Bool) → T b → b ≡ true
is_true true t = refl
is_true false t = absurd t

house_ruled : keeps_rules house ≡ true
house_ruled = is_true (keeps_rules house) house_keeps_rules

job_sound : (mode : ℕ) → (job_fault 32 (trial_job mode) house).0 ≡ 0
unfolding job_fault ill_sized orders orders_fault fault_at order_fault unknown_kind unknown_register two_sources ill_fourth ill_fourths
job_sound zero = rw house_ruled
job_sound (suc m) = rw house_ruled

pub not_turned : (r : Result Trio' Refused) (buf : List ℕ) → (trio_of r buf).number ≡ 0 → IsOk r
not_turned (Ok s) buf z = refl
not_turned (Err e) buf z = absurd (numbered e.refusal.condition z)

-- ---- the setting

fits_zeros : (n i : ℕ) → at (replicate n 0) i < 2 ^ 32
fits_zeros zero i = pow_pos 32
fits_zeros (suc n) zero = pow_pos 32
fits_zeros (suc n) (suc i) = fits_zeros n i

fits_first : (x : ℕ) → x < 2 ^ 32 → (i : ℕ) → at (in_first x) i < 2 ^ 32
fits_first x h zero = h
fits_first x h (suc i) = fits_zeros 15 i

abbrev buffer : List ℕ
buffer = replicate 121 0

lists_long : (mode : ℕ) → 0 ≡ dealer_lists_fault (counts mode) trial_a trial_b buffer
unfolding counts
lists_long zero =
    long_enough 121 240 241 120 _ _ _ (omega (arith, multiples_length first_a 2 241)) (omega (arith, multiples_length first_b 2 120))
    (lit≤ tt)
lists_long (suc n) =
    long_enough 110 220 220 110 _ _ _ (omega (arith, multiples_length first_a 2 241)) (omega (arith, multiples_length first_b 2 120))
    (lit≤ tt)

module _ (mode m l1 l2 : ℕ) where
  abbrev S : Setting
  S =
      record {
        job = trial_job mode;
        table = house;
        A = trial_a;
        B = trial_b;
        rm = in_first m;
        r1 = in_first l1;
        r2 = in_first l2;
        rm_sixteen = refl;
        r1_sixteen = refl;
        r2_sixteen = refl;
      }

  accepted : (P (staged 32 S) buffer).number ≡ 0
  unfolding dealer_fault or_else
  accepted =
      sym (prepare_number (staged 32 S).script S.A S.B buffer (S.r1, S.r2))
      ∙ rw (job_sound mode, script_counts mode, ← lists_long mode)

  pub goes_through : (trial mode m l1 l2).number ≡ 0
  unfolding trial together after_preparation
  goes_through = accepted

  -- ---- the counts

  pub deals_are : (trial mode m l1 l2).deals ≡ Spec.deals mode
  unfolding trial
  deals_are = deals_dealt (staged 32 S) buffer accepted ∙ ap (λ (k : Cost). k.deals) (script_counts mode) ∙ deals_counted mode

  pub words_are : (trial mode m l1 l2).one.spoken + (trial mode m l1 l2).two.spoken ≡ Spec.words mode
  unfolding trial
  words_are =
      let k = words_spoken (staged 32 S) buffer accepted in
      ap₂ ◌+◌ (k.0 ∙ ap (λ (k : Cost). k.b) (script_counts mode)) (k.1 ∙ ap (λ (k : Cost). k.b) (script_counts mode))
      ∙ words_counted mode

  -- ---- the value

  module _ (hm : m < 2 ^ 32) (h1 : l1 < 2 ^ 32) (h2 : l2 < 2 ^ 32) where
    fitting : Words 32 (staged 32 S)
    fitting =
        record {
          A = multiples_fit first_a 2 241;
          B = multiples_fit first_b 2 120;
          rm = fits_first m hm;
          r1 = fits_first l1 h1;
          r2 = fits_first l2 h2;
        }

    -- what register 0 opens at first
    abbrev x : ℕ
    x = value (numbers 32) (record { m = m; l1 = l1; l2 = l2 })

    source_is : source_value 32 S 0 ≡ x
    unfolding before_order order_of orders fresh
    source_is = refl

    place_a : (used_before 32 S 0).a + (program_cost 32 (sum_program 32 (order_of S 0).source (rows S.table))).a ≡ 192
    unfolding used_before first_counts order_of orders plus_size times_size times_cost plus
    place_a = zero-add _ ∙ ap (λ (z : Size). z.cost.a) (sum_sized 32 0 (rows house)) ∙ rw (eight, row_32)

    place_b : (used_before 32 S 0).b + (program_cost 32 (sum_program 32 (order_of S 0).source (rows S.table))).b ≡ 96
    unfolding used_before first_counts order_of orders plus_size times_size times_cost plus
    place_b = zero-add _ ∙ ap (λ (z : Size). z.cost.b) (sum_sized 32 0 (rows house)) ∙ rw (eight, row_32)

    mask_is : refresh_mask 32 S 0 ≡ refresh_L
    unfolding refresh_mask refresh_L
    mask_is =
        ap₂ (add 32) (ap (at trial_a) place_a ∙ multiples_at first_a 2 241 192 (lit< tt))
        (ap (at trial_b) place_b ∙ multiples_at first_b 2 120 96 (lit< tt))

    left_is : left_of (staged 32 S) ≡ after_order (staged 32 S) 0
    unfolding steps_of job_gates orders
    left_is =
        left_one 32 (staged 32 S) (program 32 (rows house) (record { kind = 10; target = 0; source = 0; fourth = mode_word mode })) refl

    leaves : value_after 32 (staged 32 S) 0 0 ≡ curve_value 32 (rows house) (mode_word mode) x refresh_L
    unfolding order_of orders order_value values
    leaves =
        order_leaves 32 S fitting (lit< tt) (job_sound mode) 0 (lit< tt)
        ∙ ap₂ (λ (v R : ℕ). curve_value 32 (rows house) (mode_word mode) v R) source_is mask_is

    opens_curve : opens_first (trial mode m l1 l2)
        ≡ (0, signed 32 (curve_value 32 (rows house) (mode_word mode) x refresh_L))
    unfolding trial
    opens_curve =
        register_opens (staged 32 S) buffer accepted 32 0 (lit< tt)
        ∙ ap {B = ℕ × ℤ} (λ (v : ℕ). (0, signed 32 v)) (ap (λ (j : Triple). value (numbers 32) (share j 0)) left_is ∙ leaves)

    -- up to the last row's count
    covered_is : (n : ℕ) (z : ℤ) → signed 32 x ≡ z → T (in_range 32 z) → z ≤ℤ pos last_r
        → signed 32 (curve_value 32 (rows house) (mode_word n) x refresh_L) ≡ Spec.covered n z
    unfolding Spec.covered Spec.Y
    covered_is zero z e r l =
        exact_curve 32 (lit≤ tt) house house_keeps_rules x (sub_lt 32 _ _) (rw e r) (rw e l) refresh_L
        ∙ ap (λ (y : ℤ). floor (scaled (rows house) y) 4096) e
    covered_is (suc n) z e r l =
        one_bit_curve 32 (lit≤ tt) house house_keeps_rules x (sub_lt 32 _ _) (rw e r) (rw e l) refresh_L 0 mask_lt
        ∙ ap (λ (y : ℤ). floor (scaled (rows house) y) 4096 +ℤ pos (slip 12 (wrap 12 (scaled (rows house) y)) refresh_L)) e

    curve_is : (n : ℕ) (z : ℤ) → signed 32 x ≡ z → T (in_range 32 z)
        → signed 32 (curve_value 32 (rows house) (mode_word n) x refresh_L) ≡ Spec.value n z
    unfolding Spec.value
    curve_is n z e r = go (lt_z (pos last_r) z) refl
      where
        go : (b : Bool) → lt_z (pos last_r) z ≡ b → signed 32 (curve_value 32 (rows house) (mode_word n) x refresh_L) ≡ Spec.value n z
        go true t =
            rw t (above_curve 32 (lit≤ tt) house house_keeps_rules x (sub_lt 32 _ _) (mode_word n) refresh_L (rw e (lt_z_yes (rw t tt))))
        go false t = rw t (covered_is n z e r (lt_z_no (rw t tt)))

    -- "exactly floor(Y / 4096) in exact mode"; in one-bit mode that, or one more; above the last row -1
    pub value_is : (z : ℤ) → signed 32 x ≡ z → T (in_range 32 z)
        → opens_first (trial mode m l1 l2) ≡ (0, Spec.value mode z)
    value_is z e r = opens_curve ∙ ap {B = ℕ × ℤ} (λ (v : ℤ). (0, v)) (curve_is mode z e r)
