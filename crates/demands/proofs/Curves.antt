-- What a finished order opens after a run: its kind's value; of a curve, the curve's value of its reading. Assumes nothing.
use mathlib.Core.Path.{◌≡◌, refl, ap, ◌∙◌}
use mathlib.Core.Bool.{Bool, true, false, ◌&&◌}
use Prim.Native.Nat.{ℕ, suc, ◌-◌, ◌^◌, ◌<◌}
use native.Mathlib.Omega.{arith}
use lib.Dec.{T, leb, leb→le, lt→ltb, lit<, lit≤}
use lib.IntN.{ℤ, pos, negsuc, neg_ℤ, ◌+ℤ◌}
use lib.ListN.{get_or}
use lib.Signed.{◌≤ℤ◌, ◌<ℤ◌}
use Rattle.words.specs.Signed.{floor, signed, wrap, in_range}
use Rattle.truncations.specs.Truncation.{slip}
use Rattle.words.proofs.Words.{add_lt, sub_lt}
use Rattle.tables.specs.Table.{rows, keeps_rules}
use Rattle.curves.proofs.Scaled.{last_at_most}
use Rattle.programs.specs.Opens.{curve_value, values, order_value}
use Rattle.programs.proofs.Calibration.{above_curve, exact_curve, one_bit_curve}
use Rattle.jobs.proofs.Accepted.{curve_ruled}
use Rattle.runs.specs.Runs.{Setting, staged, World}
use Rattle.runs.specs.Orders.{order_of, refresh_mask, source_value, source_mask, second_value, reading, opens, Finishes}
use Rattle.demands.specs.Demand3.{Y_of, last_r, Covered}
use Rattle.runs.proofs.Opened.{order_leaves}
use Rattle.runs.proofs.Opening.{finished_opens}
use Rattle.runs.proofs.InJob.{in_job, checked, good_order}

-- from -2^30 to n, where n is below 2^30
in_range_of : (z : ℤ) (n : ℕ) → neg_ℤ (pos (2 ^ 30)) ≤ℤ z → z ≤ℤ pos n → n < 2 ^ 30 → T (in_range 32 z)
unfolding in_range
in_range_of (pos k) n l h m = lt→ltb k (2 ^ 30) (omega (arith, leb→le k n h.le))
in_range_of (negsuc k) n l h m = and_true (leb k (2 ^ 30 - 1)) l.le
  where
    and_true : (b : Bool) → T b → T (b && true)
    and_true true t = tt
    and_true false t = absurd t

-- ---- at every width

-- an order that met none of the conditions 3 to 5: a curve's table keeps the rules
pub rules_kept : (w : ℕ) (S : Setting) (q : ℕ) (v : World) → Finishes w (staged w S) q v → (order_of S q).kind ≡ 10
    → T (keeps_rules S.table)
rules_kept w S q v F k = rw (curve_ruled w (keeps_rules S.table) (order_of S q) (good_order w S q v F) k).1 tt

-- the value of kind n on what order q finds
abbrev pub kind_value : (w : ℕ) → Setting → (q n : ℕ) → ℕ
kind_value w S q n =
    get_or (values w (rows S.table) (order_of S q).fourth (source_value w S q) (second_value w S q) (source_mask w S q)
    (refresh_mask w S q)) n 0

module _ (w : ℕ) (wide : 12 < w) (S : Setting) (q : ℕ) (v : World) (F : Finishes w (staged w S) q v) where
  -- an order of kind n opens that kind's value
  pub of_kind : (n : ℕ) → (order_of S q).kind ≡ n → opens w S v q ≡ (0, signed w (kind_value w S q n))
  unfolding order_value
  of_kind n e =
      finished_opens (staged w S) w v F.run q (order_of S q).target F.finished
      ∙ ap {B = ℕ × ℤ} (λ (x : ℕ). (0, signed w x))
      (order_leaves w S F.words wide (checked w S q v F).script q (in_job w S q v F) ∙ ap (kind_value w S q) e)

  -- a curve order opens its curve's value, in its mode
  pub curve_opens : (mode : ℕ) → (order_of S q).kind ≡ 10 → (order_of S q).fourth ≡ mode
      → opens w S v q ≡ (0, signed w (curve_value w (rows S.table) mode (source_value w S q) (refresh_mask w S q)))
  unfolding values
  curve_opens mode k m =
      of_kind 10 k
      ∙ ap {B = ℕ × ℤ} (λ (c : ℕ). (0, signed w (curve_value w (rows S.table) c (source_value w S q) (refresh_mask w S q)))) m

-- ---- at 32 bits

module _ (S : Setting) (q : ℕ) (v : World) (F : Finishes 32 (staged 32 S) q v) (k : (order_of S q).kind ≡ 10) where
  abbrev x : ℕ
  x = source_value 32 S q

  abbrev R : ℕ
  R = refresh_mask 32 S q

  mask_lt : R < 2 ^ 32
  unfolding refresh_mask
  mask_lt = add_lt 32 _ _

  abbrev kept : T (keeps_rules S.table)
  kept = rules_kept 32 S q v F k

  -- a reading from -2^30 to the last row's count
  module _ (h : Covered S q) where
    ranged : T (in_range 32 (signed 32 x))
    unfolding reading
    ranged = in_range_of (signed 32 x) (last_r S) h.from_low h.to_last (omega (arith, last_at_most S.table kept))

    up_to : signed 32 x ≤ℤ pos (last_r S)
    unfolding reading
    up_to = h.to_last

    pub exact_opens : (order_of S q).fourth ≡ 0 → opens 32 S v q ≡ (0, floor (Y_of 32 S q) 4096)
    unfolding Y_of reading
    exact_opens m =
        curve_opens 32 (lit< tt) S q v F 0 k m
        ∙ ap {B = ℕ × ℤ} (λ (y : ℤ). (0, y)) (exact_curve 32 (lit≤ tt) S.table kept x (sub_lt 32 _ _) ranged up_to R)

    pub one_bit_opens : (c : ℕ) → (order_of S q).fourth ≡ suc c
        → opens 32 S v q ≡ (0, floor (Y_of 32 S q) 4096 +ℤ pos (slip 12 (wrap 12 (Y_of 32 S q)) R))
    unfolding Y_of reading
    one_bit_opens c m =
        curve_opens 32 (lit< tt) S q v F (suc c) k m
        ∙ ap {B = ℕ × ℤ} (λ (y : ℤ). (0, y)) (one_bit_curve 32 (lit≤ tt) S.table kept x (sub_lt 32 _ _) ranged up_to R c mask_lt)

  -- above the last row
  pub above_opens : pos (last_r S) <ℤ reading 32 S q → opens 32 S v q ≡ (0, negsuc 0)
  unfolding reading
  above_opens l =
      curve_opens 32 (lit< tt) S q v F (order_of S q).fourth k refl
      ∙ ap {B = ℕ × ℤ} (λ (y : ℤ). (0, y)) (above_curve 32 (lit≤ tt) S.table kept x (sub_lt 32 _ _) (order_of S q).fourth R l)
