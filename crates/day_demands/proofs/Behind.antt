-- No step of a day writes a slot behind the 24 registers and kept words. Assumes nothing.
use mathlib.Core.Path.{◌≡◌}
use mathlib.Core.Bool.{Bool, true, false, cond}
use mathlib.Core.List.{List, [], ◌∷◌, ◌++◌}
use Prim.Native.Nat.{ℕ, zero, suc, ◌≤◌, ◌<◌}
use native.Mathlib.Omega.{arith}
use borrow.Author.Tests.{ne_eqb}
use lib.Dec.{eqb, lit≤}
use Rattle.tables.specs.Table.{Row, rows}
use Rattle.gates.specs.Gates.{Gate, Add}
use Rattle.programs.specs.Programs.{t_slot, acc_slot, exact_program}
use Rattle.programs.specs.Orders.{curve_program}
use Rattle.programs.proofs.Points.{target, Other}
use Rattle.runs.proofs.Written.{none, also, spares_append, spared, front_exact, front_curve}
use Rattle.runs.proofs.Behind.{Low, SparesFrom, AllSpareFrom, low_orders}
use Rattle.days.specs.Day.{share_slot, quarter_program, mean_program, quarters, day_factor, day_gates, day_steps}

-- a slot behind them is no register and no kept word
not_own : (i t : ℕ) → 24 ≤ i → t < 24 → eqb i t ≡ false
not_own i t h k = ne_eqb i t (λ e. omega arith)

behind_own : (i : ℕ) → 24 ≤ i → Other 22 i
behind_own i h =
    record {
      i16 = not_own i 16 h (lit≤ tt);
      i17 = not_own i 17 h (lit≤ tt);
      i18 = not_own i 18 h (lit≤ tt);
      i19 = not_own i 19 h (lit≤ tt);
      i20 = not_own i 20 h (lit≤ tt);
      i21 = not_own i 21 h (lit≤ tt);
      i22 = not_own i 22 h (lit≤ tt);
      i23 = not_own i 23 h (lit≤ tt);
      id = not_own i 22 h (lit≤ tt);
    }

module _ (w : ℕ) where
  quarter_spares : (ps : List Row) (q : ℕ) → SparesFrom 24 (quarter_program w q ps)
  unfolding quarter_program target
  quarter_spares ps q i h =
      let o = behind_own i h in
      let curve : List Gate = curve_program w (share_slot q) acc_slot ps 0 in
      spares_append i curve (Add 0 0 acc_slot ∷ Add 1 1 t_slot ∷ [])
      (spared i acc_slot curve o.i22 (front_curve i o w (share_slot q) acc_slot ps 0))
      (also (not_own i 0 h (lit≤ tt)) (also (not_own i 1 h (lit≤ tt)) none))

  mean_spares : (by : ℕ) → SparesFrom 24 (mean_program w by)
  unfolding mean_program target
  mean_spares k i h =
      let o = behind_own i h in
      also o.i22 (spared i 0 (exact_program w 16 acc_slot 0) (not_own i 0 h (lit≤ tt)) (front_exact i o w 16 acc_slot 0))

module _ (w : ℕ) (f : ℕ → Bool) (ps : List Row) where
  -- a quarter left out has no gates
  order_spares : (b : Bool) (q : ℕ) → SparesFrom 24 (cond b (quarter_program w q ps) [])
  order_spares true q i h = quarter_spares w ps q i h
  order_spares false q i h = none

  -- the quarters, and a last program behind them
  quarters_spare : (q n : ℕ) (gs : List Gate) → SparesFrom 24 gs → AllSpareFrom 24 (quarters w f ps q n ++ (gs ∷ []))
  unfolding quarters
  quarters_spare q zero gs h = (h, tt)
  quarters_spare q (suc n) gs h = (order_spares (f q) q, quarters_spare (suc q) n gs h)

  day_spares : AllSpareFrom 24 (day_gates w f ps)
  unfolding day_gates
  day_spares = quarters_spare 0 96 (mean_program w (day_factor f)) (mean_spares w (day_factor f))

pub day_low : (w : ℕ) (table : List ℕ) (f : ℕ → Bool) → Low 24 (day_steps w table f)
unfolding day_steps
day_low w table f = low_orders w 24 (day_gates w f (rows table)) (day_spares w f (rows table))
