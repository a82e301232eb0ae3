-- The parts of a curve's program: its first gate and the gates of its rows, and the truncation of its mode. Assumes nothing.
use mathlib.Core.Path.{◌≡◌, refl, sym, ap}
use mathlib.Core.List.{List, [], ◌∷◌}
use Prim.Native.Nat.{ℕ, zero, suc, ◌*◌, ◌/◌, ◌%◌, ◌^◌}
use native.Mathlib.Nat.{zero-mod}
use native.Mathlib.Omega.{arith}
use lib.IntN.{pos}
use lib.ListN.{length}
use Rattle.gates.specs.Gates.{Refresh, Const}
use Rattle.tables.specs.Table.{Row, rows, row_at}
use Rattle.programs.specs.Programs.{acc_slot, one_bit_program, rows_program, sum_program, truncation}

-- a table's words are two to a row
pub rows_count : (ws : List ℕ) → length (rows ws) ≡ length ws / 2
unfolding rows
rows_count [] = refl
rows_count (r ∷ []) = refl
rows_count (r ∷ c ∷ ws) = omega (arith, rows_count ws)

module _ (w : ℕ) where
  -- the sum's gates: the first one, and those of the rows
  pub sum_gates : (x : ℕ) (ps : List Row)
      → sum_program w x ps ≡ Const acc_slot (4096 * (row_at ps 0).c % 2 ^ w) ∷ rows_program w x (pos 0) ps
  unfolding sum_program rows_program
  sum_gates x [] = ap (λ (n : ℕ). Const acc_slot n ∷ []) (sym (zero-mod (2 ^ w)))
  sum_gates x (p ∷ ps) = refl

  -- the truncation of every mode but 0
  pub refreshed : (mode : ℕ) → (mode ≡ 0 → ⊥) → Refresh acc_slot acc_slot ∷ one_bit_program w 12 acc_slot acc_slot ≡ truncation w mode
  unfolding truncation
  refreshed zero f = absurd (f refl)
  refreshed (suc m) f = refl
