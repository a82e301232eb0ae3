-- What a quarter's program and the mean's leave: in register 0 the sum with the curve's value, in register 1 the count with R-1's a, and
-- then the mean. No other register and no lent share changes. Assumes nothing.
use mathlib.Core.Path.{◌≡◌, refl, ap, ap₂, ◌∙◌}
use mathlib.Core.Bool.{false}
use mathlib.Core.List.{List, [], ◌∷◌}
use Prim.Native.Nat.{ℕ, ◌+◌, ◌≤◌, ◌<◌}
use native.Mathlib.Omega.{arith}
use lib.Dec.{eqb, lit≤, lit<}
use lib.ListN.{length}
use Rattle.words.specs.Words.{add, mul, numbers}
use Rattle.words.specs.Signed.{shr_signed}
use Rattle.shares.specs.Gates.{value}
use Rattle.gates.specs.Gates.{Gate, Add, Scale}
use Rattle.gates.specs.Hosts.{share}
use Rattle.tables.specs.Table.{Row}
use Rattle.curves.specs.Curve.{last_count, above_last}
use Rattle.programs.specs.Programs.{t_slot, acc_slot}
use Rattle.programs.specs.Orders.{curve_program}
use Rattle.programs.specs.Opens.{truncated, curve_value}
use Rattle.programs.proofs.Gates.{Fits}
use Rattle.programs.proofs.Points.{Other, Aside, register, behind, target, Point, after, afters, afters_append, num, keep_share}
use Rattle.programs.proofs.Points.{keep_num}
use Rattle.programs.proofs.Targets.{at_add, at_scale}
use Rattle.programs.proofs.Truncations.{exact_keeps}
use Rattle.programs.proofs.Opens.{curve_opens, curve_leaves, curve_keeps, exact_of}
use Rattle.days.specs.Day.{share_slot, quarter_program, mean_program}

module _ (w : ℕ) (A B : List ℕ) (hA : Fits w A) (hB : Fits w B) (low : 2 ≤ w) where
  abbrev Pt : Type 0
  Pt = Point w A B hA hB

  abbrev run : List Gate → Pt → Pt
  run = afters w A B hA hB

  abbrev opened : Pt → ℕ → ℕ
  opened = num w A B hA hB

  -- ---- a quarter

  module _ (q : ℕ) (ps : List Row) (G : Pt) where
    -- the slot of its share is no temporary
    lent : Aside (share_slot q)
    unfolding share_slot
    lent = behind (24 + q) (omega arith)

    -- its curve, and then the two additions
    abbrev curved : Pt
    curved = run (curve_program w (share_slot q) acc_slot ps 0) G

    parts : run (quarter_program w q ps) G ≡ run (Add 0 0 acc_slot ∷ Add 1 1 t_slot ∷ []) curved
    unfolding quarter_program
    parts = afters_append w A B hA hB (curve_program w (share_slot q) acc_slot ps 0) (Add 0 0 acc_slot ∷ Add 1 1 t_slot ∷ []) G

    curve_kept : (i : ℕ) → Aside i → share curved.j i ≡ share G.j i
    curve_kept i o = curve_keeps w A B hA hB low (share_slot q) acc_slot 0 ps G lent refl i o

    end_sum : (H : Pt) → opened (run (Add 0 0 acc_slot ∷ Add 1 1 t_slot ∷ []) H) 0 ≡ add w (opened H 0) (opened H acc_slot)
    unfolding afters target
    end_sum H = simp (at_add, keep_num)

    end_count : (H : Pt) → opened (run (Add 0 0 acc_slot ∷ Add 1 1 t_slot ∷ []) H) 1 ≡ add w (opened H 1) (opened H t_slot)
    unfolding afters target
    end_count H = simp (at_add, keep_num)

    pub quarter_sum : 12 < w → 0 < length ps
        → opened (run (quarter_program w q ps) G) 0 ≡ add w (opened G 0) (curve_value w ps 0 (opened G (share_slot q)) 0)
    unfolding num curve_value truncated
    quarter_sum h l =
        ap (λ (H : Pt). opened H 0) parts ∙ end_sum curved
        ∙ ap₂ (add w) (ap (value (numbers w)) (curve_kept 0 (register 0 (lit< tt))))
        (curve_opens w A B hA hB low (share_slot q) acc_slot 0 ps G lent refl h l)

    pub quarter_count : opened (run (quarter_program w q ps) G) 1
        ≡ add w (opened G 1) (above_last w (last_count ps) (opened G (share_slot q)))
    unfolding num
    quarter_count =
        ap (λ (H : Pt). opened H 1) parts ∙ end_count curved
        ∙ ap₂ (add w) (ap (value (numbers w)) (curve_kept 1 (register 1 (lit< tt))))
        (curve_leaves w A B hA hB low (share_slot q) acc_slot 0 ps G lent refl refl)

    pub quarter_keeps : (i : ℕ) → Aside i → eqb i 0 ≡ false → eqb i 1 ≡ false → share (run (quarter_program w q ps) G).j i ≡ share G.j i
    unfolding afters target
    quarter_keeps i o i0 i1 = ap (λ (H : Pt). share H.j i) parts ∙ (simp keep_share) ∙ curve_kept i o

  -- ---- the mean, by a factor

  module _ (k : ℕ) (G : Pt) where
    abbrev scaled_at : Pt
    scaled_at = after w A B hA hB (Scale acc_slot 0 k) G

    pub mean_opens : 16 < w → opened (run (mean_program w k) G) 0 ≡ shr_signed w 16 (mul w (opened G 0) k)
    unfolding mean_program afters
    mean_opens h =
        exact_of w A B hA hB low 16 acc_slot 0 scaled_at refl (lit≤ tt) h ∙ ap (shr_signed w 16) (at_scale w A B hA hB G acc_slot refl 0 k)

    pub mean_keeps : (i : ℕ) → Other 0 i → share (run (mean_program w k) G).j i ≡ share G.j i
    unfolding mean_program afters target
    mean_keeps i o =
        exact_keeps w A B hA hB 16 acc_slot 0 scaled_at refl low i o ∙ keep_share w A B hA hB (Scale acc_slot 0 k) G i o.i22
