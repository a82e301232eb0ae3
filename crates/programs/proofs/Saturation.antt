-- R-1's last steps of a curve: what they open from the truncation's value in slot 22 and the source in slot x, and that a stays in
-- slot 20. Assumes nothing.
use mathlib.Core.Path.{◌≡◌, refl, ap, ap₂, ◌∙◌}
use mathlib.Core.Bool.{true, false}
use mathlib.Core.List.{List, ◌++◌}
use Prim.Native.Nat.{ℕ, ◌-◌, ◌≤◌}
use native.Mathlib.Omega.{arith}
use lib.Dec.{eqb, ltb}
use Rattle.words.specs.Words.{add, sub, mul, bit, numbers}
use Rattle.words.proofs.Words.{sub_lt}
use Rattle.words.proofs.Signed.{top_bit}
use Rattle.shares.specs.Gates.{value}
use Rattle.gates.specs.Gates.{Gate}
use Rattle.gates.specs.Hosts.{share}
use Rattle.curves.specs.Curve.{above_last, saturated}
use Rattle.curves.proofs.Above.{sub_mod}
use Rattle.programs.specs.Programs.{sign_program, saturation_head, saturation_end, saturation}
use Rattle.programs.proofs.Gates.{Fits}
use Rattle.programs.proofs.Points.{Other, target, Point, afters, afters_append, num, keep_share, keep_num}
use Rattle.programs.proofs.Targets.{at_sub, at_mul, at_plus, at_const}
use Rattle.programs.proofs.Blocks.{sign_opens, sign_keeps}

module _ (w : ℕ) (A B : List ℕ) (hA : Fits w A) (hB : Fits w B) (low : 2 ≤ w) where
  abbrev Pt : Type 0
  Pt = Point w A B hA hB

  abbrev run : List Gate → Pt → Pt
  run = afters w A B hA hB

  module _ (r x d : ℕ) (G : Pt) (x21 : eqb x 21 ≡ false) (hd : ltb d 24 ≡ true) where
    -- last r - x, and then its sign as a number
    abbrev difference : Pt
    difference = run (saturation_head r x) G

    abbrev signed_at : Pt
    signed_at = run (sign_program w 21) difference

    parts : run (saturation w r x d) G ≡ run (saturation_end d) signed_at
    unfolding saturation
    parts =
        afters_append w A B hA hB (saturation_head r x) (sign_program w 21 ++ saturation_end d) G
        ∙ afters_append w A B hA hB (sign_program w 21) (saturation_end d) difference

    difference_opens : num w A B hA hB difference 21 ≡ sub w r (num w A B hA hB G x)
    unfolding saturation_head afters target
    difference_opens = simp (at_sub, at_const, keep_num) (sub_mod w r (num w A B hA hB G x))

    a_opens : num w A B hA hB signed_at 20 ≡ above_last w r (num w A B hA hB G x)
    unfolding above_last
    a_opens =
        sign_opens w A B hA hB 21 difference refl low ∙ ap (λ (v : ℕ). bit v (w - 1)) difference_opens
        ∙ top_bit w (sub w r (num w A B hA hB G x)) (omega arith) (sub_lt w r _)

    -- the truncation's value is kept
    value_kept : num w A B hA hB signed_at 22 ≡ num w A B hA hB G 22
    unfolding saturation_head afters target num
    value_kept = ap (value (numbers w)) (sign_keeps w A B hA hB 21 difference refl low 22 refl refl refl refl refl ∙ (simp keep_share))

    end_opens : num w A B hA hB (run (saturation_end d) signed_at) d
        ≡ sub w (num w A B hA hB signed_at 22) (mul w (num w A B hA hB signed_at 20) (add w (num w A B hA hB signed_at 22) 1))
    unfolding saturation_end afters target
    end_opens = simp (at_sub, at_mul, at_plus, keep_num)

    pub saturation_opens : num w A B hA hB (run (saturation w r x d) G) d
        ≡ saturated w (above_last w r (num w A B hA hB G x)) (num w A B hA hB G 22)
    unfolding saturated
    saturation_opens =
        ap (λ (H : Pt). num w A B hA hB H d) parts ∙ end_opens
        ∙ ap₂ (λ (v a : ℕ). sub w v (mul w a (add w v 1))) value_kept a_opens

    -- a stands in slot 20 where the target is another
    pub saturation_leaves : eqb 20 d ≡ false → num w A B hA hB (run (saturation w r x d) G) 20 ≡ above_last w r (num w A B hA hB G x)
    unfolding saturation_end afters target num
    saturation_leaves d20 =
        ap (λ (H : Pt). num w A B hA hB H 20) parts ∙ ap (value (numbers w)) (simp keep_share) ∙ a_opens

    pub saturation_keeps : (i : ℕ) → Other d i → share (run (saturation w r x d) G).j i ≡ share G.j i
    unfolding saturation_head saturation_end afters target
    saturation_keeps i o =
        ap (λ (H : Pt). share H.j i) parts
        ∙ (simp (keep_share, o.i23, o.id))
        ∙ sign_keeps w A B hA hB 21 difference refl low i o.i16 o.i17 o.i18 o.i19 o.i20
        ∙ (simp (keep_share, o.i21))
