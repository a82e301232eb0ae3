-- A day's order is the code's own order with its slots moved, between the gates that are done before it and behind it. Assumes nothing.
use mathlib.Core.Path.{◌≡◌, refl, ap, ap₂, ◌∙◌}
use mathlib.Core.List.{List, [], ◌∷◌, ◌++◌, map, map-append}
use Prim.Native.Nat.{ℕ, ◌+◌, ◌-◌, ◌*◌, ◌%◌, ◌^◌}
use lib.IntN.{ℤ, pos}
use Rattle.words.specs.Words.{neg}
use Rattle.truncations.specs.Adder.{Update, generate, propagate, distances, updates}
use Rattle.gates.specs.Gates.{Field, OfNegated, Gate, Add, Sub, Xor, Mul, And, AndKnown, Scale, Plus, Up, Bit, Const, Public, Deal, DealBits}
use Rattle.tables.specs.Table.{Row}
use Rattle.curves.specs.Curve.{slope_after, coefficient, last_count}
use Rattle.programs.specs.Programs.{update_gates, rounds, adder, to_number, sign_program, relu_program, exact_program, row_program}
use Rattle.programs.specs.Programs.{rows_program, sum_program, truncation, saturation_head, saturation_end, saturation}
use Rattle.programs.specs.Orders.{curve_program, kinds, program}
use Rattle.days.specs.Day.{share_slot}
use Rattle.days.specs.Orders.{curve_order, mean_order}
use Rattle.days.proofs.Moved.{moved}
use Rattle.days.proofs.Lanes.{place}

module _ (w q : ℕ) where
  abbrev to : List Gate → List Gate
  to gs = map (moved (place q)) gs

  -- two lists of gates end to end
  both : (gs hs gs' hs' : List Gate) → to gs ≡ gs' → to hs ≡ hs' → to (gs ++ hs) ≡ gs' ++ hs'
  both gs hs gs' hs' p r = map-append (moved (place q)) gs hs ∙ ap₂ (λ (x y : List Gate). x ++ y) p r

  -- ---- blocks that read temporaries alone are as they were

  of_rounds : (us : List Update) → to (rounds us) ≡ rounds us
  unfolding rounds update_gates moved place
  of_rounds [] = refl
  of_rounds (generate D ∷ us) = ap (λ (gs : List Gate). Up 19 18 D ∷ And 20 17 19 ∷ Xor 18 18 20 ∷ gs) (of_rounds us)
  of_rounds (propagate D ∷ us) = ap (λ (gs : List Gate). Up 19 17 D ∷ And 17 17 19 ∷ gs) (of_rounds us)

  of_adder : to (adder w 21) ≡ adder w 21
  unfolding adder moved place
  of_adder =
      both (DealBits 16 21 ∷ Public 17 21 (Field 0 w) ∷ AndKnown 18 17 16 ∷ Xor 17 17 16 ∷ Bit 16 17 (w - 1) ∷ []) (rounds (updates (distances w)))
      _ _ refl (of_rounds (updates (distances w)))

  of_number : to (to_number w) ≡ to_number w
  unfolding to_number moved place
  of_number = refl

  of_sign : to (sign_program w 21) ≡ sign_program w 21
  unfolding sign_program moved place
  of_sign =
      both (adder w 21) (Bit 20 18 (w - 2) ∷ Xor 20 20 16 ∷ to_number w) _ _ of_adder
      (ap (λ (gs : List Gate). Bit 20 18 (w - 2) ∷ Xor 20 20 16 ∷ gs) of_number)

  of_relu : to (relu_program w 21 23) ≡ relu_program w 21 23
  unfolding relu_program moved place
  of_relu = both (sign_program w 21) (Const 19 1 ∷ Sub 19 19 20 ∷ Mul 23 21 19 ∷ []) _ _ of_sign refl

  at_22 : place q 22 ≡ 22
  unfolding place
  at_22 = refl

  at_0 : place q 0 ≡ 0
  unfolding place
  at_0 = refl

  -- kind 8 from slot acc, into a slot d that is not moved
  of_exact : (k d : ℕ) → place q d ≡ d → to (exact_program w k 22 d) ≡ exact_program w k 22 d
  unfolding exact_program moved place
  of_exact k d e =
      both
      ((Plus 21 22 (2 ^ (w - 1)) ∷ Deal 23 21 (OfNegated (Field k w)) ∷ Public 20 21 (Field k w) ∷ Add 23 23 20 ∷ adder w 21)
      ++ (Bit 20 18 (k - 1) ∷ to_number w) ++ (Add 23 23 20 ∷ Bit 20 18 (w - 1) ∷ to_number w))
      (Scale 20 20 (2 ^ (w - k) % 2 ^ w) ∷ Sub 23 23 20 ∷ Plus d 23 (neg w (2 ^ (w - 1 - k))) ∷ []) _ _
      (both
      ((Plus 21 22 (2 ^ (w - 1)) ∷ Deal 23 21 (OfNegated (Field k w)) ∷ Public 20 21 (Field k w) ∷ Add 23 23 20 ∷ adder w 21)
      ++ (Bit 20 18 (k - 1) ∷ to_number w)) (Add 23 23 20 ∷ Bit 20 18 (w - 1) ∷ to_number w) _ _
      (both (Plus 21 22 (2 ^ (w - 1)) ∷ Deal 23 21 (OfNegated (Field k w)) ∷ Public 20 21 (Field k w) ∷ Add 23 23 20 ∷ adder w 21)
      (Bit 20 18 (k - 1) ∷ to_number w) _ _
      (both (Plus 21 22 (2 ^ (w - 1)) ∷ Deal 23 21 (OfNegated (Field k w)) ∷ Public 20 21 (Field k w) ∷ Add 23 23 20 ∷ []) (adder w 21) _ _
      refl of_adder)
      (both (Bit 20 18 (k - 1) ∷ []) (to_number w) _ _ refl of_number))
      (both (Add 23 23 20 ∷ Bit 20 18 (w - 1) ∷ []) (to_number w) _ _ refl of_number))
      (rw e)

  -- ---- the curve reads its source from slot 15, and there from the share's slot

  of_row : (r k : ℕ) → to (row_program w 15 r k) ≡ row_program w (24 + q) r k
  unfolding row_program moved place
  of_row r k =
      both (Plus 21 15 (neg w r) ∷ relu_program w 21 23) (Scale 23 23 k ∷ Add 22 22 23 ∷ []) _ _
      (both (Plus 21 15 (neg w r) ∷ []) (relu_program w 21 23) _ _ refl of_relu) refl

  of_rows : (s : ℤ) (ps : List Row) → to (rows_program w 15 s ps) ≡ rows_program w (24 + q) s ps
  unfolding rows_program
  of_rows s [] = refl
  of_rows s (p ∷ ps) =
      both (row_program w 15 p.r (coefficient w s p ps)) (rows_program w 15 (slope_after p ps) ps) _ _
      (of_row p.r (coefficient w s p ps)) (of_rows (slope_after p ps) ps)

  of_sum : (ps : List Row) → to (sum_program w 15 ps) ≡ sum_program w (24 + q) ps
  unfolding sum_program moved place
  of_sum [] = refl
  of_sum (p ∷ ps) =
      both (Const 22 (4096 * p.c % 2 ^ w) ∷ []) (rows_program w 15 (pos 0) (p ∷ ps)) _ _ refl (of_rows (pos 0) (p ∷ ps))

  of_saturation : (r : ℕ) → to (saturation w r 15 22) ≡ saturation w r (24 + q) 22
  unfolding saturation saturation_head saturation_end moved place
  of_saturation r =
      both (Const 21 r ∷ Sub 21 21 15 ∷ []) (sign_program w 21 ++ (Plus 23 22 1 ∷ Mul 23 20 23 ∷ Sub 22 22 23 ∷ [])) _ _ refl
      (both (sign_program w 21) (Plus 23 22 1 ∷ Mul 23 20 23 ∷ Sub 22 22 23 ∷ []) _ _ of_sign refl)

  pub of_curve : (ps : List Row) → to (program w ps curve_order) ≡ curve_program w (share_slot q) 22 ps 0
  unfolding program kinds curve_program truncation share_slot
  of_curve ps =
      both (sum_program w 15 ps) (exact_program w 12 22 22 ++ saturation w (last_count ps) 15 22) _ _ (of_sum ps)
      (both (exact_program w 12 22 22) (saturation w (last_count ps) 15 22) _ _ (of_exact 12 22 at_22) (of_saturation (last_count ps)))

  pub of_mean : (ps : List Row) → to (program w ps mean_order) ≡ exact_program w 16 22 0
  unfolding program kinds
  of_mean ps = of_exact 16 0 at_0
