-- How many products with a known value stand in each program, and where. Assumes nothing.
use mathlib.Core.Path.{◌≡◌, refl, sym, ap, ap₂, ◌∙◌}
use mathlib.Core.List.{List, [], ◌∷◌, ◌++◌, map}
use Prim.Native.Nat.{ℕ, zero, suc, ◌+◌, ◌*◌, ◌-◌}
use native.Mathlib.Omega.{arith}
use lib.IntN.{ℤ, pos}
use lib.ListN.{length, get_or, get_or-map}
use Rattle.truncations.specs.Adder.{Update, generate, propagate, doubled, distances, updates}
use Rattle.tables.specs.Table.{Row}
use Rattle.curves.specs.Curve.{last_count, slope_after, coefficient}
use Rattle.gates.specs.Gates.{Gate, Add, Sub, Xor, Mul, Scale, Bit, Const}
use Rattle.gates.specs.Meaning.{meaning}
use Rattle.gates.specs.Known.{saves, saved}
use Rattle.programs.specs.Programs.{n_slot, g_slot, s_slot, t_slot, y_slot, acc_slot, res_slot, update_gates, rounds, adder}
use Rattle.programs.specs.Programs.{to_number, sign_program, relu_program, slack_program, one_bit_program, exact_program, row_program}
use Rattle.programs.specs.Programs.{rows_program, sum_program, truncation, saturation_head, saturation_end, saturation}
use Rattle.programs.specs.Orders.{curve_program, kinds, program}
use Rattle.programs.specs.Savings.{saved_in, truncation_saved, kinds_saved, turns_from, turns, Savings}
use Rattle.programs.proofs.AdderParts.{exact_head, exact_rest, exact_parts}

-- ---- in each program

module _ (w : ℕ) where
  saved_append : (gs hs : List Gate) → saved_in w (gs ++ hs) ≡ saved_in w gs + saved_in w hs
  unfolding saved
  saved_append [] hs = omega arith
  saved_append (g ∷ gs) hs = omega (arith, saved_append gs hs)

  in_rounds : (us : List Update) → saved_in w (rounds us) ≡ 0
  unfolding rounds update_gates meaning saved saves
  in_rounds [] = refl
  in_rounds (generate D ∷ us) = omega (arith, in_rounds us)
  in_rounds (propagate D ∷ us) = omega (arith, in_rounds us)

  in_adder : (x : ℕ) → saved_in w (adder w x) ≡ 1
  unfolding adder meaning saved saves
  in_adder x = omega (arith, in_rounds (updates (distances w)))

  in_sign : (x : ℕ) → saved_in w (sign_program w x) ≡ 2
  unfolding sign_program to_number meaning saved saves
  in_sign x = omega (arith, saved_append (adder w x) (Bit t_slot g_slot (w - 2) ∷ Xor t_slot t_slot n_slot ∷ to_number w), in_adder x)

  in_relu : (x d : ℕ) → saved_in w (relu_program w x d) ≡ 2
  unfolding relu_program meaning saved saves
  in_relu x d =
      omega (arith, saved_append (sign_program w x) (Const s_slot 1 ∷ Sub s_slot s_slot t_slot ∷ Mul d x s_slot ∷ []), in_sign x)

  in_exact : (k x d : ℕ) → saved_in w (exact_program w k x d) ≡ 3
  unfolding exact_head exact_rest to_number meaning saved saves
  in_exact k x d =
      ap (saved_in w) (exact_parts w k x d)
      ∙ omega (
        arith,
        saved_append (exact_head w k x) (adder w y_slot ++ exact_rest w k d),
        saved_append (adder w y_slot) (exact_rest w k d),
        in_adder y_slot,
      )

  in_one_bit : (k x d : ℕ) → saved_in w (one_bit_program w k x d) ≡ 1
  unfolding one_bit_program meaning saved saves
  in_one_bit k x d = refl

  in_row : (x r c : ℕ) → saved_in w (row_program w x r c) ≡ 2
  unfolding row_program meaning saved saves
  in_row x r c =
      omega (
        arith,
        saved_append (relu_program w y_slot res_slot) (Scale res_slot res_slot c ∷ Add acc_slot acc_slot res_slot ∷ []),
        in_relu y_slot res_slot,
      )

  in_rows : (x : ℕ) (s : ℤ) (ps : List Row) → saved_in w (rows_program w x s ps) ≡ 2 * length ps
  unfolding rows_program saved
  in_rows x s [] = refl
  in_rows x s (p ∷ ps) =
      saved_append (row_program w x p.r (coefficient w s p ps)) (rows_program w x (slope_after p ps) ps)
      ∙ ap₂ (λ (n m : ℕ). n + m) (in_row x p.r (coefficient w s p ps)) (in_rows x (slope_after p ps) ps) ∙ omega arith

  in_sum : (x : ℕ) (ps : List Row) → saved_in w (sum_program w x ps) ≡ 2 * length ps
  unfolding sum_program meaning saved saves
  in_sum x [] = refl
  in_sum x (p ∷ ps) = omega (arith, in_rows x (pos 0) (p ∷ ps))

  in_truncation : (mode : ℕ) → saved_in w (truncation w mode) ≡ truncation_saved mode
  unfolding truncation meaning saved saves
  in_truncation zero = in_exact 12 acc_slot acc_slot
  in_truncation (suc m) = omega (arith, in_one_bit 12 acc_slot acc_slot)

  in_saturation : (r x d : ℕ) → saved_in w (saturation w r x d) ≡ 2
  unfolding saturation saturation_head saturation_end meaning saved saves
  in_saturation r x d = omega (arith, saved_append (sign_program w y_slot) (saturation_end d), in_sign y_slot)

  in_curve : (x d : ℕ) (ps : List Row) (mode : ℕ) → saved_in w (curve_program w x d ps mode) ≡ 2 * length ps + (truncation_saved mode + 2)
  unfolding curve_program
  in_curve x d ps mode =
      saved_append (sum_program w x ps) (truncation w mode ++ saturation w (last_count ps) x d)
      ∙ ap₂ (λ (n m : ℕ). n + m) (in_sum x ps)
      (saved_append (truncation w mode) (saturation w (last_count ps) x d)
      ∙ ap₂ (λ (n m : ℕ). n + m) (in_truncation mode) (in_saturation (last_count ps) x d))

  in_kinds : (ps : List Row) (d a c : ℕ) → map (saved_in w) (kinds w ps d a c) ≡ kinds_saved c (length ps)
  unfolding kinds slack_program meaning saved saves
  in_kinds ps d a c = rw (in_one_bit c a d, in_exact c a d, in_relu a d, in_curve a d ps c)

-- ---- where

one_bit_turns : (k x d : ℕ) → turns (one_bit_program 32 k x d) ≡ 0 ∷ []
unfolding one_bit_program meaning turns_from
one_bit_turns k x d = refl

sign_turns : (x : ℕ) → turns (sign_program 32 x) ≡ 0 ∷ 10 ∷ []
unfolding sign_program adder to_number rounds update_gates updates distances doubled meaning turns_from
sign_turns x = refl

relu_turns : (x d : ℕ) → turns (relu_program 32 x d) ≡ 0 ∷ 10 ∷ []
unfolding relu_program sign_program adder to_number rounds update_gates updates distances doubled meaning turns_from
relu_turns x d = refl

exact_turns : (k x d : ℕ) → turns (exact_program 32 k x d) ≡ 0 ∷ 10 ∷ 11 ∷ []
unfolding exact_program adder to_number rounds update_gates updates distances doubled meaning turns_from
exact_turns k x d = refl

pub savings : Savings
unfolding program saved
savings =
    record {
      amounts = λ w ps o.
          sym (get_or-map (saved_in w) (kinds w ps o.target o.source o.fourth) o.kind [])
          ∙ ap (λ (l : List ℕ). get_or l o.kind 0) (in_kinds w ps o.target o.source o.fourth);
      one_bit = one_bit_turns;
      exact = exact_turns;
      relu = relu_turns;
      sign = sign_turns;
    }
