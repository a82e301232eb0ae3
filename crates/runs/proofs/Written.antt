-- The last gate of an order's program writes the order's target, and every other gate a temporary. Assumes nothing.
use mathlib.Core.Path.{◌≡◌, refl}
use mathlib.Core.Bool.{false}
use mathlib.Core.List.{List, [], ◌∷◌, ◌++◌}
use Prim.Native.Nat.{ℕ, zero, suc, ◌-◌, ◌^◌, ◌<◌}
use native.Mathlib.Omega.{arith}
use lib.Dec.{eqb}
use lib.ListN.{get_or}
use lib.IntN.{ℤ, pos}
use Rattle.words.specs.Words.{neg}
use Rattle.truncations.specs.Adder.{Update, generate, propagate, distances, updates}
use Rattle.tables.specs.Table.{Row}
use Rattle.curves.specs.Curve.{slope_after, coefficient}
use Rattle.gates.specs.Gates.{Field, OfNegated, Gate, Add, Xor, Scale, Plus, Bit, Public, Deal}
use Rattle.programs.specs.declared.Order.{Order}
use Rattle.programs.specs.Programs.{update_gates, rounds, adder, to_number, sign_program, relu_program, slack_program}
use Rattle.programs.specs.Programs.{one_bit_program, exact_program, row_program, rows_program, sum_program, truncation}
use Rattle.programs.specs.Programs.{saturation_head, saturation_end, saturation}
use Rattle.programs.specs.Orders.{curve_program, kinds, program}
use Rattle.programs.proofs.Points.{target, Other, register}

-- no gate writes slot i
pub data Spares (i : ℕ) : List Gate → Type 0 where
  none : Spares i []
  also : {g : Gate} {gs : List Gate} → eqb i (target g) ≡ false → Spares i gs → Spares i (g ∷ gs)

pub spares_append : (i : ℕ) (gs hs : List Gate) → Spares i gs → Spares i hs → Spares i (gs ++ hs)
spares_append i [] hs none q = q
spares_append i (g ∷ gs) hs (also e p) q = also e (spares_append i gs hs p q)

-- no gate but the last writes slot i, and the last writes slot d
pub data SparesFront (i d : ℕ) : List Gate → Type 0 where
  none_in_front : SparesFront i d []
  alone : {g : Gate} → target g ≡ d → SparesFront i d (g ∷ [])
  in_front : {g : Gate} {gs : List Gate} → eqb i (target g) ≡ false → SparesFront i d gs → SparesFront i d (g ∷ gs)

then_front : (i d : ℕ) (gs hs : List Gate) → Spares i gs → SparesFront i d hs → SparesFront i d (gs ++ hs)
then_front i d [] hs none q = q
then_front i d (g ∷ gs) hs (also e p) q = in_front e (then_front i d gs hs p q)

-- so no gate at all, where i is another slot
pub spared : (i d : ℕ) (gs : List Gate) → eqb i d ≡ false → SparesFront i d gs → Spares i gs
spared i d [] e none_in_front = none
spared i d (g ∷ []) e (alone t) = also {g = g} (rw t e) none
spared i d (g ∷ []) e (in_front f p) = also f none
spared i d (g ∷ h ∷ gs) e (in_front f p) = also f (spared i d (h ∷ gs) e p)

-- of each of a list of programs
data AllFront (i d : ℕ) : List (List Gate) → Type 0 where
  no_list : AllFront i d []
  list : {gs : List Gate} {os : List (List Gate)} → SparesFront i d gs → AllFront i d os → AllFront i d (gs ∷ os)

front_at : (i d : ℕ) (os : List (List Gate)) (n : ℕ) → AllFront i d os → SparesFront i d (get_or os n [])
front_at i d [] n no_list = none_in_front
front_at i d (gs ∷ os) zero (list p q) = p
front_at i d (gs ∷ os) (suc n) (list p q) = front_at i d os n q

-- ---- slot i is no temporary

module _ (i : ℕ) (o : Other 22 i) where
  spares_rounds : (us : List Update) → Spares i (rounds us)
  unfolding rounds update_gates target
  spares_rounds [] = none
  spares_rounds (generate D ∷ us) = (also o.i19 (also o.i20 (also o.i18 (spares_rounds us))))
  spares_rounds (propagate D ∷ us) = (also o.i19 (also o.i17 (spares_rounds us)))

module _ (i : ℕ) (o : Other 22 i) (w : ℕ) where
  spares_adder : (x : ℕ) → Spares i (adder w x)
  unfolding adder target
  spares_adder x =
      (also o.i16 (also o.i17 (also o.i18 (also o.i17 (also o.i16 (spares_rounds i o (updates (distances w))))))))

  spares_number : Spares i (to_number w)
  unfolding to_number target
  spares_number = (also o.i19 (also o.i17 (also o.i20 (also o.i20 (also o.i17 (also o.i20 none))))))

  spares_sign : (x : ℕ) → Spares i (sign_program w x)
  unfolding sign_program target
  spares_sign x =
      spares_append i (adder w x) (Bit 20 18 (w - 2) ∷ Xor 20 20 16 ∷ to_number w) (spares_adder x)
      (also o.i20 (also o.i20 spares_number))

  -- ---- the programs, into any slot d

  front_slack : (k x d : ℕ) → SparesFront i d (slack_program k x d)
  unfolding slack_program target
  front_slack k x d = in_front o.i16 (in_front o.i17 (alone refl))

  front_one_bit : (k x d : ℕ) → SparesFront i d (one_bit_program w k x d)
  unfolding one_bit_program target
  front_one_bit k x d =
      in_front o.i21 (in_front o.i16 (in_front o.i17 (in_front o.i18 (in_front o.i19 (in_front o.i20
      (in_front o.i20 (in_front o.i17 (in_front o.i17 (in_front o.i17 (in_front o.i18 (in_front o.i18 (alone refl))))))))))))

  pub front_exact : (k x d : ℕ) → SparesFront i d (exact_program w k x d)
  unfolding exact_program target
  front_exact k x d =
      let first : List Gate =
      Plus 21 x (2 ^ (w - 1)) ∷ Deal 23 21 (OfNegated (Field k w)) ∷ Public 20 21 (Field k w) ∷ Add 23 23 20 ∷ adder w 21 in
      let low : List Gate = Bit 20 18 (k - 1) ∷ to_number w in
      let high : List Gate = Add 23 23 20 ∷ Bit 20 18 (w - 1) ∷ to_number w in
      then_front i d (first ++ low ++ high) _
      (spares_append i (first ++ low) high
      (spares_append i first low (also o.i21 (also o.i23 (also o.i20 (also o.i23 (spares_adder 21)))))
      (also o.i20 spares_number))
      (also o.i23 (also o.i20 spares_number)))
      (in_front o.i20 (in_front o.i23 (alone refl)))

  front_relu : (x d : ℕ) → SparesFront i d (relu_program w x d)
  unfolding relu_program target
  front_relu x d = then_front i d (sign_program w x) _ (spares_sign x) (in_front o.i19 (in_front o.i19 (alone refl)))

  -- ---- a curve: its sum and its truncation stay in temporaries

  spares_row : (x r k : ℕ) → Spares i (row_program w x r k)
  unfolding row_program target
  spares_row x r k =
      spares_append i (Plus 21 x (neg w r) ∷ relu_program w 21 23) (Scale 23 23 k ∷ Add 22 22 23 ∷ [])
      (also o.i21 (spared i 23 (relu_program w 21 23) o.i23 (front_relu 21 23)))
      (also o.i23 (also o.i22 none))

  spares_rows : (x : ℕ) (s : ℤ) (ps : List Row) → Spares i (rows_program w x s ps)
  unfolding rows_program
  spares_rows x s [] = none
  spares_rows x s (p ∷ ps) =
      spares_append i (row_program w x p.r (coefficient w s p ps)) (rows_program w x (slope_after p ps) ps)
      (spares_row x p.r (coefficient w s p ps)) (spares_rows x (slope_after p ps) ps)

  spares_sum : (x : ℕ) (ps : List Row) → Spares i (sum_program w x ps)
  unfolding sum_program target
  spares_sum x [] = (also o.i22 none)
  spares_sum x (p ∷ ps) = (also o.i22 (spares_rows x (pos 0) (p ∷ ps)))

  spares_truncation : (mode : ℕ) → Spares i (truncation w mode)
  unfolding truncation target
  spares_truncation zero = spared i 22 (exact_program w 12 22 22) o.i22 (front_exact 12 22 22)
  spares_truncation (suc m) = also o.i22 (spared i 22 (one_bit_program w 12 22 22) o.i22 (front_one_bit 12 22 22))

  pub front_curve : (x d : ℕ) (ps : List Row) (mode : ℕ) → SparesFront i d (curve_program w x d ps mode)
  unfolding curve_program saturation saturation_head saturation_end target
  front_curve x d ps mode =
      then_front i d (sum_program w x ps) _ (spares_sum x ps)
      (then_front i d (truncation w mode) _ (spares_truncation mode)
      (in_front o.i21 (in_front o.i21
      (then_front i d (sign_program w 21) _ (spares_sign 21) (in_front o.i23 (in_front o.i23 (alone refl)))))))

  front_kinds : (ps : List Row) (d a c : ℕ) → AllFront i d (kinds w ps d a c)
  unfolding kinds target
  front_kinds ps d a c =
      list (alone refl) (list (alone refl) (list (alone refl) (list (alone refl) (list (alone refl) (list (alone refl)
      (list (front_slack c a d) (list (front_one_bit c a d) (list (front_exact c a d) (list (front_relu a d)
      (list (front_curve a d ps c) no_list))))))))))

-- whatever the order: no gate but its last writes a register, and that one writes the target
pub front_program : (w : ℕ) (ps : List Row) (o : Order) (i : ℕ) → i < 16 → SparesFront i o.target (program w ps o)
unfolding program
front_program w ps o i h =
    front_at i o.target (kinds w ps o.target o.source o.fourth) o.kind
    (front_kinds i (register i h) w ps o.target o.source o.fourth)

-- an order of kinds 0 to 5 has one gate, so that this holds of every slot, the temporaries too
pub front_alone : (w : ℕ) (ps : List Row) (o : Order) (i : ℕ) → o.kind < 6 → SparesFront i o.target (program w ps o)
unfolding program kinds target
front_alone w ps o i h = go o.kind h
  where
    go : (k : ℕ) → k < 6 → SparesFront i o.target (get_or (kinds w ps o.target o.source o.fourth) k [])
    go zero h = alone refl
    go (suc zero) h = alone refl
    go (suc (suc zero)) h = alone refl
    go (suc (suc (suc zero))) h = alone refl
    go (suc (suc (suc (suc zero)))) h = alone refl
    go (suc (suc (suc (suc (suc zero))))) h = alone refl
    go (suc (suc (suc (suc (suc (suc k)))))) h = absurd (omega arith)

pub spares_program : (w : ℕ) (ps : List Row) (o : Order) (i : ℕ) → i < 16 → eqb i o.target ≡ false → Spares i (program w ps o)
spares_program w ps o i h e = spared i o.target (program w ps o) e (front_program w ps o i h)
