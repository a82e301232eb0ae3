-- The places of the products of the adder, the sign, the ReLU, R-1's steps and the truncations. Assumes nothing.
use mathlib.Core.Path.{◌≡◌, refl, sym, ap, ◌∙◌}
use mathlib.Core.List.{List, [], ◌∷◌, ◌++◌}
use Prim.Native.Nat.{ℕ, zero, suc, ◌+◌, ◌-◌, ◌*◌, ◌/◌, ◌≤◌, ◌<◌}
use native.Mathlib.Numerals.{add-one}
use native.Mathlib.Omega.{arith}
use lib.ListN.{length}
use Rattle.truncations.specs.Adder.{doubled, distances, updates}
use Rattle.std.specs.Prelude.{Option, Some, None}
use Rattle.gates.specs.Gates.{Gate, Sub, Mul, Refresh, Const}
use Rattle.gates.specs.Meaning.{meaning, order_steps}
use Rattle.gates.specs.Speech.{shape}
use Rattle.gates.specs.Costs.{cost_of, plus, step_cost, cost}
use Rattle.programs.specs.declared.GatePlace.{GatePlace}
use Rattle.programs.specs.Programs.{s_slot, t_slot, y_slot, acc_slot, res_slot, update_gates, rounds, adder, to_number, sign_program}
use Rattle.programs.specs.Programs.{relu_program, one_bit_program, exact_program, truncation, saturation_head, saturation_end, saturation}
use Rattle.programs.specs.Costs.{program_cost}
use Rattle.programs.specs.Sizes.{Size, size, size_of}
use Rattle.programs.specs.Seek.{gate_place, sought_at, sought}
use Rattle.programs.proofs.AdderParts.{sign_rest, sign_parts, exact_head, exact_rest, exact_parts}
use Rattle.programs.proofs.CurveGates.{refreshed}
use Rattle.programs.proofs.Sizes.{exact_sized, adder_32, sign_32, exact_32}
use Rattle.program_seek.proofs.Places.{sought_first, sought_after}

found : {i j a b k l : ℕ} → i ≡ j → a ≡ b → k ≡ l → Some (gate_place i a k) ≡ Some (gate_place j b l)
found p q r = λ t. Some (gate_place (p t) (q t) (r t))

-- ---- the adder's, whatever gates are behind it

module _ (w : ℕ) (gs : List Gate) where
  -- each round's at its gates 1 and 4; the last has the first alone
  rounds_place : (ds : List ℕ) (m i a deals : ℕ) → suc m < 2 * length ds
      → Some (gate_place (i + (5 * m + 3) / 2) (a + 2 * m) (deals + m)) ≡ sought w (rounds (updates ds) ++ gs) m i a deals
  unfolding updates rounds update_gates sought sought_at meaning shape
  rounds_place [] m i a deals h = absurd (omega arith)
  rounds_place (D ∷ []) zero i a deals h = found (omega arith) (omega arith) (omega arith)
  rounds_place (D ∷ []) (suc m) i a deals h = absurd (omega arith)
  rounds_place (D ∷ E ∷ ds) zero i a deals h = found (omega arith) (omega arith) (omega arith)
  rounds_place (D ∷ E ∷ ds) (suc zero) i a deals h = found (omega arith) (omega arith) (omega arith)
  rounds_place (D ∷ E ∷ ds) (suc (suc m)) i a deals h =
      found (omega arith) (omega arith) (omega arith)
      ∙ rounds_place (E ∷ ds) m (suc (suc (suc (suc (suc i))))) (2 + (2 + a)) (suc (suc deals)) (omega arith)

  pub adder_first : (x n i a deals : ℕ) → n ≡ 0 → Some (gate_place (i + 2) (a + 1) (deals + 1)) ≡ sought w (adder w x ++ gs) n i a deals
  unfolding adder sought sought_at meaning shape
  adder_first x n i a deals z = rw z (found (omega arith) (omega arith) (omega arith))

  pub adder_later : (x n i a deals : ℕ) → (n ≡ 0 → ⊥) → n < 2 * length (distances w)
      → Some (gate_place (i + (5 - 1 + 5 * n / 2)) (a + 2 * n) (deals + n)) ≡ sought w (adder w x ++ gs) n i a deals
  unfolding adder sought sought_at meaning shape
  adder_later x zero i a deals f h = absurd (f refl)
  adder_later x (suc m) i a deals f h =
      found (omega arith) (omega arith) (omega arith)
      ∙ rounds_place (distances w) m (suc (suc (suc (suc (suc i))))) (suc (suc a)) (suc deals) h

pub rounds_32 : 2 * length (distances 32) ≡ 10
unfolding distances doubled
rounds_32 = refl

behind_adder : (gs : List Gate) (x n m i a deals : ℕ) → n ≡ 10 + m
    → sought 32 gs m (28 + i) (20 + a) (10 + deals) ≡ sought 32 (adder 32 x ++ gs) n i a deals
behind_adder gs x = sought_after 32 (adder 32 x) gs _ (adder_32 x)

-- ---- the sign's, whatever gates are behind it

module _ (gs : List Gate) (x n i a deals : ℕ) where
  pub sign_adder : sought 32 (adder 32 x ++ (sign_rest 32 ++ gs)) n i a deals ≡ sought 32 (sign_program 32 x ++ gs) n i a deals
  sign_adder = rw (sign_parts 32 x gs)

  pub sign_number : n ≡ 10 → Some (gate_place (i + 28 + 2 + 2) (a + 20 + 1) (deals + 10 + 1)) ≡ sought 32 (sign_program 32 x ++ gs) n i a deals
  unfolding sign_rest to_number sought sought_at meaning shape
  sign_number q =
      found (omega arith) (omega arith) (omega arith) ∙ behind_adder (sign_rest 32 ++ gs) x n 0 i a deals (omega arith) ∙ sign_adder

  behind_sign : 11 ≤ n → sought 32 gs (n - 11) (36 + i) (22 + a) (11 + deals) ≡ sought 32 (sign_program 32 x ++ gs) n i a deals
  behind_sign l = sought_after 32 (sign_program 32 x) gs _ (sign_32 x) n (n - 11) i a deals (omega arith)

-- ---- the last product of the ReLU, and of R-1's steps

module _ (x d n i a deals : ℕ) where
  pub relu_last : 11 ≤ n → sought 32 (Mul d x s_slot ∷ []) (n - 11) (i + 36 + 2) (a + 22) (deals + 11) ≡ sought 32 (relu_program 32 x d) n i a deals
  unfolding relu_program sought sought_at meaning shape
  relu_last l =
      let zi : i + 36 + 2 ≡ suc (suc (36 + i)) = omega arith in
      let za : a + 22 ≡ 22 + a = omega arith in
      let zd : deals + 11 ≡ 11 + deals = omega arith in
      rw (zi, za, zd) (behind_sign (Const s_slot 1 ∷ Sub s_slot s_slot t_slot ∷ Mul d x s_slot ∷ []) x n i a deals l)

-- a gate without an exchange behind it is not found
then_local : (w d a b d' a' b' n i k l : ℕ) → sought w (Mul d a b ∷ []) n i k l ≡ sought w (Mul d a b ∷ Sub d' a' b' ∷ []) n i k l
unfolding sought sought_at meaning shape
then_local w d a b d' a' b' zero i k l = refl
then_local w d a b d' a' b' (suc n) i k l = refl

module _ (r x d n i a deals : ℕ) where
  pub saturation_sign : sought 32 (sign_program 32 y_slot ++ saturation_end d) n (i + 2) a deals
      ≡ sought 32 (saturation 32 r x d) n i a deals
  unfolding saturation saturation_head sought sought_at meaning shape
  saturation_sign = let e : i + 2 ≡ suc (suc i) = omega arith in rw e

  pub saturation_last : 11 ≤ n
      → sought 32 (Mul res_slot t_slot res_slot ∷ []) (n - 11) (i + 2 + 36 + 1) (a + 22) (deals + 11) ≡ sought 32 (saturation 32 r x d) n i a deals
  unfolding saturation_end sought sought_at meaning shape
  saturation_last l =
      let zi : i + 2 + 36 + 1 ≡ suc (36 + (i + 2)) = omega arith in
      let za : a + 22 ≡ 22 + a = omega arith in
      let zd : deals + 11 ≡ 11 + deals = omega arith in
      rw (zi, za, zd)
      (then_local 32 res_slot t_slot res_slot d acc_slot res_slot (n - 11) (suc (36 + (i + 2))) (22 + a) (11 + deals)
      ∙ behind_sign (saturation_end d) y_slot n (i + 2) a deals l ∙ saturation_sign)

-- ---- the exact truncation's

module _ (k x d n i a deals : ℕ) where
  pub exact_adder : sought 32 (adder 32 y_slot ++ exact_rest 32 k d) n (i + 1 + 3) (a + 1) (deals + 1)
      ≡ sought 32 (exact_program 32 k x d) n i a deals
  unfolding exact_head sought sought_at meaning shape
  exact_adder =
      let e : i + 1 + 3 ≡ suc (suc (suc (suc i))) = omega arith in
      rw (exact_parts 32 k x d, e, add-one a, add-one deals)

  pub exact_low : n ≡ 10
      → Some (gate_place (i + 1 + 3 + 28 + 1 + 2) (a + 1 + 20 + 1) (deals + 1 + 10 + 1)) ≡ sought 32 (exact_program 32 k x d) n i a deals
  unfolding exact_rest to_number sought sought_at meaning shape
  exact_low q =
      found (omega arith) (omega arith) (omega arith)
      ∙ behind_adder (exact_rest 32 k d) y_slot n 0 (i + 1 + 3) (a + 1) (deals + 1) (omega arith) ∙ exact_adder

  pub exact_high : n ≡ 11
      → Some (gate_place (i + 1 + 3 + 28 + 1 + 6 + 2 + 2) (a + 1 + 20 + 2 + 1) (deals + 1 + 10 + 1 + 1)) ≡ sought 32 (exact_program 32 k x d) n i a deals
  unfolding exact_rest to_number sought sought_at meaning shape
  exact_high q =
      found (omega arith) (omega arith) (omega arith)
      ∙ behind_adder (exact_rest 32 k d) y_slot n 1 (i + 1 + 3) (a + 1) (deals + 1) (omega arith) ∙ exact_adder

  pub exact_past : 12 ≤ n → None ≡ sought 32 (exact_program 32 k x d) n i a deals
  unfolding exact_rest to_number sought sought_at meaning shape
  exact_past h =
      behind_adder (exact_rest 32 k d) y_slot n (suc (suc (n - 12))) (i + 1 + 3) (a + 1) (deals + 1) (omega arith) ∙ exact_adder

-- ---- the one-bit truncation's

module _ (w k x d n i a deals : ℕ) where
  pub one_bit_place : n ≡ 0 → Some (gate_place (i + 5) (a + 2) (deals + 2)) ≡ sought w (one_bit_program w k x d) n i a deals
  unfolding one_bit_program sought sought_at meaning shape
  one_bit_place z = rw z (found (omega arith) (omega arith) (omega arith))

pub one_bit_past : (w k x d n i a deals : ℕ) → (n ≡ 0 → ⊥) → None ≡ sought w (one_bit_program w k x d) n i a deals
unfolding one_bit_program sought sought_at meaning shape
one_bit_past w k x d zero i a deals f = absurd (f refl)
one_bit_past w k x d (suc n) i a deals f = refl

-- ---- those of a curve's truncation, and of what is behind it

-- a program of this size, and what is behind it
module _ (ts gs : List Gate) (z : Size) (e : size_of 32 ts ≡ z) (n i a deals : ℕ) where
  first_part : n < z.cost.b → sought 32 ts n i a deals ≡ sought 32 (ts ++ gs) n i a deals
  first_part l = sought_first 32 ts gs n i a deals (omega (arith, l, ap (λ (z : Size). z.cost.b) e))

  second_part : z.cost.b ≤ n
      → sought 32 gs (n - z.cost.b) (i + z.gates) (a + z.cost.a) (deals + z.cost.deals) ≡ sought 32 (ts ++ gs) n i a deals
  second_part l =
      let zi : i + z.gates ≡ z.gates + i = omega arith in
      let za : a + z.cost.a ≡ z.cost.a + a = omega arith in
      let zd : deals + z.cost.deals ≡ z.cost.deals + deals = omega arith in
      rw (zi, za, zd) (sought_after 32 ts gs z e n (n - z.cost.b) i a deals (omega arith))

refreshed_sized : size_of 32 (Refresh acc_slot acc_slot ∷ one_bit_program 32 12 acc_slot acc_slot) ≡ size 14 (cost_of 2 4 4 2)
unfolding one_bit_program program_cost order_steps meaning cost step_cost plus
refreshed_sized = refl

module _ (gs : List Gate) (mode n i a deals : ℕ) where
  abbrev all : List Gate → Option GatePlace
  all ts = sought 32 (ts ++ gs) n i a deals

  abbrev exact_gates : List Gate
  exact_gates = exact_program 32 12 acc_slot acc_slot

  exact_is : mode ≡ 0 → all exact_gates ≡ all (truncation 32 mode)
  unfolding truncation
  exact_is z = ap (λ (m : ℕ). all (truncation 32 m)) (sym z)

  pub in_exact : mode ≡ 0 → n < 12 → sought 32 exact_gates n i a deals ≡ all (truncation 32 mode)
  in_exact z l = first_part exact_gates gs _ (exact_sized 32 12 acc_slot acc_slot ∙ exact_32) n i a deals l ∙ exact_is z

  pub after_exact : mode ≡ 0 → 12 ≤ n → sought 32 gs (n - 12) (i + 50) (a + 25) (deals + 13) ≡ all (truncation 32 mode)
  after_exact z l = second_part exact_gates gs _ (exact_sized 32 12 acc_slot acc_slot ∙ exact_32) n i a deals l ∙ exact_is z

  abbrev refreshed_gates : List Gate
  refreshed_gates = Refresh acc_slot acc_slot ∷ one_bit_program 32 12 acc_slot acc_slot

  pub in_refreshed : (mode ≡ 0 → ⊥) → n < 2 → sought 32 refreshed_gates n i a deals ≡ all (truncation 32 mode)
  in_refreshed f l = first_part refreshed_gates gs _ refreshed_sized n i a deals l ∙ ap all (refreshed 32 mode f)

  pub after_refreshed : (mode ≡ 0 → ⊥) → 2 ≤ n → sought 32 gs (n - 2) (i + 14) (a + 4) (deals + 2) ≡ all (truncation 32 mode)
  after_refreshed f l = second_part refreshed_gates gs _ refreshed_sized n i a deals l ∙ ap all (refreshed 32 mode f)
