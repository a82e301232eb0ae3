-- The size of every program, at any width; the numbers at 32; and bounds on an order's gates. Assumes nothing.
use mathlib.Core.Path.{◌≡◌, refl, sym, ap, ap₂, ◌∙◌, subst}
use mathlib.Core.Bool.{Bool, true, false}
use mathlib.Core.List.{List, [], ◌∷◌, ◌++◌, map}
use Prim.Native.Nat.{ℕ, zero, suc, ◌+◌, ◌-◌, ◌*◌, ◌%◌, ◌^◌, ◌≤◌, ◌<◌}
use native.Mathlib.Nat.{mul-suc}
use native.Mathlib.Omega.{arith}
use borrow.Author.Tests.{eqb-true, eqb-false}
use lib.Dec.{T, eqb, leb, leb→le}
use lib.IntN.{ℤ, pos}
use lib.ListN.{length, get_or, take, length-append, get_or-map}
use Rattle.truncations.specs.Adder.{doubled, distances, updates}
use Rattle.gates.specs.Gates.{Gate, Add, Sub, Mul, Refresh, Scale, Plus, Const}
use Rattle.gates.specs.Steps.{Step}
use Rattle.gates.specs.Meaning.{meaning, order_steps}
use Rattle.gates.specs.Costs.{Cost, cost_of, plus, step_cost, cost}
use Rattle.gates.proofs.Needs.{cost_path}
use Rattle.words.specs.Words.{neg}
use Rattle.tables.specs.Table.{Row, row_at}
use Rattle.curves.specs.Curve.{last_count, slope_after, coefficient}
use Rattle.programs.specs.declared.Order.{Order}
use Rattle.programs.specs.Programs.{update_gates, rounds, adder, to_number, sign_program, relu_program, slack_program}
use Rattle.programs.specs.Programs.{one_bit_program, exact_program, row_program, rows_program, sum_program, truncation, saturation_head}
use Rattle.programs.specs.Programs.{saturation_end, saturation, s_slot, t_slot, y_slot, acc_slot, res_slot}
use Rattle.programs.specs.Orders.{curve_program, kinds, program}
use Rattle.programs.specs.Costs.{program_cost}
use Rattle.programs.specs.Sizes.{Size, size, size_of, slack_size, one_bit_size, exact_size, relu_size, row_size}
use Rattle.programs.specs.Sizes.{row_exchanges, plus_size, times_cost, times_size, truncation_size, saturation_size, curve_size, kind_sizes}
use Rattle.programs.proofs.AdderParts.{sign_rest, exact_head, exact_rest, exact_parts}
use Rattle.programs.proofs.CurveGates.{sum_gates}

-- ---- one program after another

size_path : {x y : Size} → x.gates ≡ y.gates → x.cost ≡ y.cost → x ≡ y
size_path p q = λ i. record { gates = p i; cost = q i }

-- an order's gates, and the steps behind it
pub order_cost : (w : ℕ) (gs : List Gate) (ss : List Step) → cost (order_steps w gs ss) ≡ plus (program_cost w gs) (cost ss)
unfolding program_cost order_steps cost step_cost plus
order_cost w [] ss = cost_path (omega arith) (omega arith) (omega arith) (omega arith)
order_cost w (g ∷ gs) ss = rw (order_cost w gs ss) (cost_path (omega arith) (omega arith) (omega arith) (omega arith))

pub cost_after : (w : ℕ) (gs hs : List Gate) → program_cost w (gs ++ hs) ≡ plus (program_cost w gs) (program_cost w hs)
unfolding program_cost order_steps cost step_cost plus
cost_after w [] hs = cost_path (omega arith) (omega arith) (omega arith) (omega arith)
cost_after w (g ∷ gs) hs = rw (cost_after w gs hs) (cost_path (omega arith) (omega arith) (omega arith) (omega arith))

pub size_after : (w : ℕ) (gs hs : List Gate) → size_of w (gs ++ hs) ≡ plus_size (size_of w gs) (size_of w hs)
unfolding plus_size
size_after w gs hs = size_path (length-append gs hs) (cost_after w gs hs)

both_sized : (w : ℕ) (gs gs' hs hs' : List Gate) → size_of w gs ≡ size_of w gs' → size_of w hs ≡ size_of w hs'
    → size_of w (gs ++ hs) ≡ size_of w (gs' ++ hs')
both_sized w gs gs' hs hs' e f = size_after w gs hs ∙ ap₂ plus_size e f ∙ sym (size_after w gs' hs')

-- ---- each program, whatever its slots and constants

module _ (w : ℕ) where
  pub slack_sized : (k x d : ℕ) → size_of w (slack_program k x d) ≡ slack_size w
  unfolding slack_size slack_program program_cost order_steps meaning cost step_cost
  slack_sized k x d = refl

  pub one_bit_sized : (k x d : ℕ) → size_of w (one_bit_program w k x d) ≡ one_bit_size w
  unfolding one_bit_size one_bit_program program_cost order_steps meaning cost step_cost
  one_bit_sized k x d = refl

  adder_sized : (x y : ℕ) → size_of w (adder w x) ≡ size_of w (adder w y)
  unfolding adder program_cost order_steps meaning cost step_cost
  adder_sized x y = refl

  -- what a ReLU has behind its sign
  abbrev relu_end : (x d : ℕ) → List Gate
  relu_end x d = Const s_slot 1 ∷ Sub s_slot s_slot t_slot ∷ Mul d x s_slot ∷ []

  sign_sized : (x y : ℕ) → size_of w (sign_program w x) ≡ size_of w (sign_program w y)
  unfolding sign_program sign_rest
  sign_sized x y = both_sized w (adder w x) (adder w y) (sign_rest w) (sign_rest w) (adder_sized x y) refl

  pub relu_sized : (x d : ℕ) → size_of w (relu_program w x d) ≡ relu_size w
  unfolding relu_size relu_program program_cost order_steps meaning cost step_cost
  relu_sized x d = both_sized w (sign_program w x) (sign_program w 0) (relu_end x d) (relu_end 0 0) (sign_sized x 0) refl

  pub exact_sized : (k x d : ℕ) → size_of w (exact_program w k x d) ≡ exact_size w
  unfolding exact_size exact_head exact_rest to_number program_cost order_steps meaning cost step_cost
  exact_sized k x d =
      ap (size_of w) (exact_parts w k x d)
      ∙ both_sized w (exact_head w k x) (exact_head w 0 0) (adder w y_slot ++ exact_rest w k d) (adder w y_slot ++ exact_rest w 0 0) refl
      (both_sized w (adder w y_slot) (adder w y_slot) (exact_rest w k d) (exact_rest w 0 0) refl refl)
      ∙ sym (ap (size_of w) (exact_parts w 0 0 0))

  pub row_sized : (x r k : ℕ) → size_of w (row_program w x r k) ≡ row_size w
  unfolding row_size row_program program_cost order_steps meaning cost step_cost
  row_sized x r k =
      both_sized w (Plus y_slot x (neg w r) ∷ relu_program w y_slot res_slot) (Plus y_slot 0 (neg w 0) ∷ relu_program w y_slot res_slot)
      (Scale res_slot res_slot k ∷ Add acc_slot acc_slot res_slot ∷ []) (Scale res_slot res_slot 0 ∷ Add acc_slot acc_slot res_slot ∷ [])
      refl refl

  -- a row is its ReLU between one gate and two, which count nothing
  pub row_number : row_size w ≡ size (1 + (relu_size w).gates + 2) (relu_size w).cost
  unfolding row_size row_program plus_size program_cost order_steps meaning cost step_cost plus
  row_number =
      size_after w (Plus y_slot 0 (neg w 0) ∷ relu_program w y_slot res_slot)
      (Scale res_slot res_slot 0 ∷ Add acc_slot acc_slot res_slot ∷ [])
      ∙ size_path (omega arith) (cost_path (omega arith) (omega arith) (omega arith) (omega arith))
      ∙ ap (λ (z : Size). size (1 + z.gates + 2) z.cost) (relu_sized y_slot res_slot)

  pub saturation_sized : (r x d : ℕ) → size_of w (saturation w r x d) ≡ saturation_size w
  unfolding saturation_size saturation saturation_head saturation_end program_cost order_steps meaning cost step_cost
  saturation_sized r x d =
      both_sized w (saturation_head r x) (saturation_head 0 0) (sign_program w y_slot ++ saturation_end d)
      (sign_program w y_slot ++ saturation_end 0) refl
      (both_sized w (sign_program w y_slot) (sign_program w y_slot) (saturation_end d) (saturation_end 0) refl refl)

  -- R-1's steps count what a ReLU counts, and have two gates more
  pub saturation_number : saturation_size w ≡ size (2 + (relu_size w).gates) (relu_size w).cost
  unfolding saturation_size saturation saturation_head saturation_end relu_program plus_size program_cost order_steps meaning cost step_cost
      plus
  saturation_number =
      size_after w (saturation_head 0 0) (sign_program w y_slot ++ saturation_end 0)
      ∙ ap (plus_size (size_of w (saturation_head 0 0))) (size_after w (sign_program w y_slot) (saturation_end 0))
      ∙ size_path (omega arith) (cost_path (omega arith) (omega arith) (omega arith) (omega arith))
      ∙ ap (λ (z : Size). size (2 + z.gates) z.cost)
      (sym (size_after w (sign_program w y_slot) (relu_end y_slot 0)) ∙ relu_sized y_slot 0)

  -- a program that starts with a refresh uses a word of A
  pub refresh_uses : (d a : ℕ) (gs : List Gate) → 0 < (program_cost w (Refresh d a ∷ gs)).a
  unfolding program_cost order_steps meaning cost step_cost plus
  refresh_uses d a gs = omega arith

  -- a row has gates, and exchanges

  pub row_speaks : 0 < row_exchanges w
  unfolding row_size row_program relu_program sign_program adder program_cost order_steps meaning cost step_cost plus
  row_speaks = omega arith

  -- ---- a curve

  none_of : (z : Size) → size 0 (cost_of 0 0 0 0) ≡ times_size 0 z
  unfolding times_size times_cost
  none_of z = size_path (omega arith) (cost_path (omega arith) (omega arith) (omega arith) (omega arith))

  one_more : (n : ℕ) (z : Size) → plus_size z (times_size n z) ≡ times_size (suc n) z
  unfolding times_size times_cost plus_size plus
  one_more n z =
      size_path (more z.gates) (cost_path (more z.cost.deals) (more z.cost.words) (more z.cost.a) (more z.cost.b))
    where
      more : (k : ℕ) → k + k * n ≡ k * suc n
      more k = omega (arith, mul-suc k n)

  pub rows_sized : (x : ℕ) (s : ℤ) (ps : List Row) → size_of w (rows_program w x s ps) ≡ times_size (length ps) (row_size w)
  unfolding rows_program program_cost order_steps cost step_cost plus
  rows_sized x s [] = none_of (row_size w)
  rows_sized x s (p ∷ ps) =
      size_after w (row_program w x p.r (coefficient w s p ps)) (rows_program w x (slope_after p ps) ps)
      ∙ ap₂ plus_size (row_sized x p.r (coefficient w s p ps)) (rows_sized x (slope_after p ps) ps)
      ∙ one_more (length ps) (row_size w)

  pub sum_sized : (x : ℕ) (ps : List Row)
      → size_of w (sum_program w x ps) ≡ plus_size (size 1 (cost_of 0 0 0 0)) (times_size (length ps) (row_size w))
  unfolding program_cost order_steps meaning cost step_cost plus
  sum_sized x ps =
      ap (size_of w) (sum_gates w x ps)
      ∙ size_after w (Const acc_slot (4096 * (row_at ps 0).c % 2 ^ w) ∷ []) (rows_program w x (pos 0) ps)
      ∙ ap (plus_size (size 1 (cost_of 0 0 0 0))) (rows_sized x (pos 0) ps)

  pub truncation_sized : (mode : ℕ) → size_of w (truncation w mode) ≡ truncation_size w mode
  unfolding truncation truncation_size program_cost order_steps meaning cost step_cost
  truncation_sized zero = exact_sized 12 acc_slot acc_slot
  truncation_sized (suc m) =
      size_after w (Refresh acc_slot acc_slot ∷ []) (one_bit_program w 12 acc_slot acc_slot)
      ∙ ap (plus_size (size_of w (Refresh 0 0 ∷ []))) (one_bit_sized 12 acc_slot acc_slot)

  pub curve_sized : (x d : ℕ) (ps : List Row) (mode : ℕ) → size_of w (curve_program w x d ps mode) ≡ curve_size w mode (length ps)
  unfolding curve_size curve_program
  curve_sized x d ps mode =
      size_after w (sum_program w x ps) (truncation w mode ++ saturation w (last_count ps) x d)
      ∙ ap₂ plus_size (sum_sized x ps)
      (size_after w (truncation w mode) (saturation w (last_count ps) x d)
      ∙ ap₂ plus_size (truncation_sized mode) (saturation_sized (last_count ps) x d))

-- ---- kinds of orders

module _ (w : ℕ) (ps : List Row) where
  kinds_sized : (d a c : ℕ) → map (size_of w) (kinds w ps d a c) ≡ kind_sizes w c (length ps)
  unfolding kinds kind_sizes program_cost order_steps meaning cost step_cost
  kinds_sized d a c =
      λ i. size_of w (Add d a c ∷ []) ∷ size_of w (Sub d a c ∷ []) ∷ size_of w (Plus d a c ∷ []) ∷ size_of w (Scale d a c ∷ [])
      ∷ size_of w (Mul d a c ∷ []) ∷ size_of w (Refresh d a ∷ []) ∷ slack_sized w c a d i ∷ one_bit_sized w c a d i
      ∷ exact_sized w c a d i ∷ relu_sized w a d i ∷ curve_sized w a d ps c i ∷ []

  pub order_sized : (o : Order) → size_of w (program w ps o) ≡ get_or (kind_sizes w o.fourth (length ps)) o.kind (size_of w [])
  unfolding program
  order_sized o =
      sym (get_or-map (size_of w) (kinds w ps o.target o.source o.fourth) o.kind [])
      ∙ ap (λ (l : List Size). get_or l o.kind (size_of w [])) (kinds_sized o.target o.source o.fourth)

-- two lists that differ in their last entry alone
but_last : {A : Type 0} (l : List A) (x y d : A) (k : ℕ) → (k ≡ length l → ⊥) → get_or (l ++ (x ∷ [])) k d ≡ get_or (l ++ (y ∷ [])) k d
but_last [] x y d zero h = absurd (h refl)
but_last [] x y d (suc k) h = refl
but_last (z ∷ l) x y d zero h = refl
but_last (z ∷ l) x y d (suc k) h = but_last l x y d k (λ e. h (ap suc e))

-- only a curve looks at the table
pub any_table : (w : ℕ) (ps qs : List Row) (o : Order) → (o.kind ≡ 10 → ⊥) → program w ps o ≡ program w qs o
unfolding program kinds
any_table w ps qs o h =
    let d = o.target in
    let a = o.source in
    let c = o.fourth in
    but_last (take 10 (kinds w [] d a c)) (curve_program w a d ps c) (curve_program w a d qs c) [] o.kind h

-- ---- the numbers: at any width, by the rounds of its adder, and at 32

pub slack_number : (w : ℕ) → slack_size w ≡ size 3 (cost_of 1 0 1 0)
unfolding slack_size slack_program program_cost order_steps meaning cost step_cost plus
slack_number w = refl

pub one_bit_number : (w : ℕ) → one_bit_size w ≡ size 13 (cost_of 2 2 3 1)
unfolding one_bit_size one_bit_program program_cost order_steps meaning cost step_cost plus
one_bit_number w = refl

-- the counts of so many deals, of so many products, each with a deal of its own, and of so many with a known value
abbrev pub counts_of : (deals products known : ℕ) → Cost
counts_of k n u = cost_of (k + n) (2 * (n + u)) (k + 2 * n + u) (n + u)

-- each round of the adder has five gates, two of them products; the last has the first three and one product
rounds_number : (w : ℕ) (ds : List ℕ) → 0 < length ds
    → size_of w (rounds (updates ds)) ≡ size (5 * length ds - 2) (counts_of 0 (2 * length ds - 1) 0)
unfolding updates rounds update_gates program_cost order_steps meaning cost step_cost plus
rounds_number w [] h = absurd (omega arith)
rounds_number w (D ∷ []) h = refl
rounds_number w (D ∷ E ∷ ds) h =
    let e = rounds_number w (E ∷ ds) (omega arith) in
    size_path (omega (arith, ap (λ (z : Size). z.gates) e))
    (cost_path (omega (arith, ap (λ (z : Size). z.cost.deals) e)) (omega (arith, ap (λ (z : Size). z.cost.words) e))
    (omega (arith, ap (λ (z : Size). z.cost.a) e)) (omega (arith, ap (λ (z : Size). z.cost.b) e)))

-- the programs with an adder, by its rounds
module _ (w : ℕ) (h : 0 < length (distances w)) where
  abbrev R : ℕ
  R = length (distances w)

  pub adder_number : (x : ℕ) → size_of w (adder w x) ≡ size (5 + 5 * R - 2) (counts_of 1 (2 * R - 1) 1)
  unfolding adder program_cost order_steps meaning cost step_cost plus
  adder_number x =
      let e = rounds_number w (distances w) h in
      size_path (omega (arith, ap (λ (z : Size). z.gates) e))
      (cost_path (omega (arith, ap (λ (z : Size). z.cost.deals) e)) (omega (arith, ap (λ (z : Size). z.cost.words) e))
      (omega (arith, ap (λ (z : Size). z.cost.a) e)) (omega (arith, ap (λ (z : Size). z.cost.b) e)))

  with_adder : (x : ℕ) (gs : List Gate)
      → size_of w (adder w x ++ gs) ≡ plus_size (size (5 + 5 * R - 2) (counts_of 1 (2 * R - 1) 1)) (size_of w gs)
  with_adder x gs = size_after w (adder w x) gs ∙ ap (λ (z : Size). plus_size z (size_of w gs)) (adder_number x)

  pub sign_number : (x : ℕ) → size_of w (sign_program w x) ≡ size (11 + 5 * R) (counts_of 2 (2 * R - 1) 2)
  unfolding sign_program sign_rest to_number plus_size program_cost order_steps meaning cost step_cost plus
  sign_number x =
      with_adder x (sign_rest w) ∙ size_path (omega arith) (cost_path (omega arith) (omega arith) (omega arith) (omega arith))

  pub relu_number : relu_size w ≡ size (14 + 5 * R) (counts_of 2 (2 * R) 2)
  unfolding relu_size relu_program plus_size program_cost order_steps meaning cost step_cost plus
  relu_number =
      size_after w (sign_program w 0) (relu_end w 0 0) ∙ ap (λ (z : Size). plus_size z (size_of w (relu_end w 0 0))) (sign_number 0)
      ∙ size_path (omega arith) (cost_path (omega arith) (omega arith) (omega arith) (omega arith))

  pub exact_number : exact_size w ≡ size (25 + 5 * R) (counts_of 4 (2 * R - 1) 3)
  unfolding exact_size exact_head exact_rest to_number plus_size program_cost order_steps meaning cost step_cost plus
  exact_number =
      ap (size_of w) (exact_parts w 0 0 0) ∙ size_after w (exact_head w 0 0) (adder w y_slot ++ exact_rest w 0 0)
      ∙ ap (plus_size (size_of w (exact_head w 0 0))) (with_adder y_slot (exact_rest w 0 0))
      ∙ size_path (omega arith) (cost_path (omega arith) (omega arith) (omega arith) (omega arith))

pub adder_32 : (x : ℕ) → size_of 32 (adder 32 x) ≡ size 28 (cost_of 10 20 20 10)
unfolding distances doubled
adder_32 = adder_number 32 (omega arith)

pub sign_32 : (x : ℕ) → size_of 32 (sign_program 32 x) ≡ size 36 (cost_of 11 22 22 11)
unfolding distances doubled
sign_32 = sign_number 32 (omega arith)

pub exact_32 : exact_size 32 ≡ size 50 (cost_of 13 24 25 12)
unfolding distances doubled
exact_32 = exact_number 32 (omega arith)

-- the counts of a ReLU, and so of a row
abbrev pub relu_counts_32 : Cost
relu_counts_32 = cost_of 12 24 24 12

pub relu_32 : relu_size 32 ≡ size 39 relu_counts_32
unfolding distances doubled
relu_32 = relu_number 32 (omega arith)

pub row_32 : row_size 32 ≡ size 42 relu_counts_32
row_32 = row_number 32 ∙ ap (λ (z : Size). size (1 + z.gates + 2) z.cost) relu_32

pub saturation_32 : saturation_size 32 ≡ size 41 relu_counts_32
saturation_32 = saturation_number 32 ∙ ap (λ (z : Size). size (2 + z.gates) z.cost) relu_32

-- ---- an order has few gates

-- what holds of every kind's size, and of no gates
abbrev All : (Size → Type 0) → List Size → Type 0
All P [] = Unit
All P (z ∷ l) = P z × All P l

all_at : (P : Size → Type 0) (none : Size) → P none → (l : List Size) → All P l → (k : ℕ) → P (get_or l k none)
all_at P none e [] h k = e
all_at P none e (z ∷ l) h zero = h.0
all_at P none e (z ∷ l) h (suc k) = all_at P none e l h.1 k

-- few beside those that take a word of A, and few on the rows of a table that keeps the rules
record Few (n : ℕ) (z : Size) : Type 0 where
  beside : z.gates ≤ 2 * z.cost.a + 60
  ruled : n ≤ 16 → z.gates ≤ 1000

curve_few : (c n : ℕ) → Few n (curve_size 32 c n)
unfolding curve_size truncation_size plus_size times_size times_cost plus program_cost order_steps meaning cost step_cost
curve_few zero n = rw (row_32, exact_32, saturation_32) (record { beside = omega arith; ruled = λ h. omega arith })
curve_few (suc c) n = rw (row_32, one_bit_number 32, saturation_32) (record { beside = omega arith; ruled = λ h. omega arith })

kinds_few : (c n : ℕ) → All (Few n) (kind_sizes 32 c n)
unfolding kind_sizes program_cost order_steps meaning cost step_cost plus
kinds_few c n =
    rw (slack_number 32, one_bit_number 32, exact_32, relu_32)
    (by tt, (by tt, (by tt, (by tt, (by tt, (by tt, (by tt, (by tt, (by tt, (by tt, (curve_few c n, tt)))))))))))
  where
    by : {z : Size} → T (leb z.gates 60) → Few n z
    by {z} h = let l : z.gates ≤ 60 = leb→le z.gates 60 h in record { beside = omega arith; ruled = λ h. omega arith }

order_few : (ps : List Row) (o : Order) → Few (length ps) (size_of 32 (program 32 ps o))
order_few ps o =
    subst (Few (length ps)) (sym (order_sized 32 ps o))
    (all_at (Few (length ps)) (size_of 32 []) (record { beside = omega arith; ruled = λ h. omega arith })
    (kind_sizes 32 o.fourth (length ps))
    (kinds_few o.fourth (length ps)) o.kind)

pub few : (ps : List Row) (o : Order) → length (program 32 ps o) ≤ 2 * (cost (order_steps 32 (program 32 ps o) [])).a + 60
unfolding program_cost
few ps o = (order_few ps o).beside

pub few_gates : (ps : List Row) (o : Order) → (o.kind ≡ 10 → length ps ≤ 16) → length (program 32 ps o) ≤ 1000
few_gates ps o h = go (eqb o.kind 10) refl
  where
    go : (b : Bool) → eqb o.kind 10 ≡ b → length (program 32 ps o) ≤ 1000
    go true e = (order_few ps o).ruled (h (eqb-true o.kind 10 e))
    go false e = rw (any_table 32 ps [] o (eqb-false o.kind 10 e)) ((order_few [] o).ruled (omega arith))
