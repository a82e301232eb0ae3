-- The place of a program's n-th exchange, in one program after another, and in the curve's. Assumes nothing.
use mathlib.Core.Path.{◌≡◌, refl, sym, ap, ◌∙◌}
use mathlib.Core.List.{List, [], ◌∷◌, ◌++◌, append_assoc}
use Prim.Native.Nat.{ℕ, zero, suc, ◌+◌, ◌-◌, ◌*◌, ◌/◌, ◌%◌, ◌≤◌, ◌<◌}
use native.Mathlib.Nat.{zero-add, mod-lt, mul_comm, suc-mul, div-add-mod', le-div_iff_mul-le}
use native.Mathlib.Numerals.{add-one, one-add}
use native.Mathlib.Omega.{arith}
use lib.IntN.{ℤ, pos}
use lib.ListN.{length}
use Rattle.std.specs.Prelude.{Option}
use Rattle.gates.specs.Gates.{Gate, Add, Refresh, Scale}
use Rattle.gates.specs.Steps.{product, refresh, known_product, Step, local, deal, exchange, end}
use Rattle.gates.specs.Meaning.{meaning, order_steps}
use Rattle.gates.specs.Speech.{shape}
use Rattle.gates.specs.Costs.{Cost, plus, step_cost, cost}
use Rattle.tables.specs.Table.{Row, rows}
use Rattle.curves.specs.Curve.{last_count, slope_after, coefficient}
use Rattle.programs.specs.declared.GatePlace.{GatePlace}
use Rattle.programs.specs.Programs.{y_slot, acc_slot, res_slot, relu_program}
use Rattle.programs.specs.Programs.{row_program, rows_program, sum_program, truncation, saturation}
use Rattle.programs.specs.Orders.{curve_program}
use Rattle.programs.specs.Costs.{program_cost}
use Rattle.programs.specs.Sizes.{Size, size_of, row_size, row_gates, row_deals, row_words_a, row_exchanges}
use Rattle.programs.specs.Seek.{sought_at, sought}
use Rattle.programs.proofs.CurveGates.{rows_count, sum_gates}
use Rattle.programs.proofs.Sizes.{relu_sized, row_sized, row_number, row_speaks}

-- ---- one program after another

-- past a step, where what is behind it finds the same
same_step : (b : ℕ) (go go' : ℕ → ℕ → ℕ → ℕ → Option GatePlace) (h : (n i a deals : ℕ) → n < b → go n i a deals ≡ go' n i a deals)
    (y : Step) (n i a deals : ℕ) → n < (step_cost y).b + b
    → sought_at (shape y) n i a deals go ≡ sought_at (shape y) n i a deals go'
unfolding sought_at shape step_cost
same_step b go go' h (local d m l) n i a deals q = h n (suc i) a deals (omega arith)
same_step b go go' h (deal d f) n i a deals q = h n (suc i) (suc a) (suc deals) (omega arith)
same_step b go go' h (exchange d (product O x y)) zero i a deals q = refl
same_step b go go' h (exchange d (product O x y)) (suc n) i a deals q = h n (suc i) (2 + a) (suc deals) (omega arith)
same_step b go go' h (exchange d (refresh O x)) zero i a deals q = refl
same_step b go go' h (exchange d (known_product O x y)) zero i a deals q = refl
same_step b go go' h (exchange d (refresh O x)) (suc n) i a deals q = h n (suc i) (suc a) deals (omega arith)
same_step b go go' h (exchange d (known_product O x y)) (suc n) i a deals q = h n (suc i) (suc a) deals (omega arith)
same_step b go go' h end n i a deals q = h n (suc i) a deals (omega arith)

-- an exchange of the first program
pub sought_first : (w : ℕ) (gs hs : List Gate) (n i a deals : ℕ) → n < (program_cost w gs).b
    → sought w gs n i a deals ≡ sought w (gs ++ hs) n i a deals
unfolding sought program_cost order_steps cost step_cost plus
sought_first w [] hs n i a deals q = absurd (omega arith)
sought_first w (g ∷ gs) hs n i a deals q =
    same_step (program_cost w gs).b (sought w gs) (sought w (gs ++ hs)) (sought_first w gs hs) (meaning w g) n i a deals q

-- past a step's own exchange, if it has one
step_over : (go : ℕ → ℕ → ℕ → ℕ → Option GatePlace) (y : Step) (n i a deals : ℕ)
    → go n (suc i) ((step_cost y).a + a) ((step_cost y).deals + deals) ≡ sought_at (shape y) ((step_cost y).b + n) i a deals go
unfolding sought_at shape step_cost
step_over go (local d m l) n i a deals = rw (zero-add a, zero-add deals, zero-add n)
step_over go (deal d f) n i a deals = rw (one-add a, one-add deals, zero-add n)
step_over go (exchange d (product O x y)) n i a deals = rw (one-add deals, one-add n)
step_over go (exchange d (refresh O x)) n i a deals = rw (one-add a, zero-add deals, one-add n)
step_over go (exchange d (known_product O x y)) n i a deals = rw (one-add a, zero-add deals, one-add n)
step_over go end n i a deals = rw (zero-add a, zero-add deals, zero-add n)

-- an exchange of the second, with the counts of the first
after_first : (w : ℕ) (gs hs : List Gate) (m i a deals : ℕ)
    → sought w hs m (length gs + i) ((program_cost w gs).a + a) ((program_cost w gs).deals + deals)
    ≡ sought w (gs ++ hs) ((program_cost w gs).b + m) i a deals
unfolding sought program_cost order_steps cost step_cost plus
after_first w [] hs m i a deals = rw (zero-add i, zero-add a, zero-add deals, zero-add m)
after_first w (g ∷ gs) hs m i a deals =
    let y : Step = meaning w g in
    let k : Cost = program_cost w gs in
    let zi : suc (length gs) + i ≡ length gs + suc i = omega arith in
    let za : (step_cost y).a + k.a + a ≡ k.a + ((step_cost y).a + a) = omega arith in
    let zd : (step_cost y).deals + k.deals + deals ≡ k.deals + ((step_cost y).deals + deals) = omega arith in
    let zn : (step_cost y).b + k.b + m ≡ (step_cost y).b + (k.b + m) = omega arith in
    rw (zi, za, zd, zn)
    (after_first w gs hs m (suc i) ((step_cost y).a + a) ((step_cost y).deals + deals)
    ∙ step_over (sought w (gs ++ hs)) y (k.b + m) i a deals)

-- .. of this size
pub sought_after : (w : ℕ) (gs hs : List Gate) (z : Size) → size_of w gs ≡ z → (n m i a deals : ℕ) → n ≡ z.cost.b + m
    → sought w hs m (z.gates + i) (z.cost.a + a) (z.cost.deals + deals) ≡ sought w (gs ++ hs) n i a deals
sought_after w gs hs z e n m i a deals q =
    ap (λ (z : Size). sought w hs m (z.gates + i) (z.cost.a + a) (z.cost.deals + deals)) (sym e)
    ∙ after_first w gs hs m i a deals
    ∙ ap (λ (n : ℕ). sought w (gs ++ hs) n i a deals) (ap (λ (z : Size). z.cost.b + m) e ∙ sym q)

-- a refresh, which uses a word of A and no deal
pub refresh_next : (w : ℕ) (gs : List Gate) (n i a deals : ℕ) → (n ≡ 0 → ⊥)
    → sought w gs (n - 1) (i + 1) (a + 1) (deals + 0) ≡ sought w (Refresh acc_slot acc_slot ∷ gs) n i a deals
unfolding sought sought_at meaning shape
refresh_next w gs zero i a deals f = absurd (f refl)
refresh_next w gs (suc n) i a deals f = let e : suc n - 1 ≡ n = omega arith in
    let z : deals + 0 ≡ deals = omega arith in
    rw (e, z, add-one i, add-one a)

-- ---- the rows of a curve, from the slope s before the first of them

-- a row's exchanges are its ReLU's
row_relu : (w x r c e i a deals : ℕ) → e < row_exchanges w
    → sought w (relu_program w y_slot res_slot) e (suc i) a deals ≡ sought w (row_program w x r c) e i a deals
unfolding row_program sought sought_at meaning shape
row_relu w x r c e i a deals h =
    sought_first w (relu_program w y_slot res_slot) (Scale res_slot res_slot c ∷ Add acc_slot acc_slot res_slot ∷ []) e (suc i) a deals
    (omega (arith, ap (λ (z : Size). z.cost.b) (relu_sized w y_slot res_slot), ap (λ (z : Size). z.cost.b) (row_number w)))

-- one more row
row_more : (j g i : ℕ) → suc j * g + i ≡ j * g + (g + i)
row_more j g i = omega (arith, suc-mul j g)

no_row : (g i : ℕ) → 0 * g + i ≡ i
no_row g i = omega arith

module _ (w x : ℕ) (hs : List Gate) where
  -- on to the rows after the first one
  next_row : (r c : ℕ) (T : List Gate) (n m i a deals : ℕ) → n ≡ row_exchanges w + m
      → sought w (T ++ hs) m (row_gates w + i) (row_words_a w + a) (row_deals w + deals)
      ≡ sought w ((row_program w x r c ++ T) ++ hs) n i a deals
  next_row r c T n m i a deals e =
      let R : List Gate = row_program w x r c in
      rw (append_assoc R T hs) (sought_after w R (T ++ hs) (row_size w) (row_sized w x r c) n m i a deals e)

  rows_at : (ps : List Row) (s : ℤ) (j e n i a deals : ℕ) → j < length ps → e < row_exchanges w → n ≡ j * row_exchanges w + e
      → sought w (relu_program w y_slot res_slot) e (suc (j * row_gates w + i)) (j * row_words_a w + a) (j * row_deals w + deals)
      ≡ sought w (rows_program w x s ps ++ hs) n i a deals
  unfolding rows_program
  rows_at [] s j e n i a deals h l q = absurd (omega arith)
  rows_at (p ∷ ps) s zero e n i a deals h l q =
      let c : ℕ = coefficient w s p ps in
      let T : List Gate = rows_program w x (slope_after p ps) ps in
      let z : n ≡ e = omega arith in
      rw (no_row (row_gates w) i, no_row (row_words_a w) a, no_row (row_deals w) deals, z, append_assoc (row_program w x p.r c) T hs)
      (row_relu w x p.r c e i a deals l ∙ sought_first w (row_program w x p.r c) (T ++ hs) e i a deals
      (omega (arith, ap (λ (z : Size). z.cost.b) (row_sized w x p.r c))))
  rows_at (p ∷ ps) s (suc j) e n i a deals h l q =
      rw (row_more j (row_gates w) i, row_more j (row_words_a w) a, row_more j (row_deals w) deals)
      (rows_at ps (slope_after p ps) j e (j * row_exchanges w + e) (row_gates w + i) (row_words_a w + a) (row_deals w + deals) (omega arith)
      l refl
      ∙ next_row p.r (coefficient w s p ps) (rows_program w x (slope_after p ps) ps) n (j * row_exchanges w + e) i a deals
      (omega (arith, row_more j (row_exchanges w) e)))

  rows_end : (ps : List Row) (s : ℤ) (e n i a deals : ℕ) → n ≡ length ps * row_exchanges w + e
      → sought w hs e (length ps * row_gates w + i) (length ps * row_words_a w + a) (length ps * row_deals w + deals)
      ≡ sought w (rows_program w x s ps ++ hs) n i a deals
  unfolding rows_program
  rows_end [] s e n i a deals q =
      let z : n ≡ e = omega arith in
      rw (no_row (row_gates w) i, no_row (row_words_a w) a, no_row (row_deals w) deals, z)
  rows_end (p ∷ ps) s e n i a deals q =
      let j : ℕ = length ps in
      rw (row_more j (row_gates w) i, row_more j (row_words_a w) a, row_more j (row_deals w) deals)
      (rows_end ps (slope_after p ps) e (j * row_exchanges w + e) (row_gates w + i) (row_words_a w + a) (row_deals w + deals) refl
      ∙ next_row p.r (coefficient w s p ps) (rows_program w x (slope_after p ps) ps) n (j * row_exchanges w + e) i a deals
      (omega (arith, row_more j (row_exchanges w) e)))

  -- the first gate has no exchange
  sum_next : (ps : List Row) (n : ℕ) → sought w (rows_program w x (pos 0) ps ++ hs) n 1 0 0 ≡ sought w (sum_program w x ps ++ hs) n 0 0 0
  unfolding sought sought_at meaning shape
  sum_next ps n = rw (sum_gates w x ps)

-- ---- the curve, of a table's words

module _ (w x d : ℕ) (ws : List ℕ) (mode n : ℕ) where
  -- what is behind the rows
  abbrev rest : List Gate
  rest = truncation w mode ++ saturation w (last_count (rows ws)) x d

  -- the row of the exchange
  abbrev at_row : ℕ
  at_row = n / row_exchanges w

  pub curve_row_place : at_row < length ws / 2
      → sought w (relu_program w y_slot res_slot) (n % row_exchanges w) (row_gates w * at_row + 1 + 1) (row_words_a w * at_row)
      (row_deals w * at_row)
      ≡ sought w (curve_program w x d (rows ws) mode) n 0 0 0
  unfolding curve_program
  curve_row_place h =
      let zi : row_gates w * at_row + 1 + 1 ≡ suc (at_row * row_gates w + 1) = omega (arith, mul_comm (row_gates w) at_row) in
      let za : row_words_a w * at_row ≡ at_row * row_words_a w + 0 = omega (arith, mul_comm (row_words_a w) at_row) in
      let zd : row_deals w * at_row ≡ at_row * row_deals w + 0 = omega (arith, mul_comm (row_deals w) at_row) in
      rw (zi, za, zd)
      (rows_at w x rest (rows ws) (pos 0) at_row (n % row_exchanges w) n 1 0 0 (rw (rows_count ws) h)
      (mod-lt n (row_speaks w)) (sym (div-add-mod' n (row_exchanges w)))
      ∙ sum_next w x rest (rows ws) n)

  abbrev count : ℕ
  count = length ws / 2

  pub rest_place : count ≤ at_row
      → sought w rest (n - row_exchanges w * count) (row_gates w * count + 1) (row_words_a w * count) (row_deals w * count)
      ≡ sought w (curve_program w x d (rows ws) mode) n 0 0 0
  unfolding curve_program
  rest_place h =
      let c : length (rows ws) ≡ count = rows_count ws in
      let zi : row_gates w * count + 1 ≡ count * row_gates w + 1 = omega (arith, mul_comm (row_gates w) count) in
      let za : row_words_a w * count ≡ count * row_words_a w + 0 = omega (arith, mul_comm (row_words_a w) count) in
      let zd : row_deals w * count ≡ count * row_deals w + 0 = omega (arith, mul_comm (row_deals w) count) in
      rw (zi, za, zd, ← c)
      (rows_end w x rest (rows ws) (pos 0) (n - row_exchanges w * length (rows ws)) n 1 0 0
      (rw c (omega (arith, mul_comm (row_exchanges w) count, (le-div_iff_mul-le (row_speaks w)).0 h)))
      ∙ sum_next w x rest (rows ws) n)
