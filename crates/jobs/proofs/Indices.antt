-- A job's words as its orders: the order and its gates at an index, the orders before it, and a job cut off behind one.
-- Assumes nothing.
use mathlib.Core.Path.{◌≡◌, refl, sym, ap, ◌∙◌}
use mathlib.Core.List.{List, [], ◌∷◌, ◌++◌, map}
use Prim.Native.Nat.{ℕ, zero, suc, ◌+◌, ◌*◌, ◌/◌, ◌≤◌, ◌<◌}
use native.Mathlib.Omega.{arith}
use lib.ListN.{length, get_or, take, drop, length-map, drop_of_length-le}
use Rattle.tables.specs.Table.{rows}
use Rattle.gates.specs.Gates.{Gate}
use Rattle.gates.specs.Meaning.{job_steps}
use Rattle.gates.specs.Costs.{cost}
use Rattle.programs.specs.declared.Order.{Order}
use Rattle.programs.specs.Orders.{program}
use Rattle.jobs.specs.Job.{orders, job_gates, steps_of, job_cost, order_at}

-- ---- orders by index

pub order_count : (ws : List ℕ) → length (orders ws) ≡ length ws / 4
unfolding orders
order_count [] = refl
order_count (k ∷ []) = refl
order_count (k ∷ d ∷ []) = refl
order_count (k ∷ d ∷ a ∷ []) = refl
order_count (k ∷ d ∷ a ∷ c ∷ ws) = omega (arith, order_count ws)

next_order : (k d a c : ℕ) (ws : List ℕ) (o : ℕ) → order_at (k ∷ d ∷ a ∷ c ∷ ws) (suc o) ≡ order_at ws o
next_order k d a c ws o =
    let e : suc o * 4 ≡ suc (suc (suc (suc (o * 4)))) = omega arith in
    let e1 : suc o * 4 + 1 ≡ suc (suc (suc (suc (o * 4 + 1)))) = omega arith in
    let e2 : suc o * 4 + 2 ≡ suc (suc (suc (suc (o * 4 + 2)))) = omega arith in
    let e3 : suc o * 4 + 3 ≡ suc (suc (suc (suc (o * 4 + 3)))) = omega arith in
    rw (e1, e2, e3, e)

pub orders_drop : (ws : List ℕ) (o : ℕ) → o < length ws / 4 → drop o (orders ws) ≡ order_at ws o ∷ drop (suc o) (orders ws)
unfolding orders
orders_drop [] o h = absurd (omega arith)
orders_drop (k ∷ []) o h = absurd (omega arith)
orders_drop (k ∷ d ∷ []) o h = absurd (omega arith)
orders_drop (k ∷ d ∷ a ∷ []) o h = absurd (omega arith)
orders_drop (k ∷ d ∷ a ∷ c ∷ ws) zero h = refl
orders_drop (k ∷ d ∷ a ∷ c ∷ ws) (suc o) h =
    orders_drop ws o (omega arith) ∙ ap (λ (x : Order). x ∷ drop (suc o) (orders ws)) (sym (next_order k d a c ws o))

pub orders_take : (ws : List ℕ) (o : ℕ) → o ≤ length ws / 4 → orders (take (o * 4) ws) ≡ take o (orders ws)
unfolding orders
orders_take ws zero h = refl
orders_take [] (suc o) h = absurd (omega arith)
orders_take (k ∷ []) (suc o) h = absurd (omega arith)
orders_take (k ∷ d ∷ []) (suc o) h = absurd (omega arith)
orders_take (k ∷ d ∷ a ∷ []) (suc o) h = absurd (omega arith)
orders_take (k ∷ d ∷ a ∷ c ∷ ws) (suc o) h =
    let e : suc o * 4 ≡ suc (suc (suc (suc (o * 4)))) = omega arith in
    rw (e, orders_take ws o (omega arith))

module _ {A : Type 0} where
  pub head_of : (l : List A) (o : ℕ) (x d : A) (r : List A) → drop o l ≡ x ∷ r → get_or l o d ≡ x
  head_of [] zero x d r e = ap (λ (z : List A). get_or z 0 d) e
  head_of [] (suc o) x d r e = ap (λ (z : List A). get_or z 0 d) e
  head_of (y ∷ l) zero x d r e = ap (λ (z : List A). get_or z 0 d) e
  head_of (y ∷ l) (suc o) x d r e = head_of l o x d r e

module _ {A B : Type 0} where
  drop_map : (f : A → B) (o : ℕ) (l : List A) → drop o (map f l) ≡ map f (drop o l)
  drop_map f zero l = refl
  drop_map f (suc o) [] = refl
  drop_map f (suc o) (x ∷ l) = drop_map f o l

  take_map : (f : A → B) (o : ℕ) (l : List A) → take o (map f l) ≡ map f (take o l)
  take_map f zero l = refl
  take_map f (suc o) [] = refl
  take_map f (suc o) (x ∷ l) = ap (λ (z : List B). f x ∷ z) (take_map f o l)

module _ (w : ℕ) (job table : List ℕ) where
  pub gates_length : length (job_gates w job table) ≡ length (orders job)
  unfolding job_gates
  gates_length = length-map (orders job) (program w (rows table))

  pub gates_count : length (job_gates w job table) ≡ length job / 4
  gates_count = gates_length ∙ order_count job

  module _ (o : ℕ) where
    pub gates_drop : o < length job / 4
        → drop o (job_gates w job table) ≡ program w (rows table) (order_at job o) ∷ drop (suc o) (job_gates w job table)
    unfolding job_gates
    gates_drop h =
        drop_map (program w (rows table)) o (orders job)
        ∙ ap (map (program w (rows table))) (orders_drop job o h)
        ∙ ap (λ (z : List (List Gate)). program w (rows table) (order_at job o) ∷ z)
        (sym (drop_map (program w (rows table)) (suc o) (orders job)))

    -- the order at o as the code has it
    pub order_there : o < length job / 4 → (ord : Order) → ord ≡ order_at job o
        → drop o (job_gates w job table) ≡ program w (rows table) ord ∷ drop (suc o) (job_gates w job table)
    order_there h ord e = rw e (gates_drop h)

    pub gates_at : o < length job / 4 → get_or (job_gates w job table) o [] ≡ program w (rows table) (order_at job o)
    gates_at h = head_of (job_gates w job table) o _ [] _ (gates_drop h)

    pub gates_over : length job / 4 ≤ o → drop o (job_gates w job table) ≡ []
    gates_over h = drop_of_length-le (job_gates w job table) {i = o} (omega (arith, gates_count))

    -- the counts of the orders before
    pub cost_before : o ≤ length job / 4 → job_cost w (take (o * 4) job) table ≡ cost (job_steps w (take o (job_gates w job table)))
    unfolding job_cost steps_of job_gates
    cost_before h = rw (orders_take job o h, take_map (program w (rows table)) o (orders job))

-- ---- a job's words cut off behind an order

pub record Cut (ws : List ℕ) (i : ℕ) : Type 0 where
  pub fits : i * 4 ≤ length ws
  pub count : length (orders (take (i * 4) ws)) ≡ i
  pub splits : orders ws ≡ orders (take (i * 4) ws) ++ orders (drop (i * 4) ws)

pub cut : (ws : List ℕ) (i : ℕ) → i ≤ length (orders ws) → Cut ws i
unfolding orders
cut ws zero h = record { fits = omega arith; count = refl; splits = refl }
cut [] (suc i) h = absurd (omega arith)
cut (k ∷ []) (suc i) h = absurd (omega arith)
cut (k ∷ d ∷ []) (suc i) h = absurd (omega arith)
cut (k ∷ d ∷ a ∷ []) (suc i) h = absurd (omega arith)
cut (k ∷ d ∷ a ∷ c ∷ ws) (suc i) h =
    let e : suc i * 4 ≡ suc (suc (suc (suc (i * 4)))) = omega arith in
    let r = cut ws i (omega arith) in
    record {
      fits = omega (arith, r.fits);
      count = rw e (ap suc r.count);
      splits = rw e (ap (λ (os : List Order). record { kind = k; target = d; source = a; fourth = c } ∷ os) r.splits);
    }
