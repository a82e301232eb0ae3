-- The number of a job is exactly that of its first fault. Assumes nothing.
use mathlib.Core.Path.{◌≡◌, refl, sym, ap, ap₂, subst}
use mathlib.Core.Bool.{Bool, true, false, cond}
use mathlib.Core.List.{List, [], ◌∷◌}
use mathlib.Core.Logic.{◌↔◌, ◌⊎◌, inl, inr, ⊎_elim}
use Prim.Native.Nat.{ℕ, zero, suc, ◌+◌, ◌≤◌, ◌<◌}
use native.Mathlib.Omega.{arith}
use lib.Dec.{T}
use lib.ListN.{length}
use Rattle.tables.specs.Table.{keeps_rules}
use Rattle.programs.specs.declared.Order.{Order}
use Rattle.jobs.specs.declared.Which.{Which}
use Rattle.jobs.specs.Job.{Fault, orders, ill_sized, unknown_kind, unknown_register, ill_fourth, order_fault, fault_at, orders_fault}
use Rattle.jobs.specs.Job.{job_fault, job_cost}
use Rattle.jobs.specs.Answers.{need, short, or_short, leftover_number, leftover_part}
use Rattle.jobs.specs.FirstFault.{IllSized, Meets, order, Faultless, First, Numbered, faultless, sizeless, faulty}
use Rattle.jobs.proofs.Plainly.{size_plainly, of_orders, kind_plainly, register_plainly, fourth_plainly, short_plainly}

-- ---- one order: its number is the lowest condition that it meets

-- nothing is met, or n is and nothing lower
abbrev Lowest : (ℕ → Type 0) → ℕ → Type 0
Lowest Met n = ((n ≡ 0) × ((m : ℕ) → Met m → ⊥)) ⊎ ((n ≡ 0 → ⊥) × Met n × ((m : ℕ) → m < n → Met m → ⊥))

-- where 3, 4 and 5 alone can be met, and a test says of each whether it is
module _ (Met : ℕ → Type 0) (alone : (m : ℕ) → Met m → (m ≡ 3) ⊎ (m ≡ 4) ⊎ (m ≡ 5)) where
  -- m is none of them but those that are not met
  ruled_out : (m : ℕ) → (m ≡ 3 → Met 3 → ⊥) → (m ≡ 4 → Met 4 → ⊥) → (m ≡ 5 → Met 5 → ⊥) → Met m → ⊥
  ruled_out m a b c x = ⊎_elim (λ e. a e (subst Met e x)) (⊎_elim (λ e. b e (subst Met e x)) (λ e. c e (subst Met e x))) (alone m x)

  lowest_of : (a b c : Bool) → T a ↔ Met 3 → T b ↔ Met 4 → T c ↔ Met 5 → Lowest Met (cond a 3 (cond b 4 (cond c 5 0)))
  lowest_of true b c p q r =
      inr (
        λ z. omega arith,
        p.0 tt,
        λ m h. ruled_out m (λ e. absurd (omega arith)) (λ e. absurd (omega arith)) (λ e. absurd (omega arith)),
      )
  lowest_of false true c p q r =
      inr (λ z. omega arith, q.0 tt, λ m h. ruled_out m (λ e. p.1) (λ e. absurd (omega arith)) (λ e. absurd (omega arith)))
  lowest_of false false true p q r = inr (λ z. omega arith, r.0 tt, λ m h. ruled_out m (λ e. p.1) (λ e. q.1) (λ e. absurd (omega arith)))
  lowest_of false false false p q r = inl (refl, λ m. ruled_out m (λ e. p.1) (λ e. q.1) (λ e. r.1))

-- ---- the orders: the walk finds no fault, or the first

module _ (w : ℕ) (table : List ℕ) where
  lowest : (o : Order) → Lowest (Meets w table o) (order_fault w (keeps_rules table) o)
  unfolding order_fault
  lowest o =
      lowest_of (Meets w table o) (λ m. of_orders w table o) (unknown_kind o) (unknown_register o) (ill_fourth w (keeps_rules table) o)
      (kind_plainly w table o) (register_plainly w table o) (fourth_plainly w table o)

  -- what the walk finds, with b orders before the list
  abbrev Found : List Order → (b : ℕ) → Fault → Type 0
  Found os b f = ((f ≡ (0, 0)) × Faultless w table os) ⊎ ((i : ℕ) × (f.1 ≡ b + i) × First w table os f.0 i)

  module _ (o : Order) (os : List Order) (b : ℕ) where
    -- behind an order that meets nothing
    behind : (f : Fault) → ((m : ℕ) → Meets w table o m → ⊥) → Found os (suc b) f → Found (o ∷ os) b f
    behind f none (inl (e, fine)) = inl (e, each)
      where
        each : Faultless w table (o ∷ os)
        each zero n h = none n
        each (suc i) n h = fine i n (omega arith)
    behind f none (inr (i, e, first)) =
        inr (
          suc i,
          omega arith,
          record {
            exists = omega (arith, first.exists);
            here = first.here;
            no_lower = first.no_lower;
            none_before = before;
          },
        )
      where
        before : (j m : ℕ) → j < suc i → Meets w table (order (o ∷ os) j) m → ⊥
        before zero m h = none m
        before (suc j) m h = first.none_before j m (omega arith)

    at_order : (n : ℕ) → Lowest (Meets w table o) n → (later : Fault) → Found os (suc b) later → Found (o ∷ os) b (fault_at n b later)
    unfolding fault_at
    at_order zero (inl (e, none)) later r = behind later none r
    at_order zero (inr (z, here, lower)) later r = absurd (z refl)
    at_order (suc n) (inl (e, none)) later r = absurd (omega arith)
    at_order (suc n) (inr (z, here, lower)) later r =
        inr (0, omega arith, record { exists = omega arith; here = here; no_lower = lower; none_before = λ j m h. absurd (omega arith) })

  found : (os : List Order) (b : ℕ) → Found os b (orders_fault w (keeps_rules table) os b)
  unfolding orders_fault
  found [] b = inl (refl, λ i n h. absurd (omega arith))
  found (o ∷ os) b =
      at_order o os b (order_fault w (keeps_rules table) o) (lowest o) (orders_fault w (keeps_rules table) os (suc b)) (found os (suc b))

-- ---- a job has its number

numbered : (w : ℕ) (job table : List ℕ) → Numbered w job table (job_fault w job table).0 (job_fault w job table).1
unfolding job_fault
numbered w job table = go (ill_sized job) (size_plainly job)
  where
    walked : (IllSized job → ⊥) → (f : Fault) → Found w table (orders job) 0 f → Numbered w job table f.0 f.1
    walked s f (inl (e, fine)) = subst (λ (p : Fault). Numbered w job table p.0 p.1) (sym e) (faultless s fine)
    walked s f (inr (i, e, first)) = let q : i ≡ f.1 = omega arith in subst (λ (k : ℕ). Numbered w job table f.0 k) q (faulty s first)

    go : (b : Bool) → T b ↔ IllSized job
        → Numbered w job table (cond b (2, 0) (orders_fault w (keeps_rules table) (orders job) 0)).0
        (cond b (2, 0) (orders_fault w (keeps_rules table) (orders job) 0)).1
    go true p = sizeless (p.0 tt)
    go false p = walked p.1 (orders_fault w (keeps_rules table) (orders job) 0) (found w table (orders job) 0)

-- ---- and no other

apart : (n m : ℕ) → (n ≡ m) ⊎ ((n < m) ⊎ (m < n))
apart zero zero = inl refl
apart zero (suc m) = inr (inl (omega arith))
apart (suc n) zero = inr (inr (omega arith))
apart (suc n) (suc m) = ⊎_elim (λ e. inl (ap suc e)) (λ d. inr (⊎_elim (λ l. inl (omega arith)) (λ l. inr (omega arith)) d)) (apart n m)

equal : (n m : ℕ) → (n < m → ⊥) → (m < n → ⊥) → n ≡ m
equal n m p q = ⊎_elim (λ e. e) (⊎_elim (λ l. absurd (p l)) (λ l. absurd (q l))) (apart n m)

module _ (w : ℕ) (table : List ℕ) (os : List Order) where
  -- an order's conditions are 3, 4 and 5
  unmet : {n i : ℕ} → First w table os n i → n < 3 → ⊥
  unmet {n} {i} p h = ⊎_elim (λ e. omega arith) (⊎_elim (λ e. omega arith) (λ e. omega arith)) (of_orders w table (order os i) p.here)

  bounded : {n i : ℕ} → First w table os n i → n ≤ 5
  bounded {n} {i} p = ⊎_elim (λ e. omega arith) (⊎_elim (λ e. omega arith) (λ e. omega arith)) (of_orders w table (order os i) p.here)

  not_before : {n i m j : ℕ} → First w table os n i → First w table os m j → i < j → ⊥
  not_before {n} {i} p q h = q.none_before i n h p.here

  not_lower : {n m i : ℕ} → First w table os n i → First w table os m i → n < m → ⊥
  not_lower {n} p q h = q.no_lower n h p.here

  one_first : {n i m j : ℕ} → First w table os n i → First w table os m j → (n ≡ m) × (i ≡ j)
  one_first {n} {i} {m} {j} p q =
      let e : i ≡ j = equal i j (not_before p q) (not_before q p) in
      let r : First w table os m i = subst (λ (k : ℕ). First w table os m k) (sym e) q in
      (equal n m (not_lower p r) (not_lower r p), e)

  not_faultless : {n i : ℕ} → First w table os n i → Faultless w table os → ⊥
  not_faultless {n} {i} p none = none i n p.exists p.here

module _ {w : ℕ} {job table : List ℕ} where
  one_number : {n i m j : ℕ} → Numbered w job table n i → Numbered w job table m j → (n ≡ m) × (i ≡ j)
  one_number (faultless s f) (faultless t g) = (refl, refl)
  one_number (faultless s f) (sizeless t) = absurd (s t)
  one_number (faultless s f) (faulty t q) = absurd (not_faultless w table (orders job) q f)
  one_number (sizeless s) (faultless t g) = absurd (t s)
  one_number (sizeless s) (sizeless t) = (refl, refl)
  one_number (sizeless s) (faulty t q) = absurd (t s)
  one_number (faulty s p) (faultless t g) = absurd (not_faultless w table (orders job) p g)
  one_number (faulty s p) (sizeless t) = absurd (s t)
  one_number (faulty s p) (faulty t q) = one_first w table (orders job) p q

-- ---- the theorem: checking a job gives number n and index i exactly where they are its own

module _ (w : ℕ) (job table : List ℕ) where
  pub job_number : (n i : ℕ) → (job_fault w job table ≡ (n, i)) ↔ Numbered w job table n i
  job_number n i =
      (tells, λ q. ap₂ {C = Fault} (λ a b. (a, b)) (one_number (numbered w job table) q).0 (one_number (numbered w job table) q).1)
    where
      tells : job_fault w job table ≡ (n, i) → Numbered w job table n i
      tells e = subst (λ (p : Fault). Numbered w job table p.0 p.1) e (numbered w job table)

  -- number by number
  pub number_0 : ((job_fault w job table).0 ≡ 0) ↔ ((IllSized job → ⊥) × Faultless w table (orders job))
  number_0 = (tells (numbered w job table), λ h. (one_number (numbered w job table) (faultless h.0 h.1)).0)
    where
      tells : {n i : ℕ} → Numbered w job table n i → n ≡ 0 → (IllSized job → ⊥) × Faultless w table (orders job)
      tells (faultless s f) e = (s, f)
      tells (sizeless s) e = absurd (omega arith)
      tells (faulty s p) e = absurd (unmet w table (orders job) p (omega arith))

  pub number_2 : ((job_fault w job table).0 ≡ 2) ↔ IllSized job
  number_2 = (tells (numbered w job table), λ s. (one_number (numbered w job table) (sizeless s)).0)
    where
      tells : {n i : ℕ} → Numbered w job table n i → n ≡ 2 → IllSized job
      tells (faultless s f) e = absurd (omega arith)
      tells (sizeless s) e = s
      tells (faulty s p) e = absurd (unmet w table (orders job) p (omega arith))

  pub number_3_to_5 : (n i : ℕ) → 3 ≤ n → (job_fault w job table ≡ (n, i)) ↔ ((IllSized job → ⊥) × First w table (orders job) n i)
  number_3_to_5 n i h = (λ e. tells ((job_number n i).0 e) h, λ p. (job_number n i).1 (faulty p.0 p.1))
    where
      tells : {m j : ℕ} → Numbered w job table m j → 3 ≤ m → (IllSized job → ⊥) × First w table (orders job) m j
      tells (faultless s f) k = absurd (omega arith)
      tells (sizeless s) k = absurd (omega arith)
      tells (faulty s p) k = (s, p)

  at_most_5 : (job_fault w job table).0 ≤ 5
  at_most_5 = tells (numbered w job table)
    where
      tells : {n i : ℕ} → Numbered w job table n i → n ≤ 5
      tells (faultless s f) = omega arith
      tells (sizeless s) = omega arith
      tells (faulty s p) = bounded w table (orders job) p

  -- ---- unused masks: the job's own number, or 6 where it has none and the one list is short

  module _ (x : Which) (l : List ℕ) where
    pub unused_2_to_5 : (n : ℕ) → 1 ≤ n → n ≤ 5 → (leftover_number w job table x l ≡ n) ↔ ((job_fault w job table).0 ≡ n)
    unfolding leftover_number or_short
    unused_2_to_5 n h k = go (job_fault w job table).0 (short x (job_cost w job table) l)
      where
        go : (p : ℕ) (b : Bool) → (or_short p b ≡ n) ↔ (p ≡ n)
        go zero true = (λ e. absurd (omega arith), λ e. absurd (omega arith))
        go zero false = (λ e. e, λ e. e)
        go (suc p) b = (λ e. e, λ e. e)

    pub unused_6 : (leftover_number w job table x l ≡ 6) ↔ (((job_fault w job table).0 ≡ 0) × (length l < need x (job_cost w job table)))
    unfolding leftover_number or_short
    unused_6 = go (job_fault w job table).0 at_most_5 (short x (job_cost w job table) l) (short_plainly x (job_cost w job table) l)
      where
        go : (p : ℕ) → p ≤ 5 → (b : Bool) → T b ↔ (length l < need x (job_cost w job table))
            → (or_short p b ≡ 6) ↔ ((p ≡ 0) × (length l < need x (job_cost w job table)))
        go zero h true t = (λ e. (refl, t.0 tt), λ q. refl)
        go zero h false t = (λ e. absurd (omega arith), λ q. absurd (t.1 q.1))
        go (suc p) h b t = (λ e. absurd (omega arith), λ q. absurd (omega arith))

    pub unused_0 : (leftover_number w job table x l ≡ 0) ↔ (((job_fault w job table).0 ≡ 0) × (need x (job_cost w job table) ≤ length l))
    unfolding leftover_number or_short
    unused_0 = go (job_fault w job table).0 (short x (job_cost w job table) l) (short_plainly x (job_cost w job table) l)
      where
        go : (p : ℕ) (b : Bool) → T b ↔ (length l < need x (job_cost w job table))
            → (or_short p b ≡ 0) ↔ ((p ≡ 0) × (need x (job_cost w job table) ≤ length l))
        go zero true t = (λ e. absurd (omega arith), λ q. let h = t.0 tt in absurd (omega arith))
        go zero false t = (λ e. (refl, let h = t.1 in omega arith), λ q. refl)
        go (suc p) b t = (λ e. absurd (omega arith), λ q. absurd (omega arith))

    -- "the whole list if refused"
    pub whole_list : (leftover_number w job table x l ≡ 0 → ⊥) → leftover_part (leftover_number w job table x l) w job table x l ≡ l
    unfolding leftover_part
    whole_list = go (leftover_number w job table x l)
      where
        go : (n : ℕ) → (n ≡ 0 → ⊥) → leftover_part n w job table x l ≡ l
        go zero h = absurd (h refl)
        go (suc n) h = refl
