-- The whole numbers as a commutative ring, their order by way of gaps, and division with rest. Assumes nothing.
use mathlib.Core.Path.{◌≡◌, refl, sym, ap, ap₂, ◌∙◌, subst}
use mathlib.Core.Logic.{⊎_elim}
use mathlib.Core.Bool.{Bool, true, false, not}
use Prim.Native.Nat.{ℕ, zero, suc, ◌+◌, ◌-◌, ◌*◌, ◌/◌, ◌%◌, ◌^◌, ◌≤◌, ◌<◌}
use native.Mathlib.Nat.{mod-lt, div-add-mod'}
use native.Mathlib.Omega.{arith}
use lib.Dec.{T, lt→ltb, le→leb, leb→le}
use lib.IntN.{ℤ, pos, negsuc, sub_ℕ, suc_ℤ, pred_ℤ, neg_ℤ, ◌+ℤ◌, ◌-ℤ◌, ◌*ℤ◌, +ℤ_assoc, +ℤ_comm, +ℤ_idl, +ℤ_idr, +ℤ_invr, suc_ℤ-+ℤ, pred_ℤ-+ℤ}
use lib.IntN.{suc_ℤ-*ℤ, pred_ℤ-*ℤ, neg_ℤ-neg_ℤ, zero-*ℤ, *ℤ_comm, *ℤ-one, one}
use lib.Signed.{◌≤ℤ◌, ◌<ℤ◌, le_z_yes, lt_z_yes, lt_z_no, lt_z, clash_ℤ}
use Rattle.words.specs.Ring.{Ops, Ring}
use Rattle.words.specs.Signed.{floor, wrap}
use Rattle.words.proofs.Integers.{le_or_lt, sub_ge, sub_below, neg_pos}

-- ---- the ring

-- what holds of 0 and goes over to the next number up and down holds of all
pub steps : (P : ℤ → Type 0) → P (pos 0) → ((z : ℤ) → P z → P (suc_ℤ z)) → ((z : ℤ) → P z → P (pred_ℤ z)) → (z : ℤ) → P z
steps P o s p (pos zero) = o
steps P o s p (pos (suc n)) = s (pos n) (steps P o s p (pos n))
steps P o s p (negsuc zero) = p (pos 0) o
steps P o s p (negsuc (suc n)) = p (negsuc n) (steps P o s p (negsuc n))

swap : (a b c : ℤ) → a +ℤ b +ℤ c ≡ a +ℤ c +ℤ b
swap a b c = +ℤ_assoc a b c ∙ ap (λ (x : ℤ). a +ℤ x) (+ℤ_comm b c) ∙ sym (+ℤ_assoc a c b)

add-mul : (a b c : ℤ) → (a +ℤ b) *ℤ c ≡ a *ℤ c +ℤ b *ℤ c
add-mul a b c =
    steps (λ z. (z +ℤ b) *ℤ c ≡ z *ℤ c +ℤ b *ℤ c)
    (ap (λ (x : ℤ). x *ℤ c) (+ℤ_idl b) ∙ sym (ap (λ (x : ℤ). x +ℤ b *ℤ c) (zero-*ℤ c) ∙ +ℤ_idl (b *ℤ c)))
    (λ z h. ap (λ (x : ℤ). x *ℤ c) (suc_ℤ-+ℤ z b) ∙ suc_ℤ-*ℤ (z +ℤ b) c ∙ ap (λ (x : ℤ). x +ℤ c) h ∙ swap (z *ℤ c) (b *ℤ c) c
    ∙ ap (λ (x : ℤ). x +ℤ b *ℤ c) (sym (suc_ℤ-*ℤ z c)))
    (λ z h. ap (λ (x : ℤ). x *ℤ c) (pred_ℤ-+ℤ z b) ∙ pred_ℤ-*ℤ (z +ℤ b) c ∙ ap (λ (x : ℤ). x -ℤ c) h ∙ swap (z *ℤ c) (b *ℤ c) (neg_ℤ c)
    ∙ ap (λ (x : ℤ). x +ℤ b *ℤ c) (sym (pred_ℤ-*ℤ z c)))
    a

neg_mul : (a b : ℤ) → neg_ℤ a *ℤ b ≡ neg_ℤ (a *ℤ b)
neg_mul (pos zero) b = zero-*ℤ b ∙ ap neg_ℤ (sym (zero-*ℤ b))
neg_mul (pos (suc n)) (pos m) = refl
neg_mul (pos (suc n)) (negsuc m) = sym (neg_ℤ-neg_ℤ (pos (suc n * suc m)))
neg_mul (negsuc n) (pos m) = sym (neg_ℤ-neg_ℤ (pos (suc n * m)))
neg_mul (negsuc n) (negsuc m) = refl

mul_assoc : (a b c : ℤ) → a *ℤ b *ℤ c ≡ a *ℤ (b *ℤ c)
mul_assoc a b c =
    steps (λ z. z *ℤ b *ℤ c ≡ z *ℤ (b *ℤ c))
    (ap (λ (x : ℤ). x *ℤ c) (zero-*ℤ b) ∙ zero-*ℤ c ∙ sym (zero-*ℤ (b *ℤ c)))
    (λ z h. ap (λ (x : ℤ). x *ℤ c) (suc_ℤ-*ℤ z b) ∙ add-mul (z *ℤ b) b c ∙ ap (λ (x : ℤ). x +ℤ b *ℤ c) h ∙ sym (suc_ℤ-*ℤ z (b *ℤ c)))
    (λ z h. ap (λ (x : ℤ). x *ℤ c) (pred_ℤ-*ℤ z b) ∙ add-mul (z *ℤ b) (neg_ℤ b) c ∙ ap₂ ◌+ℤ◌ h (neg_mul b c) ∙ sym (pred_ℤ-*ℤ z (b *ℤ c)))
    a

abbrev pub integers : Ops ℤ
integers = record { add = ◌+ℤ◌; sub = ◌-ℤ◌; mul = ◌*ℤ◌; neg = neg_ℤ; nil = pos 0; one = pos 1 }

pub integer_ring : Ring integers
unfolding one
integer_ring = record {
  add_assoc = +ℤ_assoc;
  add_comm = +ℤ_comm;
  add_nil = +ℤ_idr;
  add_neg = +ℤ_invr;
  sub_is = λ a b. refl;
  mul_assoc = mul_assoc;
  mul_comm = *ℤ_comm;
  mul-one = *ℤ-one;
  mul-add = λ a b c. *ℤ_comm a (b +ℤ c) ∙ add-mul b c a ∙ ap₂ ◌+ℤ◌ (*ℤ_comm b a) (*ℤ_comm c a);
}

-- ---- differences of natural numbers

pub minus : (a b : ℕ) → pos a -ℤ pos b ≡ sub_ℕ a b
minus a zero = sym (sub_ge a 0 (omega arith) ∙ ap pos (omega arith))
minus a (suc b) = refl

-- what a number is above 0, and what it is below
abbrev pub up : ℤ → ℕ
up (pos n) = n
up (negsuc n) = 0

abbrev pub down : ℤ → ℕ
down (pos n) = 0
down (negsuc n) = suc n

pub up_down : (z : ℤ) → z ≡ sub_ℕ (up z) (down z)
up_down (pos n) = sym (sub_ge n 0 (omega arith) ∙ ap pos (omega arith))
up_down (negsuc n) = sym (sub_below 0 (suc n) (omega arith) ∙ ap negsuc (omega arith))

-- ---- the order

above : (a : ℤ) (n : ℕ) → a ≤ℤ (a +ℤ pos n)
above (pos a) n = le_z_yes (le→leb a (a + n) (omega arith))
above (negsuc a) n =
    ⊎_elim
    (λ (l : suc a ≤ n). rw (sub_ge n (suc a) l) (le_z_yes tt))
    (λ (l : n < suc a). rw (sub_below n (suc a) l) (le_z_yes (le→leb (suc a - suc n) a (omega arith))))
    (le_or_lt (suc a) n)

well_above : (a : ℤ) (n : ℕ) → 0 < n → a <ℤ (a +ℤ pos n)
well_above (pos a) n h = lt_z_yes (lt→ltb a (a + n) (omega arith))
well_above (negsuc a) n h =
    ⊎_elim
    (λ (l : suc a ≤ n). rw (sub_ge n (suc a) l) (lt_z_yes tt))
    (λ (l : n < suc a). rw (sub_below n (suc a) l) (lt_z_yes (lt→ltb (suc a - suc n) a (omega arith))))
    (le_or_lt (suc a) n)

-- b is n more than a
pub le_gap : {a b : ℤ} (n : ℕ) → b ≡ a +ℤ pos n → a ≤ℤ b
le_gap {a} {b} n e = rw e (above a n)

pub lt_gap : {a b : ℤ} (n : ℕ) → 0 < n → b ≡ a +ℤ pos n → a <ℤ b
lt_gap {a} {b} n h e = rw e (well_above a n h)

pub gap : (a b : ℤ) → a ≤ℤ b → (n : ℕ) × (b ≡ a +ℤ pos n)
gap (pos a) (pos b) h = let l : a ≤ b = leb→le a b h.le in (b - a, ap pos (omega arith))
gap (pos a) (negsuc b) h = absurd h.le
gap (negsuc a) (pos b) h = (suc a + b, sym (sub_ge (suc a + b) (suc a) (omega arith) ∙ ap pos (omega arith)))
gap (negsuc a) (negsuc b) h =
    let l : b ≤ a = leb→le b a h.le in
    (a - b, sym (sub_below (a - b) (suc a) (omega arith) ∙ ap negsuc (omega arith)))

-- a factor cancels
pub cancel_lt : (k : ℕ) (a b : ℤ) → (pos k *ℤ a) <ℤ (pos k *ℤ b) → a <ℤ b
cancel_lt k a b h = go (lt_z a b) refl
  where
    go : (t : Bool) → lt_z a b ≡ t → a <ℤ b
    go true e = lt_z_yes (subst T (sym e) tt)
    go false e =
        let g : (n : ℕ) × (a ≡ b +ℤ pos n) = gap b a (lt_z_no (subst (λ (t : Bool). T (not t)) (sym e) tt)) in
        clash_ℤ h (le_gap (k * g.0) (ap (λ (x : ℤ). pos k *ℤ x) g.1 ∙ integer_ring.mul-add (pos k) b (pos g.0)))

-- ---- division with rest

abbrev pub rest : ℤ → ℕ → ℕ
rest (pos n) m = n % m
rest (negsuc n) m = m - suc (n % m)

pub rest_lt : (z : ℤ) (m : ℕ) → 0 < m → rest z m < m
rest_lt (pos n) m h = mod-lt n h
rest_lt (negsuc n) m h = let l : n % m < m = mod-lt n h in omega arith

pub floor_rest : (z : ℤ) (m : ℕ) → 0 < m → z ≡ floor z m *ℤ pos m +ℤ pos (rest z m)
unfolding floor
floor_rest (pos n) m h = ap pos (sym (div-add-mod' n m))
floor_rest (negsuc n) m h =
    let l : n % m < m = mod-lt n h in
    let e : n / m * m + n % m ≡ n = div-add-mod' n m in
    sym
    (rw (neg_pos (suc (n / m) * m) (omega arith))
    (sub_below (m - suc (n % m)) (suc (suc (n / m) * m - 1)) (omega arith) ∙ ap negsuc (omega arith)))

-- the rest modulo 2^k is the word of k bits
pub rest_wrap : (z : ℤ) (k : ℕ) → rest z (2 ^ k) ≡ wrap k z
unfolding wrap
rest_wrap (pos n) k = refl
rest_wrap (negsuc n) k = refl
