-- Laws of whole numbers: differences of natural numbers, and the floor of a quotient. Assumes nothing.
use Rattle.std.proofs.Common.{◌≡◌, ℕ, zero, suc, ◌+◌, ◌-◌, ◌*◌, ◌/◌, ◌%◌, ◌<◌, ◌≤◌, ◌⊎◌, ℤ, pos, negsuc, ◌+ℤ◌, ◌*ℤ◌, neg_ℤ, ◌≤ℤ◌, ◌<ℤ◌, sym, ap, ◌∙◌, ap₂, inl, inr, ⊎_elim, mod-lt, div-lt_iff_lt-mul, div-add-mod', le-div_iff_mul-le, div-mul-le_self, arith, le→leb, lt→ltb, le-ltb, lt-ltb}
use native.Mathlib.Nat.{add-mul-div_right}
use native.Mathlib.Decide.{dec_lt}
use lib.Arith.{digits_div}
use lib.IntN.{sub_ℕ, suc_ℤ}
use lib.Signed.{le_z_yes, lt_z_yes}
use Rattle.words.specs.Signed.{floor}

pub le_or_lt : (a b : ℕ) → (a ≤ b) ⊎ (b < a)
le_or_lt a b = elim (dec_lt b a) [ yes h ↦ inr h | no f ↦ inl (omega arith) ]

pub sub_ge : (a b : ℕ) → b ≤ a → sub_ℕ a b ≡ pos (a - b)
sub_ge a b h = rw (le-ltb a b h)

pub sub_below : (a b : ℕ) → a < b → sub_ℕ a b ≡ negsuc (b - suc a)
sub_below a b h = rw (lt-ltb a b h)

above : (n m : ℕ) → 0 < m → n < suc (n / m) * m
above n m h = let r : n % m < m = mod-lt n h in omega (arith, div-add-mod' n m)

pub neg_pos : (n : ℕ) → 0 < n → neg_ℤ (pos n) ≡ negsuc (n - 1)
neg_pos zero h = absurd (omega arith)
neg_pos (suc n) h = ap negsuc (omega arith)

next : (n m q : ℕ) → 0 < m → q * m ≤ n → negsuc n <ℤ (suc_ℤ (negsuc q) *ℤ pos m)
next n m zero h l = lt_z_yes tt
next n m (suc q) h l = rw (neg_pos (suc q * m) (omega arith)) (lt_z_yes (lt→ltb (suc q * m - 1) n (omega arith)))

-- floor(z / m) is the q with q m ≤ z < (q + 1) m
pub floor_law : (z : ℤ) (m : ℕ) → 0 < m → ((floor z m *ℤ pos m) ≤ℤ z) × (z <ℤ (suc_ℤ (floor z m) *ℤ pos m))
unfolding floor
floor_law (pos n) m h =
    (le_z_yes (le→leb (n / m * m) n (div-mul-le_self n m)), lt_z_yes (lt→ltb n (suc (n / m) * m) (above n m h)))
floor_law (negsuc n) m h = (
  let l : n < suc (n / m) * m = above n m h in
      rw (neg_pos (suc (n / m) * m) (omega arith)) (le_z_yes (le→leb n (suc (n / m) * m - 1) (omega arith))),
  next n m (n / m) h (div-mul-le_self n m),
)

-- floor((y - c m) / m) = floor(y / m) - c
pub floor_sub : (y c m : ℕ) → 0 < m → floor (sub_ℕ y (c * m)) m ≡ sub_ℕ (y / m) c
unfolding floor
floor_sub y c m h =
    ⊎_elim
    (λ (l : c * m ≤ y).
    rw (sub_ge y (c * m) l, sub_ge (y / m) c ((le-div_iff_mul-le h).1 l))
    (ap pos (high l)))
    (λ (l : y < c * m).
    rw (sub_below y (c * m) l, sub_below (y / m) c ((div-lt_iff_lt-mul h).1 l))
    (ap negsuc (low l)))
    (le_or_lt (c * m) y)
  where
    high : c * m ≤ y → (y - c * m) / m ≡ y / m - c
    high l =
        let e : y - c * m + c * m ≡ y = omega arith in
        let d : y / m ≡ (y - c * m) / m + c = ap (λ (x : ℕ). x / m) (sym e) ∙ add-mul-div_right (y - c * m) c h in
        omega arith

    low : y < c * m → (c * m - suc y) / m ≡ c - suc (y / m)
    low l =
        let q : suc (y / m) ≤ c = (div-lt_iff_lt-mul h).1 l in
        let e : c ≡ c - suc (y / m) + suc (y / m) = omega arith in
        let r : y % m < m = mod-lt y h in
        let d : c * m - suc y ≡ (c - suc (y / m)) * m + (m - suc (y % m)) = omega (arith, ap (λ (x : ℕ). x * m) e, div-add-mod' y m) in
        rw d (digits_div (c - suc (y / m)) (omega arith))

-- equal differences: a - b = c - d
pub sub_same : (a b c d : ℕ) → a + d ≡ c + b → sub_ℕ a b ≡ sub_ℕ c d
sub_same a b c d e =
    ⊎_elim
    (λ (l : b ≤ a). sub_ge a b l ∙ ap pos (omega arith) ∙ sym (sub_ge c d (omega arith)))
    (λ (l : a < b). sub_below a b l ∙ ap negsuc (omega arith) ∙ sym (sub_below c d (omega arith)))
    (le_or_lt b a)

-- (a - b) + (c - d) = (a + c) - (b + d)
pub sub_add : (a b c d : ℕ) → sub_ℕ a b +ℤ sub_ℕ c d ≡ sub_ℕ (a + c) (b + d)
sub_add a b c d =
    ⊎_elim
    (λ (l : b ≤ a).
    ⊎_elim
    (λ (k : d ≤ c). ap₂ ◌+ℤ◌ (sub_ge a b l) (sub_ge c d k) ∙ ap pos (omega arith) ∙ sym (sub_ge (a + c) (b + d) (omega arith)))
    (λ (k : c < d). ap₂ ◌+ℤ◌ (sub_ge a b l) (sub_below c d k) ∙ sub_same (a - b) (suc (d - suc c)) (a + c) (b + d) (omega arith))
    (le_or_lt d c))
    (λ (l : a < b).
    ⊎_elim
    (λ (k : d ≤ c). ap₂ ◌+ℤ◌ (sub_below a b l) (sub_ge c d k) ∙ sub_same (c - d) (suc (b - suc a)) (a + c) (b + d) (omega arith))
    (λ (k : c < d). ap₂ ◌+ℤ◌ (sub_below a b l) (sub_below c d k) ∙ ap negsuc (omega arith) ∙ sym (sub_below (a + c) (b + d) (omega arith)))
    (le_or_lt d c))
    (le_or_lt b a)
