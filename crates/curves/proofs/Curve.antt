-- Y and C of every table that keeps the rules, at every whole number x. Assumes nothing.
use mathlib.Core.Path.{◌≡◌, refl, sym, ap, ap₂, ◌∙◌}
use mathlib.Core.Bool.{Bool, true, false, cond}
use mathlib.Core.List.{List}
use mathlib.Core.Logic.{⊎_elim}
use Prim.Native.Nat.{ℕ, suc, ◌+◌, ◌-◌, ◌*◌, ◌%◌, ◌^◌, ◌≤◌, ◌<◌}
use native.Mathlib.Nat.{mul-le-mul, le_refl, mod-lt}
use native.Mathlib.Omega.{arith}
use borrow.Author.Tests.{leb-true}
use lib.Dec.{T, leb, lt→ltb, le→leb, leb→le, ltb→lt}
use lib.IntN.{ℤ, pos, negsuc, ◌+ℤ◌, ◌-ℤ◌, ◌*ℤ◌, +ℤ_idr}
use lib.Signed.{◌≤ℤ◌, ◌<ℤ◌, le_z_yes, lt_z_yes, mag}
use Rattle.words.specs.Signed.{floor, wrap}
use Rattle.truncations.specs.Truncation.{slip}
use Rattle.words.proofs.Solver.{◌⊕◌, ◌⊖◌, ◌⊗◌, ⊝, solve}
use Rattle.words.proofs.Integers.{le_or_lt, sub_ge}
use Rattle.tables.specs.Table.{rows, keeps_rules}
use Rattle.curves.specs.Curve.{scaled, Quotient, line, Near}
use Rattle.curves.proofs.Integers.{integers, integer_ring, minus, up, le_gap, lt_gap, cancel_lt, rest, rest_lt, rest_wrap}
use Rattle.curves.proofs.Integers.{floor_rest}
use Rattle.tables.proofs.Rows.{for_table}
use Rattle.curves.proofs.Scaled.{Loss, loss}

-- ---- where Y lies

-- an equation of whole numbers, as one of natural numbers
low : (n D N E : ℕ) → pos N ≡ negsuc n *ℤ pos D +ℤ pos E → N + suc n * D ≡ E
low n D N E e =
    ap up
    (ap (λ (z : ℤ). z +ℤ pos (suc n * D)) e
    ∙ solve integers integer_ring 2 (λ a b. (⊝ a ⊕ b ⊕ a, b)) refl (pos (suc n * D)) (pos E))

bounds : (C : Quotient) (Y : ℤ) → Loss C Y 4095 → (negsuc 4095 <ℤ Y) × (Y ≤ℤ pos (4096 * 20000))
bounds C (pos n) l =
    let e : 4096 * l.N ≡ n * C.denominator + l.E = ap up l.exact in
    let b : l.N ≤ 20000 * C.denominator = l.bounded in
    let p : 0 < C.denominator = l.positive in (
      lt_z_yes tt,
      le_z_yes (le→leb n 81920000
          (⊎_elim (λ (k : n ≤ 81920000). k) (λ (k : 81920000 < n). absurd (omega (arith, mul-le-mul k (le_refl C.denominator))))
          (le_or_lt n 81920000))),
    )
bounds C (negsuc n) l =
    let e : 4096 * l.N + suc n * C.denominator ≡ l.E = low n C.denominator (4096 * l.N) l.E l.exact in
    let b : l.E ≤ 4095 * C.denominator = l.small in
    let p : 0 < C.denominator = l.positive in (
      lt_z_yes (lt→ltb n 4095
          (⊎_elim (λ (k : 4095 ≤ n). absurd (omega (arith, mul-le-mul k (le_refl C.denominator)))) (λ (k : n < 4095). k)
          (le_or_lt 4095 n))),
      le_z_yes tt,
    )

-- ---- Y and 4096 C

module _ (C : Quotient) (Y : ℤ) (l : Loss C Y 4095) where
  at_most : (Y *ℤ pos C.denominator) ≤ℤ (pos 4096 *ℤ C.numerator)
  at_most = le_gap l.E (ap (λ (z : ℤ). pos 4096 *ℤ z) l.numerator ∙ l.exact)

  at_least : (pos 4096 *ℤ C.numerator -ℤ pos (4096 * C.denominator)) <ℤ (Y *ℤ pos C.denominator)
  at_least =
      let D : ℕ = C.denominator in
      let s : l.E ≤ 4095 * D = l.small in
      let p : 0 < D = l.positive in
      lt_gap (4096 * D - l.E) (omega arith)
      (sym
      (ap₂ (λ (y z : ℤ). y -ℤ pos (4096 * D) +ℤ z) (ap (λ (z : ℤ). pos 4096 *ℤ z) l.numerator ∙ l.exact)
      (sym (minus (4096 * D) l.E ∙ sub_ge (4096 * D) l.E (omega arith)))
      ∙ solve integers integer_ring 3 (λ y e m. (y ⊕ e ⊖ m ⊕ (m ⊖ e), y)) refl (Y *ℤ pos D) (pos l.E) (pos (4096 * D))))

  -- a v with Y - 4096 < 4096 v < Y + 4096
  module _ (v : ℤ) (i j : ℕ) (e : pos 4096 *ℤ v +ℤ pos i ≡ Y +ℤ pos j) where
    -- 4096 v against 4096 C, times the denominator
    against : pos 4096 *ℤ (v *ℤ pos C.denominator) ≡ pos (4096 * l.N) +ℤ (pos (j * C.denominator) -ℤ pos (i * C.denominator + l.E))
    against =
        let D : ℕ = C.denominator in
        solve integers integer_ring 4 (λ k v d i. (k ⊗ (v ⊗ d), (k ⊗ v ⊕ i) ⊗ d ⊖ i ⊗ d)) refl (pos 4096) v (pos D) (pos i)
        ∙ ap (λ (z : ℤ). z *ℤ pos D -ℤ pos (i * D)) e
        ∙ solve integers integer_ring 5 (λ y d i j e. ((y ⊕ j) ⊗ d ⊖ i ⊗ d, y ⊗ d ⊕ e ⊕ (j ⊗ d ⊖ (i ⊗ d ⊕ e)))) refl Y (pos D) (pos i)
        (pos j) (pos l.E)
        ∙ ap (λ (z : ℤ). z +ℤ (pos (j * D) -ℤ pos (i * D + l.E))) (sym l.exact)

    near : i < 4096 + j → j < 4096 + i → Near C v
    near hi hj =
        let D : ℕ = C.denominator in
        let a : ℕ = j * D in
        let b : ℕ = i * D + l.E in
        let s : l.E ≤ 4095 * D = l.small in
        let p : 0 < D = l.positive in
        let up_to : b < 4096 * (2 * D) + a = omega (arith, mul-le-mul hi (le_refl D)) in
        let down_to : a < 4096 * D + b = omega (arith, mul-le-mul hj (le_refl D)) in
        record {
          positive = p;
          above =
              rw l.numerator
              (cancel_lt 4096 (pos l.N -ℤ pos (2 * D)) (v *ℤ pos D)
              (lt_gap (4096 * (2 * D) + a - b) (omega arith)
              (against
              ∙ solve integers integer_ring 5 (λ k n m a b. (k ⊗ n ⊕ (a ⊖ b), k ⊗ (n ⊖ m) ⊕ (k ⊗ m ⊕ a ⊖ b))) refl (pos 4096) (pos l.N)
              (pos (2 * D)) (pos a) (pos b)
              ∙ ap (λ (z : ℤ). pos 4096 *ℤ (pos l.N -ℤ pos (2 * D)) +ℤ z)
              (minus (4096 * (2 * D) + a) b ∙ sub_ge (4096 * (2 * D) + a) b (omega arith)))));
          below =
              rw l.numerator
              (cancel_lt 4096 (v *ℤ pos D) (pos l.N +ℤ pos D)
              (lt_gap (4096 * D + b - a) (omega arith)
              (solve integers integer_ring 5 (λ k n d a b. (k ⊗ (n ⊕ d), k ⊗ n ⊕ (a ⊖ b) ⊕ (k ⊗ d ⊕ b ⊖ a))) refl (pos 4096) (pos l.N)
              (pos D) (pos a) (pos b)
              ∙ ap₂ ◌+ℤ◌ (sym against) (minus (4096 * D + b) a ∙ sub_ge (4096 * D + b) a (omega arith)))));
        }

-- floor(Y / 4096), or 1 more where Y is no multiple of 4096
floor_near : (C : Quotient) (Y : ℤ) → Loss C Y 4095 → Near C (floor Y 4096)
floor_near C Y l =
    near C Y l (floor Y 4096) (rest Y 4096) 0
    (solve integers integer_ring 3 (λ f k m. (k ⊗ f ⊕ m, f ⊗ k ⊕ m)) refl (floor Y 4096) (pos 4096) (pos (rest Y 4096))
    ∙ sym (floor_rest Y 4096 (omega arith)) ∙ sym (+ℤ_idr Y))
    (omega (arith, rest_lt Y 4096 (omega arith))) (omega arith)

next_near : (C : Quotient) (Y : ℤ) → Loss C Y 4095 → 0 < rest Y 4096 → Near C (floor Y 4096 +ℤ pos 1)
next_near C Y l h =
    near C Y l (floor Y 4096 +ℤ pos 1) (rest Y 4096) 4096
    (solve integers integer_ring 4 (λ f k m o. (k ⊗ (f ⊕ o) ⊕ m, f ⊗ k ⊕ m ⊕ k ⊗ o)) refl (floor Y 4096) (pos 4096) (pos (rest Y 4096))
    (pos 1)
    ∙ ap (λ (z : ℤ). z +ℤ pos 4096) (sym (floor_rest Y 4096 (omega arith))))
    (omega (arith, rest_lt Y 4096 (omega arith))) (omega arith)

-- ---- the laws, for every table that keeps the rules

module _ (ws : List ℕ) (keeps : T (keeps_rules ws)) (x : ℤ) where
  loss_of : Loss (line (rows ws) x) (scaled (rows ws) x) 4095
  loss_of = for_table (λ ps. Loss (line ps x) (scaled ps x) 4095) (λ p ps h. loss p ps h x) ws keeps

  -- Y lies above -4096 and at 4096 × 20000 at most
  pub scaled_above : negsuc 4095 <ℤ scaled (rows ws) x
  scaled_above = (bounds (line (rows ws) x) (scaled (rows ws) x) loss_of).0

  pub scaled_below : scaled (rows ws) x ≤ℤ pos (4096 * 20000)
  scaled_below = (bounds (line (rows ws) x) (scaled (rows ws) x) loss_of).1

  pub scaled_mag : mag (scaled (rows ws) x) < 2 ^ 27
  scaled_mag = go (scaled (rows ws) x) scaled_above scaled_below
    where
      go : (Y : ℤ) → negsuc 4095 <ℤ Y → Y ≤ℤ pos (4096 * 20000) → mag Y < 2 ^ 27
      go (pos n) a b = omega (arith, leb→le n (4096 * 20000) b.le)
      go (negsuc n) a b = omega (arith, ltb→lt n 4095 a.lt)

  -- with C = numerator / denominator: 4096 C - 4096 < Y ≤ 4096 C
  pub line_positive : 0 < (line (rows ws) x).denominator
  line_positive = loss_of.positive

  pub scaled_at_most : (scaled (rows ws) x *ℤ pos (line (rows ws) x).denominator) ≤ℤ (pos 4096 *ℤ (line (rows ws) x).numerator)
  scaled_at_most = at_most (line (rows ws) x) (scaled (rows ws) x) loss_of

  pub scaled_at_least : (pos 4096 *ℤ (line (rows ws) x).numerator -ℤ pos (4096 * (line (rows ws) x).denominator)) <ℤ
      (scaled (rows ws) x *ℤ pos (line (rows ws) x).denominator)
  scaled_at_least = at_least (line (rows ws) x) (scaled (rows ws) x) loss_of

  -- floor(Y / 4096), and 1 more where Y mod 4096 is not 0, lie above C - 2 and below C + 1
  pub exact_near : Near (line (rows ws) x) (floor (scaled (rows ws) x) 4096)
  exact_near = floor_near (line (rows ws) x) (scaled (rows ws) x) loss_of

  pub one_more_near : 0 < wrap 12 (scaled (rows ws) x) → Near (line (rows ws) x) (floor (scaled (rows ws) x) 4096 +ℤ pos 1)
  one_more_near h = next_near (line (rows ws) x) (scaled (rows ws) x) loss_of (rw (rest_wrap (scaled (rows ws) x) 12) h)

  -- so does what one-bit mode opens, whatever the mask L
  pub one_bit_near : (L : ℕ) → Near (line (rows ws) x) (floor (scaled (rows ws) x) 4096 +ℤ pos (slip 12 (wrap 12 (scaled (rows ws) x)) L))
  unfolding slip
  one_bit_near L = go (leb 4096 (y % 4096 + L % 4096)) refl
    where
      y : ℕ
      y = wrap 12 (scaled (rows ws) x)

      go : (b : Bool) → leb 4096 (y % 4096 + L % 4096) ≡ b → Near (line (rows ws) x) (floor (scaled (rows ws) x) 4096 +ℤ pos (cond b 1 0))
      go true e =
          let a : 4096 ≤ y % 4096 + L % 4096 = leb-true 4096 (y % 4096 + L % 4096) e in
          let m : L % 4096 < 4096 = mod-lt L (omega arith) in
          one_more_near (omega arith)
      go false e = rw (+ℤ_idr (floor (scaled (rows ws) x) 4096)) exact_near
