-- Y on the rows of a table: where it lies, how far below 4096 C, and that it stays the same from the last row on. Assumes nothing.
use mathlib.Core.Path.{◌≡◌, refl, sym, ap, ap₂, ◌∙◌}
use mathlib.Core.List.{List, [], ◌∷◌}
use mathlib.Core.Logic.{⊎_elim}
use Prim.Native.Nat.{ℕ, zero, suc, ◌+◌, ◌-◌, ◌*◌, ◌≤◌, ◌<◌}
use native.Mathlib.Nat.{mul-le-mul, le_refl}
use native.Mathlib.Omega.{arith}
use borrow.Author.Tests.{lt-ltb, le-ltb, le-leb, lt-leb}
use lib.Dec.{T}
use lib.IntN.{ℤ, pos, negsuc, sub_ℕ, ◌+ℤ◌, ◌-ℤ◌, ◌*ℤ◌, +ℤ_idr, *ℤ-zero}
use Rattle.words.proofs.Solver.{◌⊕◌, ◌⊖◌, ◌⊗◌, solve}
use Rattle.words.proofs.Integers.{le_or_lt, sub_ge, sub_below}
use Rattle.tables.specs.Table.{Row, rows, keeps_rules, slope}
use Rattle.curves.specs.Curve.{relu, segments, scaled, Quotient, whole, between, line_from, line, last_count}
use Rattle.curves.proofs.Integers.{integers, integer_ring, minus, up, rest, rest_lt, floor_rest}
use Rattle.tables.proofs.Rows.{Fits, Rising, head_fits, for_table}

-- ---- ReLU: x - r cut at 0, and so nothing of x counts below 0

pub relu_minus : (x : ℤ) (r : ℕ) → relu (x -ℤ pos r) ≡ pos (up x - r)
unfolding relu
relu_minus (pos n) r =
    ⊎_elim
    (λ (l : r ≤ n). rw (minus n r, sub_ge n r l))
    (λ (l : n < r). rw (minus n r, sub_below n r l) (ap pos (omega arith)))
    (le_or_lt r n)
relu_minus (negsuc n) zero = rw (sub_below 0 (suc n) (omega arith))
relu_minus (negsuc n) (suc r) = ap pos (omega arith)

pub segments_up : (ps : List Row) (x : ℤ) → segments ps x ≡ segments ps (pos (up x))
unfolding segments
segments_up [] x = refl
segments_up (p ∷ []) x = refl
segments_up (p ∷ q ∷ ps) x = simp (relu_minus x, relu_minus (pos (up x)), segments_up (q ∷ ps) x)

-- ---- one segment

-- what a slope loses over its whole segment
abbrev lost : Row → Row → ℕ
lost p q = rest (sub_ℕ (q.c * 4096) (p.c * 4096)) (q.r - p.r)

slope_rest : (p q : Row) → p.r < q.r
    → (lost p q < q.r - p.r) × (sub_ℕ (q.c * 4096) (p.c * 4096) ≡ slope p q *ℤ pos (q.r - p.r) +ℤ pos (lost p q))
unfolding slope
slope_rest p q h =
    let d : 0 < q.r - p.r = omega arith in (
      rest_lt (sub_ℕ (q.c * 4096) (p.c * 4096)) (q.r - p.r) d,
      rw (lt-ltb p.r q.r h) (floor_rest (sub_ℕ (q.c * 4096) (p.c * 4096)) (q.r - p.r) d),
    )

-- the segment's part of Y, and the rows after it
segment : (p q : Row) (ps : List Row) → p.r < q.r → (n : ℕ)
    → segments (p ∷ q ∷ ps) (pos n) ≡ slope p q *ℤ pos (n - p.r - (n - q.r)) +ℤ segments (q ∷ ps) (pos n)
unfolding segments
segment p q ps h n =
    simp (relu_minus (pos n))
    (ap (λ (z : ℤ). slope p q *ℤ z +ℤ segments (q ∷ ps) (pos n)) (minus (n - p.r) (n - q.r) ∙ sub_ge (n - p.r) (n - q.r) (omega arith)))

-- nothing up to the first row
pub flat : (p : Row) (ps : List Row) → Rising p ps → (n : ℕ) → n ≤ p.r → segments (p ∷ ps) (pos n) ≡ pos 0
unfolding segments
flat p [] h n l = refl
flat p (q ∷ ps) h n l =
    let e : n - p.r - (n - q.r) ≡ 0 = omega arith in
    segment p q ps h.1 n ∙ rw (e, *ℤ-zero, flat q ps h.2 n (omega arith))

pub last_above : (p : Row) (ps : List Row) → Rising p ps → p.r ≤ last_count (p ∷ ps)
unfolding last_count
last_above p [] h = le_refl p.r
last_above p (q ∷ ps) h = omega (arith, last_above q ps h.2)

pub last_fits : (p : Row) (ps : List Row) → Rising p ps → last_count (p ∷ ps) ≤ 4095
unfolding last_count
last_fits p [] h = h.0
last_fits p (q ∷ ps) h = last_fits q ps h.2

pub last_at_most : (ws : List ℕ) → T (keeps_rules ws) → last_count (rows ws) ≤ 4095
last_at_most = for_table (λ ps. last_count ps ≤ 4095) last_fits

-- ---- how far Y lies below 4096 C

-- C is N / denominator, within 0 to 20000; and 4096 C - Y is E / denominator, at most `most`
pub record Loss (C : Quotient) (Y : ℤ) (most : ℕ) : Type 0 where
  pub N : ℕ
  pub E : ℕ
  pub numerator : C.numerator ≡ pos N
  pub positive : 0 < C.denominator
  pub bounded : N ≤ 20000 * C.denominator
  pub exact : pos (4096 * N) ≡ Y *ℤ pos C.denominator +ℤ pos E
  pub small : E ≤ most * C.denominator

-- between two rows, u before the second and t after the first, and the slope s with its rest e
module _ (c q u t : ℕ) where
  weighted : pos (c * (u + t)) +ℤ sub_ℕ q c *ℤ pos t ≡ pos (c * u + q * t)
  weighted =
      ap (λ (z : ℤ). pos (c * (u + t)) +ℤ z *ℤ pos t) (sym (minus q c))
      ∙ solve integers integer_ring 4 (λ c q u t. (c ⊗ (u ⊕ t) ⊕ (q ⊖ c) ⊗ t, c ⊗ u ⊕ q ⊗ t)) refl (pos c) (pos q) (pos u) (pos t)

  inside : (s : ℤ) (e : ℕ) → sub_ℕ (q * 4096) (c * 4096) ≡ s *ℤ pos (u + t) +ℤ pos e
      → pos (4096 * (c * u + q * t)) ≡ (pos (4096 * c) +ℤ s *ℤ pos t) *ℤ pos (u + t) +ℤ pos (e * t)
  inside s e f =
      solve integers integer_ring 5 (λ k c q u t. (k ⊗ (c ⊗ u ⊕ q ⊗ t), k ⊗ c ⊗ (u ⊕ t) ⊕ (q ⊗ k ⊖ c ⊗ k) ⊗ t)) refl (pos 4096) (pos c)
      (pos q) (pos u) (pos t)
      ∙ ap (λ (z : ℤ). pos (4096 * c * (u + t)) +ℤ z *ℤ pos t) (minus (q * 4096) (c * 4096) ∙ f)
      ∙ solve integers integer_ring 5 (λ y s d e t. (y ⊗ d ⊕ (s ⊗ d ⊕ e) ⊗ t, (y ⊕ s ⊗ t) ⊗ d ⊕ e ⊗ t)) refl (pos (4096 * c)) s
      (pos (u + t)) (pos e) (pos t)

-- past the second row: what the slope s has lost over the segment's d comes on top of the loss E from there on
outside : (c q d : ℕ) (s : ℤ) (e : ℕ) → sub_ℕ (q * 4096) (c * 4096) ≡ s *ℤ pos d +ℤ pos e
    → (N D E : ℕ) (g : ℤ) → pos (4096 * N) ≡ (pos (4096 * q) +ℤ g) *ℤ pos D +ℤ pos E
    → pos (4096 * N) ≡ (pos (4096 * c) +ℤ (s *ℤ pos d +ℤ g)) *ℤ pos D +ℤ pos (e * D + E)
outside c q d s e f N D E g h =
    h
    ∙ solve integers integer_ring 6 (λ k c q g d e. ((k ⊗ q ⊕ g) ⊗ d ⊕ e, (k ⊗ c ⊕ (q ⊗ k ⊖ c ⊗ k) ⊕ g) ⊗ d ⊕ e)) refl (pos 4096) (pos c)
    (pos q) g (pos D) (pos E)
    ∙ ap (λ (z : ℤ). (pos (4096 * c) +ℤ z +ℤ g) *ℤ pos D +ℤ pos E) (minus (q * 4096) (c * 4096) ∙ f)
    ∙ solve integers integer_ring 6 (λ y x e g d l. ((y ⊕ (x ⊕ e) ⊕ g) ⊗ d ⊕ l, (y ⊕ (x ⊕ g)) ⊗ d ⊕ (e ⊗ d ⊕ l))) refl (pos (4096 * c))
    (s *ℤ pos d) (pos e) g (pos D) (pos E)

at_row : (p : Row) (Y : ℤ) (most : ℕ) → Fits p → Y ≡ pos (4096 * p.c) → Loss (whole p.c) Y most
at_row p Y most h e = record {
  N = p.c;
  E = 0;
  numerator = refl;
  positive = omega arith;
  bounded = omega arith;
  exact = rw e (ap pos (omega arith));
  small = omega arith;
}

loss_inside : (p q : Row) (n most : ℕ) → Fits p → Fits q → p.r ≤ n → n < q.r → q.r - p.r ≤ most
    → Loss (between p q (pos n)) (pos (4096 * p.c) +ℤ slope p q *ℤ pos (n - p.r)) most
loss_inside p q n most hp hq l k m =
    let d : ℕ = q.r - p.r in
    let t : ℕ = n - p.r in
    let u : ℕ = d - t in
    let s : ℤ = slope p q in
    let f : (lost p q < d) × (sub_ℕ (q.c * 4096) (p.c * 4096) ≡ s *ℤ pos d +ℤ pos (lost p q)) = slope_rest p q (omega arith) in
    let e : d ≡ u + t = omega arith in
    record {
      N = p.c * u + q.c * t;
      E = lost p q * t;
      numerator =
          ap₂ (λ (x : ℕ) (z : ℤ). pos (p.c * x) +ℤ sub_ℕ q.c p.c *ℤ z) e (minus n p.r ∙ sub_ge n p.r l)
          ∙ weighted p.c q.c u t;
      positive = omega arith;
      bounded =
          omega (arith, mul-le-mul hp.1 (le_refl u), mul-le-mul hq.1 (le_refl t));
      exact =
          inside p.c q.c u t s (lost p q) (f.1 ∙ ap (λ (x : ℕ). s *ℤ pos x +ℤ pos (lost p q)) e)
          ∙ ap (λ (x : ℕ). (pos (4096 * p.c) +ℤ s *ℤ pos t) *ℤ pos x +ℤ pos (lost p q * t)) (sym e);
      small =
          let a : lost p q ≤ d = omega arith in
          let b : t ≤ most = omega arith in
          omega (arith, mul-le-mul a b);
    }

loss_outside : (p q : Row) (C : Quotient) (g : ℤ) (most most' : ℕ) → p.r < q.r → q.r - p.r + most ≤ most'
    → Loss C (pos (4096 * q.c) +ℤ g) most → Loss C (pos (4096 * p.c) +ℤ (slope p q *ℤ pos (q.r - p.r) +ℤ g)) most'
loss_outside p q C g most most' h m l =
    let d : ℕ = q.r - p.r in
    let f : (lost p q < d) × (sub_ℕ (q.c * 4096) (p.c * 4096) ≡ slope p q *ℤ pos d +ℤ pos (lost p q)) = slope_rest p q h in
    record {
      N = l.N;
      E = lost p q * C.denominator + l.E;
      numerator = l.numerator;
      positive = l.positive;
      bounded = l.bounded;
      exact = outside p.c q.c d (slope p q) (lost p q) f.1 l.N C.denominator l.E g l.exact;
      small =
          let a : lost p q ≤ d = omega arith in
          let b : l.E ≤ most * C.denominator = l.small in
          omega (arith, mul-le-mul a (le_refl C.denominator), mul-le-mul m (le_refl C.denominator));
    }

abbrev LossFrom : Row → List Row → ℕ → Type 0
LossFrom p ps n = Loss (line_from (p ∷ ps) (pos n)) (pos (4096 * p.c) +ℤ segments (p ∷ ps) (pos n)) (last_count (p ∷ ps) - p.r)

loss_step : (p q : Row) (ps : List Row) → Rising p (q ∷ ps) → (n : ℕ) → p.r ≤ n → (q.r ≤ n → LossFrom q ps n) → LossFrom p (q ∷ ps) n
unfolding line_from last_count
loss_step p q ps h n l next =
    ⊎_elim
    (λ (k : q.r ≤ n).
    let e : n - p.r - (n - q.r) ≡ q.r - p.r = omega arith in
    rw (le-ltb n q.r k, segment p q ps h.1 n, e)
    (loss_outside p q (line_from (q ∷ ps) (pos n)) (segments (q ∷ ps) (pos n)) (last_count (q ∷ ps) - q.r) (last_count (q ∷ ps) - p.r)
    h.1
    (omega (arith, last_above q ps h.2)) (next k)))
    (λ (k : n < q.r).
    let e : n - p.r - (n - q.r) ≡ n - p.r = omega arith in
    rw (lt-ltb n q.r k, segment p q ps h.1 n, e, flat q ps h.2 n (omega arith), +ℤ_idr)
    (loss_inside p q n (last_count (q ∷ ps) - p.r) h.0 (head_fits q ps h.2) l k (omega (arith, last_above q ps h.2))))
    (le_or_lt q.r n)

loss_last : (p : Row) → Fits p → (n : ℕ) → LossFrom p [] n
unfolding line_from segments
loss_last p h n = at_row p (pos (4096 * p.c) +ℤ pos 0) (last_count (p ∷ []) - p.r) h (ap pos (omega arith))

loss_from : (p : Row) (ps : List Row) → Rising p ps → (n : ℕ) → p.r ≤ n → LossFrom p ps n
loss_from p [] h n l = loss_last p h n
loss_from p (q ∷ ps) h n l = loss_step p q ps h n l (loss_from q ps h.2 n)

-- Y is at most 4095 below 4096 C
pub loss : (p : Row) (ps : List Row) → Rising p ps → (x : ℤ) → Loss (line (p ∷ ps) x) (scaled (p ∷ ps) x) 4095
unfolding line scaled
loss p ps h (negsuc n) =
    at_row p (pos (4096 * p.c) +ℤ segments (p ∷ ps) (negsuc n)) 4095 (head_fits p ps h)
    (ap (λ (z : ℤ). pos (4096 * p.c) +ℤ z) (segments_up (p ∷ ps) (negsuc n) ∙ flat p ps h 0 (omega arith)) ∙ ap pos (omega arith))
loss p ps h (pos n) =
    ⊎_elim
    (λ (l : n ≤ p.r).
    rw (le-leb n p.r l)
    (at_row p (pos (4096 * p.c) +ℤ segments (p ∷ ps) (pos n)) 4095 (head_fits p ps h)
    (ap (λ (z : ℤ). pos (4096 * p.c) +ℤ z) (flat p ps h n l) ∙ ap pos (omega arith))))
    (λ (l : p.r < n). rw (lt-leb n p.r l) (widen (loss_from p ps h n (omega arith))))
    (le_or_lt n p.r)
  where
    widen : Loss (line_from (p ∷ ps) (pos n)) (pos (4096 * p.c) +ℤ segments (p ∷ ps) (pos n)) (last_count (p ∷ ps) - p.r)
        → Loss (line_from (p ∷ ps) (pos n)) (pos (4096 * p.c) +ℤ segments (p ∷ ps) (pos n)) 4095
    widen m =
        let D : ℕ = (line_from (p ∷ ps) (pos n)).denominator in
        let k : last_count (p ∷ ps) - p.r ≤ 4095 = omega (arith, last_fits p ps h) in
        record {
          N = m.N;
          E = m.E;
          numerator = m.numerator;
          positive = m.positive;
          bounded = m.bounded;
          exact = m.exact;
          small = let a : m.E ≤ (last_count (p ∷ ps) - p.r) * D = m.small in omega (arith, mul-le-mul k (le_refl D));
        }
