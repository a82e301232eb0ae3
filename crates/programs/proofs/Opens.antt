-- What every order opens, for every share of its sources and every word of the lists; and that it changes no register but its target.
-- Assumes nothing.
use mathlib.Core.Path.{◌≡◌, refl, ap, ap₂, ◌∙◌}
use mathlib.Core.Bool.{true, false}
use mathlib.Core.List.{List, [], ◌∷◌, ◌++◌}
use Prim.Native.Nat.{ℕ, zero, suc, ◌≤◌, ◌<◌}
use native.Mathlib.Omega.{arith}
use borrow.Author.Tests.{lt-ltb}
use lib.Dec.{eqb, ltb, lit≤}
use lib.ListN.{get_or, length}
use lib.Seq.{get_or-set_same}
use Rattle.words.specs.Words.{add, numbers}
use Rattle.words.specs.Signed.{shr_signed}
use Rattle.truncations.specs.Truncation.{large_slack, one_bit}
use Rattle.words.proofs.Solver.{exprs}
use Rattle.words.proofs.Below.{number_carrier, solve_below}
use Rattle.words.proofs.Words.{add_lt, sub_lt}
use Rattle.truncations.proofs.Truncation.{exact_floor}
use Rattle.shares.specs.Gates.{value}
use Rattle.gates.specs.Gates.{Gate, Add, Sub, Mul, Refresh, Scale, Plus}
use Rattle.gates.specs.Steps.{at, new_at}
use Rattle.gates.specs.Meaning.{meaning}
use Rattle.gates.specs.Hosts.{share, act}
use Rattle.tables.specs.Table.{Row}
use Rattle.curves.specs.Curve.{last_count, relu_word, word_curve, above_last, saturated}
use Rattle.programs.specs.Programs.{relu_program, slack_program, one_bit_program, exact_program, sum_program, truncation}
use Rattle.programs.specs.Programs.{saturation}
use Rattle.programs.specs.Orders.{curve_program, kinds}
use Rattle.programs.specs.Opens.{truncated, curve_value, values}
use Rattle.programs.proofs.Gates.{Fits}
use Rattle.programs.proofs.Points.{not_temporary, Other, other, Aside, register, aside, target, Point, after, afters, afters_append}
use Rattle.programs.proofs.Points.{num, m_of, l1_of, l2_of, keep_share}
use Rattle.programs.proofs.Targets.{at_add, at_sub, at_mul, at_scale, at_plus, at_refresh}
use Rattle.programs.proofs.Blocks.{relu_opens, relu_keeps}
use Rattle.programs.proofs.Truncations.{mask_of, slack_opens, slack_keeps, one_bit_opens, one_bit_keeps, exact_opens, exact_keeps}
use Rattle.programs.proofs.Curve.{relu_formula, sum_opens, sum_keeps}
use Rattle.programs.proofs.Saturation.{saturation_opens, saturation_leaves, saturation_keeps}

-- what holds of the kinds 0 to 10
by_kind : (P : ℕ → Type 0) → P 0 → P 1 → P 2 → P 3 → P 4 → P 5 → P 6 → P 7 → P 8 → P 9 → P 10 → (k : ℕ) → k ≤ 10 → P k
by_kind P a b c d e f g h i j k zero l = a
by_kind P a b c d e f g h i j k (suc zero) l = b
by_kind P a b c d e f g h i j k (suc (suc zero)) l = c
by_kind P a b c d e f g h i j k (suc (suc (suc zero))) l = d
by_kind P a b c d e f g h i j k (suc (suc (suc (suc zero)))) l = e
by_kind P a b c d e f g h i j k (suc (suc (suc (suc (suc zero))))) l = f
by_kind P a b c d e f g h i j k (suc (suc (suc (suc (suc (suc zero)))))) l = g
by_kind P a b c d e f g h i j k (suc (suc (suc (suc (suc (suc (suc zero))))))) l = h
by_kind P a b c d e f g h i j k (suc (suc (suc (suc (suc (suc (suc (suc zero)))))))) l = i
by_kind P a b c d e f g h i j k (suc (suc (suc (suc (suc (suc (suc (suc (suc zero))))))))) l = j
by_kind P a b c d e f g h i j k (suc (suc (suc (suc (suc (suc (suc (suc (suc (suc zero)))))))))) l = k
by_kind P a b c d e f g h i j k (suc (suc (suc (suc (suc (suc (suc (suc (suc (suc (suc n))))))))))) l = absurd (omega arith)

module _ (w : ℕ) (A B : List ℕ) (hA : Fits w A) (hB : Fits w B) (low : 2 ≤ w) where
  abbrev Pt : Type 0
  Pt = Point w A B hA hB

  abbrev run : List Gate → Pt → Pt
  run = afters w A B hA hB

  -- m = x + L
  m_is : (G : Pt) (x : ℕ) → m_of w A B hA hB G x ≡ add w (num w A B hA hB G x) (mask_of w A B hA hB G x)
  unfolding num m_of l1_of l2_of
  m_is G x =
      solve_below w (numbers w) (number_carrier w) 3 (λ m l1 l2. (m, exprs.add (exprs.sub m (exprs.add l1 l2)) (exprs.add l1 l2))) refl
      (at G.j.0 x) (G.fits.m x) (at G.j.1 x) (G.fits.l1 x) (at G.j.2 x) (G.fits.l2 x)

  -- the mask that a refresh gives at a point: "new L1 from A, L2 from B"
  unfoldable pub new_mask : Pt → ℕ
  new_mask G = add w (at A G.c.a) (at B G.c.b)

  refresh_mask : (G : Pt) (d a : ℕ) → ltb d 24 ≡ true → mask_of w A B hA hB (after w A B hA hB (Refresh d a) G) d ≡ new_mask G
  unfolding after l1_of l2_of act meaning new_at new_mask
  refresh_mask G d a l = ap₂ (add w) (get_or-set_same G.j.1 d _ 0 (G.slots d l).l1) (get_or-set_same G.j.2 d _ 0 (G.slots d l).l2)

  -- ---- kinds 7 and 8 in terms of x and L

  pub one_bit_of : (k x d : ℕ) (G : Pt) → ltb d 24 ≡ true
      → num w A B hA hB (run (one_bit_program w k x d) G) d
      ≡ one_bit w k (add w (num w A B hA hB G x) (mask_of w A B hA hB G x)) (mask_of w A B hA hB G x)
  one_bit_of k x d G l = one_bit_opens w A B hA hB k x d G l ∙ ap (λ (m : ℕ). one_bit w k m (mask_of w A B hA hB G x)) (m_is G x)

  pub exact_of : (k x d : ℕ) (G : Pt) → ltb d 24 ≡ true → 1 ≤ k → k < w
      → num w A B hA hB (run (exact_program w k x d) G) d ≡ shr_signed w k (num w A B hA hB G x)
  unfolding num m_of l1_of l2_of
  exact_of k x d G l o h = exact_opens w A B hA hB k x d G l low ∙ exact_floor w k _ _ o h (G.fits.m x) (add_lt w _ _)

  -- ---- the curve

  -- the truncation of slot 22, in its mode
  truncation_opens : 12 < w → (mode : ℕ) (H : Pt) (v : ℕ) → num w A B hA hB H 22 ≡ v
      → num w A B hA hB (run (truncation w mode) H) 22 ≡ truncated w mode v (new_mask H)
  unfolding truncation truncated afters
  truncation_opens h zero H v e = exact_of 12 22 22 H refl (lit≤ tt) h ∙ ap (shr_signed w 12) e
  truncation_opens h (suc m) H v e =
      one_bit_of 12 22 22 (after w A B hA hB (Refresh 22 22) H) refl
      ∙ ap₂ (λ (v L : ℕ). one_bit w 12 (add w v L) L) (at_refresh w A B hA hB H 22 refl 22 ∙ e) (refresh_mask H 22 22 refl)

  truncation_keeps : (mode : ℕ) (H : Pt) (i : ℕ) → Aside i → share (run (truncation w mode) H).j i ≡ share H.j i
  unfolding truncation afters target
  truncation_keeps zero H i o = exact_keeps w A B hA hB 12 22 22 H refl low i o
  truncation_keeps (suc m) H i o =
      one_bit_keeps w A B hA hB 12 22 22 (after w A B hA hB (Refresh 22 22) H) refl i o
      ∙ keep_share w A B hA hB (Refresh 22 22) H i o.i22

  module _ (x d mode : ℕ) (ps : List Row) (G : Pt) where
    -- its sum, and the sum truncated
    abbrev summed : Pt
    summed = run (sum_program w x ps) G

    abbrev truncated_at : Pt
    truncated_at = run (truncation w mode) summed

    curve_parts : run (curve_program w x d ps mode) G ≡ run (saturation w (last_count ps) x d) truncated_at
    unfolding curve_program
    curve_parts =
        afters_append w A B hA hB (sum_program w x ps) (truncation w mode ++ saturation w (last_count ps) x d) G
        ∙ afters_append w A B hA hB (truncation w mode) (saturation w (last_count ps) x d) summed

    module _ (hx : Aside x) where
      source_kept : num w A B hA hB truncated_at x ≡ num w A B hA hB G x
      unfolding num
      source_kept = ap (value (numbers w)) (truncation_keeps mode summed x hx ∙ sum_keeps w A B hA hB low x hx ps G x hx)

      pub curve_opens : ltb d 24 ≡ true → 12 < w → 0 < length ps
          → num w A B hA hB (run (curve_program w x d ps mode) G) d
          ≡ curve_value w ps mode (num w A B hA hB G x) (new_mask summed)
      unfolding curve_value
      curve_opens hd h l =
          ap (λ (H : Pt). num w A B hA hB H d) curve_parts
          ∙ saturation_opens w A B hA hB low (last_count ps) x d truncated_at hx.i21 hd
          ∙ ap₂ (λ (x v : ℕ). saturated w (above_last w (last_count ps) x) v) source_kept
          (truncation_opens h mode summed _ (sum_of ps l))
        where
          sum_of : (qs : List Row) → 0 < length qs → num w A B hA hB (run (sum_program w x qs) G) 22 ≡ word_curve w qs (num w A B hA hB G x)
          sum_of [] l = absurd (omega arith)
          sum_of (p ∷ qs) l = sum_opens w A B hA hB low x hx p qs G

      -- R-1's a, which the order leaves in slot 20
      pub curve_leaves : ltb d 24 ≡ true → eqb 20 d ≡ false
          → num w A B hA hB (run (curve_program w x d ps mode) G) 20 ≡ above_last w (last_count ps) (num w A B hA hB G x)
      curve_leaves hd d20 =
          ap (λ (H : Pt). num w A B hA hB H 20) curve_parts
          ∙ saturation_leaves w A B hA hB low (last_count ps) x d truncated_at hx.i21 hd d20
          ∙ ap (above_last w (last_count ps)) source_kept

      pub curve_keeps : ltb d 24 ≡ true → (i : ℕ) → Other d i
          → share (run (curve_program w x d ps mode) G).j i ≡ share G.j i
      curve_keeps hd i o =
          let hi = aside d i o in
          ap (λ (H : Pt). share H.j i) curve_parts
          ∙ saturation_keeps w A B hA hB low (last_count ps) x d truncated_at hx.i21 hd i o
          ∙ truncation_keeps mode summed i hi ∙ sum_keeps w A B hA hB low x hx ps G i hi

  -- ---- every kind

  module _ (ps : List Row) (d a c : ℕ) (hd : d < 16) (ha : a < 16) (G : Pt) where
    abbrev d24 : ltb d 24 ≡ true
    d24 = lt-ltb d 24 (omega arith)

    -- the mask of the curve's refresh
    unfoldable pub curve_mask : ℕ
    curve_mask = new_mask (run (sum_program w a ps) G)

    -- the fourth word of kind 8 is a shift, and a curve has a row
    pub record Sound (kind : ℕ) : Type 0 where
      pub shift : kind ≡ 8 → (1 ≤ c) × (c < w)
      pub curve : kind ≡ 10 → (12 < w) × (0 < length ps)

    abbrev Opens : ℕ → Type 0
    Opens kind = Sound kind → num w A B hA hB (run (get_or (kinds w ps d a c) kind []) G) d
        ≡ get_or (values w ps c (num w A B hA hB G a) (num w A B hA hB G c) (mask_of w A B hA hB G a) curve_mask) kind 0

    relu_of : num w A B hA hB (run (relu_program w a d) G) d ≡ relu_word w (num w A B hA hB G a)
    unfolding num
    relu_of =
        relu_opens w A B hA hB a d G (not_temporary a 16 ha (lit≤ tt)) (not_temporary a 17 ha (lit≤ tt)) (not_temporary a 18 ha (lit≤ tt))
        (not_temporary a 19 ha (lit≤ tt))
        (not_temporary a 20 ha (lit≤ tt)) d24 low
        ∙ relu_formula w (num w A B hA hB G a) low (sub_lt w _ _)

    slack_of : num w A B hA hB (run (slack_program c a d) G) d
        ≡ large_slack w c (add w (num w A B hA hB G a) (mask_of w A B hA hB G a)) (mask_of w A B hA hB G a)
    slack_of =
        slack_opens w A B hA hB c a d G d24 (not_temporary a 16 ha (lit≤ tt))
        ∙ ap (λ (m : ℕ). large_slack w c m (mask_of w A B hA hB G a)) (m_is G a)

    pub kind_opens : (kind : ℕ) → kind ≤ 10 → Opens kind
    unfolding kinds values afters curve_mask
    kind_opens =
        by_kind Opens (λ s. at_add w A B hA hB G d d24 a c) (λ s. at_sub w A B hA hB G d d24 a c) (λ s. at_plus w A B hA hB G d d24 a c)
        (λ s. at_scale w A B hA hB G d d24 a c)
        (λ s. at_mul w A B hA hB G d d24 a c) (λ s. at_refresh w A B hA hB G d d24 a) (λ s. slack_of) (λ s. one_bit_of c a d G d24)
        (λ s. exact_of c a d G d24 (s.shift refl).0 (s.shift refl).1) (λ s. relu_of)
        (λ s. curve_opens a d c ps G (register a ha) d24 (s.curve refl).0 (s.curve refl).1)

    -- ---- no register but the target

    module _ (i : ℕ) (hi : i < 16) (id : eqb i d ≡ false) where
      abbrev o : Other d i
      o = other d i hi id

      abbrev Keeps : ℕ → Type 0
      Keeps kind = share (run (get_or (kinds w ps d a c) kind []) G).j i ≡ share G.j i

      one_gate : (g : Gate) → eqb i (target g) ≡ false → share (run (g ∷ []) G).j i ≡ share G.j i
      unfolding afters
      one_gate g e = keep_share w A B hA hB g G i e

      relu_kept : share (run (relu_program w a d) G).j i ≡ share G.j i
      relu_kept =
          relu_keeps w A B hA hB a d G (not_temporary a 16 ha (lit≤ tt)) (not_temporary a 17 ha (lit≤ tt)) (not_temporary a 18 ha (lit≤ tt))
          (not_temporary a 19 ha (lit≤ tt))
          (not_temporary a 20 ha (lit≤ tt)) d24 low i o.i16 o.i17 o.i18 o.i19 o.i20 o.id

      pub kind_keeps : (kind : ℕ) → kind ≤ 10 → Keeps kind
      unfolding kinds target
      kind_keeps =
          by_kind Keeps (one_gate (Add d a c) id) (one_gate (Sub d a c) id) (one_gate (Plus d a c) id) (one_gate (Scale d a c) id)
          (one_gate (Mul d a c) id) (one_gate (Refresh d a) id)
          (slack_keeps w A B hA hB c a d G d24 i o.i16 o.i17 o.id) (one_bit_keeps w A B hA hB c a d G d24 i o)
          (exact_keeps w A B hA hB c a d G d24 low i o)
          relu_kept (curve_keeps a d c ps G (register a ha) d24 i o)
