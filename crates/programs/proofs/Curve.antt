-- What a row and the sum of a curve's program open: the ReLU of x - r times the change of slope, added up. Assumes nothing.
use mathlib.Core.Path.{◌≡◌, refl, sym, ap, ap₂, ◌∙◌}
use mathlib.Core.Bool.{false}
use mathlib.Core.List.{List, [], ◌∷◌}
use mathlib.Core.Logic.{⊎_elim}
use Prim.Native.Nat.{ℕ, suc, ◌+◌, ◌-◌, ◌*◌, ◌%◌, ◌^◌, ◌≤◌, ◌<◌}
use native.Mathlib.Nat.{mod-eq_of_lt, mod-add-mod, mod-mod, add-mod_right, mul-zero, mul-one}
use native.Mathlib.Omega.{arith}
use lib.Dec.{eqb, leb-suc-zero}
use lib.Pow.{pow_mono}
use lib.IntN.{ℤ, pos, negsuc}
use Rattle.words.specs.Words.{add, sub, neg, mul, bit, numbers}
use Rattle.words.specs.Signed.{signed, wrap}
use Rattle.words.proofs.Words.{sub_is, sub_lt}
use Rattle.words.proofs.Integers.{le_or_lt, sub_below}
use Rattle.words.proofs.Signed.{signed_low, signed_high, top_bit}
use Rattle.shares.specs.Gates.{value}
use Rattle.gates.specs.Gates.{Gate, Add, Scale, Plus, Const}
use Rattle.gates.specs.Hosts.{share}
use Rattle.tables.specs.Table.{Row}
use Rattle.curves.specs.Curve.{relu, slope_after, coefficient, relu_word, word_sum, word_curve}
use Rattle.programs.specs.Programs.{relu_program, row_program, rows_program, sum_program}
use Rattle.programs.proofs.Gates.{Fits}
use Rattle.programs.proofs.Points.{Aside, target, Point, after, afters, afters_append, num, keep_share, keep_num}
use Rattle.programs.proofs.Targets.{at_add, at_scale, at_plus, at_const}
use Rattle.programs.proofs.Blocks.{relu_opens, relu_keeps}

-- 1 - s, for the digit s
less : (w s : ℕ) → 2 ≤ w → s ≤ 1 → sub w (1 % 2 ^ w) s ≡ 1 - s
unfolding sub
less w s h l =
    let p : 2 ^ 2 ≤ 2 ^ w = pow_mono h in
    let e : 1 % 2 ^ w ≡ 1 = mod-eq_of_lt (omega arith) in
    let f : 1 + (2 ^ w - s) ≡ 1 - s + 2 ^ w = omega arith in
    rw (e, f) (add-mod_right (1 - s) (2 ^ w) ∙ mod-eq_of_lt (omega arith))

-- x times 1 - s is the larger of x and 0
pub relu_formula : (w v : ℕ) → 2 ≤ w → v < 2 ^ w → mul w v (sub w (1 % 2 ^ w) (bit v (w - 1))) ≡ relu_word w v
unfolding relu_word relu wrap mul
relu_formula w v o h =
    ⊎_elim
    (λ (l : 2 ^ (w - 1) ≤ v).
    let s : signed w v ≡ negsuc (2 ^ w - suc v) = signed_high w v l ∙ sub_below v (2 ^ w) h in
    let b : bit v (w - 1) ≡ 1 = top_bit w v (omega arith) h ∙ rw s in
    rw (b, less w 1 o (omega arith), s, mul-zero v))
    (λ (l : v < 2 ^ (w - 1)).
    let s : signed w v ≡ pos v = signed_low w v l in
    let b : bit v (w - 1) ≡ 0 = top_bit w v (omega arith) h ∙ rw (s, leb-suc-zero v) in
    rw (b, less w 0 o (omega arith), s, mul-one v))
    (le_or_lt (2 ^ (w - 1)) v)

module _ (w : ℕ) (A B : List ℕ) (hA : Fits w A) (hB : Fits w B) (low : 2 ≤ w) where
  abbrev Pt : Type 0
  Pt = Point w A B hA hB

  abbrev run : List Gate → Pt → Pt
  run = afters w A B hA hB

  value_lt : (G : Pt) (i : ℕ) → num w A B hA hB G i < 2 ^ w
  unfolding num
  value_lt G i = sub_lt w _ _

  -- one row: slot 22 gets the row's term, every slot below 16 keeps its share
  module _ (x r k : ℕ) (G : Pt) (x21 : eqb x 21 ≡ false) where
    abbrev shifted : Pt
    shifted = after w A B hA hB (Plus 21 x (neg w r)) G

    keep_acc : num w A B hA hB shifted 22 ≡ num w A B hA hB G 22
    unfolding target
    keep_acc = simp keep_num

    shifted_opens : num w A B hA hB shifted 21 ≡ sub w (num w A B hA hB G x) r
    shifted_opens = at_plus w A B hA hB G 21 refl x (neg w r) ∙ sym (sub_is w (num w A B hA hB G x) r)

    row_parts : run (row_program w x r k) G ≡ run (Scale 23 23 k ∷ Add 22 22 23 ∷ []) (run (relu_program w 21 23) shifted)
    unfolding row_program afters
    row_parts = afters_append w A B hA hB (relu_program w 21 23) (Scale 23 23 k ∷ Add 22 22 23 ∷ []) shifted

    row_end : (H : Pt) → num w A B hA hB (run (Scale 23 23 k ∷ Add 22 22 23 ∷ []) H) 22
        ≡ add w (num w A B hA hB H 22) (mul w (num w A B hA hB H 23) k)
    unfolding afters target
    row_end H = simp (at_add, at_scale, keep_num)

    pub row_opens : num w A B hA hB (run (row_program w x r k) G) 22
        ≡ add w (num w A B hA hB G 22) (mul w (relu_word w (sub w (num w A B hA hB G x) r)) k)
    unfolding num
    row_opens =
        ap (λ (H : Pt). num w A B hA hB H 22) row_parts ∙ row_end _
        ∙ ap₂ (λ (s v : ℕ). add w s (mul w v k))
        (ap (value (numbers w)) (relu_keeps w A B hA hB 21 23 shifted refl refl refl refl refl refl low 22 refl refl refl refl refl refl)
        ∙ keep_acc)
        (relu_opens w A B hA hB 21 23 shifted refl refl refl refl refl refl low ∙ relu_formula w _ low (value_lt shifted 21)
        ∙ ap (relu_word w) shifted_opens)

    -- the registers are kept
    pub row_keeps : (i : ℕ) → eqb i 16 ≡ false → eqb i 17 ≡ false → eqb i 18 ≡ false → eqb i 19 ≡ false → eqb i 20 ≡ false
        → eqb i 21 ≡ false → eqb i 22 ≡ false → eqb i 23 ≡ false
        → share (run (row_program w x r k) G).j i ≡ share G.j i
    unfolding afters target
    row_keeps i i16 i17 i18 i19 i20 i21 i22 i23 =
        ap (λ (H : Pt). share H.j i) row_parts ∙ (simp keep_share)
        ∙ relu_keeps w A B hA hB 21 23 shifted refl refl refl refl refl refl low i i16 i17 i18 i19 i20 i23 ∙ (simp keep_share)

  -- ---- all rows, in row order

  module _ (x : ℕ) (hx : Aside x) where
    rows_keep : (ps : List Row) (s : ℤ) (G : Pt) (i : ℕ) → Aside i → share (run (rows_program w x s ps) G).j i ≡ share G.j i
    unfolding rows_program afters
    rows_keep [] s G i hi = refl
    rows_keep (p ∷ ps) s G i hi =
        ap (λ (H : Pt). share H.j i) (afters_append w A B hA hB (row_program w x _ (coefficient w s p ps)) _ G)
        ∙ rows_keep ps (slope_after p ps) _ i hi
        ∙ row_keeps x _ (coefficient w s p ps) G hx.i21 i hi.i16 hi.i17 hi.i18 hi.i19 hi.i20 hi.i21 hi.i22 hi.i23

    rows_open : (ps : List Row) (s : ℤ) (G : Pt)
        → num w A B hA hB (run (rows_program w x s ps) G) 22 ≡ word_sum w s ps (num w A B hA hB G x) (num w A B hA hB G 22)
    unfolding rows_program afters word_sum num
    rows_open [] s G = refl
    rows_open (p ∷ ps) s G =
        let k : ℕ = coefficient w s p ps in
        ap (λ (H : Pt). num w A B hA hB H 22)
        (afters_append w A B hA hB (row_program w x p.r k) (rows_program w x (slope_after p ps) ps) G)
        ∙ rows_open ps (slope_after p ps) _
        ∙ ap₂ (word_sum w (slope_after p ps) ps)
        (ap (value (numbers w)) (row_keeps x p.r k G hx.i21 x hx.i16 hx.i17 hx.i18 hx.i19 hx.i20 hx.i21 hx.i22
        hx.i23))
        (row_opens x p.r k G hx.i21)

    -- the sum starts reduced modulo 2^w
    sum_reduced : (s : ℤ) (p : Row) (ps : List Row) (v n : ℕ) → word_sum w s (p ∷ ps) v (n % 2 ^ w) ≡ word_sum w s (p ∷ ps) v n
    unfolding word_sum add
    sum_reduced s p ps v n = ap (word_sum w (slope_after p ps) ps v) (mod-add-mod n (2 ^ w) _)

    const_keeps : (n : ℕ) (G : Pt) (i : ℕ) → Aside i → share (after w A B hA hB (Const 22 n) G).j i ≡ share G.j i
    unfolding target
    const_keeps n G i hi = keep_share w A B hA hB (Const 22 n) G i hi.i22

    -- the sum that the hosts form of what x opens
    pub sum_opens : (p : Row) (ps : List Row) (G : Pt)
        → num w A B hA hB (run (sum_program w x (p ∷ ps)) G) 22 ≡ word_curve w (p ∷ ps) (num w A B hA hB G x)
    unfolding sum_program afters word_curve num
    sum_opens p ps G =
        rows_open (p ∷ ps) (pos 0) (after w A B hA hB (Const 22 (4096 * p.c % 2 ^ w)) G)
        ∙ ap₂ (word_sum w (pos 0) (p ∷ ps)) (ap (value (numbers w)) (const_keeps (4096 * p.c % 2 ^ w) G x hx))
        (at_const w A B hA hB G 22 refl (4096 * p.c % 2 ^ w) ∙ mod-mod (4096 * p.c) (2 ^ w))
        ∙ sum_reduced (pos 0) p ps _ (4096 * p.c)

    pub sum_keeps : (ps : List Row) (G : Pt) (i : ℕ) → Aside i → share (run (sum_program w x ps) G).j i ≡ share G.j i
    unfolding sum_program afters
    sum_keeps [] G i hi = const_keeps 0 G i hi
    sum_keeps (p ∷ ps) G i hi = rows_keep (p ∷ ps) (pos 0) _ i hi ∙ const_keeps (4096 * p.c % 2 ^ w) G i hi
