-- What the programs of kinds 6, 7 and 8 open: the words `large_slack`, `one_bit` and `exact` of the source's m and L. Assumes nothing.
use mathlib.Core.Path.{◌≡◌, refl, sym, ap, ap₂, ◌∙◌}
use mathlib.Core.Bool.{true, false}
use mathlib.Core.List.{List, [], ◌∷◌, ◌++◌}
use Prim.Native.Nat.{ℕ, ◌-◌, ◌%◌, ◌^◌, ◌≤◌, ◌<◌}
use native.Mathlib.Nat.{mod-eq_of_lt, lt_of_le_of_lt}
use lib.Dec.{eqb, ltb}
use lib.Pow.{shr_le}
use Rattle.words.specs.Words.{add, sub, neg, mul, bit, shr, numbers, bits}
use Rattle.truncations.specs.Adder.{carries}
use Rattle.truncations.specs.Truncation.{bit_number, large_slack, one_bit, exact}
use Rattle.words.proofs.Words.{mul_comm as times_comm, mul_mod_mod, sub_is, neg_lt, add_lt}
use Rattle.shares.specs.Gates.{value}
use Rattle.gates.specs.Gates.{Field, OfNegated, Gate, Add, Sub, Scale, Plus, Bit, Public, Deal}
use Rattle.gates.specs.Meaning.{part, dealt_of}
use Rattle.gates.specs.Hosts.{share}
use Rattle.programs.specs.Programs.{adder, to_number, slack_program, one_bit_program, exact_program}
use Rattle.programs.proofs.Gates.{Fits}
use Rattle.programs.proofs.Points.{Other, target, Point, after, afters, afters_append, num, bin, m_of, l1_of, l2_of, keep_m}
use Rattle.programs.proofs.Points.{keep_l1, keep_l2, keep_share, keep_num, keep_bin}
use Rattle.programs.proofs.Targets.{at_add, at_sub, at_mul_known, at_scale, at_plus, at_bit, at_public, at_deal, m_plus, m_public, l1_plus}
use Rattle.programs.proofs.Targets.{l2_plus}
use Rattle.programs.proofs.Blocks.{digit_bit, number_opens, number_keeps, adder_opens, adder_keeps}

module _ (w : ℕ) (A B : List ℕ) (hA : Fits w A) (hB : Fits w B) where
  abbrev Pt : Type 0
  Pt = Point w A B hA hB

  abbrev run : List Gate → Pt → Pt
  run = afters w A B hA hB

  -- the mask L of slot x
  abbrev pub mask_of : Pt → ℕ → ℕ
  mask_of G x = add w (l1_of w A B hA hB G x) (l2_of w A B hA hB G x)

  module _ (k x d : ℕ) (G : Pt) (hd : ltb d 24 ≡ true) where
    -- kind 6
    pub slack_opens : eqb x 16 ≡ false
        → num w A B hA hB (run (slack_program k x d) G) d ≡ large_slack w k (m_of w A B hA hB G x) (mask_of G x)
    unfolding slack_program afters target dealt_of part large_slack
    slack_opens x16 = simp (at_add, at_deal, at_public, keep_num, keep_m)

    pub slack_keeps : (i : ℕ) → eqb i 16 ≡ false → eqb i 17 ≡ false → eqb i d ≡ false
        → share (run (slack_program k x d) G).j i ≡ share G.j i
    unfolding slack_program afters target
    slack_keeps i i16 i17 id = simp keep_share

    pub one_bit_keeps : (i : ℕ) → Other d i → share (run (one_bit_program w k x d) G).j i ≡ share G.j i
    unfolding one_bit_program afters target
    one_bit_keeps i o = simp (keep_share, o.i16, o.i17, o.i18, o.i19, o.i20, o.i21, o.id)

    -- kind 7
    pub one_bit_opens : num w A B hA hB (run (one_bit_program w k x d) G) d ≡ one_bit w k (m_of w A B hA hB G x) (mask_of G x)
    unfolding one_bit_program afters target dealt_of part one_bit bit_number shr bit
    one_bit_opens =
        simp (
          at_plus,
          at_add,
          at_sub,
          at_scale,
          at_mul_known,
          at_public,
          at_deal,
          keep_num,
          keep_m,
          keep_l1,
          keep_l2,
          m_plus,
          m_public,
          l1_plus,
          l2_plus,
          times_comm w 2,
        )
        (sym (sub_is w _ _))

  -- a field of all w bits is the shift alone
  shift_field : (k y : ℕ) → y < 2 ^ w → part w (Field k w) y ≡ shr k y
  unfolding part shr
  shift_field k y h = mod-eq_of_lt (lt_of_le_of_lt (shr_le y k) h)

  -- ---- kind 8

  module _ (k x d : ℕ) (G : Pt) (hd : ltb d 24 ≡ true) (low : 2 ≤ w) where
    abbrev sums : Pt
    sums = run (Plus 21 x (2 ^ (w - 1)) ∷ Deal 23 21 (OfNegated (Field k w)) ∷ Public 20 21 (Field k w) ∷ Add 23 23 20 ∷ []) G

    abbrev m' : ℕ
    m' = add w (m_of w A B hA hB G x) (2 ^ (w - 1))

    abbrev n : ℕ
    n = neg w (mask_of G x)

    sums_opens : num w A B hA hB sums 23 ≡ add w (shr k n) (shr k m')
    unfolding afters target dealt_of
    sums_opens =
        simp (at_add, at_deal, at_public, keep_num, keep_m, m_plus, l1_plus, l2_plus)
        (ap₂ (add w) (shift_field k n (neg_lt w _)) (shift_field k m' (add_lt w _ _)))

    sums_m : m_of w A B hA hB sums 21 ≡ m'
    unfolding afters target
    sums_m = simp (keep_m, m_plus)

    sums_l1 : l1_of w A B hA hB sums 21 ≡ l1_of w A B hA hB G x
    unfolding afters target
    sums_l1 = simp (keep_l1, l1_plus)

    sums_l2 : l2_of w A B hA hB sums 21 ≡ l2_of w A B hA hB G x
    unfolding afters target
    sums_l2 = simp (keep_l2, l2_plus)

    abbrev added : Pt
    added = run (adder w 21) sums

    added_carries : bin w A B hA hB added 18 ≡ carries w m' n
    added_carries = adder_opens w A B hA hB 21 sums refl ∙ rw (sums_m, sums_l1, sums_l2)

    added_sum : num w A B hA hB added 23 ≡ add w (shr k n) (shr k m')
    unfolding num
    added_sum = ap (value (numbers w)) (adder_keeps w A B hA hB 21 sums 23 refl refl refl refl refl) ∙ sums_opens

  -- bit i of slot 18, as a number in slot 20; the slots 18 and 23 are kept
  module _ (i : ℕ) (G : Pt) (low : 2 ≤ w) where
    taken_opens : num w A B hA hB (run (Bit 20 18 i ∷ to_number w) G) 20 ≡ bit (bin w A B hA hB G 18) i
    unfolding afters
    taken_opens =
        number_opens w A B hA hB (after w A B hA hB (Bit 20 18 i) G) low (digit_bit w A B hA hB G 20 18 i refl)
        ∙ at_bit w A B hA hB G 20 refl 18 i

    taken_keeps : (q : ℕ) → eqb q 17 ≡ false → eqb q 19 ≡ false → eqb q 20 ≡ false
        → share (run (Bit 20 18 i ∷ to_number w) G).j q ≡ share G.j q
    unfolding afters target
    taken_keeps q q17 q19 q20 = number_keeps w A B hA hB (after w A B hA hB (Bit 20 18 i) G) q q17 q19 q20 ∙ (simp keep_share)

  module _ (k x d : ℕ) (G : Pt) (hd : ltb d 24 ≡ true) (low : 2 ≤ w) where
    abbrev H : Pt
    H = added k x d G hd low

    abbrev first : Pt
    first = run (Bit 20 18 (k - 1) ∷ to_number w) H

    abbrev between : Pt
    between = after w A B hA hB (Add 23 23 20) first

    abbrev second : Pt
    second = run (Bit 20 18 (w - 1) ∷ to_number w) between

    b1 : num w A B hA hB first 20 ≡ bit (carries w (m' k x d G hd low) (n k x d G hd low)) (k - 1)
    b1 = taken_opens (k - 1) H low ∙ ap (λ (g : ℕ). bit g (k - 1)) (added_carries k x d G hd low)

    first_sum : num w A B hA hB first 23 ≡ num w A B hA hB H 23
    unfolding num
    first_sum = ap (value (numbers w)) (taken_keeps (k - 1) H low 23 refl refl refl)

    first_g : bin w A B hA hB first 18 ≡ bin w A B hA hB H 18
    unfolding bin
    first_g = ap (value (bits w)) (taken_keeps (k - 1) H low 18 refl refl refl)

    between_sum : num w A B hA hB between 23 ≡ add w (num w A B hA hB first 23) (num w A B hA hB first 20)
    unfolding target
    between_sum = simp at_add

    between_g : bin w A B hA hB between 18 ≡ bin w A B hA hB first 18
    unfolding target
    between_g = simp keep_bin

    b2 : num w A B hA hB second 20 ≡ bit (carries w (m' k x d G hd low) (n k x d G hd low)) (w - 1)
    b2 = taken_opens (w - 1) between low ∙ ap (λ (g : ℕ). bit g (w - 1)) (between_g ∙ first_g ∙ added_carries k x d G hd low)

    second_sum : num w A B hA hB second 23 ≡ num w A B hA hB between 23
    unfolding num
    second_sum = ap (value (numbers w)) (taken_keeps (w - 1) between low 23 refl refl refl)

    exact_end : num w A B hA hB (run (Scale 20 20 (2 ^ (w - k) % 2 ^ w) ∷ Sub 23 23 20 ∷ Plus d 23 (neg w (2 ^ (w - 1 - k))) ∷ []) second) d
        ≡ add w (sub w (num w A B hA hB second 23) (mul w (num w A B hA hB second 20) (2 ^ (w - k)))) (neg w (2 ^ (w - 1 - k)))
    unfolding afters target mul
    exact_end = simp (at_plus, at_sub, at_scale, keep_num, mul_mod_mod)

    exact_parts : run (exact_program w k x d) G
        ≡ run (Scale 20 20 (2 ^ (w - k) % 2 ^ w) ∷ Sub 23 23 20 ∷ Plus d 23 (neg w (2 ^ (w - 1 - k))) ∷ []) second
    unfolding exact_program afters
    exact_parts =
        let P : List Gate = Plus 21 x (2 ^ (w - 1)) ∷ Deal 23 21 (OfNegated (Field k w)) ∷ Public 20 21 (Field k w) ∷ Add 23 23 20
        ∷ adder w 21 in
        let Q : List Gate = Bit 20 18 (k - 1) ∷ to_number w in
        let R : List Gate = Add 23 23 20 ∷ Bit 20 18 (w - 1) ∷ to_number w in
        let S : List Gate = Scale 20 20 (2 ^ (w - k) % 2 ^ w) ∷ Sub 23 23 20 ∷ Plus d 23 (neg w (2 ^ (w - 1 - k))) ∷ [] in
        afters_append w A B hA hB (P ++ Q ++ R) S G
        ∙ ap (run S) (afters_append w A B hA hB (P ++ Q) R G ∙ ap (run R) (afters_append w A B hA hB P Q G))

    pub exact_opens : num w A B hA hB (run (exact_program w k x d) G) d ≡ exact w k (m_of w A B hA hB G x) (mask_of G x)
    unfolding exact
    exact_opens =
        ap (λ (P : Pt). num w A B hA hB P d) exact_parts ∙ exact_end
        ∙ sym (sub_is w _ _)
        ∙ ap₂ (λ (s t : ℕ). sub w (sub w s (mul w t (2 ^ (w - k)))) (2 ^ (w - 1 - k)))
        (second_sum ∙ between_sum ∙ ap₂ (add w) (first_sum ∙ added_sum k x d G hd low) b1) b2

    pub exact_keeps : (i : ℕ) → Other d i → share (run (exact_program w k x d) G).j i ≡ share G.j i
    unfolding afters target
    exact_keeps i o =
        ap (λ (P : Pt). share P.j i) exact_parts
        ∙ (simp (keep_share, o.i20, o.i23, o.id))
        ∙ taken_keeps (w - 1) between low i o.i17 o.i19 o.i20
        ∙ (simp (keep_share, o.i23))
        ∙ taken_keeps (k - 1) H low i o.i17 o.i19 o.i20
        ∙ adder_keeps w A B hA hB 21 (sums k x d G hd low) i o.i16 o.i17 o.i18 o.i19 o.i20
        ∙ (simp (keep_share, o.i20, o.i21, o.i23))
