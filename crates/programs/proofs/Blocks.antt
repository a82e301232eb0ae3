-- Blocks of gates, by rewriting gate by gate: a bit made a number, the adder, the sign and the ReLU. Assumes nothing.
use mathlib.Core.Path.{◌≡◌, refl, sym, ap, ap₂, ◌∙◌}
use mathlib.Core.Bool.{true, false}
use mathlib.Core.List.{List, [], ◌∷◌}
use Prim.Native.Nat.{ℕ, ◌-◌, ◌%◌, ◌^◌, ◌≤◌, ◌<◌}
use native.Mathlib.Nat.{mod-eq_of_lt, div-one}
use lib.Dec.{eqb, ltb}
use lib.Bits.{bit_xor, xor_lt, xor_comm}
use lib.Seq.{get_or-set_same}
use Rattle.words.specs.Words.{add, sub, neg, mul, bit, shr, numbers, bits}
use Rattle.truncations.specs.Adder.{Update, generate, propagate, update, distances, updates, run, carries, sign}
use Rattle.truncations.specs.Truncation.{bit_number}
use Rattle.words.proofs.Bits.{bit_lt}
use Rattle.words.proofs.Words.{mul_comm as times_comm, sub_is}
use Rattle.truncations.proofs.Adder.{sign_bit}
use Rattle.truncations.proofs.Truncation.{bit_number_xor}
use Rattle.shares.specs.Gates.{Share, value}
use Rattle.gates.specs.Gates.{Field, Gate, Sub, Xor, Mul, AndKnown, Bit, Const, Public, DealBits}
use Rattle.gates.specs.Steps.{at}
use Rattle.gates.specs.Meaning.{part, dealt_of, meaning}
use Rattle.gates.specs.Hosts.{share, act}
use Rattle.programs.specs.Programs.{update_gates, rounds, adder, to_number, sign_program, relu_program}
use Rattle.programs.proofs.Gates.{Fits}
use Rattle.programs.proofs.Points.{target, Point, after, afters, afters_append, num, bin, m_of, l1_of, l2_of, keep_m, keep_share}
use Rattle.programs.proofs.Points.{keep_num, keep_bin}
use Rattle.programs.proofs.Targets.{at_add, at_sub, at_xor, at_mul, at_and, at_scale, at_up, at_bit, at_const, at_public}
use Rattle.programs.proofs.Targets.{at_mul_known, at_and_known, at_public_bits, at_deal, at_deal_bits, m_public}

module _ (w : ℕ) (A B : List ℕ) (hA : Fits w A) (hB : Fits w B) where
  abbrev Pt : Type 0
  Pt = Point w A B hA hB

  -- the whole word as a part of itself
  pub whole_field : (G : Pt) (i : ℕ) → part w (Field 0 w) (m_of w A B hA hB G i) ≡ m_of w A B hA hB G i
  unfolding part shr m_of
  whole_field G i = rw (div-one (at G.j.0 i)) (mod-eq_of_lt (G.fits.m i))

  -- ---- digits

  -- all three words of a slot are digits
  pub record Digit (G : Pt) (i : ℕ) : Type 0 where
    pub m : m_of w A B hA hB G i < 2
    pub l1 : l1_of w A B hA hB G i < 2
    pub l2 : l2_of w A B hA hB G i < 2

  pub digit_bit : (G : Pt) (d a n : ℕ) → ltb d 24 ≡ true → Digit (after w A B hA hB (Bit d a n) G) d
  unfolding after m_of l1_of l2_of act meaning
  digit_bit G d a n l =
      record {
        m = rw (get_or-set_same G.j.0 d (bit (at G.j.0 a) n) 0 (G.slots d l).m) (bit_lt _ n);
        l1 = rw (get_or-set_same G.j.1 d (bit (at G.j.1 a) n) 0 (G.slots d l).l1) (bit_lt _ n);
        l2 = rw (get_or-set_same G.j.2 d (bit (at G.j.2 a) n) 0 (G.slots d l).l2) (bit_lt _ n);
      }

  pub digit_xor : (G : Pt) (d a b : ℕ) → ltb d 24 ≡ true → Digit G a → Digit G b → Digit (after w A B hA hB (Xor d a b) G) d
  unfolding after m_of l1_of l2_of act meaning
  digit_xor G d a b l x y =
      record {
        m = rw (get_or-set_same G.j.0 d (bit_xor (at G.j.0 a) (at G.j.0 b)) 0 (G.slots d l).m) (xor_lt 1 _ _ x.m y.m);
        l1 = rw (get_or-set_same G.j.1 d (bit_xor (at G.j.1 a) (at G.j.1 b)) 0 (G.slots d l).l1) (xor_lt 1 _ _ x.l1 y.l1);
        l2 = rw (get_or-set_same G.j.2 d (bit_xor (at G.j.2 a) (at G.j.2 b)) 0 (G.slots d l).l2) (xor_lt 1 _ _ x.l2 y.l2);
      }

  -- a slot with the same share has the same digits
  pub digit_kept : (G H : Pt) (i : ℕ) → share H.j i ≡ share G.j i → Digit G i → Digit H i
  unfolding m_of l1_of l2_of
  digit_kept G H i e x =
      record {
        m = rw (ap (λ (s : Share ℕ). s.m) e) x.m;
        l1 = rw (ap (λ (s : Share ℕ). s.l1) e) x.l1;
        l2 = rw (ap (λ (s : Share ℕ). s.l2) e) x.l2;
      }

  -- ---- the bit in slot 20 becomes a number

  number_formula : (a b : ℕ) → sub w (add w a b) (mul w (mul w a b) 2) ≡ bit_number w a b
  unfolding bit_number
  number_formula a b = ap (sub w (add w a b)) (times_comm w (mul w a b) 2)

  pub number_opens : (G : Pt) → 2 ≤ w → Digit G 20 → num w A B hA hB (afters w A B hA hB (to_number w) G) 20 ≡ bin w A B hA hB G 20
  unfolding target dealt_of bin to_number afters m_of l1_of l2_of
  number_opens G h b =
      simp (at_sub, at_add, at_scale, at_mul_known, at_public, m_public, at_deal, keep_num, keep_m, whole_field)
      (number_formula _ _ ∙ bit_number_xor w h (m_of w A B hA hB G 20) b.m (bit_xor (l1_of w A B hA hB G 20) (l2_of w A B hA hB G 20))
      (xor_lt 1 _ _ b.l1 b.l2))

  -- it writes the slots 17, 19 and 20
  pub number_keeps : (G : Pt) (i : ℕ) → eqb i 17 ≡ false → eqb i 19 ≡ false → eqb i 20 ≡ false
      → share (afters w A B hA hB (to_number w) G).j i ≡ share G.j i
  unfolding target to_number afters
  number_keeps G i i17 i19 i20 = simp keep_share

  -- ---- the adder: n in 16, P in 17, G in 18, and the scratch 19 and 20

  pub rounds_run : (us : List Update) (G : Pt)
      → bin w A B hA hB (afters w A B hA hB (rounds us) G) 18 ≡ (run w us (bin w A B hA hB G 18, bin w A B hA hB G 17)).0
  unfolding rounds update_gates afters run update target
  rounds_run [] G = refl
  rounds_run (generate D ∷ us) G = rounds_run us _ ∙ simp (at_xor, at_and, at_up, keep_bin)
  rounds_run (propagate D ∷ us) G = rounds_run us _ ∙ simp (at_xor, at_and, at_up, keep_bin)

  pub rounds_keep : (us : List Update) (G : Pt) (i : ℕ) → eqb i 17 ≡ false → eqb i 18 ≡ false → eqb i 19 ≡ false → eqb i 20 ≡ false
      → share (afters w A B hA hB (rounds us) G).j i ≡ share G.j i
  unfolding rounds update_gates afters target
  rounds_keep [] G i i17 i18 i19 i20 = refl
  rounds_keep (generate D ∷ us) G i i17 i18 i19 i20 = rounds_keep us _ i i17 i18 i19 i20 ∙ simp keep_share
  rounds_keep (propagate D ∷ us) G i i17 i18 i19 i20 = rounds_keep us _ i i17 i18 i19 i20 ∙ simp keep_share

  module _ (x : ℕ) (G : Pt) (x16 : eqb x 16 ≡ false) where
    -- n = -L
    abbrev minus : ℕ
    minus = neg w (add w (l1_of w A B hA hB G x) (l2_of w A B hA hB G x))

    pub value_is : add w (m_of w A B hA hB G x) minus ≡ num w A B hA hB G x
    unfolding num m_of l1_of l2_of
    value_is = sym (sub_is w (at G.j.0 x) (add w (at G.j.1 x) (at G.j.2 x)))

    pub adder_opens : bin w A B hA hB (afters w A B hA hB (adder w x) G) 18 ≡ carries w (m_of w A B hA hB G x) minus
    unfolding adder afters target carries
    adder_opens =
        rounds_run (updates (distances w)) _
        ∙ ap₂ (λ (g p : ℕ). (run w (updates (distances w)) (g, p)).0)
        (simp (at_and_known, m_public, at_deal_bits, keep_bin, keep_m, whole_field))
        (simp (at_xor, at_public_bits, at_deal_bits, keep_bin, keep_m, whole_field))

    -- the sign's half, in slot 16
    pub adder_half : bin w A B hA hB (afters w A B hA hB (adder w x) G) 16 ≡ bit (bit_xor (m_of w A B hA hB G x) minus) (w - 1)
    unfolding adder afters target bin
    adder_half =
        ap (value (bits w)) (rounds_keep (updates (distances w)) _ 16 refl refl refl refl)
        ∙ half
      where
        half : bin w A B hA hB (after w A B hA hB (Bit 16 17 (w - 1))
            (after w A B hA hB (Xor 17 17 16)
            (after w A B hA hB (AndKnown 18 17 16) (after w A B hA hB (Public 17 x (Field 0 w)) (after w A B hA hB (DealBits 16 x) G))))) 16
            ≡ bit (bit_xor (m_of w A B hA hB G x) minus) (w - 1)
        half = simp (at_xor, at_bit, at_public_bits, at_deal_bits, keep_bin, keep_m, whole_field)

    pub adder_digit : Digit (afters w A B hA hB (adder w x) G) 16
    unfolding adder afters
    adder_digit = digit_kept _ _ 16 (rounds_keep (updates (distances w)) _ 16 refl refl refl refl) (digit_bit _ 16 17 (w - 1) refl)

  -- it writes the slots 16 to 20
  pub adder_keeps : (x : ℕ) (G : Pt) (i : ℕ) → eqb i 16 ≡ false → eqb i 17 ≡ false → eqb i 18 ≡ false → eqb i 19 ≡ false → eqb i 20 ≡ false
      → share (afters w A B hA hB (adder w x) G).j i ≡ share G.j i
  unfolding adder afters target
  adder_keeps x G i i16 i17 i18 i19 i20 = rounds_keep (updates (distances w)) _ i i17 i18 i19 i20 ∙ simp keep_share

  -- ---- the sign of slot x, as a number in slot 20

  abbrev sign_gates : List Gate
  sign_gates = Bit 20 18 (w - 2) ∷ Xor 20 20 16 ∷ to_number w

  module _ (x : ℕ) (G : Pt) (x16 : eqb x 16 ≡ false) (low : 2 ≤ w) where
    sign_parts : afters w A B hA hB (sign_program w x) G ≡ afters w A B hA hB sign_gates (afters w A B hA hB (adder w x) G)
    unfolding sign_program
    sign_parts = afters_append w A B hA hB (adder w x) sign_gates G

    pub sign_opens : num w A B hA hB (afters w A B hA hB (sign_program w x) G) 20 ≡ bit (num w A B hA hB G x) (w - 1)
    unfolding afters target sign
    sign_opens =
        let H : Pt = afters w A B hA hB (adder w x) G in
        ap (λ (H : Pt). num w A B hA hB H 20) sign_parts
        ∙ number_opens _ low (digit_xor _ 20 20 16 refl (digit_bit H 20 18 (w - 2) refl)
        (digit_kept H _ 16 (keep_16 H) (adder_digit x G x16)))
        ∙ bits_xor H
        ∙ xor_comm (bit (bin w A B hA hB H 18) (w - 2)) (bin w A B hA hB H 16)
        ∙ ap₂ bit_xor (adder_half x G x16) (ap (λ (g : ℕ). bit g (w - 2)) (adder_opens x G x16))
        ∙ sign_bit w (m_of w A B hA hB G x) (minus x G x16) low ∙ ap (λ (v : ℕ). bit v (w - 1)) (value_is x G x16)
      where
        keep_16 : (H : Pt) → share (after w A B hA hB (Bit 20 18 (w - 2)) H).j 16 ≡ share H.j 16
        keep_16 H = simp keep_share

        bits_xor : (H : Pt) → bin w A B hA hB (after w A B hA hB (Xor 20 20 16) (after w A B hA hB (Bit 20 18 (w - 2)) H)) 20
            ≡ bit_xor (bit (bin w A B hA hB H 18) (w - 2)) (bin w A B hA hB H 16)
        bits_xor H = simp (at_xor, at_bit, keep_bin)

    -- x itself is kept
    pub sign_keeps : (i : ℕ) → eqb i 16 ≡ false → eqb i 17 ≡ false → eqb i 18 ≡ false → eqb i 19 ≡ false → eqb i 20 ≡ false
        → share (afters w A B hA hB (sign_program w x) G).j i ≡ share G.j i
    unfolding afters target
    sign_keeps i i16 i17 i18 i19 i20 =
        ap (λ (H : Pt). share H.j i) sign_parts
        ∙ number_keeps _ i i17 i19 i20 ∙ (simp keep_share) ∙ adder_keeps x G i i16 i17 i18 i19 i20

  -- ---- ReLU of slot x into slot d

  module _ (x d : ℕ) (G : Pt) (x16 : eqb x 16 ≡ false) (x17 : eqb x 17 ≡ false) (x18 : eqb x 18 ≡ false) (x19 : eqb x 19 ≡ false)
      (x20 : eqb x 20 ≡ false)
      (hd : ltb d 24 ≡ true) (low : 2 ≤ w) where
    abbrev signed_at : Pt
    signed_at = afters w A B hA hB (sign_program w x) G

    relu_parts : afters w A B hA hB (relu_program w x d) G ≡ afters w A B hA hB (Const 19 1 ∷ Sub 19 19 20 ∷ Mul d x 19 ∷ []) signed_at
    unfolding relu_program
    relu_parts = afters_append w A B hA hB (sign_program w x) (Const 19 1 ∷ Sub 19 19 20 ∷ Mul d x 19 ∷ []) G

    relu_end : num w A B hA hB (afters w A B hA hB (Const 19 1 ∷ Sub 19 19 20 ∷ Mul d x 19 ∷ []) signed_at) d
        ≡ mul w (num w A B hA hB signed_at x) (sub w (1 % 2 ^ w) (num w A B hA hB signed_at 20))
    unfolding afters target
    relu_end = simp (at_mul, at_sub, at_const, keep_num)

    -- x times 1 - s, where s is x's top bit
    pub relu_opens : num w A B hA hB (afters w A B hA hB (relu_program w x d) G) d
        ≡ mul w (num w A B hA hB G x) (sub w (1 % 2 ^ w) (bit (num w A B hA hB G x) (w - 1)))
    unfolding num
    relu_opens =
        ap (λ (H : Pt). num w A B hA hB H d) relu_parts ∙ relu_end
        ∙ ap₂ (λ (v s : ℕ). mul w v (sub w (1 % 2 ^ w) s)) (ap (value (numbers w)) (sign_keeps x G x16 low x x16 x17 x18 x19 x20))
        (sign_opens x G x16 low)

    -- only the slots 16 to 20 and d are written
    pub relu_keeps : (i : ℕ) → eqb i 16 ≡ false → eqb i 17 ≡ false → eqb i 18 ≡ false → eqb i 19 ≡ false → eqb i 20 ≡ false
        → eqb i d ≡ false
        → share (afters w A B hA hB (relu_program w x d) G).j i ≡ share G.j i
    unfolding afters target
    relu_keeps i i16 i17 i18 i19 i20 id =
        ap (λ (H : Pt). share H.j i) relu_parts ∙ (simp keep_share) ∙ sign_keeps x G x16 low i i16 i17 i18 i19 i20
