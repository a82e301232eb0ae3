-- The code's tests and sums are those of `split` and `reconstruction`; and splitting, then opening, gives back the reading. Assumes
-- nothing.
use Rattle.std.proofs.Common.{◌≡◌, ℕ, ◌+◌, ◌-◌, ◌%◌, ◌^◌, ◌<◌, ◌≤◌, Bool, true, false, not, T, ◌≢◌, ℤ, pos, negsuc, sym, refl, ap, ◌∙◌, ap₂, mod-lt, arith, pow_pos, pow_mono, w64, SFits, to_z, of_z, ltb-false, ltb-true, eq-eqb, ne_eqb, le-leb}
use borrow.Author.Tests.{lt-leb}
use lib.Signed.{le_z, lt_z}
use mir.ValLaws.{to_z-of_z}
use Rattle.words.specs.Words.{add, sub, numbers}
use Rattle.words.specs.Signed.{signed, wrap, in_range}
use Rattle.words.proofs.Words.{sub_of, Word}
use Rattle.words.proofs.Signed.{wrap_lt, signed_wrap, in_range_mag}
use Rattle.shares.specs.Gates.{Share, value, masked}
use Rattle.shares.specs.Sharing.{Six, hand_out, nothing, split, agree, reconstruction}
use Rattle.shares.proofs.Gates.{numbers_open}

-- ---- the code's tests

turn : (a z : ℤ) (b : Bool) → lt_z z a ≡ b → le_z a z ≡ not b
turn (pos a) (pos z) true t = lt-leb a z (ltb-true z a t)
turn (pos a) (pos z) false t = le-leb a z (ltb-false z a t)
turn (pos a) (negsuc z) true t = refl
turn (pos a) (negsuc z) false t = let f : ◌≡◌ {A = ℕ} 0 1 = cc in absurd (omega arith)
turn (negsuc a) (pos z) true t = let f : ◌≡◌ {A = ℕ} 0 1 = cc in absurd (omega arith)
turn (negsuc a) (pos z) false t = refl
turn (negsuc a) (negsuc z) true t = lt-leb z a (ltb-true a z t)
turn (negsuc a) (negsuc z) false t = le-leb z a (ltb-false a z t)

not_not : (b : Bool) → not (not b) ≡ b
not_not true = refl
not_not false = refl

-- the other way: z < a exactly if not a ≤ z
turn_back : (a z : ℤ) (b : Bool) → le_z a z ≡ b → lt_z z a ≡ not b
turn_back a z b t = sym (not_not (lt_z z a)) ∙ ap not (sym (turn a z (lt_z z a) refl) ∙ t)

module _ (z : ℤ) (h : SFits w64 z) (l1 l2 : ℕ) where
  pub too_low : lt_z (to_z w64 (of_z w64 z)) (negsuc 1073741823) ≡ true → (11, nothing) ≡ split 32 z l1 l2
  unfolding split in_range
  too_low t = rw (turn (negsuc 1073741823) z true (rw (to_z-of_z w64 z h) at t))

  module _ (t : lt_z (to_z w64 (of_z w64 z)) (negsuc 1073741823) ≡ false) where
    low : le_z (negsuc 1073741823) z ≡ true
    low = turn (negsuc 1073741823) z false (rw (to_z-of_z w64 z h) at t)

    pub too_high : le_z (pos 1073741824) (to_z w64 (of_z w64 z)) ≡ true → (11, nothing) ≡ split 32 z l1 l2
    unfolding split in_range
    too_high u = rw (low, turn_back (pos 1073741824) z true (rw (to_z-of_z w64 z h) at u))

    pub accepted : le_z (pos 1073741824) (to_z w64 (of_z w64 z)) ≡ false → (m mask word : ℕ)
        → mask ≡ (l1 + l2) % 2 ^ 32 → word ≡ wrap 32 (to_z w64 (of_z w64 z)) → m ≡ (word + mask) % 2 ^ 32
        → (0, hand_out (record { m = m; l1 = l1; l2 = l2 })) ≡ split 32 z l1 l2
    unfolding split in_range add
    accepted u m mask word e f g =
        rw (low, turn_back (pos 1073741824) z false (rw (to_z-of_z w64 z h) at u))
        (ap {B = ℕ × Six} (λ (y : ℕ). (0, hand_out (record { m = y; l1 = l1; l2 = l2 })))
        (g ∙ ap₂ (λ (x y : ℕ). (x + y) % 2 ^ 32) (f ∙ ap (wrap 32) (to_z-of_z w64 z h)) e))

-- ---- opening

module _ (w : ℕ) (s : Six) where
  pub not_l1 : s.l1_of_0 ≢ s.l1_of_1 → (10, pos 0) ≡ reconstruction w s
  unfolding reconstruction
  not_l1 f = rw (ne_eqb s.l1_of_0 s.l1_of_1 f)

  module _ (e : s.l1_of_0 ≡ s.l1_of_1) where
    pub not_l2 : s.l2_of_0 ≢ s.l2_of_2 → (10, pos 0) ≡ reconstruction w s
    unfolding reconstruction
    not_l2 f = rw (eq-eqb s.l1_of_0 s.l1_of_1 e, ne_eqb s.l2_of_0 s.l2_of_2 f)

    module _ (f : s.l2_of_0 ≡ s.l2_of_2) where
      pub not_m : s.m_of_1 ≢ s.m_of_2 → (10, pos 0) ≡ reconstruction w s
      unfolding reconstruction
      not_m g = rw (eq-eqb s.l1_of_0 s.l1_of_1 e, eq-eqb s.l2_of_0 s.l2_of_2 f, ne_eqb s.m_of_1 s.m_of_2 g)

      pub opened : s.m_of_1 ≡ s.m_of_2 → (mask x : ℕ) (z : ℤ) → x < 2 ^ w → SFits w64 z
          → mask ≡ (s.l1_of_0 + s.l2_of_0) % 2 ^ w → (x + mask) % 2 ^ w ≡ s.m_of_1 → z ≡ signed w x
          → (0, to_z w64 (of_z w64 z)) ≡ reconstruction w s
      unfolding reconstruction add
      opened g mask x z hx hz i j k =
          rw (eq-eqb s.l1_of_0 s.l1_of_1 e, eq-eqb s.l2_of_0 s.l2_of_2 f, eq-eqb s.m_of_1 s.m_of_2 g)
          (ap {B = ℕ × ℤ} (λ (y : ℤ). (0, y))
          (to_z-of_z w64 z hz ∙ k
          ∙ ap (signed w)
          (sub_of w x mask hx (rw i (mod-lt (s.l1_of_0 + s.l2_of_0) (pow_pos w))) j ∙ ap (sub w s.m_of_1) i)))

-- ---- splitting, then opening

is_true : (b : Bool) → T b → b ≡ true
is_true true t = refl
is_true false t = absurd t

agreed : (s : Share ℕ) → agree (hand_out s) ≡ true
agreed s = rw (eq-eqb s.l1 s.l1 refl, eq-eqb s.l2 s.l2 refl, eq-eqb s.m s.m refl)

-- the six words of one share open to its value: 10 is never met
pub share_opens : (w : ℕ) (s : Share ℕ) → reconstruction w (hand_out s) ≡ (0, signed w (value (numbers w) s))
unfolding reconstruction
share_opens w s = rw (agreed s)

-- "splitting then opening gives back the reading": for every reading in range and every two masks
pub round_trip : (w : ℕ) (reading : ℤ) (l1 l2 : ℕ) → 2 ≤ w → T (in_range w reading) → l1 < 2 ^ w → l2 < 2 ^ w
    → ((split w reading l1 l2).0 ≡ 0) × (reconstruction w (split w reading l1 l2).1 ≡ (0, reading))
unfolding split reconstruction
round_trip w z l1 l2 o r h1 h2 =
    let e : in_range w z ≡ true = is_true (in_range w z) r in
    let s : Share ℕ = masked (numbers w) (wrap w z) l1 l2 in
    let v : value (numbers w) s ≡ wrap w z =
    ap (λ (x : Word w). x.0) ((numbers_open w).masked_opens (wrap w z, wrap_lt w z) (l1, h1) (l2, h2)) in
    let q : 2 ^ (w - 2) ≤ 2 ^ (w - 1) = pow_mono (omega arith) in
    rw e (
      refl,
      rw (agreed s) (ap {B = ℕ × ℤ} (λ (y : ℤ). (0, y))
          (ap (signed w) v ∙ signed_wrap w z (omega arith) (omega (arith, in_range_mag w z r)))),
    )

-- and a reading outside is refused
pub outside : (w : ℕ) (reading : ℤ) (l1 l2 : ℕ) → in_range w reading ≡ false → split w reading l1 l2 ≡ (11, nothing)
unfolding split
outside w z l1 l2 e = rw e
