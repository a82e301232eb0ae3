-- Two lists of n values with masks: the masks of the second, moved by the difference of the values, hide it as those of the first hide the
-- first. Assumes nothing.
use mathlib.Core.Path.{◌≡◌, refl, sym, ◌∙◌}
use mathlib.Core.List.{List, [], ◌∷◌}
use Prim.Native.Nat.{ℕ, zero, suc}
use lib.ListN.{length}
use lib.Pow.{pow_pos}
use Rattle.words.proofs.Words.{add-zero}
use Rattle.gates.specs.Steps.{at}
use Rattle.gates.specs.Costs.{Cost}
use Rattle.privacy.specs.Privacy.{Masks, mask_all, Given, Enough, NotGiven}
use Rattle.privacy.specs.Unseen.{moved}
use Rattle.privacy.proofs.Registers.{moved_length, moved_fits, same_m1, same_m2, moved_back, moved_kept}

pub masks_path : {M N : Masks} → M.l1 ≡ N.l1 → M.l2 ≡ N.l2 → M.A ≡ N.A → M.B ≡ N.B → M ≡ N
masks_path p q r s = λ i. record { l1 = p i; l2 = q i; A = r i; B = s i }

-- ---- a register not given: m of a zero with masks of zero

pub mask_none : (w : ℕ) (x l1 l2 : List ℕ) (i : ℕ) → at x i ≡ 0 → at l1 i ≡ 0 → at l2 i ≡ 0 → at (mask_all w x l1 l2) i ≡ 0
unfolding mask_all
mask_none w [] l1 l2 i p q r = refl
mask_none w (x ∷ xs) [] l2 i p q r = refl
mask_none w (x ∷ xs) (a ∷ l1) [] i p q r = refl
mask_none w (x ∷ xs) (a ∷ l1) (b ∷ l2) zero p q r = rw (p, q, r, add-zero w 0 (pow_pos w)) (add-zero w 0 (pow_pos w))
mask_none w (x ∷ xs) (a ∷ l1) (b ∷ l2) (suc i) p q r = mask_none w xs l1 l2 i p q r

module _ (w n : ℕ) (need : Cost) (x y : List ℕ) (M : Masks) (hx : Given w n x) (hy : Given w n y) (hM : Enough w n need M) where
  many : (l : List ℕ) → Given w n l → {z : List ℕ} → Given w n z → length z ≡ length l
  many l h k = k.many ∙ sym h.many

  pub moved_given : (l : List ℕ) → Given w n l → Given w n (moved w x y l)
  moved_given l h = record { many = moved_length w x y l (many l h hx) (many l h hy) ∙ h.many; words = moved_fits w x y l }

  pub there_and_back : (l : List ℕ) → Given w n l → moved w y x (moved w x y l) ≡ l
  there_and_back l h = moved_back w x y l (many l h hx) (many l h hy) hx.words hy.words h.words

  kept : (l : List ℕ) → Given w n l → (i : ℕ) → at x i ≡ 0 → at y i ≡ 0 → at l i ≡ 0 → at (moved w x y l) i ≡ 0
  kept l h i e f g = moved_kept w x y l (many l h hx) (many l h hy) hx.words h.words i (e ∙ sym f) ∙ g

  -- the second masks moved: m is the same, and what is not given is zero
  pub m1 : mask_all w x M.l1 M.l2 ≡ mask_all w y M.l1 (moved w x y M.l2)
  m1 =
      same_m1 w x y M.l1 M.l2 (many _ hM.l2 hx) (many _ hM.l2 hy) (many _ hM.l2 hM.l1) hx.words hy.words
      hM.l1.words hM.l2.words

  pub not_given1 : (A B : List ℕ) (i : ℕ) → NotGiven w x M i → at y i ≡ 0
      → NotGiven w y (record { l1 = M.l1; l2 = moved w x y M.l2; A = A; B = B }) i
  not_given1 A B i g e =
      let k = kept M.l2 hM.l2 i g.value e g.l2 in
      record { value = e; m = mask_none w y M.l1 (moved w x y M.l2) i e g.l1 k; l1 = g.l1; l2 = k }

  -- the first masks
  pub m2 : mask_all w x M.l1 M.l2 ≡ mask_all w y (moved w x y M.l1) M.l2
  m2 =
      same_m2 w x y M.l1 M.l2 (many _ hM.l2 hx) (many _ hM.l2 hy) (many _ hM.l2 hM.l1) hx.words hy.words
      hM.l1.words hM.l2.words

  pub not_given2 : (A B : List ℕ) (i : ℕ) → NotGiven w x M i → at y i ≡ 0
      → NotGiven w y (record { l1 = moved w x y M.l1; l2 = M.l2; A = A; B = B }) i
  not_given2 A B i g e =
      let k = kept M.l1 hM.l1 i g.value e g.l1 in
      record { value = e; m = mask_none w y (moved w x y M.l1) M.l2 i e k g.l2; l1 = k; l2 = g.l2 }
