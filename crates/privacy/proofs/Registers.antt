-- The registers' masks, moved by the difference of two lists of values: the same m, and back again. Assumes nothing.
use mathlib.Core.Path.{◌≡◌, refl, sym, ap, ap₂, ◌∙◌}
use mathlib.Core.List.{List, [], ◌∷◌}
use Prim.Native.Nat.{ℕ, zero, suc, ◌^◌, ◌<◌}
use native.Mathlib.Omega.{arith}
use lib.ListN.{length, replicate}
use lib.Pow.{pow_pos}
use Rattle.words.specs.Words.{add, sub, numbers}
use Rattle.words.proofs.Solver.{exprs}
use Rattle.words.proofs.Words.{add_lt, sub_lt}
use Rattle.words.proofs.Below.{number_carrier, solve_below}
use Rattle.shares.specs.Gates.{masked}
use Rattle.gates.specs.Steps.{Lane, at}
use Rattle.calls.specs.Calls.{fresh}
use Rattle.programs.proofs.Gates.{Fits}
use Rattle.runs.proofs.Gated.{fits_append, fits_zeros}
use Rattle.privacy.specs.Unseen.{moved}
use Rattle.privacy.specs.Privacy.{mask_all}

module _ (w : ℕ) where
  -- ---- one register

  second_moved : (x : ℕ) → x < 2 ^ w → (y : ℕ) → y < 2 ^ w → (a : ℕ) → a < 2 ^ w → (b : ℕ) → b < 2 ^ w
      → (masked (numbers w) x a b).m ≡ (masked (numbers w) y a (sub w (add w b x) y)).m
  second_moved =
      solve_below w (numbers w) (number_carrier w) 4
      (λ x y a b. ((masked exprs x a b).m, (masked exprs y a (exprs.sub (exprs.add b x) y)).m)) refl

  first_moved : (x : ℕ) → x < 2 ^ w → (y : ℕ) → y < 2 ^ w → (a : ℕ) → a < 2 ^ w → (b : ℕ) → b < 2 ^ w
      → (masked (numbers w) x a b).m ≡ (masked (numbers w) y (sub w (add w a x) y) b).m
  first_moved =
      solve_below w (numbers w) (number_carrier w) 4
      (λ x y a b. ((masked exprs x a b).m, (masked exprs y (exprs.sub (exprs.add a x) y) b).m)) refl

  move_back : (x : ℕ) → x < 2 ^ w → (y : ℕ) → y < 2 ^ w → (l : ℕ) → l < 2 ^ w → sub w (add w (sub w (add w l x) y) y) x ≡ l
  move_back =
      solve_below w (numbers w) (number_carrier w) 3
      (λ x y l. (exprs.sub (exprs.add (exprs.sub (exprs.add l x) y) y) x, l)) refl

  pub move_none : (x : ℕ) → x < 2 ^ w → (l : ℕ) → l < 2 ^ w → sub w (add w l x) x ≡ l
  move_none = solve_below w (numbers w) (number_carrier w) 2 (λ x l. (exprs.sub (exprs.add l x) x, l)) refl

  -- ---- all of them

  pub moved_length : (x y l : List ℕ) → length x ≡ length l → length y ≡ length l → length (moved w x y l) ≡ length l
  unfolding moved
  moved_length [] y l h k = h
  moved_length (x ∷ xs) [] l h k = k
  moved_length (x ∷ xs) (y ∷ ys) [] h k = refl
  moved_length (x ∷ xs) (y ∷ ys) (l ∷ ls) h k = ap suc (moved_length xs ys ls (omega arith) (omega arith))

  pub moved_fits : (x y l : List ℕ) → Fits w (moved w x y l)
  unfolding moved
  moved_fits [] y l i = pow_pos w
  moved_fits (x ∷ xs) [] l i = pow_pos w
  moved_fits (x ∷ xs) (y ∷ ys) [] i = pow_pos w
  moved_fits (x ∷ xs) (y ∷ ys) (l ∷ ls) zero = sub_lt w _ _
  moved_fits (x ∷ xs) (y ∷ ys) (l ∷ ls) (suc i) = moved_fits xs ys ls i

  pub masked_fits : (x l1 l2 : List ℕ) → Fits w (mask_all w x l1 l2)
  unfolding mask_all
  masked_fits [] l1 l2 i = pow_pos w
  masked_fits (x ∷ xs) [] l2 i = pow_pos w
  masked_fits (x ∷ xs) (a ∷ l1) [] i = pow_pos w
  masked_fits (x ∷ xs) (a ∷ l1) (b ∷ l2) zero = add_lt w _ _
  masked_fits (x ∷ xs) (a ∷ l1) (b ∷ l2) (suc i) = masked_fits xs l1 l2 i

  pub same_m1 : (x y l1 l2 : List ℕ) → length x ≡ length l2 → length y ≡ length l2 → length l1 ≡ length l2 → Fits w x → Fits w y
      → Fits w l1 → Fits w l2
      → mask_all w x l1 l2 ≡ mask_all w y l1 (moved w x y l2)
  unfolding mask_all moved
  same_m1 [] [] l1 l2 h k n p q r s = refl
  same_m1 [] (y ∷ ys) l1 l2 h k n p q r s = absurd (omega arith)
  same_m1 (x ∷ xs) [] l1 l2 h k n p q r s = absurd (omega arith)
  same_m1 (x ∷ xs) (y ∷ ys) [] l2 h k n p q r s = refl
  same_m1 (x ∷ xs) (y ∷ ys) (a ∷ l1) [] h k n p q r s = absurd (omega arith)
  same_m1 (x ∷ xs) (y ∷ ys) (a ∷ l1) (b ∷ l2) h k n p q r s =
      ap₂ {C = Lane} (λ (m : ℕ) (t : Lane). m ∷ t) (second_moved x (p 0) y (q 0) a (r 0) b (s 0))
      (same_m1 xs ys l1 l2 (omega arith) (omega arith) (omega arith) (λ i. p (suc i)) (λ i. q (suc i)) (λ i. r (suc i)) (λ i. s (suc i)))

  pub same_m2 : (x y l1 l2 : List ℕ) → length x ≡ length l2 → length y ≡ length l2 → length l1 ≡ length l2 → Fits w x → Fits w y
      → Fits w l1 → Fits w l2
      → mask_all w x l1 l2 ≡ mask_all w y (moved w x y l1) l2
  unfolding mask_all moved
  same_m2 [] [] l1 l2 h k n p q r s = refl
  same_m2 [] (y ∷ ys) l1 l2 h k n p q r s = absurd (omega arith)
  same_m2 (x ∷ xs) [] l1 l2 h k n p q r s = absurd (omega arith)
  same_m2 (x ∷ xs) (y ∷ ys) [] l2 h k n p q r s = refl
  same_m2 (x ∷ xs) (y ∷ ys) (a ∷ l1) [] h k n p q r s = absurd (omega arith)
  same_m2 (x ∷ xs) (y ∷ ys) (a ∷ l1) (b ∷ l2) h k n p q r s =
      ap₂ {C = Lane} (λ (m : ℕ) (t : Lane). m ∷ t) (first_moved x (p 0) y (q 0) a (r 0) b (s 0))
      (same_m2 xs ys l1 l2 (omega arith) (omega arith) (omega arith) (λ i. p (suc i)) (λ i. q (suc i)) (λ i. r (suc i)) (λ i. s (suc i)))

  pub moved_back : (x y l : List ℕ) → length x ≡ length l → length y ≡ length l → Fits w x → Fits w y → Fits w l
      → moved w y x (moved w x y l) ≡ l
  unfolding moved
  moved_back [] [] [] h k p q r = refl
  moved_back [] [] (l ∷ ls) h k p q r = absurd (omega arith)
  moved_back [] (y ∷ ys) [] h k p q r = absurd (omega arith)
  moved_back [] (y ∷ ys) (l ∷ ls) h k p q r = absurd (omega arith)
  moved_back (x ∷ xs) [] [] h k p q r = refl
  moved_back (x ∷ xs) [] (l ∷ ls) h k p q r = absurd (omega arith)
  moved_back (x ∷ xs) (y ∷ ys) [] h k p q r = refl
  moved_back (x ∷ xs) (y ∷ ys) (l ∷ ls) h k p q r =
      ap₂ {C = Lane} (λ (m : ℕ) (t : Lane). m ∷ t) (move_back x (p 0) y (q 0) l (r 0))
      (moved_back xs ys ls (omega arith) (omega arith) (λ i. p (suc i)) (λ i. q (suc i)) (λ i. r (suc i)))

  pub moved_kept : (x y l : List ℕ) → length x ≡ length l → length y ≡ length l → Fits w x → Fits w l → (i : ℕ) → at x i ≡ at y i
      → at (moved w x y l) i ≡ at l i
  unfolding moved
  moved_kept [] y [] h k p r i e = refl
  moved_kept [] y (l ∷ ls) h k p r i e = absurd (omega arith)
  moved_kept (x ∷ xs) [] [] h k p r i e = refl
  moved_kept (x ∷ xs) [] (l ∷ ls) h k p r i e = absurd (omega arith)
  moved_kept (x ∷ xs) (y ∷ ys) [] h k p r i e = refl
  moved_kept (x ∷ xs) (y ∷ ys) (l ∷ ls) h k p r zero e = ap (λ (z : ℕ). sub w (add w l x) z) (sym e) ∙ move_none x (p 0) l (r 0)
  moved_kept (x ∷ xs) (y ∷ ys) (l ∷ ls) h k p r (suc i) e =
      moved_kept xs ys ls (omega arith) (omega arith) (λ n. p (suc n)) (λ n. r (suc n)) i e

  -- ---- with the temporaries behind

  pub zeros_fit : (n : ℕ) → Fits w (replicate n 0)
  zeros_fit = fits_zeros w

  pub fresh_fits : (l : Lane) → Fits w l → Fits w (fresh l)
  unfolding fresh
  fresh_fits l h = fits_append w l (replicate 8 0) h (zeros_fit 8)
