-- A list of words in fours: the order at an index, and the orders behind it. Assumes nothing.
use mathlib.Core.Path.{◌≡◌, refl, sym}
use mathlib.Core.List.{List, [], ◌∷◌}
use Prim.Native.Nat.{ℕ, suc, ◌+◌, ◌*◌, ◌/◌, ◌≤◌, ◌<◌}
use native.Mathlib.Numerals.{towards_suc}
use native.Mathlib.Omega.{arith}
use lib.ListN.{length, get_or, drop, length-drop, get_or-eq_default}
use lib.Seq.{drop-cons}
use Rattle.jobs.specs.Job.{orders, order_at}

-- four words of a list
pub four_words : (l : List ℕ) (b : ℕ) → b + 4 ≤ length l
    → drop b l ≡ get_or l b 0 ∷ get_or l (b + 1) 0 ∷ get_or l (b + 2) 0 ∷ get_or l (b + 3) 0 ∷ drop (b + 4) l
four_words l b h =
    let h0 : b < length l = omega arith in
    let h1 : suc b < length l = omega arith in
    let h2 : suc (suc b) < length l = omega arith in
    let h3 : suc (suc (suc b)) < length l = omega arith in
    simp towards_suc (rw (
      drop-cons l b 0 h0,
      drop-cons l (suc b) 0 h1,
      drop-cons l (suc (suc b)) 0 h2,
      drop-cons l (suc (suc (suc b))) 0 h3,
    ))

module _ (ws : List ℕ) (i : ℕ) where
  pub orders_from : i * 4 + 4 ≤ length ws → orders (drop (i * 4) ws) ≡ order_at ws i ∷ orders (drop ((i + 1) * 4) ws)
  unfolding orders
  orders_from h = let e : i * 4 + 4 ≡ (i + 1) * 4 = omega arith in rw (four_words ws (i * 4) h, e)

  none : (l : List ℕ) → length l < 4 → orders l ≡ []
  unfolding orders
  none [] h = refl
  none (a ∷ []) h = refl
  none (a ∷ b ∷ []) h = refl
  none (a ∷ b ∷ c ∷ []) h = refl
  none (a ∷ b ∷ c ∷ d ∷ l) h = absurd (omega arith)

  pub no_more : length ws / 4 ≤ i → orders (drop (i * 4) ws) ≡ []
  no_more h = none (drop (i * 4) ws) (omega (arith, length-drop (i * 4) ws))

  -- ---- the order at an index, word by word

  pub words_of : {k d a c : ℕ} → k ≡ get_or ws (i * 4) 0 → d ≡ get_or ws (i * 4 + 1) 0 → a ≡ get_or ws (i * 4 + 2) 0 → c ≡ get_or ws (i * 4 + 3) 0
      → record { kind = k; target = d; source = a; fourth = c } ≡ order_at ws i
  words_of ek ed ea ec = rw (ek, ed, ea, ec)

  past : (n : ℕ) → length ws ≤ n → 0 ≡ get_or ws n 0
  past n h = sym (get_or-eq_default ws 0 {n = n} h)

  pub past_end : length ws ≤ i → record { kind = 0; target = 0; source = 0; fourth = 0 } ≡ order_at ws i
  past_end h =
      words_of (past (i * 4) (omega arith)) (past (i * 4 + 1) (omega arith)) (past (i * 4 + 2) (omega arith))
      (past (i * 4 + 3) (omega arith))
