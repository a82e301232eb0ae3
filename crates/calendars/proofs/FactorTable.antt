-- The table of factors keeps its rule: one computation over the whole table. Assumes nothing.
use mathlib.Core.Path.{◌≡◌, refl}
use mathlib.Core.Bool.{Bool, true, ◌&&◌}
use mathlib.Core.List.{List, [], ◌∷◌}
use Prim.Native.Nat.{ℕ, zero, suc, ◌+◌, ◌-◌, ◌≤◌, ◌<◌}
use native.Mathlib.Omega.{arith}
use borrow.Author.Tests.{le-leb, lt-leb}
use lib.Dec.{T, eqb, eqb→eq}
use lib.ListN.{length, get_or}
use Rattle.words.proofs.Digits.{both}
use Rattle.calendars.specs.Calendar.{factor}
use Rattle.calendars.specs.Quarters.{tabled}

-- the code's table
unfoldable pub factors : List ℕ
factors =
    65536 ∷ 32768 ∷ 21845 ∷ 16384 ∷ 13107 ∷ 10922 ∷ 9362 ∷ 8192 ∷ 7281 ∷ 6553 ∷ 5957 ∷ 5461 ∷
    5041 ∷ 4681 ∷ 4369 ∷ 4096 ∷ 3855 ∷ 3640 ∷ 3449 ∷ 3276 ∷ 3120 ∷ 2978 ∷ 2849 ∷ 2730 ∷
    2621 ∷ 2520 ∷ 2427 ∷ 2340 ∷ 2259 ∷ 2184 ∷ 2114 ∷ 2048 ∷ 1985 ∷ 1927 ∷ 1872 ∷ 1820 ∷
    1771 ∷ 1724 ∷ 1680 ∷ 1638 ∷ 1598 ∷ 1560 ∷ 1524 ∷ 1489 ∷ 1456 ∷ 1424 ∷ 1394 ∷ 1365 ∷
    1337 ∷ 1310 ∷ 1285 ∷ 1260 ∷ 1236 ∷ 1213 ∷ 1191 ∷ 1170 ∷ 1149 ∷ 1129 ∷ 1110 ∷ 1092 ∷
    1074 ∷ 1057 ∷ 1040 ∷ 1024 ∷ 1008 ∷ 992 ∷ 978 ∷ 963 ∷ 949 ∷ 936 ∷ 923 ∷ 910 ∷
    897 ∷ 885 ∷ 873 ∷ 862 ∷ 851 ∷ 840 ∷ 829 ∷ 819 ∷ 809 ∷ 799 ∷ 789 ∷ 780 ∷
    771 ∷ 762 ∷ 753 ∷ 744 ∷ 736 ∷ 728 ∷ 720 ∷ 712 ∷ 704 ∷ 697 ∷ 689 ∷ 682 ∷ []

-- each entry is the factor of its place, counted from n
unfoldable each_right : ℕ → List ℕ → Bool
each_right n [] = true
each_right n (x ∷ xs) = eqb x (factor n) && each_right (suc n) xs

right_at : (xs : List ℕ) (n : ℕ) → T (each_right n xs) → (k : ℕ) → k < length xs → get_or xs k 0 ≡ factor (n + k)
unfolding each_right
right_at [] n t k l = absurd (omega arith)
right_at (x ∷ xs) n t zero l =
    let a : n + 0 ≡ n = omega arith in
    rw a (eqb→eq x (factor n) (both (eqb x (factor n)) (each_right (suc n) xs) t).0)
right_at (x ∷ xs) n t (suc k) l =
    let a : n + suc k ≡ suc n + k = omega arith in
    rw a (right_at xs (suc n) (both (eqb x (factor n)) (each_right (suc n) xs) t).1 k (omega arith))

all_right : T (each_right 1 factors)
unfolding each_right factors factor
all_right = tt

ninety_six : length factors ≡ 96
unfolding factors
ninety_six = refl

-- ---- what the function `factor` gives

pub factor_none : {n : ℕ} → n ≡ 0 → 0 ≡ tabled n
unfolding tabled factor
factor_none e = rw e

module _ (n : ℕ) where
  pub factor_many : 96 < n → 0 ≡ tabled n
  unfolding tabled
  factor_many h = rw (lt-leb n 96 h)

  pub factor_at : (n ≡ 0 → ⊥) → n ≤ 96 → get_or factors (n - 1) 0 ≡ tabled n
  unfolding tabled
  factor_at h l =
      let p : 0 < n = positive n h in
      let a : 1 + (n - 1) ≡ n = omega arith in
      rw (le-leb n 96 l) (rw a at (right_at factors 1 all_right (n - 1) (omega (arith, ninety_six))))
    where
      positive : (m : ℕ) → (m ≡ 0 → ⊥) → 0 < m
      positive zero e = absurd (e refl)
      positive (suc m) e = omega arith
