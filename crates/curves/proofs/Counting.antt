-- How many mask words make one-bit mode open one more. Assumes nothing.
use mathlib.Core.Path.{◌≡◌, refl, sym, ap, ap₂, ◌∙◌}
use mathlib.Core.Bool.{Bool, true, false, cond}
use Prim.Native.Nat.{ℕ, zero, suc, ◌+◌, ◌-◌, ◌*◌, ◌%◌, ◌^◌, ◌≤◌, ◌<◌}
use native.Mathlib.Nat.{add-zero, add-suc, zero-add, zero-mul, mod-eq_of_lt, add-mod_right, add_assoc, add_comm, mul_comm}
use native.Mathlib.Omega.{arith}
use borrow.Author.Tests.{le-leb, lt-leb}
use lib.Dec.{leb}
use lib.Pow.{pow-add}
use Rattle.words.specs.Words.{add}
use Rattle.curves.specs.Count.{count}
use Rattle.truncations.proofs.Truncation.{low_low}

-- tests that agree below n
pub count_same : (n : ℕ) (f g : ℕ → Bool) → ((a : ℕ) → a < n → f a ≡ g a) → count n f ≡ count n g
unfolding count
count_same zero f g h = refl
count_same (suc n) f g h = ap₂ (λ (x : ℕ) (b : Bool). x + cond b 1 0) (count_same n f g (λ a l. h a (omega arith))) (h n (omega arith))

split : (n m : ℕ) (f : ℕ → Bool) → count (n + m) f ≡ count n f + count m (λ a. f (n + a))
unfolding count
split n zero f = ap (λ (x : ℕ). count x f) (add-zero n) ∙ sym (add-zero (count n f))
split n (suc m) f =
    ap (λ (x : ℕ). count x f) (add-suc n m) ∙ ap (λ (x : ℕ). x + cond (f (n + m)) 1 0) (split n m f)
    ∙ add_assoc (count n f) (count m (λ a. f (n + a))) (cond (f (n + m)) 1 0)

all : (n : ℕ) → count n (λ a. true) ≡ n
unfolding count
all zero = refl
all (suc n) = omega (arith, all n)

none : (n : ℕ) → count n (λ a. false) ≡ 0
unfolding count
none zero = refl
none (suc n) = omega (arith, none n)

-- a test of period m: j periods hold j times as many, and it does not matter where a period begins
module _ (m : ℕ) (f : ℕ → Bool) (period : (a : ℕ) → f (m + a) ≡ f a) where
  periods : (j : ℕ) → count (j * m) f ≡ j * count m f
  unfolding count
  periods zero = ap (λ (x : ℕ). count x f) (zero-mul m) ∙ sym (zero-mul (count m f))
  periods (suc j) =
      let e : suc j * m ≡ m + j * m = omega arith in
      ap (λ (x : ℕ). count x f) e ∙ split m (j * m) f
      ∙ omega (arith, count_same (j * m) (λ a. f (m + a)) f (λ a l. period a), periods j)

  shifted : (b : ℕ) → count m (λ a. f (b + a)) ≡ count m f
  shifted b =
      let e : count b f + count m (λ a. f (b + a)) ≡ count m f + count b (λ a. f (m + a)) =
      sym (split b m f) ∙ ap (λ (x : ℕ). count x f) (add_comm b m) ∙ split m b f in
      omega (arith, e, count_same b (λ a. f (m + a)) f (λ a l. period a))

-- the carries of y and a number below m
carried : (m y : ℕ) → y ≤ m → count m (λ a. leb m (y + a)) ≡ y
carried m y h =
    let e : m ≡ m - y + y = omega arith in
    ap (λ (x : ℕ). count x (λ a. leb m (y + a))) e ∙ split (m - y) y (λ a. leb m (y + a))
    ∙ ap₂ ◌+◌
    (count_same (m - y) (λ a. leb m (y + a)) (λ a. false) (λ a l. lt-leb m (y + a) (omega arith)) ∙ none (m - y))
    (count_same y (λ a. leb m (y + (m - y + a))) (λ a. true) (λ a l. le-leb m (y + (m - y + a)) (omega arith)) ∙ all y)
    ∙ zero-add y

-- of the 2^w words a, y × 2^(w-k) have a carry of y and the low k bits of a + b
pub slips : (w k y b : ℕ) → k ≤ w → y ≤ 2 ^ k → count (2 ^ w) (λ a. leb (2 ^ k) (y + add w a b % 2 ^ k)) ≡ y * 2 ^ (w - k)
unfolding add
slips w k y b h l =
    count_same (2 ^ w) (λ a. leb (2 ^ k) (y + (a + b) % 2 ^ w % 2 ^ k)) (λ a. test (b + a))
    (λ a _. ap (λ (x : ℕ). leb (2 ^ k) (y + x)) (low_low w k (a + b) h ∙ ap (λ (x : ℕ). x % 2 ^ k) (add_comm a b)))
    ∙ ap (λ (n : ℕ). count n (λ a. test (b + a))) (ap (λ (x : ℕ). 2 ^ x) (omega arith) ∙ pow-add 2 (w - k) k)
    ∙ periods (2 ^ k) (λ a. test (b + a)) (λ a. ap test (omega arith) ∙ period (b + a)) (2 ^ (w - k))
    ∙ ap (λ (n : ℕ). 2 ^ (w - k) * n)
    (shifted (2 ^ k) test period b
    ∙ count_same (2 ^ k) test (λ a. leb (2 ^ k) (y + a)) (λ a i. ap (λ (x : ℕ). leb (2 ^ k) (y + x)) (mod-eq_of_lt i))
    ∙ carried (2 ^ k) y l)
    ∙ mul_comm (2 ^ (w - k)) y
  where
    test : ℕ → Bool
    test a = leb (2 ^ k) (y + a % 2 ^ k)

    period : (a : ℕ) → test (2 ^ k + a) ≡ test a
    period a = ap (λ (x : ℕ). leb (2 ^ k) (y + x)) (ap (λ (x : ℕ). x % 2 ^ k) (add_comm (2 ^ k) a) ∙ add-mod_right a (2 ^ k))

-- "exactly (Y mod 4096) × 2^20 give one more" at 32 bits, and so at every width of 12 or more
pub slips_of_words : (w y b : ℕ) → 12 ≤ w → y < 4096
    → count (2 ^ w) (λ a. leb 4096 (y + (a + b) % 2 ^ w % 4096)) ≡ y * 2 ^ (w - 12)
unfolding add
slips_of_words w y b o h = slips w 12 y b o (omega arith)
