-- The decimal digits of a number are those that the library writes: the last behind those of a tenth, and how many there
-- are. Assumes nothing.
use mathlib.Core.Path.{◌≡◌, sym, ap, ap₂, ◌∙◌}
use mathlib.Core.Logic.{⊎_elim}
use mathlib.Core.List.{List, [], ◌∷◌, ◌++◌}
use Prim.Native.Nat.{ℕ, zero, suc, ◌+◌, ◌/◌, ◌%◌, ◌^◌, ◌*◌, ◌≤◌, ◌<◌}
use native.Mathlib.Nat.{pow-suc, div-lt_iff_lt-mul}
use native.Mathlib.Omega.{arith}
use borrow.Author.Tests.{lt-ltb, le-ltb}
use lib.ListN.{length, length-append}
use Rattle.std.specs.Fmt as Fmt
use Rattle.std.proofs.lemmas.Fmt.{AppendsLastDigit, decimal_from_appends, decimal_digit, decimal_step, length-decimal-le}
use Rattle.text_lines.specs.Buffers.{Buffer, with_bytes}
use Rattle.text_lines.proofs.Buffers.{behind}
use Rattle.text_lines.proofs.Chunks.{less_or_not}
use Rattle.text_prints.specs.Printed.{decimal, shown}

appends : AppendsLastDigit decimal
unfolding decimal
appends =
    record {
      one = λ (k n : ℕ) (h : n < 10). rw (lt-ltb n 10 h);
      more = λ (k n : ℕ) (h : 10 ≤ n). rw (le-ltb n 10 h);
    }

tenth : (k n : ℕ) → n < 10 ^ suc k → n / 10 < 10 ^ k
tenth k n h =
    let l : n < 10 ^ k * 10 = rw pow-suc at h in
    (div-lt_iff_lt-mul {k = 10} {x = n} {y = 10 ^ k} (omega arith)).1 l

library_digits : (n : ℕ) → n < 2 ^ 64 → shown n ≡ Fmt.decimal n
unfolding shown
library_digits n h = decimal_from_appends decimal appends 20 n h (length-decimal-le 20 n (omega arith) (omega arith) h)

-- the last digit of a number below ten, in a text
pub only_digit : {b : Buffer} (t : Buffer) (n d : ℕ) → n < 10 → b ≡ with_bytes 80 t (d ∷ []) → d ≡ 48 + n % 10
    → b ≡ with_bytes 80 t (shown n)
only_digit t n d h p g =
    let e : shown n ≡ d ∷ [] =
    library_digits n (omega arith) ∙ decimal_digit n h ∙ ap (λ (m : ℕ). m ∷ []) (omega arith) in
    rw e p

-- the last digit behind the others, in a text
pub last_digit : {a b : Buffer} (t : Buffer) (n d : ℕ) → 10 ≤ n → n < 2 ^ 64 → a ≡ with_bytes 80 t (shown (n / 10))
    → b ≡ with_bytes 80 a (d ∷ []) → d ≡ 48 + n % 10 → b ≡ with_bytes 80 t (shown n)
last_digit t n d h f p q g =
    let e : shown n ≡ shown (n / 10) ++ (d ∷ []) =
    library_digits n f
    ∙ decimal_step n h f
    ∙ ap₂ (λ (s : List ℕ) (m : ℕ). s ++ (m ∷ [])) (sym (library_digits (n / 10) (omega arith))) (sym g) in
    rw e (behind 80 t (shown (n / 10)) (d ∷ []) p q)

few : (places k n : ℕ) → n < 10 ^ suc k → length (decimal places n) ≤ suc k
unfolding decimal
few zero k n h = omega arith
few (suc p) zero n h = rw (appends.one p n h) (omega arith)
few (suc p) (suc k) n h =
    ⊎_elim
    (λ (l : n < 10). rw (appends.one p n l) (omega arith))
    (λ (l : 10 ≤ n).
    rw (appends.more p n l, length-append) (omega (arith, few p k (n / 10) (tenth (suc k) n h))))
    (less_or_not n 10)

-- as many digits as a power of ten has zeros, of every number
pub shown_length : (k n : ℕ) → n < 10 ^ suc k → length (shown n) ≤ suc k
unfolding shown
shown_length k n h = few 20 k n h
