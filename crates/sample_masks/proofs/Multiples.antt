-- A list filled with multiples, word by word. Assumes nothing.
use Rattle.std.proofs.Common.{◌≡◌, ℕ, zero, suc, ◌+◌, ◌*◌, ◌%◌, ◌^◌, ◌<◌, ◌≤◌, List, length, get_or, set, sym, refl, ap, ◌∙◌, append-nil, add-zero, mod-lt, mul-suc, arith, take_all, pow_pos}
use native.Mathlib.Nat.{mod-add-mod}
use lib.Seq.{drop-length}
use Rattle.words.proofs.Copying.{copied, copy_more}
use Rattle.sample_masks.specs.Masks.{multiples}

pub multiples_length : (f j n : ℕ) → length (multiples f j n) ≡ n
unfolding multiples
multiples_length f j zero = refl
multiples_length f j (suc n) = ap suc (multiples_length f (suc j) n)

pub multiples_at : (f j n i : ℕ) → i < n → get_or (multiples f j n) i 0 ≡ f * (j + i) % 2 ^ 32
unfolding multiples
multiples_at f j zero i h = absurd (omega arith)
multiples_at f j (suc n) zero h = ap (λ (x : ℕ). f * x % 2 ^ 32) (sym (add-zero j))
multiples_at f j (suc n) (suc i) h = multiples_at f (suc j) n i (omega arith) ∙ ap (λ (x : ℕ). f * x % 2 ^ 32) (omega arith)

-- every word of the list, and 0 past its end
pub multiples_fit : (f j n i : ℕ) → get_or (multiples f j n) i 0 < 2 ^ 32
unfolding multiples
multiples_fit f j zero i = pow_pos 32
multiples_fit f j (suc n) zero = mod-lt _ (pow_pos 32)
multiples_fit f j (suc n) (suc i) = multiples_fit f (suc j) n i

-- the next word is one more multiple
pub next_multiple : (f k word : ℕ) → word ≡ f * k % 2 ^ 32 → (word + f) % 2 ^ 32 ≡ f * suc k % 2 ^ 32
next_multiple f k word e = ap (λ (x : ℕ). (x + f) % 2 ^ 32) e ∙ mod-add-mod (f * k) (2 ^ 32) f
    ∙ ap (λ (x : ℕ). x % 2 ^ 32) (omega (arith, mul-suc f k))

-- word i of the list is written
pub fill_more : (d : List ℕ) (f o i word : ℕ) → i < length d → word ≡ f * suc (o + i) % 2 ^ 32
    → set (copied d (multiples f (o + 1) (length d)) i) i word ≡ copied d (multiples f (o + 1) (length d)) (i + 1)
fill_more d f o i word h e =
    ap (set (copied d (multiples f (o + 1) (length d)) i) i)
    (e ∙ ap (λ (x : ℕ). f * x % 2 ^ 32) (omega arith) ∙ sym (multiples_at f (o + 1) (length d) i h))
    ∙ copy_more d (multiples f (o + 1) (length d)) i h (omega (arith, multiples_length f (o + 1) (length d)))

pub filled : (d : List ℕ) (f o i : ℕ) → length d ≤ i → i ≤ length d
    → copied d (multiples f (o + 1) (length d)) i ≡ multiples f (o + 1) (length d)
filled d f o i h k =
    let e : i ≡ length d = omega arith in
    rw (
      e,
      take_all (length d) (multiples f (o + 1) (length d)) (omega (arith, multiples_length f (o + 1) (length d))),
      drop-length d,
      append-nil,
    )
