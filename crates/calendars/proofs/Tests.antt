-- Tests of a run of numbers, and what they say of the numbers of the run. Assumes nothing.
use mathlib.Core.Path.{◌≡◌, refl, sym, ◌∙◌}
use mathlib.Core.Bool.{Bool, true, false, ◌||◌}
use Prim.Native.Nat.{ℕ, zero, suc, ◌+◌, ◌<◌}
use native.Mathlib.Nat.{zero-add}
use native.Mathlib.Omega.{arith}
use lib.ListN.{length, get_or}
use Rattle.calendars.specs.Ranges.{every, some, number}
use Rattle.std.specs.Bool.{MatchBool}
use Rattle.std.specs.List.{AllWithin, HoldsAt, range_with_len}
use Rattle.std.proofs.lemmas.List.FromFn.{length-range_with_len, get_or-range_with_len}
use Rattle.calendars.proofs.Ranges.{and, every_below}

module _ (f : ℕ → Bool) where
  pub every_by : (q n : ℕ) → ((k : ℕ) → k < n → f (q + k) ≡ true) → every f q n ≡ true
  unfolding every
  every_by q zero h = refl
  every_by q (suc n) h =
      let a : q + 0 ≡ q = omega arith in
      and (rw a at (h 0 (omega arith)))
      (every_by (suc q) n (λ k l. let b : q + suc k ≡ suc q + k = omega arith in rw b at (h (suc k) (omega arith))))

  pub below_every : (n : ℕ) → ((k : ℕ) → k < n → f k ≡ true) → every f 0 n ≡ true
  below_every n h = every_by 0 n (λ k l. let a : 0 + k ≡ k = omega arith in rw a (h k l))

  -- what `all` over the numbers below n answers
  pub every_answer : (n : ℕ) {r : Bool}
      → MatchBool r (AllWithin (λ k. f k ≡ true) (range_with_len 0 n) 0 (length (range_with_len 0 n)))
      ((k : ℕ) × (k < length (range_with_len 0 n)) × HoldsAt (λ k. f k ≡ false) (range_with_len 0 n) k)
      → r ≡ every f 0 n
  every_answer n {r} = go r
    where
      at : (k : ℕ) → k < n → get_or (range_with_len 0 n) k 0 ≡ k
      at k l = get_or-range_with_len 0 n k 0 l ∙ zero-add k

      go : (b : Bool) → MatchBool b (AllWithin (λ k. f k ≡ true) (range_with_len 0 n) 0 (length (range_with_len 0 n)))
          ((k : ℕ) × (k < length (range_with_len 0 n)) × HoldsAt (λ k. f k ≡ false) (range_with_len 0 n) k)
          → b ≡ every f 0 n
      go true all =
          sym (below_every n (λ k l.
          let e = at k l in rw e at (all k 0 (omega arith) (omega (arith, length-range_with_len 0 n)))))
      go false found =
          let l : found.0 < n = omega (arith, found.1, length-range_with_len 0 n) in
          let e = at found.0 l in
          let fails : f found.0 ≡ false = rw e at (found.2 0) in
          no_every (every f 0 n) refl found.0 l fails
        where
          no_every : (x : Bool) → every f 0 n ≡ x → (k : ℕ) → k < n → f k ≡ false → false ≡ every f 0 n
          no_every false p k l e = sym p
          no_every true p k l e = let holds = every_below f n p k l in cc

  -- a number of the run that the test holds of
  abbrev pub Found : (q n : ℕ) → Type 0
  Found q n = (k : ℕ) × (k < n) × (f (q + k) ≡ true)

  found_here : (q n : ℕ) → f q ≡ true → Found q (suc n)
  found_here q n e = let a : q + 0 ≡ q = omega arith in (0, omega arith, rw a e)

  found_later : (q n : ℕ) → Found (suc q) n → Found q (suc n)
  found_later q n w =
      let a : q + suc w.0 ≡ suc q + w.0 = omega arith in
      let l : w.0 < n = w.1 in
      (suc w.0, omega arith, rw a w.2)

  pub some_found : (q n : ℕ) → some f q n ≡ true → Found q n
  unfolding some
  some_found q zero e = let z : ◌≡◌ {A = ℕ} 0 1 = cc in absurd (omega arith)
  some_found q (suc n) e = go (f q) refl (some_found (suc q) n)
    where
      go : (b : Bool) → f q ≡ b → (some f (suc q) n ≡ true → Found (suc q) n) → Found q (suc n)
      go true h later = found_here q n h
      go false h later = found_later q n (later (rw h at e))

  pub found_some : (q n : ℕ) (k : ℕ) → k < n → f (q + k) ≡ true → some f q n ≡ true
  unfolding some
  found_some q zero k l e = absurd (omega arith)
  found_some q (suc n) zero l e = let a : q + 0 ≡ q = omega arith in let h : f q ≡ true = rw a at e in rw h
  found_some q (suc n) (suc k) l e =
      let a : q + suc k ≡ suc q + k = omega arith in
      or_true (f q) (some f (suc q) n) (found_some (suc q) n k (omega arith) (rw a at e))
    where
      or_true : (x y : Bool) → y ≡ true → (x || y) ≡ true
      or_true true y h = refl
      or_true false y h = h

  -- ---- how many

  pub number_found : (q n : ℕ) → (number f q n ≡ 0 → ⊥) → Found q n
  unfolding number
  number_found q zero h = absurd (h refl)
  number_found q (suc n) h = go (f q) refl (number_found (suc q) n)
    where
      go : (b : Bool) → f q ≡ b → ((number f (suc q) n ≡ 0 → ⊥) → Found (suc q) n) → Found q (suc n)
      go true e later = found_here q n e
      go false e later = found_later q n (later (λ z. h (rw e (omega arith))))

  pub found_number : (q n : ℕ) (k : ℕ) → k < n → f (q + k) ≡ true → 0 < number f q n
  unfolding number
  found_number q zero k l e = absurd (omega arith)
  found_number q (suc n) zero l e = let a : q + 0 ≡ q = omega arith in let h : f q ≡ true = rw a at e in rw h (omega arith)
  found_number q (suc n) (suc k) l e =
      let a : q + suc k ≡ suc q + k = omega arith in
      omega (arith, found_number (suc q) n k (omega arith) (rw a at e))
