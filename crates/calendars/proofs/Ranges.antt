-- Tests of a run of numbers, step by step: what a loop over them needs. Assumes nothing.
use mathlib.Core.Path.{◌≡◌, refl, ap, ◌∙◌}
use mathlib.Core.Bool.{Bool, true, false, ◌&&◌, ◌||◌, cond}
use Prim.Native.Nat.{ℕ, zero, suc, ◌+◌, ◌-◌, ◌≤◌, ◌<◌}
use native.Mathlib.Numerals.{add-one}
use native.Mathlib.Omega.{arith}
use Rattle.calendars.specs.Ranges.{every, some, next}

pub both : (a b : Bool) → (a && b) ≡ true → (a ≡ true) × (b ≡ true)
both true b e = (refl, e)
both false true e = (e, refl)
both false false e = (e, e)

pub and : {a b : Bool} → a ≡ true → b ≡ true → (a && b) ≡ true
and e h = rw (e, h)

module _ (f : ℕ → Bool) where
  -- ---- a loop from q up to a number: the first that the test holds of

  module _ (q to : ℕ) where
    next_turn : q < to → next f q (to - q) ≡ cond (f q) q (next f (q + 1) (to - (q + 1)))
    unfolding next
    next_turn h = let e : to - q ≡ suc (to - suc q) = omega arith in ap (next f q) e ∙ rw (add-one q)

    pub next_stop : q < to → f q ≡ true → q ≡ next f q (to - q)
    next_stop h e = rw (next_turn h, e)

    pub next_go : q < to → f q ≡ false → next f q (to - q) ≡ next f (q + 1) (to - (q + 1))
    next_go h e = next_turn h ∙ rw e

    pub next_done : to ≤ q → q ≡ next f q (to - q)
    unfolding next
    next_done h = let e : to - q ≡ 0 = omega arith in rw e

  -- ---- one number more at the end

  pub some_more : (q n : ℕ) → some f q (suc n) ≡ (some f q n || f (q + n))
  unfolding some
  some_more q zero = let a : q + 0 ≡ q = omega arith in rw a (or_false (f q))
    where
      or_false : (b : Bool) → (b || false) ≡ b
      or_false true = refl
      or_false false = refl
  some_more q (suc n) = let a : q + suc n ≡ suc q + n = omega arith in rw (a, some_more (suc q) n) (or_assoc (f q) (some f (suc q) n) (f (suc q + n)))
    where
      or_assoc : (x y z : Bool) → (x || (y || z)) ≡ ((x || y) || z)
      or_assoc true y z = refl
      or_assoc false y z = refl

  -- ---- one number of a run

  pub every_at : (q n : ℕ) → every f q n ≡ true → (k : ℕ) → k < n → f (q + k) ≡ true
  unfolding every
  every_at q zero e k h = absurd (omega arith)
  every_at q (suc n) e zero h = let a : q + zero ≡ q = omega arith in rw a (both (f q) (every f (suc q) n) e).0
  every_at q (suc n) e (suc k) h =
      let a : q + suc k ≡ suc q + k = omega arith in
      rw a (every_at (suc q) n (both (f q) (every f (suc q) n) e).1 k (omega arith))

  pub every_below : (n : ℕ) → every f 0 n ≡ true → (k : ℕ) → k < n → f k ≡ true
  every_below n e k h = let a : 0 + k ≡ k = omega arith in rw a at (every_at 0 n e k h)
