-- A lane that is given its registers, its slots then, and a lane's registers copied out. Assumes nothing.
use mathlib.Core.Path.{◌≡◌, refl}
use mathlib.Core.List.{[], ◌∷◌, append-nil}
use Prim.Native.Nat.{ℕ, zero, suc}
use native.Mathlib.Omega.{arith}
use borrow.Author.Tests.{le-ltb}
use lib.ListN.{length, take, replicate}
use lib.Seq.{take_all}
use Rattle.word_lists.specs.Copied.{front_copied}
use Rattle.gates.specs.Steps.{Lane, at}
use Rattle.calls.specs.Calls.{fresh}

pub given_registers : (s : Lane) → length s ≡ 16 → front_copied s (replicate 24 0) 16 ≡ fresh s
unfolding front_copied fresh
given_registers s e = rw (le-ltb (length s) 16 (omega (arith, e)), take_all 16 s (omega (arith, e)))

pub taken_registers : (s : Lane) → length s ≡ 24 → front_copied s (replicate 16 0) 16 ≡ take 16 s
unfolding front_copied
taken_registers s e = rw (le-ltb (length s) 16 (omega (arith, e)), append-nil)

-- the slots behind what is given hold the 0 that a lane has past its end
zeros : (n i : ℕ) → at (replicate n 0) i ≡ 0
zeros zero i = refl
zeros (suc n) zero = refl
zeros (suc n) (suc i) = zeros n i

pub fresh_at : (l : Lane) (i : ℕ) → at (fresh l) i ≡ at l i
unfolding fresh
fresh_at [] i = zeros 8 i
fresh_at (x ∷ l) zero = refl
fresh_at (x ∷ l) (suc i) = fresh_at l i
