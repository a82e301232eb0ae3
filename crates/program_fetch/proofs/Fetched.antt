-- The gate at an index of one list of gates after another. Assumes nothing.
use Rattle.std.proofs.Common.{◌≡◌, ℕ, zero, suc, ◌+◌, ◌-◌, ◌<◌, ◌≤◌, List, [], ◌∷◌, ◌++◌, length, refl, ◌∙◌, arith}
use Rattle.gates.specs.Gates.{Gate}
use Rattle.gates.specs.Codes.{fetched}

pub inside : (gs hs : List Gate) (i : ℕ) → i < length gs → fetched gs i ≡ fetched (gs ++ hs) i
unfolding fetched
inside [] hs i h = absurd (omega arith)
inside (g ∷ gs) hs zero h = refl
inside (g ∷ gs) hs (suc i) h = inside gs hs i (omega arith)

pub behind : (gs hs : List Gate) (i j : ℕ) → i ≡ length gs + j → fetched hs j ≡ fetched (gs ++ hs) i
unfolding fetched
behind [] hs i j e = let s : i ≡ j = omega arith in rw s
behind (g ∷ gs) hs zero j e = absurd (omega arith)
behind (g ∷ gs) hs (suc i) j e = behind gs hs i j (omega arith)

-- among others
pub within : (gs hs ks : List Gate) (i : ℕ) → length gs ≤ i → i < length gs + length hs
    → fetched hs (i - length gs) ≡ fetched (gs ++ (hs ++ ks)) i
within gs hs ks i l h =
    inside hs ks (i - length gs) (omega arith) ∙ behind gs (hs ++ ks) i (i - length gs) (omega arith)

-- ---- a `match` on numbers one after another

-- k is none of the n numbers from b on
abbrev pub None : (b n k : ℕ) → Type 0
None b zero k = Unit {0}
None b (suc n) k = None b n k × (k ≡ b + n → ⊥)

pub none_from : (b n k : ℕ) → b ≤ k → None b n k → b + n ≤ k
none_from b zero k l h = omega arith
none_from b (suc n) k l h = let m : b + n ≤ k = none_from b n k l h.0 in let d : k ≡ b + n → ⊥ = h.1 in omega arith

pub none_below : (n k : ℕ) → None 0 n k → n ≤ k
none_below n k h = omega (arith, none_from 0 n k (omega arith) h)

pub above : {n x : ℕ} → n ≤ x → (x ≡ n → ⊥) → suc n ≤ x
above l d = omega arith
