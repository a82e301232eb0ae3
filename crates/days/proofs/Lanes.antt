-- The lane of a host's code in the day's lane: the code has 24 slots, with the share of the order at hand in slot 15, and the day has
-- those slots, its own word in slot 15, and the shares behind. Assumes nothing.
use mathlib.Core.Path.{◌≡◌, refl, sym, ap, ap₂, subst, ◌∙◌}
use mathlib.Core.Bool.{Bool, true, false, cond}
use mathlib.Core.List.{List, [], ◌∷◌, ◌++◌, append_assoc}
use Prim.Native.Nat.{ℕ, zero, suc, ◌+◌, ◌*◌, ◌≤◌, ◌<◌}
use native.Mathlib.Omega.{arith}
use borrow.Author.Tests.{eqb-true, eqb-false, ltb-true, ltb-false}
use lib.Dec.{eqb, ltb, lit<}
use lib.ListN.{length, set, take, replicate, length-set, length-append, get_or-eq_default, get_or-append}
use lib.Seq.{get_or-set_same, get_or-set_other, set-get_or, get_or-append-add, take_all, take-append_seam, take-append-le, set-append_left, set_out, set_comm, set-set}
use Rattle.gates.specs.Steps.{Lane, at}
use Rattle.gates.specs.Hosts.{Pair}
use Rattle.calls.specs.Calls.{fresh, fresh2}
use Rattle.days.specs.DayCalls.{firsts, seconds, day_given}
use Rattle.days.specs.Orders.{within, first_tail, second_tail}
use Rattle.days.proofs.Moved.{Ready, Embeds}

-- slot i of the code's lane is this slot of the day's: slot 15 the share of order q, and a slot that the code has not is
-- none of the day's
unfoldable pub place : (q i : ℕ) → ℕ
place q i = cond (eqb i 15) (24 + q) (cond (ltb i 24) i (200 + i))

module _ (q k : ℕ) (tail : Lane) (short : length tail ≤ 104) where
  module _ (c : Lane) (r : Ready (at tail q) c) where
    size : length (c ++ tail) ≤ 128
    size = omega (arith, length-append c tail, r.long)

    large_size : length (within k tail c) ≤ 128
    unfolding within
    large_size = omega (arith, size, length-set (c ++ tail) 15 k)

    behind : at (within k tail c) (24 + q) ≡ at tail q
    unfolding within
    behind =
        get_or-set_other (c ++ tail) 15 (24 + q) k 0 (λ e. omega arith)
        ∙ subst (λ (n : ℕ). at (c ++ tail) (n + q) ≡ at tail q) r.long (get_or-append-add c tail q 0)

    seen_at : (i : ℕ) → at (within k tail c) (place q i) ≡ at c i
    unfolding within place
    seen_at i = go (eqb i 15) (ltb i 24) refl refl
      where
        go : (a b : Bool) → eqb i 15 ≡ a → ltb i 24 ≡ b
            → at (set (c ++ tail) 15 k) (cond a (24 + q) (cond b i (200 + i))) ≡ at c i
        go true b e f = behind ∙ sym r.holds ∙ ap (at c) (sym (eqb-true i 15 e))
        go false true e f =
            let l = ltb-true i 24 f in
            get_or-set_other (c ++ tail) 15 i k 0 (eqb-false i 15 e) ∙ get_or-append c tail 0 i (omega (arith, l, r.long))
        go false false e f =
            let l = ltb-false i 24 f in
            get_or-eq_default (set (c ++ tail) 15 k) 0 (omega (arith, size, length-set (c ++ tail) 15 k))
            ∙ sym (get_or-eq_default c 0 (omega (arith, l, r.long)))

    put_at : (d v : ℕ) → eqb 15 d ≡ false → within k tail (set c d v) ≡ set (within k tail c) (place q d) v
    unfolding within place
    put_at d v n = go (eqb d 15) (ltb d 24) refl refl
      where
        go : (a b : Bool) → eqb d 15 ≡ a → ltb d 24 ≡ b
            → set (set c d v ++ tail) 15 k ≡ set (set (c ++ tail) 15 k) (cond a (24 + q) (cond b d (200 + d))) v
        go true b e f = absurd (eqb-false 15 d n (sym (eqb-true d 15 e)))
        go false true e f =
            let l = ltb-true d 24 f in
            ap (λ (x : Lane). set x 15 k) (sym (set-append_left c tail d v (omega (arith, l, r.long))))
            ∙ set_comm (c ++ tail) d 15 v k (eqb-false d 15 e)
        go false false e f =
            let l = ltb-false d 24 f in
            ap (λ (x : Lane). set (x ++ tail) 15 k) (set_out c d v (omega (arith, l, r.long)))
            ∙ sym (set_out (set (c ++ tail) 15 k) (200 + d) v (omega (arith, size, length-set (c ++ tail) 15 k)))

  pub embeds : Embeds (place q) (at tail q) (within k tail)
  embeds = record { seen = seen_at; put = put_at }

-- the share at hand is put into slot 15
pub takes : (x : ℕ) (c : Lane) → length c ≡ 24 → Ready x (set c 15 x)
takes x c l = record { long = length-set c 15 x ∙ l; holds = get_or-set_same c 15 x 0 (omega (arith, l)) }

module _ (k : ℕ) (tail : Lane) (c : Lane) (l : length c ≡ 24) where
  -- whatever stands there, the day's lane is the same
  pub any_share : (v : ℕ) → within k tail (set c 15 v) ≡ within k tail c
  unfolding within
  any_share v =
      ap (λ (x : Lane). set x 15 k) (sym (set-append_left c tail 15 v (omega (arith, l)))) ∙ set-set (c ++ tail) 15 v k

  -- the host's own state: its word is put back
  pub own_lane : take 24 (within k tail c) ≡ set c 15 k
  unfolding within
  own_lane =
      ap (take 24) (set-append_left c tail 15 k (omega (arith, l)))
      ∙ take_front (set c 15 k) tail (length-set c 15 k ∙ l)
    where
      take_front : (x y : Lane) → length x ≡ 24 → take 24 (x ++ y) ≡ x
      take_front x y e = subst (λ (n : ℕ). take n (x ++ y) ≡ x) e (take-append_seam x y)

-- a state's lane with the tail behind it
pub with_tail : (tail c : Lane) → length c ≡ 24 → within (at c 15) tail c ≡ c ++ tail
unfolding within
with_tail tail c l =
    ap (λ (v : ℕ). set (c ++ tail) 15 v) (sym (get_or-append c tail 0 15 (omega (arith, l)))) ∙ set-get_or (c ++ tail) 15 0

-- ---- a host's shares behind its lane

module _ (S : List ℕ) (c : Lane) (l : length c ≡ 24) where
  pub first_lane : fresh (c ++ firsts S) ≡ within (at c 15) (first_tail S) c
  unfolding fresh first_tail
  first_lane = append_assoc c (firsts S) (replicate 8 0) ∙ sym (with_tail (firsts S ++ replicate 8 0) c l)

  pub second_lane : fresh (c ++ seconds S) ≡ within (at c 15) (second_tail S) c
  unfolding fresh second_tail
  second_lane = append_assoc c (seconds S) (replicate 8 0) ∙ sym (with_tail (seconds S ++ replicate 8 0) c l)

-- "Registers start at zero": the code's lanes of 0 in those that are given
pub given_lanes : (S : List ℕ)
    → ◌≡◌ {A = Pair} (within 0 (first_tail S) (replicate 24 0), within 0 (second_tail S) (replicate 24 0)) (fresh2 (day_given S))
given_lanes S =
    ap₂ {C = Pair} (λ (y z : Lane). (y, z)) (sym (first_lane S (replicate 24 0) refl)) (sym (second_lane S (replicate 24 0) refl))

-- and the lane without them
pub front_lane : (c behind : Lane) → length c ≡ 24 → take 24 (fresh (c ++ behind)) ≡ c
unfolding fresh
front_lane c l e =
    take-append-le 24 (c ++ l) (replicate 8 0) (omega (arith, e, length-append c l))
    ∙ take-append-le 24 c l (omega (arith, e)) ∙ take_all 24 c (omega (arith, e))

at_zeros : (n q : ℕ) → at (replicate n 0) q ≡ 0
at_zeros zero q = refl
at_zeros (suc n) zero = refl
at_zeros (suc n) (suc q) = at_zeros n q

-- the words of n shares stand in turn
module _ (f : List ℕ → Lane) (k : ℕ) (none : f [] ≡ []) (more : (x y : ℕ) (S : List ℕ) → f (x ∷ y ∷ S) ≡ at (x ∷ y ∷ []) k ∷ f S)
    (low : k < 2) where
  share_word : (n : ℕ) (S : List ℕ) → length S ≡ n * 2 → (q : ℕ) → at (f S) q ≡ at S (q * 2 + k)
  share_word zero [] e q = ap (λ (l : Lane). at l q) none
  share_word zero (x ∷ S) e q = absurd (omega arith)
  share_word (suc n) [] e q = absurd (omega arith)
  share_word (suc n) (x ∷ []) e q = absurd (omega arith)
  share_word (suc n) (x ∷ y ∷ S) e zero = ap (λ (l : Lane). at l 0) (more x y S) ∙ go k low
    where
      go : (k : ℕ) → k < 2 → at (x ∷ y ∷ []) k ≡ at (x ∷ y ∷ S) (zero * 2 + k)
      go zero h = refl
      go (suc zero) h = refl
      go (suc (suc k)) h = absurd (omega arith)
  share_word (suc n) (x ∷ y ∷ S) e (suc q) =
      let i : suc (suc (q * 2 + k)) ≡ suc q * 2 + k = omega arith in
      ap (λ (l : Lane). at l (suc q)) (more x y S) ∙ share_word n S (omega arith) q ∙ ap (at (x ∷ y ∷ S)) i

  share_count : (n : ℕ) (S : List ℕ) → length S ≡ n * 2 → length (f S) ≡ n
  share_count zero [] e = ap length none
  share_count zero (x ∷ S) e = absurd (omega arith)
  share_count (suc n) [] e = absurd (omega arith)
  share_count (suc n) (x ∷ []) e = absurd (omega arith)
  share_count (suc n) (x ∷ y ∷ S) e = ap length (more x y S) ∙ ap suc (share_count n S (omega arith))

  -- with slots of 0 behind them
  behind_word : (n z : ℕ) (S : List ℕ) → length S ≡ n * 2 → (q : ℕ) → at (f S ++ replicate z 0) q ≡ at S (q * 2 + k)
  behind_word n z S e q = zeros (f S) q ∙ share_word n S e q
    where
      zeros : (l : Lane) (q : ℕ) → at (l ++ replicate z 0) q ≡ at l q
      zeros [] q = at_zeros z q
      zeros (x ∷ l) zero = refl
      zeros (x ∷ l) (suc q) = zeros l q

module _ (S : List ℕ) (e : length S ≡ 192) where
  pub first_word : (q : ℕ) → at (first_tail S) q ≡ at S (q * 2)
  unfolding first_tail firsts
  first_word q =
      let i : q * 2 + 0 ≡ q * 2 = omega arith in
      behind_word firsts 0 refl (λ x y S. refl) (lit< tt) 96 8 S e q ∙ ap (at S) i

  pub second_word : (q : ℕ) → at (second_tail S) q ≡ at S (q * 2 + 1)
  unfolding second_tail seconds
  second_word q = behind_word seconds 1 refl (λ x y S. refl) (lit< tt) 96 8 S e q

  pub first_short : length (first_tail S) ≤ 104
  unfolding first_tail firsts
  first_short = omega (
    arith,
    length-append (firsts S) (replicate 8 0),
    share_count firsts 0 refl (λ x y S. refl) (lit< tt) 96 S e,
  )

  pub second_short : length (second_tail S) ≤ 104
  unfolding second_tail seconds
  second_short = omega (
    arith,
    length-append (seconds S) (replicate 8 0),
    share_count seconds 1 refl (λ x y S. refl) (lit< tt) 96 S e,
  )
