-- The adder's rounds: the gates of each, and the distance that doubles from one to the next. Assumes nothing.
use Rattle.std.proofs.Common.{◌≡◌, ℕ, zero, suc, ◌+◌, ◌*◌, ◌/◌, ◌%◌, ◌^◌, ◌<◌, ◌≤◌, Bool, true, false, cond, ltb, List, [], ◌∷◌, ◌++◌, length, get_or, sym, refl, ap, ◌∙◌, mul_assoc, add-mul, one-mul, pow-suc, mul-one, arith}
use Rattle.truncations.specs.Adder.{doubled, distances, updates}
use Rattle.gates.specs.Gates.{Gate, Xor, And, Up}
use Rattle.gates.specs.Codes.{fetched}
use Rattle.programs.specs.Programs.{p_slot, g_slot, s_slot, t_slot, update_gates, rounds}
use Rattle.program_fetch.proofs.Fetched.{inside, behind}

-- the gates of a round at distance d: those of G, and of P
abbrev of_g : (d : ℕ) → List Gate
of_g d = Up s_slot g_slot d ∷ And t_slot p_slot s_slot ∷ Xor g_slot g_slot t_slot ∷ []

abbrev of_p : (d : ℕ) → List Gate
of_p d = Up s_slot p_slot d ∷ And p_slot p_slot s_slot ∷ []

-- gate e of round q; the last round has the gates of G alone
pub round_at : (ds : List ℕ) (q e i : ℕ) → e < 5 → i ≡ 5 * q + e → i < length (rounds (updates ds))
    → fetched (of_g (get_or ds q 0) ++ of_p (get_or ds q 0)) e ≡ fetched (rounds (updates ds)) i
unfolding rounds updates update_gates
round_at [] q e i l s h = absurd (omega arith)
round_at (d ∷ []) zero e i l s h = let z : i ≡ e = omega arith in rw z (sym (inside (of_g d) (of_p d) e (omega arith)))
round_at (d ∷ []) (suc q) e i l s h = absurd (omega arith)
round_at (d ∷ d' ∷ ds) zero e i l s h =
    let z : i ≡ e = omega arith in rw z (inside (of_g d ++ of_p d) (rounds (updates (d' ∷ ds))) e l)
round_at (d ∷ d' ∷ ds) (suc q) e i l s h =
    round_at (d' ∷ ds) q e (5 * q + e) l refl (omega arith)
    ∙ behind (of_g d ++ of_p d) (rounds (updates (d' ∷ ds))) i (5 * q + e) (omega arith)

-- the distance of round q
pub distance_at : (n d w q : ℕ) → q < length (doubled n d w) → d * 2 ^ q ≡ get_or (doubled n d w) q 0
unfolding doubled
distance_at zero d w q h = absurd (omega arith)
distance_at (suc n) d w q h = go (doubled n (d + d) w) (distance_at n (d + d) w) (ltb d w) q h
  where
    go : (ds : List ℕ) → ((q : ℕ) → q < length ds → (d + d) * 2 ^ q ≡ get_or ds q 0)
        → (b : Bool) (q : ℕ) → q < length (cond b (d ∷ ds) []) → d * 2 ^ q ≡ get_or (cond b (d ∷ ds) []) q 0
    go ds more true zero h = mul-one d
    go ds more true (suc q) h =
        omega (arith, ap (λ (x : ℕ). d * x) (pow-suc 2 q), mul_assoc d (2 ^ q) 2, add-mul d d (2 ^ q), more q (omega arith))
    go ds more false q h = absurd (omega arith)

rounds_few : (ds : List ℕ) → length (rounds (updates ds)) ≤ 5 * length ds
unfolding rounds updates update_gates
rounds_few [] = omega arith
rounds_few (d ∷ []) = omega arith
rounds_few (d ∷ d' ∷ ds) = omega (arith, rounds_few (d' ∷ ds))

-- the gate at index i, with the distance that doubles
pub doubled_round : (w i e d : ℕ) → i < length (rounds (updates (distances w))) → i % 5 ≡ e → d ≡ 2 ^ (i / 5)
    → fetched (of_g d ++ of_p d) e ≡ fetched (rounds (updates (distances w))) i
unfolding distances
doubled_round w i e d h r s =
    let f = distance_at w 1 w (i / 5) (omega (arith, rounds_few (distances w))) in
    let z : d ≡ get_or (distances w) (i / 5) 0 = s ∙ sym (one-mul (2 ^ (i / 5))) ∙ f in
    ap (λ (d : ℕ). fetched (of_g d ++ of_p d) e) z ∙ round_at (distances w) (i / 5) e i (omega arith) (omega arith) h
