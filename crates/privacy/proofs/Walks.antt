-- A host that sees the same at every step sees the same on a walk; and the unseen lists of the two runs correspond one-to-one. Assumes
-- nothing.
use mathlib.Core.Path.{◌≡◌, refl, sym, ap, ap₂, ◌∙◌}
use mathlib.Core.List.{List, [], ◌∷◌, ◌++◌}
use Prim.Native.Nat.{ℕ, zero, suc, ◌+◌, ◌-◌, ◌≤◌}
use native.Mathlib.Omega.{arith}
use lib.ListN.{length, take, drop, length-append, take-append-drop, length-drop}
use lib.Seq.{length-take-le, drop-drop, drop-append_seam}
use Rattle.gates.specs.Steps.{Step}
use Rattle.gates.specs.Hosts.{Triple}
use Rattle.programs.proofs.Gates.{Fits, FitsAll}
use Rattle.runs.proofs.Gated.{fits_append}
use Rattle.privacy.specs.Unseen.{Side, others}
use Rattle.privacy.proofs.Sight.{need, told}

pub fits_drop : (w n : ℕ) (l : List ℕ) → Fits w l → Fits w (drop n l)
fits_drop w zero l h = h
fits_drop w (suc n) [] h = h
fits_drop w (suc n) (x ∷ l) h = fits_drop w n l (λ i. h (suc i))

abbrev pub All : (Step → Type 0) → List Step → Type 0
All G [] = Unit
All G (x ∷ ss) = G x × All G ss

module _ (w : ℕ) (P : Side) (Agree : Triple → Triple → Type 0) where
  -- two runs at one step: the host's own list v, the unseen list u, the lanes j and k, which agree in what the host holds
  pub record Two (v u : List ℕ) (j k : Triple) : Type 0 where
    pub v_fits : Fits w v
    pub u_fits : Fits w u
    pub j_fits : FitsAll w j
    pub k_fits : FitsAll w k
    pub agree : Agree j k
    pub back : Agree k j

  -- what holds of a step
  pub record Lawful (x : Step) : Type 0 where
    -- only the words used count
    pub step_front : (v s r : List ℕ) (j : Triple) → length s ≡ P.unseen x → P.step x v (s ++ r) j ≡ P.step x v s j
    pub swap_front : (v s r : List ℕ) (j k : Triple) → length s ≡ P.unseen x → P.swap x v (s ++ r) j k ≡ P.swap x v s j k
    pub as_many : (v u : List ℕ) (j k : Triple) → length (P.swap x v u j k) ≡ P.unseen x
    pub step_fits : (v u : List ℕ) (j : Triple) → Fits w v → Fits w u → FitsAll w j → FitsAll w (P.step x v u j)
    pub swap_fits : (v u : List ℕ) (j k : Triple) → Two v u j k → Fits w (P.swap x v u j k)
    pub agrees : (v u : List ℕ) (j k : Triple) → Two v u j k → Agree (P.step x v u j) (P.step x v (P.swap x v u j k) k)
    pub agrees_back : (v u : List ℕ) (j k : Triple) → Two v u j k → Agree (P.step x v (P.swap x v u j k) k) (P.step x v u j)
    pub undone : (v u : List ℕ) (j k : Triple) → Two v u j k → P.unseen x ≤ length u
        → P.swap x v (P.swap x v u j k) k j ≡ take (P.unseen x) u

  module _ (x : Step) (L : Lawful x) (v u : List ℕ) (j k : Triple) where
    abbrev s : List ℕ
    s = P.swap x v u j k

    -- the two runs at the next step
    next : Two v u j k → Two (drop (P.seen x) v) (drop (P.unseen x) u) (P.step x v u j) (P.step x v s k)
    next h =
        record {
          v_fits = fits_drop w (P.seen x) v h.v_fits;
          u_fits = fits_drop w (P.unseen x) u h.u_fits;
          j_fits = L.step_fits v u j h.v_fits h.u_fits h.j_fits;
          k_fits = L.step_fits v s k h.v_fits (L.swap_fits v u j k h) h.k_fits;
          agree = L.agrees v u j k h;
          back = L.agrees_back v u j k h;
        }

    -- from the list that begins with the words swapped
    step_on : (r : List ℕ) → P.step x v (s ++ r) k ≡ P.step x v s k
    step_on r = L.step_front v s r k (L.as_many v u j k)

    drop_on : (r : List ℕ) → drop (P.unseen x) (s ++ r) ≡ r
    drop_on r = rw (← L.as_many v u j k) (drop-append_seam s r)

    swap_on : Two v u j k → (r : List ℕ) → P.unseen x ≤ length u → P.swap x v (s ++ r) k j ≡ take (P.unseen x) u
    swap_on h r e = L.swap_front v s r k j (L.as_many v u j k) ∙ L.undone v u j k h e

  -- the words that a step uses are a list's first
  own_step : (x : Step) → Lawful x → (v u : List ℕ) (j : Triple) → P.unseen x ≤ length u
      → P.step x v (take (P.unseen x) u) j ≡ P.step x v u j
  own_step x L v u j e =
      sym (L.step_front v (take (P.unseen x) u) (drop (P.unseen x) u) j (length-take-le (P.unseen x) u e))
      ∙ ap (λ (q : List ℕ). P.step x v q j) (take-append-drop (P.unseen x) u)

  -- at a step, where `sight` tells what is seen there
  module _ (sight : Step → (v u : List ℕ) → Triple → List ℕ → List ℕ) where
    pub record Clear (x : Step) : Type 0 where
      pub front : (v s r : List ℕ) (j : Triple) (ws : List ℕ) → length s ≡ P.unseen x → sight x v (s ++ r) j ws ≡ sight x v s j ws
      pub same : (v u : List ℕ) (j k : Triple) (ws : List ℕ) → Two v u j k → sight x v u j ws ≡ sight x v (P.swap x v u j k) k ws

  -- a list of steps that are all of one kind
  module _ (Good : Step → Type 0) (law : (x : Step) → Good x → Lawful x) where
    pub others_fit : (ss : List Step) → All Good ss → (v u : List ℕ) (j k : Triple) → Two v u j k → Fits w (others P ss v u j k)
    unfolding others
    others_fit [] L v u j k h = h.u_fits
    others_fit (x ∷ ss) L v u j k h =
        fits_append w (P.swap x v u j k) _ ((law x L.0).swap_fits v u j k h)
        (others_fit ss L.1 _ _ _ _ (next x (law x L.0) v u j k h))

    pub others_length : (ss : List Step) → All Good ss → (v u : List ℕ) (j k : Triple) → need P ss ≤ length u
        → length (others P ss v u j k) ≡ length u
    unfolding others need
    others_length [] L v u j k e = refl
    others_length (x ∷ ss) L v u j k e =
        let d : length (drop (P.unseen x) u) ≡ length u - P.unseen x = length-drop (P.unseen x) u in
        let i : length (others P ss (drop (P.seen x) v) (drop (P.unseen x) u) (P.step x v u j) (P.step x v (P.swap x v u j k) k))
        ≡ length (drop (P.unseen x) u) = others_length ss L.1 _ _ _ _ (omega arith) in
        length-append (P.swap x v u j k) _ ∙ ap₂ ◌+◌ ((law x L.0).as_many v u j k) (i ∙ d) ∙ omega arith

    -- words beyond the need map to themselves
    pub others_beyond : (ss : List Step) → All Good ss → (v u : List ℕ) (j k : Triple)
        → drop (need P ss) (others P ss v u j k) ≡ drop (need P ss) u
    unfolding others need
    others_beyond [] L v u j k = refl
    others_beyond (x ∷ ss) L v u j k =
        sym (drop-drop (need P ss) (P.unseen x) _) ∙ ap (drop (need P ss)) (drop_on x (law x L.0) v u j k _)
        ∙ others_beyond ss L.1 _ _ _ _ ∙ drop-drop (need P ss) (P.unseen x) u

    -- the lanes k with the other list show what the lanes j show with u
    pub told_same : (sight : Step → (v u : List ℕ) → Triple → List ℕ → List ℕ) (ss : List Step) → All Good ss
        → ((x : Step) → Good x → Clear sight x) → (v u : List ℕ) (j k : Triple) → Two v u j k
        → told P sight ss v u j ≡ told P sight ss v (others P ss v u j k) k
    unfolding told others
    told_same sight [] L c v u j k h = refl
    told_same sight (x ∷ ss) L c v u j k h =
        let r : List ℕ = others P ss (drop (P.seen x) v) (drop (P.unseen x) u) (P.step x v u j) (P.step x v (P.swap x v u j k) k) in
        (c x L.0).same v u j k _ h
        ∙ ap (sight x v (P.swap x v u j k) k) (told_same sight ss L.1 c _ _ _ _ (next x (law x L.0) v u j k h))
        ∙ sym ((c x L.0).front v (P.swap x v u j k) r k _ ((law x L.0).as_many v u j k))
        ∙ ap (sight x v (P.swap x v u j k ++ r) k)
        (ap₂ (λ (q : List ℕ) (i : Triple). told P sight ss (drop (P.seen x) v) q i) (sym (drop_on x (law x L.0) v u j k r))
        (sym (step_on x (law x L.0) v u j k r)))

    pub others_undone : (ss : List Step) → All Good ss → (v u : List ℕ) (j k : Triple) → Two v u j k → need P ss ≤ length u
        → others P ss v (others P ss v u j k) k j ≡ u
    unfolding others need
    others_undone [] L v u j k h e = refl
    others_undone (x ∷ ss) L v u j k h e =
        let d : length (drop (P.unseen x) u) ≡ length u - P.unseen x = length-drop (P.unseen x) u in
        let r : List ℕ = others P ss (drop (P.seen x) v) (drop (P.unseen x) u) (P.step x v u j) (P.step x v (P.swap x v u j k) k) in
        rw (
          swap_on x (law x L.0) v u j k h r (omega arith),
          drop_on x (law x L.0) v u j k r,
          step_on x (law x L.0) v u j k r,
          own_step x (law x L.0) v u j (omega arith),
        )
        (ap (λ (q : List ℕ). take (P.unseen x) u ++ q)
        (others_undone ss L.1 _ _ _ _ (next x (law x L.0) v u j k h) (omega arith))
        ∙ take-append-drop (P.unseen x) u)
