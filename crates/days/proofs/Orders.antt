-- An order of a day among the day's lists of gates: its gates around the code's own order, its steps from one of them on, and where its
-- products and refreshes stand. Assumes nothing.
use mathlib.Core.Path.{◌≡◌, refl, sym, ap, ◌∙◌}
use mathlib.Core.Bool.{Bool, true, false, cond}
use mathlib.Core.List.{List, [], ◌∷◌, ◌++◌, map, append-nil}
use Prim.Native.Nat.{ℕ, zero, suc, ◌+◌, ◌≤◌, ◌<◌}
use native.Mathlib.Nat.{zero-add}
use native.Mathlib.Omega.{arith}
use borrow.Author.Tests.{ltb-true, ltb-false}
use lib.Dec.{ltb}
use lib.ListN.{length, get_or, drop}
use lib.Seq.{drop-cons}
use Rattle.tables.specs.Table.{Row}
use Rattle.gates.specs.Gates.{Gate, Add, Scale}
use Rattle.gates.specs.Steps.{Step, end}
use Rattle.gates.specs.Meaning.{meaning, order_steps, job_steps}
use Rattle.programs.specs.Orders.{program}
use Rattle.walks.specs.Halts.{steps_from}
use Rattle.days.specs.Day.{mean_program, day_factor, day_gates}
use Rattle.days.specs.Orders.{curve_order, mean_order, own_order, is_run, front, back}
use Rattle.days.proofs.Quarters.{quarter_ends, day_gates_count, counted_at, left_out_at, mean_at}
use Rattle.days.proofs.Moved.{moved}
use Rattle.days.proofs.Lanes.{place}
use Rattle.days.proofs.Parts.{of_curve, of_mean}
use Rattle.days.proofs.Walked.{steps_are, day_from}

-- ---- steps of gates

map_two : (w : ℕ) (gs hs : List Gate) (ss : List Step) → map (meaning w) (gs ++ hs) ++ ss ≡ map (meaning w) gs ++ (map (meaning w) hs ++ ss)
map_two w [] hs ss = refl
map_two w (g ∷ gs) hs ss = ap (λ (xs : List Step). meaning w g ∷ xs) (map_two w gs hs ss)

drop_map : (f : Gate → Gate) (i : ℕ) (gs hs : List Gate) → i ≤ length gs → drop i (map f gs ++ hs) ≡ map f (drop i gs) ++ hs
drop_map f zero gs hs h = refl
drop_map f (suc i) [] hs h = absurd (omega arith)
drop_map f (suc i) (g ∷ gs) hs h = drop_map f i gs hs (omega arith)

drop_past : (gs hs : List Gate) (i : ℕ) → drop (length gs + i) (gs ++ hs) ≡ drop i hs
drop_past [] hs i = ap (λ (n : ℕ). drop n hs) (zero-add i)
drop_past (g ∷ gs) hs i =
    let e : suc (length gs) + i ≡ suc (length gs + i) = omega arith in
    ap (λ (n : ℕ). drop n (g ∷ gs ++ hs)) e ∙ drop_past gs hs i

-- ---- the order's gates

module _ (w : ℕ) (f : ℕ → Bool) (ps : List Row) (o : ℕ) (in_day : o ≤ 96) where
  abbrev own : List Gate
  own = program w ps (own_order o)

  abbrev rest : List Step
  rest = job_steps w (drop (suc o) (day_gates w f ps))

  pub here : drop o (day_gates w f ps) ≡ get_or (day_gates w f ps) o [] ∷ drop (suc o) (day_gates w f ps)
  here = drop-cons (day_gates w f ps) o [] (omega (arith, in_day, day_gates_count w f ps))

  module _ (run : is_run f o ≡ true) where
    pub order_is : get_or (day_gates w f ps) o [] ≡ front (day_factor f) o ++ (map (moved (place o)) own ++ back o)
    unfolding own_order front back mean_program is_run
    order_is = go (ltb o 96) refl run
      where
        go : (b : Bool) → ltb o 96 ≡ b → cond b (f o) true ≡ true
            → get_or (day_gates w f ps) o []
            ≡ cond b [] (Scale 22 0 (day_factor f) ∷ [])
            ++ (map (moved (place o)) (program w ps (cond b curve_order mean_order)) ++ cond b (Add 0 0 22 ∷ Add 1 1 20 ∷ []) [])
        go true e t = counted_at w f ps o (ltb-true o 96 e) t ∙ quarter_ends w o ps
            ∙ ap (λ (gs : List Gate). gs ++ (Add 0 0 22 ∷ Add 1 1 20 ∷ [])) (sym (of_curve w o ps))
        go false e t =
            let l = ltb-false o 96 e in
            let z : o ≡ 96 = omega (arith, in_day, l) in
            ap (λ (q : ℕ). get_or (day_gates w f ps) q []) z ∙ mean_at w f ps
            ∙ ap (λ (gs : List Gate). Scale 22 0 (day_factor f) ∷ gs) (sym (ap (λ (gs : List Gate). gs ++ []) (of_mean w o ps) ∙ append-nil _))

    -- the day's steps from gate i of the code's order on
    pub steps_within : (i : ℕ) → i ≤ length own
        → steps_from w (length (front (day_factor f) o) + i) (drop o (day_gates w f ps)) ≡ day_from w o (drop i own) rest
    unfolding steps_from
    steps_within i h =
        let fr = front (day_factor f) o in
        ap (steps_from w (length fr + i)) here
        ∙ ap (λ (gs : List Gate). order_steps w (drop (length fr + i) gs) rest) order_is
        ∙ ap (λ (gs : List Gate). order_steps w gs rest)
        (drop_past fr (map (moved (place o)) own ++ back o) i ∙ drop_map (moved (place o)) i own (back o) h)
        ∙ steps_are w (map (moved (place o)) (drop i own) ++ back o) rest
        ∙ map_two w (map (moved (place o)) (drop i own)) (back o) (end ∷ rest)

    -- and from the order's beginning
    pub steps_whole : job_steps w (drop o (day_gates w f ps)) ≡ map (meaning w) (front (day_factor f) o) ++ day_from w o own rest
    unfolding job_steps
    steps_whole =
        let fr = front (day_factor f) o in
        ap (job_steps w) here
        ∙ ap (λ (gs : List Gate). order_steps w gs rest) order_is
        ∙ steps_are w (fr ++ (map (moved (place o)) own ++ back o)) rest
        ∙ map_two w fr (map (moved (place o)) own ++ back o) (end ∷ rest)
        ∙ ap (λ (ss : List Step). map (meaning w) fr ++ ss) (map_two w (map (moved (place o)) own) (back o) (end ∷ rest))

  -- an order that is not run is a quarter that is left out
  pub idle : is_run f o ≡ false → (o < 96) × (f o ≡ false)
  unfolding is_run
  idle e = go (ltb o 96) refl e
    where
      go : (b : Bool) → ltb o 96 ≡ b → cond b (f o) true ≡ false → (o < 96) × (f o ≡ false)
      go true l t = (ltb-true o 96 l, t)
      go false l t = absurd (true_false t)
        where
          true_false : true ≡ false → ⊥
          true_false z = let n : ◌≡◌ {A = ℕ} 1 0 = ap (λ (b : Bool). cond b 1 0) z in omega arith

  -- and the day's steps go by it
  pub steps_idle : o < 96 → f o ≡ false → job_steps w (drop o (day_gates w f ps)) ≡ end ∷ rest
  unfolding job_steps order_steps
  steps_idle l e = ap (job_steps w) here ∙ ap (λ (gs : List Gate). order_steps w gs rest) (left_out_at w f ps o l e)
