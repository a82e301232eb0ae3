-- The number and the index of each call, by the conditions of document 01's list. Assumes nothing.
use mathlib.Core.Path.{◌≡◌, refl, sym, ap, ap₂, ◌∙◌, subst}
use mathlib.Core.Logic.{◌≢◌, ◌⊎◌, inl, inr}
use mathlib.Core.Bool.{Bool, true, false, ◌||◌, cond}
use mathlib.Core.List.{List}
use Prim.Native.Nat.{ℕ, zero, suc, ◌+◌, ◌≤◌, ◌<◌}
use native.Mathlib.Omega.{arith}
use borrow.Author.Tests.{eqb-true, eqb-false, ltb-true, ltb-false}
use lib.Dec.{eqb, ltb, eqb-suc-zero}
use lib.ListN.{length}
use Rattle.gates.specs.Hosts.{Pair}
use Rattle.gates.specs.Steps.{Step, origin}
use Rattle.jobs.specs.Job.{Fault, short_a, short_b, short_deals}
use Rattle.calls.specs.Scripts.{Script, script_cost, ends, Orderly}
use Rattle.calls.specs.Places.{Found}
use Rattle.calls.specs.Lent.{Lent, or_else, lists_fault, lent_fault, dealer_lists_fault, dealer_fault, worker_of}
use Rattle.calls.specs.declared.Stored.{Stored}
use Rattle.calls.specs.Calls.{State, Answer, report, unless, given, start_walk, start, hear_walk, place_fault, walked_to, hearing_fault}
use Rattle.calls.specs.Calls.{found_of, resume, hear, prepared, prepare}
use Rattle.calls.proofs.Hearing.{Judged, no_place, unequal, equal, judged}
use Rattle.runs.specs.Runs.{Among}
use Rattle.demands.specs.Conditions as Conditions
use Rattle.demands.specs.Conditions.{Place, places_from, Terms, Single, PreparationIs, of_itself, of_lists, of_buffer}
use Rattle.demands.specs.Conditions.{prepares_well, list_needed, StartIs, stranger, of_its_own, of_its_list, of_its_deals}
use Rattle.demands.specs.Conditions.{starts_well, end_place, HearingIs, as_starting, misplaced, ended, hears_well}
use Rattle.demands.specs.Numbers.{Told, ToldPlaces, Numbers}
use Rattle.demands.proofs.Completed.{located_at, walked_there, walked_over}
use Rattle.demands.proofs.Placed.{last_turn, Placed, a_turn, the_end, nothing, placed, last_turn_0, before_end, gates_placed}

-- ---- whether a number is below another, as the checks ask

data Below (a b : ℕ) : Bool → Type 0 where
  below : a < b → Below a b true
  above : b ≤ a → Below a b false

below_of : (a b : ℕ) → Below a b (ltb a b)
below_of a b = go (ltb a b) refl
  where
    go : (t : Bool) → ltb a b ≡ t → Below a b t
    go true e = below (ltb-true a b e)
    go false e = above (ltb-false a b e)

-- ---- a fault, or where there is none another number

or_else_is : (Q : ℕ → ℕ → Type 0) (m i n : ℕ) → (m ≡ 0 → Q n 0) → ((k : ℕ) → m ≡ suc k → Q (suc k) i)
    → Q (or_else (m, i) n).0 (or_else (m, i) n).1
unfolding or_else
or_else_is Q zero i n h k = h refl
or_else_is Q (suc m) i n h k = rw (eqb-suc-zero m) (k m refl)

unless_is : (Q : ℕ → ℕ → Type 0) (n : ℕ) (f : Fault) (s : State) (a : Answer) → f.0 ≡ n → (n ≡ 0 → Q a.number a.index)
    → ((k : ℕ) → n ≡ suc k → Q n f.1)
    → Q (unless n f s a).number (unless n f s a).index
unfolding unless
unless_is Q zero f s a e h k = h refl
unless_is Q (suc n) f s a e h k = rw e (k n refl)

prepared_is : (Q : ℕ → ℕ → Type 0) (n : ℕ) (f : Fault) (σ : Script) (A B D : List ℕ) (r : Pair) → f.0 ≡ n → (n ≡ 0 → Q 0 0)
    → ((k : ℕ) → n ≡ suc k → Q n f.1)
    → Q (prepared n f σ A B D r).number (prepared n f σ A B D r).index
unfolding prepared
prepared_is Q zero f σ A B D r e h k = h refl
prepared_is Q (suc n) f σ A B D r e h k = rw e (k n refl)

-- ---- preparation

module _ (σ : Script) (T : Terms) (told : Told σ T) (A B D : List ℕ) where
  lists_are : T.own 0 0 → PreparationIs T A B D (dealer_lists_fault (script_cost σ) A B D) 0
  unfolding dealer_lists_fault short_a short_b short_deals
  lists_are z =
      rw told.needs
      (go (ltb (length A) T.needs.a) (ltb (length B) T.needs.b) (ltb (length D) T.needs.deals) (below_of _ _) (below_of _ _)
      (below_of _ _))
    where
      go : (a b d : Bool) → Below (length A) T.needs.a a → Below (length B) T.needs.b b → Below (length D) T.needs.deals d
          → PreparationIs T A B D (cond (a || b) 6 (cond d 7 0)) 0
      go true b d (below h) k l = of_lists z (inl h)
      go false true d h (below k) l = of_lists z (inr k)
      go false false true (above h) (above k) (below l) = of_buffer z h k l
      go false false false (above h) (above k) (above l) = prepares_well z h k l

  dealer_is : PreparationIs T A B D (dealer_fault σ A B D).0 (dealer_fault σ A B D).1
  unfolding dealer_fault
  dealer_is =
      or_else_is (PreparationIs T A B D) σ.fault.0 σ.fault.1 _ (λ e. lists_are (told.none e)) (λ k e. of_itself (told.some k e))

  index_none : {n i : ℕ} → PreparationIs T A B D n i → n ≡ 0 → PreparationIs T A B D 0 0
  index_none (of_itself q) e = absurd (omega arith)
  index_none (of_lists z h) e = absurd (omega arith)
  index_none (of_buffer z h k l) e = absurd (omega arith)
  index_none (prepares_well z h k l) e = prepares_well z h k l

  pub preparation_is : (r : Pair) → PreparationIs T A B D (prepare σ A B D r).number (prepare σ A B D r).index
  unfolding prepare
  preparation_is r =
      prepared_is (PreparationIs T A B D) (dealer_fault σ A B D).0 (dealer_fault σ A B D) σ A B D r refl (λ e. index_none dealer_is e)
      (λ k e. dealer_is)

-- ---- starting

data Host (h : ℕ) : (one two : Bool) → Type 0 where
  first : {b : Bool} → h ≡ 1 → Host h true b
  second : h ≡ 2 → Host h false true
  neither : h ≢ 1 → h ≢ 2 → Host h false false

host_known : (h : ℕ) → Host h (eqb h 1) (eqb h 2)
host_known h = go (eqb h 1) (eqb h 2) refl refl
  where
    go : (a b : Bool) → eqb h 1 ≡ a → eqb h 2 ≡ b → Host h a b
    go true b p q = first (eqb-true h 1 p)
    go false true p q = second (eqb-true h 2 q)
    go false false p q = neither (eqb-false h 1 p) (eqb-false h 2 q)

module _ (loan : Lent) (T : Terms) (told : Told loan.script T) where
  abbrev Starts : ℕ → ℕ → Type 0
  Starts = StartIs T loan.host loan.masks loan.deals

  -- 6 and 7 of host 1, where a says so, or of host 2
  abbrev lists_of : Bool → ℕ
  lists_of a =
      cond a (cond (ltb (length loan.masks) T.needs.a) 6 0)
      (cond (ltb (length loan.masks) T.needs.b) 6 (cond (ltb (length loan.deals) T.needs.deals) 7 0))

  lent_is : Starts (lent_fault loan).0 (lent_fault loan).1
  unfolding lent_fault lists_fault short_a short_b short_deals
  lent_is = rw told.needs (go (eqb loan.host 1) (eqb loan.host 2) refl (host_known loan.host))
    where
      two_lists : (b d : Bool) → loan.host ≡ 2 → T.own 0 0 → list_needed T loan.host ≡ T.needs.b
          → Below (length loan.masks) T.needs.b b
          → Below (length loan.deals) T.needs.deals d → Starts (cond b 6 (cond d 7 0)) 0
      two_lists true d q z e (below h) l = of_its_list (inr q) z (rw e h)
      two_lists false true q z e (above h) (below l) = of_its_deals q z (rw e h) l
      two_lists false false q z e (above h) (above l) = starts_well (inr q) z (rw e h) (λ u. l)

      one_list : (b : Bool) → loan.host ≡ 1 → T.own 0 0 → list_needed T loan.host ≡ T.needs.a
          → Below (length loan.masks) T.needs.a b
          → Starts (cond b 6 0) 0
      one_list true q z e (below h) = of_its_list (inl q) z (rw e h)
      one_list false q z e (above h) = starts_well (inl q) z (rw e h) (λ u. absurd (omega arith))

      go : (a b : Bool) → eqb loan.host 1 ≡ a → Host loan.host a b
          → Starts (cond {A = Fault} (a || b) (or_else loan.script.fault (lists_of a)) (1, 0)).0
          (cond {A = Fault} (a || b) (or_else loan.script.fault (lists_of a)) (1, 0)).1
      go true b t (first q) =
          or_else_is Starts loan.script.fault.0 loan.script.fault.1 _
          (λ e. one_list _ q (told.none e) (rw t) (below_of (length loan.masks) T.needs.a))
          (λ k e. of_its_own (inl q) (told.some k e))
      go false true t (second q) =
          or_else_is Starts loan.script.fault.0 loan.script.fault.1 _
          (λ e. two_lists _ _ q (told.none e) (rw t) (below_of (length loan.masks) T.needs.b)
          (below_of (length loan.deals) T.needs.deals))
          (λ k e. of_its_own (inr q) (told.some k e))
      go false false t (neither p q) = stranger p q

  start_none : {n i : ℕ} → Starts n i → n ≡ 0 → Starts 0 0
  start_none (stranger p q) e = absurd (omega arith)
  start_none (of_its_own p q) e = absurd (omega arith)
  start_none (of_its_list p z h) e = absurd (omega arith)
  start_none (of_its_deals p z h l) e = absurd (omega arith)
  start_none (starts_well p z h l) e = starts_well p z h l

  pub start_is : (r : Pair) → Starts (start loan r).number (start loan r).index
  unfolding start
  start_is r =
      unless_is Starts (lent_fault loan).0 (lent_fault loan) (given r) (report (worker_of loan) (start_walk loan r)) refl
      (λ e. start_none lent_is e) (λ k e. lent_is)

-- ---- hearing

module _ (loan : Lent) (T : Terms) (told : Told loan.script T) (places : ToldPlaces loan.script T) (ok : Orderly loan.script)
    (s : State) where
  abbrev Is : ℕ → ℕ → Type 0
  Is = HearingIs T loan.host loan.masks loan.deals (s.order, s.turn) s.stored

  abbrev all : List Step
  all = loan.script.steps

  abbrev f : Found
  f = found_of loan s

  end_turn : last_turn 0 all ≡ 0
  end_turn = last_turn_0 all 0 ok.closed (λ e. refl)

  -- what the state's place is
  data At : Type 0 where
    at_turn : Among (s.order, s.turn) T.places → walked_to f ≡ T.walked (s.order, s.turn) → place_fault f ≡ 0 → At
    at_end : (s.order, s.turn) ≡ end_place T → walked_to f ≡ T.walked (s.order, s.turn) → place_fault f ≡ 9 → At
    at_none : (Among (s.order, s.turn) T.places → ⊥) → (s.order, s.turn) ≢ end_place T → place_fault f ≡ 8 → At

  is_placed : At
  unfolding found_of
  is_placed =
      let e : ends all ≡ 0 + ends all = omega arith in
      go (rw e (placed s.order s.turn all origin))
    where
      go : Placed s.order s.turn (places_from 0 0 all) (ends all) (last_turn 0 all) (place_fault f) → At
      go (a_turn h q) =
          let l = located_at all origin s.order s.turn h in
          at_turn (subst (Among (s.order, s.turn)) told.places h)
          (walked_there all s.order s.turn l
          ∙ places.walked l.before l.behind l.target l.gate l.is
          ∙ ap₂ (λ (o x : ℕ). T.walked (o, x)) l.order l.turn)
          q
      go (the_end a b q) =
          let p : (s.order, s.turn) ≡ end_place T = ap₂ {C = Place} (λ (i j : ℕ). (i, j)) (a ∙ told.orders) (b ∙ end_turn) in
          at_end p (walked_over all s.order s.turn q ∙ places.walked_all ∙ ap T.walked (sym p)) q
      go (nothing h g q) =
          at_none (λ k. h (subst (Among (s.order, s.turn)) (sym told.places) k))
          (λ e. g (ap (λ (p : Place). p.0) e ∙ sym told.orders) (ap (λ (p : Place). p.1) e ∙ sym end_turn)) q

  by_place : Starts loan T told 0 0 → (n : ℕ) → Judged s.stored f n → At → Is n 0
  by_place z _ (no_place p) (at_turn h w q) = absurd (omega (arith, p, q))
  by_place z _ (no_place p) (at_end h w q) = absurd (omega (arith, p, q))
  by_place z _ (no_place p) (at_none h g q) = misplaced z h g
  by_place z _ (unequal p u) (at_turn h w q) = Conditions.unequal z (inl h) (λ e. u (e ∙ sym w))
  by_place z _ (unequal p u) (at_end h w q) = Conditions.unequal z (inr h) (λ e. u (e ∙ sym w))
  by_place z _ (unequal p u) (at_none h g q) = absurd (p q)
  by_place z _ (equal p u) (at_turn h w q) = rw q (hears_well z h (u ∙ w))
  by_place z _ (equal p u) (at_end h w q) = rw q (ended z h (u ∙ w))
  by_place z _ (equal p u) (at_none h g q) = absurd (p q)

  found_is : Starts loan T told 0 0 → Is (hearing_fault s.stored f) 0
  found_is z = by_place z _ (judged s.stored f) is_placed

  resumed_is : Starts loan T told 0 0 → (v : ℕ) → Is (resume (worker_of loan) s v f).number (resume (worker_of loan) s v f).index
  unfolding resume
  resumed_is z v =
      let n : ℕ = hearing_fault s.stored f in
      unless_is Is n (n, 0) s (report (worker_of loan) (hear_walk (worker_of loan) s v f)) refl
      (λ e. subst (λ (n : ℕ). Is n 0) e (found_is z)) (λ k e. found_is z)

  turned : {n i : ℕ} (k : ℕ) → Starts loan T told n i → n ≡ suc k → Is n i
  turned k q e = rw e (as_starting (rw e at q))

  pub hearing_is : (v : ℕ) → Is (hear loan s v).number (hear loan s v).index
  unfolding hear
  hearing_is v =
      unless_is Is (lent_fault loan).0 (lent_fault loan) s (resume (worker_of loan) s v (found_of loan s)) refl
      (λ e. resumed_is (start_none loan T told (lent_is loan T told) e) v) (λ k e. turned k (lent_is loan T told) e)

-- ---- and no other: what each relation says is what the call gives

module _ (N : ℕ → ℕ → Type 0) (single : Single N) where
  one : {n i m j : ℕ} → N n i → N m j → (n ≡ m) × (i ≡ j)
  one {n} {i} {m} {j} p q = single n i m j p q

module _ (T : Terms) (single : Single T.own) (A B D : List ℕ) where
  pub one_preparation : {n i m j : ℕ} → PreparationIs T A B D n i → PreparationIs T A B D m j → (n ≡ m) × (i ≡ j)
  one_preparation (of_itself p) (of_itself q) = one T.own single p q
  one_preparation (of_itself p) (of_lists z h) = absurd (omega (arith, (one T.own single p z).0))
  one_preparation (of_itself p) (of_buffer z h k l) = absurd (omega (arith, (one T.own single p z).0))
  one_preparation (of_itself p) (prepares_well z h k l) = absurd (omega (arith, (one T.own single p z).0))
  one_preparation (of_lists z h) (of_itself q) = absurd (omega (arith, (one T.own single q z).0))
  one_preparation (of_lists z h) (of_lists y k) = (refl, refl)
  one_preparation (of_lists z (inl h)) (of_buffer y k l m) = absurd (omega arith)
  one_preparation (of_lists z (inr h)) (of_buffer y k l m) = absurd (omega arith)
  one_preparation (of_lists z (inl h)) (prepares_well y k l m) = absurd (omega arith)
  one_preparation (of_lists z (inr h)) (prepares_well y k l m) = absurd (omega arith)
  one_preparation (of_buffer z h k l) (of_itself q) = absurd (omega (arith, (one T.own single q z).0))
  one_preparation (of_buffer z h k l) (of_lists y (inl m)) = absurd (omega arith)
  one_preparation (of_buffer z h k l) (of_lists y (inr m)) = absurd (omega arith)
  one_preparation (of_buffer z h k l) (of_buffer y a b c) = (refl, refl)
  one_preparation (of_buffer z h k l) (prepares_well y a b c) = absurd (omega arith)
  one_preparation (prepares_well z h k l) (of_itself q) = absurd (omega (arith, (one T.own single q z).0))
  one_preparation (prepares_well z h k l) (of_lists y (inl m)) = absurd (omega arith)
  one_preparation (prepares_well z h k l) (of_lists y (inr m)) = absurd (omega arith)
  one_preparation (prepares_well z h k l) (of_buffer y a b c) = absurd (omega arith)
  one_preparation (prepares_well z h k l) (prepares_well y a b c) = (refl, refl)

module _ (T : Terms) (single : Single T.own) (host : ℕ) (M D : List ℕ) where
  not_both : host ≢ 1 → host ≢ 2 → (host ≡ 1) ⊎ (host ≡ 2) → ⊥
  not_both p q (inl e) = p e
  not_both p q (inr e) = q e

  pub one_start : {n i m j : ℕ} → StartIs T host M D n i → StartIs T host M D m j → (n ≡ m) × (i ≡ j)
  one_start (stranger p q) (stranger a b) = (refl, refl)
  one_start (stranger p q) (of_its_own h z) = absurd (not_both p q h)
  one_start (stranger p q) (of_its_list h z k) = absurd (not_both p q h)
  one_start (stranger p q) (of_its_deals h z k l) = absurd (q h)
  one_start (stranger p q) (starts_well h z k l) = absurd (not_both p q h)
  one_start (of_its_own h z) (stranger p q) = absurd (not_both p q h)
  one_start (of_its_own h z) (of_its_own a y) = one T.own single z y
  one_start (of_its_own h z) (of_its_list a y k) = absurd (omega (arith, (one T.own single z y).0))
  one_start (of_its_own h z) (of_its_deals a y k l) = absurd (omega (arith, (one T.own single z y).0))
  one_start (of_its_own h z) (starts_well a y k l) = absurd (omega (arith, (one T.own single z y).0))
  one_start (of_its_list h z k) (stranger p q) = absurd (not_both p q h)
  one_start (of_its_list h z k) (of_its_own a y) = absurd (omega (arith, (one T.own single z y).0))
  one_start (of_its_list h z k) (of_its_list a y l) = (refl, refl)
  one_start (of_its_list h z k) (of_its_deals a y l m) = absurd (omega arith)
  one_start (of_its_list h z k) (starts_well a y l m) = absurd (omega arith)
  one_start (of_its_deals h z k l) (stranger p q) = absurd (q h)
  one_start (of_its_deals h z k l) (of_its_own a y) = absurd (omega (arith, (one T.own single z y).0))
  one_start (of_its_deals h z k l) (of_its_list a y m) = absurd (omega arith)
  one_start (of_its_deals h z k l) (of_its_deals a y m n) = (refl, refl)
  one_start (of_its_deals h z k l) (starts_well a y m n) = absurd (omega (arith, n h))
  one_start (starts_well h z k l) (stranger p q) = absurd (not_both p q h)
  one_start (starts_well h z k l) (of_its_own a y) = absurd (omega (arith, (one T.own single z y).0))
  one_start (starts_well h z k l) (of_its_list a y m) = absurd (omega arith)
  one_start (starts_well h z k l) (of_its_deals a y m n) = absurd (omega (arith, l a))
  one_start (starts_well h z k l) (starts_well a y m n) = (refl, refl)

  module _ (o x : ℕ) (apart : Among (o, x) T.places → (o, x) ≢ end_place T) where
    module _ (u : Stored) where
      pub one_hearing : {n i m j : ℕ} → HearingIs T host M D (o, x) u n i → HearingIs T host M D (o, x) u m j → (n ≡ m) × (i ≡ j)
      one_hearing (as_starting p) (as_starting q) = one_start p q
      one_hearing (as_starting p) (misplaced z h k) = absurd (omega (arith, (one_start p z).0))
      one_hearing (as_starting p) (Conditions.unequal z h k) = absurd (omega (arith, (one_start p z).0))
      one_hearing (as_starting p) (ended z h k) = absurd (omega (arith, (one_start p z).0))
      one_hearing (as_starting p) (hears_well z h k) = absurd (omega (arith, (one_start p z).0))
      one_hearing (misplaced z h k) (as_starting p) = absurd (omega (arith, (one_start p z).0))
      one_hearing (misplaced z h k) (misplaced y a b) = (refl, refl)
      one_hearing (misplaced z h k) (Conditions.unequal y (inl a) b) = absurd (h a)
      one_hearing (misplaced z h k) (Conditions.unequal y (inr a) b) = absurd (k a)
      one_hearing (misplaced z h k) (ended y a b) = absurd (k a)
      one_hearing (misplaced z h k) (hears_well y a b) = absurd (h a)
      one_hearing (Conditions.unequal z h k) (as_starting p) = absurd (omega (arith, (one_start p z).0))
      one_hearing (Conditions.unequal z (inl h) k) (misplaced y a b) = absurd (a h)
      one_hearing (Conditions.unequal z (inr h) k) (misplaced y a b) = absurd (b h)
      one_hearing (Conditions.unequal z h k) (Conditions.unequal y a b) = (refl, refl)
      one_hearing (Conditions.unequal z h k) (ended y a b) = absurd (k b)
      one_hearing (Conditions.unequal z h k) (hears_well y a b) = absurd (k b)
      one_hearing (ended z h k) (as_starting p) = absurd (omega (arith, (one_start p z).0))
      one_hearing (ended z h k) (misplaced y a b) = absurd (b h)
      one_hearing (ended z h k) (Conditions.unequal y a b) = absurd (b k)
      one_hearing (ended z h k) (ended y a b) = (refl, refl)
      one_hearing (ended z h k) (hears_well y a b) = absurd (apart a h)
      one_hearing (hears_well z h k) (as_starting p) = absurd (omega (arith, (one_start p z).0))
      one_hearing (hears_well z h k) (misplaced y a b) = absurd (a h)
      one_hearing (hears_well z h k) (Conditions.unequal y a b) = absurd (b k)
      one_hearing (hears_well z h k) (ended y a b) = absurd (apart h a)
      one_hearing (hears_well z h k) (hears_well y a b) = (refl, refl)

-- no product or refresh has the end's place
apart : (σ : Script) (T : Terms) → Told σ T → Orderly σ → (o x : ℕ) → Among (o, x) T.places → (o, x) ≢ end_place T
apart σ T told ok o x h e =
    let k : o < 0 + ends σ.steps = before_end σ.steps 0 0 o x ok.closed (subst (Among (o, x)) (sym told.places) h) in
    omega (arith, k, told.orders, ap (λ (p : Place). p.0) e)

pub numbers : Numbers
numbers =
    record {
      preparing = λ σ T t A B D r. preparation_is σ T t A B D r;
      starting = λ loan T t r. start_is loan T t r;
      hearing = λ loan T t k o s v. hearing_is loan T t k o s v;
      one_preparation = λ T single A B D n i m j p q. one_preparation T single A B D p q;
      one_start = λ T single h M D n i m j p q. one_start T single h M D p q;
      one_hearing = λ σ T t ok single h M D o x u n i m j p q. one_hearing T single h M D o x (apart σ T t ok o x) u p q;
      gates_placed = λ w gates. gates_placed w 0 gates;
    }
