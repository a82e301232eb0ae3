-- Document 01, "Turned down, in checking order": conditions 1 to 9 of preparation, starting and hearing, and R-7's 18,
-- in the document's words: what number a call has, and which index. Assumes nothing.
use Rattle.std.specs.Prelude.{◌≡◌, ◌≢◌, ◌⊎◌, Bool, true, false, cond, List, [], ◌∷◌, ◌++◌}
use Rattle.std.specs.Prelude.{ℕ, zero, suc, ◌≤◌, ◌<◌, eqb, length, get_or, take}
use Rattle.gates.specs.Steps.{Step, local, deal, exchange, end}
use Rattle.gates.specs.Costs.{Cost, cost}
use Rattle.gates.specs.Meaning.{job_steps}
use Rattle.gates.specs.Gates.{Gate, Add, Sub, Xor, Mul, And, Refresh, MulKnown, AndKnown, Scale, Plus, Up, Bit, Const}
use Rattle.gates.specs.Gates.{Public, Deal, DealBits}
use Rattle.calls.specs.declared.Stored.{Stored}
use Rattle.calls.specs.Calls.{stored_places}
use Rattle.runs.specs.Runs.{Among}

-- ---- places: "(order, and which of its products and refreshes, both from 0; the end is the number of orders and 0)"

abbrev pub Place : Type 0
Place = ℕ × ℕ

-- the places of the products and refreshes among steps, the first of which would have the place (o, x)
unfoldable pub places_from : (o x : ℕ) → List Step → List Place
places_from o x [] = []
places_from o x (local d m l ∷ ss) = places_from o x ss
places_from o x (deal d f ∷ ss) = places_from o x ss
places_from o x (exchange d e ∷ ss) = (o, x) ∷ places_from o (suc x) ss
places_from o x (end ∷ ss) = places_from (suc o) 0 ss

-- a gate is a product, of numbers or of bits, or a refresh
unfoldable pub speaks : Gate → Bool
speaks (Add d a b) = false
speaks (Sub d a b) = false
speaks (Xor d a b) = false
speaks (Mul d a b) = true
speaks (And d a b) = true
speaks (Refresh d a) = true
speaks (MulKnown d a b) = true
speaks (AndKnown d a b) = true
speaks (Scale d a n) = false
speaks (Plus d a n) = false
speaks (Up d a n) = false
speaks (Bit d a n) = false
speaks (Const d n) = false
speaks (Public d a f) = false
speaks (Deal d a f) = false
speaks (DealBits d a) = false

-- the same among the gates of order o
unfoldable pub order_places : (o x : ℕ) → List Gate → List Place
order_places o x [] = []
order_places o x (g ∷ gs) = cond (speaks g) ((o, x) ∷ order_places o (suc x) gs) (order_places o x gs)

-- and of the orders from order o on, each a list of gates
unfoldable pub gate_places : (o : ℕ) → List (List Gate) → List Place
gate_places o [] = []
gate_places o (gs ∷ os) = order_places o 0 gs ++ gate_places (suc o) os

-- ---- R-7, the walk's places: "On either host the walk counts all three, over the gates up to and with the place's
-- own, at the end over all."

-- the words of A and of B that steps use, and the deals, by document 01's counts
abbrev pub used_in : List Step → Stored
used_in ss = stored_places (cost ss).a (cost ss).b (cost ss).deals

-- the gates of an order up to and with its product or refresh number x
unfoldable pub up_to : (x : ℕ) → List Gate → List Gate
up_to x [] = []
up_to zero (g ∷ gs) = g ∷ cond (speaks g) [] (up_to zero gs)
up_to (suc x) (g ∷ gs) = g ∷ up_to (cond (speaks g) x (suc x)) gs

-- all gates up to and with the place's own: those of the orders before, and of its own order; at the end, behind the
-- last order, those of all orders
abbrev pub gates_to : List (List Gate) → Place → List (List Gate)
gates_to os p = take p.0 os ++ (up_to p.1 (get_or os p.0 []) ∷ [])

-- what they use
unfoldable pub walks_places : (w : ℕ) → List (List Gate) → Place → Stored
walks_places w os p = used_in (job_steps w (gates_to os p))

-- ---- what the conditions speak of

pub record Terms : Type 1 where
  -- the number and the index by the conditions that come before 6, or 0 and 0 where none of them is met; for a job
  -- these are 2 to 5, for a day 12, 16, 17 and 5
  pub own : (number index : ℕ) → Type 0
  -- the words needed of A and of B, and the deals
  pub needs : Cost
  -- the places of its products and refreshes, and the number of its orders
  pub places : List Place
  pub orders : ℕ
  -- the walk's places at each of these places and at the end
  pub walked : Place → Stored

-- a relation holds of one number and one index
abbrev pub Single : (ℕ → ℕ → Type 0) → Type 0
Single N = (n i m j : ℕ) → N n i → N m j → (n ≡ m) × (i ≡ j)

-- ---- preparation, "2 to 7": "host 0: A and B"; "(hosts 0 and 2)"

pub data PreparationIs (T : Terms) (A B buffer : List ℕ) : (number index : ℕ) → Type 0 where
  -- 2 to 5
  of_itself : {n i : ℕ} → T.own (suc n) i → PreparationIs T A B buffer (suc n) i
  -- "6. A list that this host uses (host 0: A and B; ..) is shorter than the job needs."
  of_lists : T.own 0 0 → (length A < T.needs.a) ⊎ (length B < T.needs.b) → PreparationIs T A B buffer 6 0
  -- "7. The deal list or deal buffer is shorter than the job's deals (hosts 0 and 2)."
  of_buffer : T.own 0 0 → T.needs.a ≤ length A → T.needs.b ≤ length B → length buffer < T.needs.deals
      → PreparationIs T A B buffer 7 0
  prepares_well : T.own 0 0 → T.needs.a ≤ length A → T.needs.b ≤ length B
      → T.needs.deals ≤ length buffer
      → PreparationIs T A B buffer 0 0

-- ---- starting, "1 to 7", of the host with this number, lent its mask list and the deals

-- "A list that this host uses (.. host 1: A; host 2: B)"
abbrev pub list_needed : Terms → (host : ℕ) → ℕ
list_needed T h = cond (eqb h 1) T.needs.a T.needs.b

pub data StartIs (T : Terms) (h : ℕ) (masks deals : List ℕ) : (number index : ℕ) → Type 0 where
  -- "1. Starting or stepping names a host other than 1 or 2."
  stranger : h ≢ 1 → h ≢ 2 → StartIs T h masks deals 1 0
  -- 2 to 5, 6 and 7
  of_its_own : {n i : ℕ} → (h ≡ 1) ⊎ (h ≡ 2) → T.own (suc n) i → StartIs T h masks deals (suc n) i
  of_its_list : (h ≡ 1) ⊎ (h ≡ 2) → T.own 0 0 → length masks < list_needed T h
      → StartIs T h masks deals 6 0
  of_its_deals : h ≡ 2 → T.own 0 0 → list_needed T h ≤ length masks → length deals < T.needs.deals
      → StartIs T h masks deals 7 0
  starts_well : (h ≡ 1) ⊎ (h ≡ 2) → T.own 0 0 → list_needed T h ≤ length masks
      → (h ≡ 2 → T.needs.deals ≤ length deals)
      → StartIs T h masks deals 0 0

-- ---- hearing, "1 to 9" and 18, in a state whose place is p and whose stored places are u

abbrev pub end_place : Terms → Place
end_place T = (T.orders, 0)

pub data HearingIs (T : Terms) (h : ℕ) (masks deals : List ℕ) (p : Place) (u : Stored)
    : (number index : ℕ) → Type 0
  where
    -- 1 to 7
    as_starting : {n i : ℕ} → StartIs T h masks deals (suc n) i → HearingIs T h masks deals p u (suc n) i
    -- "8. The state's place is neither the end nor a product or refresh of this job."
    misplaced : StartIs T h masks deals 0 0 → (Among p T.places → ⊥) → p ≢ end_place T
        → HearingIs T h masks deals p u 8 0
    -- R-7: "18, stored places unequal to the walk's, after 8": so before 9, and at the end too
    unequal : StartIs T h masks deals 0 0 → Among p T.places ⊎ (p ≡ end_place T) → u ≢ T.walked p
        → HearingIs T h masks deals p u 18 0
    -- "9. Hearing is called at the end."
    ended : StartIs T h masks deals 0 0 → p ≡ end_place T → u ≡ T.walked p
        → HearingIs T h masks deals p u 9 0
    hears_well : StartIs T h masks deals 0 0 → Among p T.places → u ≡ T.walked p
        → HearingIs T h masks deals p u 0 0
