-- Where an order of a day has its products and refreshes: where the code's own order has them, behind the gates before it. Assumes nothing.
use mathlib.Core.Path.{◌≡◌, refl, sym, ap, ◌∙◌}
use mathlib.Core.Bool.{Bool, true, false, cond}
use mathlib.Core.List.{List, [], ◌∷◌, ◌++◌, map}
use Prim.Native.Nat.{ℕ, zero, suc, ◌+◌, ◌≤◌, ◌<◌}
use native.Mathlib.Nat.{zero-add}
use native.Mathlib.Omega.{arith}
use lib.Dec.{ltb}
use lib.ListN.{length, get_or}
use Rattle.std.specs.Prelude.{Option, Some, None}
use Rattle.tables.specs.Table.{Row}
use Rattle.gates.specs.Gates.{Gate, Add, Scale}
use Rattle.gates.specs.Steps.{product, refresh, known_product, Step}
use Rattle.gates.specs.Meaning.{meaning}
use Rattle.gates.specs.declared.Shape.{Shape}
use Rattle.gates.specs.declared.Shape.TheVariants.{Local, Dealing, Product, Undealt}
use Rattle.gates.specs.Speech.{shape}
use Rattle.programs.specs.Orders.{program}
use Rattle.programs.specs.declared.GatePlace.{GatePlace}
use Rattle.programs.specs.Seek.{gate_place, sought_at, sought}
use Rattle.days.specs.Day.{day_factor, day_gates}
use Rattle.days.specs.Orders.{own_order, is_run, front, back}
use Rattle.days.proofs.Quarters.{left_out_at}
use Rattle.days.proofs.Moved.{moved, moved_exchange, Same, same_local, same_deal, same_exchange, same_gate}
use Rattle.days.proofs.Lanes.{place}
use Rattle.days.proofs.Orders.{order_is}

-- ---- one gate on

unfoldable one_on : Option GatePlace → Option GatePlace
one_on (Some p) = Some (gate_place (suc p.gate) p.a p.deals)
one_on None = None

at_shift : (s : Shape) (x i a n : ℕ) (go : ℕ → ℕ → ℕ → ℕ → Option GatePlace) → ((x i a n : ℕ) → go x (suc i) a n ≡ one_on (go x i a n))
    → sought_at s x (suc i) a n go ≡ one_on (sought_at s x i a n go)
unfolding sought_at one_on
at_shift Local x i a n go ih = ih x (suc i) a n
at_shift (Dealing d) x i a n go ih = ih x (suc i) (suc a) (suc n)
at_shift (Product d) zero i a n go ih = refl
at_shift (Product d) (suc x) i a n go ih = ih x (suc i) (2 + a) (suc n)
at_shift (Undealt d) zero i a n go ih = refl
at_shift (Undealt d) (suc x) i a n go ih = ih x (suc i) (suc a) n

shift : (w : ℕ) (gs : List Gate) (x i a n : ℕ) → sought w gs x (suc i) a n ≡ one_on (sought w gs x i a n)
unfolding sought one_on
shift w [] x i a n = refl
shift w (g ∷ gs) x i a n = at_shift (shape (meaning w g)) x i a n (sought w gs) (λ x i a n. shift w gs x i a n)

-- ---- moved gates, and gates behind them that are none

module _ (ρ : ℕ → ℕ) (w : ℕ) (bs : List Gate) (free : (x i a n : ℕ) → sought w bs x i a n ≡ None) where
  at_same : {d : ℕ} {y z : Step} → Same ρ d y z → (x i a n : ℕ) (go go' : ℕ → ℕ → ℕ → ℕ → Option GatePlace)
      → ((x i a n : ℕ) → go' x i a n ≡ go x i a n) → sought_at (shape z) x i a n go' ≡ sought_at (shape y) x i a n go
  unfolding sought_at shape moved_exchange
  at_same (same_local p q) x i a n go go' ih = ih x (suc i) a n
  at_same (same_deal p) x i a n go go' ih = ih x (suc i) (suc a) (suc n)
  at_same (same_exchange (product O j k)) zero i a n go go' ih = refl
  at_same (same_exchange (product O j k)) (suc x) i a n go go' ih = ih x (suc i) (2 + a) (suc n)
  at_same (same_exchange (refresh O j)) zero i a n go go' ih = refl
  at_same (same_exchange (refresh O j)) (suc x) i a n go go' ih = ih x (suc i) (suc a) n
  at_same (same_exchange (known_product O j k)) zero i a n go go' ih = refl
  at_same (same_exchange (known_product O j k)) (suc x) i a n go go' ih = ih x (suc i) (suc a) n

  sought_moved : (gs : List Gate) (x i a n : ℕ) → sought w (map (moved ρ) gs ++ bs) x i a n ≡ sought w gs x i a n
  unfolding sought
  sought_moved [] x i a n = free x i a n
  sought_moved (g ∷ gs) x i a n =
      at_same (same_gate ρ w g) x i a n (sought w gs) (sought w (map (moved ρ) gs ++ bs)) (λ x i a n. sought_moved gs x i a n)

-- ---- an order of the day

back_free : (w o x i a n : ℕ) → sought w (back o) x i a n ≡ None
unfolding back sought sought_at meaning shape
back_free w o x i a n = go (ltb o 96)
  where
    go : (b : Bool) → sought w (cond b (Add 0 0 22 ∷ Add 1 1 20 ∷ []) []) x i a n ≡ None
    go true = refl
    go false = refl

-- behind so many gates
unfoldable pub behind_gates : (n : ℕ) → Option GatePlace → Option GatePlace
behind_gates k (Some p) = Some (gate_place (k + p.gate) p.a p.deals)
behind_gates k None = None

none_before : (s : Option GatePlace) → s ≡ behind_gates 0 s
unfolding behind_gates
none_before (Some p) = ap (λ (j : ℕ). Some (gate_place j p.a p.deals)) (sym (zero-add p.gate))
none_before None = refl

one_before : (s : Option GatePlace) → one_on s ≡ behind_gates 1 s
unfolding behind_gates one_on
one_before (Some p) = let e : suc p.gate ≡ 1 + p.gate = omega arith in ap (λ (j : ℕ). Some (gate_place j p.a p.deals)) e
one_before None = refl

module _ (w : ℕ) (f : ℕ → Bool) (ps : List Row) (o : ℕ) (h : o ≤ 96) (x : ℕ) where
  abbrev own : List Gate
  own = program w ps (own_order o)

  by_front : (k : ℕ) (b : Bool) → sought w (cond b [] (Scale 22 0 k ∷ []) ++ (map (moved (place o)) own ++ back o)) x 0 0 0
      ≡ behind_gates (length (cond b [] (Scale 22 0 k ∷ []))) (sought w own x 0 0 0)
  unfolding sought sought_at meaning shape
  by_front k true = sought_moved (place o) w (back o) (back_free w o) own x 0 0 0 ∙ none_before _
  by_front k false =
      shift w (map (moved (place o)) own ++ back o) x 0 0 0
      ∙ ap one_on (sought_moved (place o) w (back o) (back_free w o) own x 0 0 0) ∙ one_before _

  pub sought_in_day : is_run f o ≡ true
      → sought w (get_or (day_gates w f ps) o []) x 0 0 0
      ≡ behind_gates (length (front (day_factor f) o)) (sought w (program w ps (own_order o)) x 0 0 0)
  unfolding front
  sought_in_day run = ap (λ (gs : List Gate). sought w gs x 0 0 0) (order_is w f ps o h run) ∙ by_front (day_factor f) (ltb o 96)

  -- a quarter that is left out has none
  pub none_left_out : o < 96 → f o ≡ false → sought w (get_or (day_gates w f ps) o []) x 0 0 0 ≡ None
  unfolding sought
  none_left_out l e = ap (λ (gs : List Gate). sought w gs x 0 0 0) (left_out_at w f ps o l e)
