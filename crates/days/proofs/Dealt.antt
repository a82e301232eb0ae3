-- An order of a day, dealt by the code of host 0 as its own order: what it uses and deals is what the day's order does, and its lanes then
-- stand in the day's. Assumes nothing.
use mathlib.Core.Path.{◌≡◌, refl, sym, ap, ap₂, subst, ◌∙◌}
use mathlib.Core.Bool.{Bool, true, false, cond}
use mathlib.Core.List.{List, [], ◌∷◌, ◌++◌, map}
use Prim.Native.Nat.{ℕ, suc, ◌+◌, ◌*◌, ◌≤◌, ◌<◌}
use native.Mathlib.Numerals.{add-one}
use native.Mathlib.Omega.{arith}
use lib.Dec.{eqb, ltb}
use lib.ListN.{length, drop, set, drop_of_length-le}
use Rattle.words.specs.Words.{mul}
use Rattle.tables.specs.Table.{rows}
use Rattle.gates.specs.Gates.{Gate, Add, Scale}
use Rattle.gates.specs.declared.Used.{Used}
use Rattle.gates.specs.Steps.{Lane, at, product, refresh, known_product, Step, end, part2}
use Rattle.gates.specs.Meaning.{meaning, job_steps}
use Rattle.gates.specs.Costs.{Cost, plus, step_cost, cost}
use Rattle.gates.specs.Hosts.{on_mask}
use Rattle.gates.specs.Speech.{dealt_word, shape}
use Rattle.gates.proofs.Needs.{cost_append}
use Rattle.programs.specs.Orders.{program}
use Rattle.programs.proofs.Points.{target}
use Rattle.jobs.specs.Job.{job_gates, steps_of}
use Rattle.walks.specs.Dealers.{Dealer, dealer, dealing, deal_all, Room}
use Rattle.walks.proofs.Preparing.{deal_append, Midway, begins, done, further, past_end}
use Rattle.runs.proofs.Written.{Spares, none, also}
use Rattle.days.specs.Day.{day_factor, day_gates, day_steps}
use Rattle.days.specs.Orders.{own_order, is_run, order_words, with_share, entered, summed, counted, left}
use Rattle.days.specs.Orders.{front, back, within, first_tail, second_tail}
use Rattle.days.proofs.Quarters.{day_gates_count}
use Rattle.days.proofs.Moved.{moved, moved_exchange, Ready, Embeds, Same, same_local, same_deal, same_exchange, same_gate}
use Rattle.days.proofs.Moved.{still_ready, put_same}
use Rattle.days.proofs.Lanes.{place, embeds, takes, any_share, first_word, second_word, first_short, second_short}
use Rattle.days.proofs.Walked.{steps_are}
use Rattle.days.proofs.Orders.{steps_whole, idle, steps_idle}
use Rattle.days.proofs.Own.{own_job, own_spares}

-- host 0 with other lanes
abbrev pub on_lanes : (f g : Lane → Lane) → Dealer → Dealer
on_lanes f g s = record { a = s.a; b = s.b; deals = s.deals; l1 = f s.l1; l2 = g s.l2; buffer = s.buffer }

-- ---- on a lane, and on the larger one that it stands in

module _ (A B : List ℕ) (ρ : ℕ → ℕ) (x₁ x₂ : ℕ) (e₁ e₂ : Lane → Lane) (E₁ : Embeds ρ x₁ e₁) (E₂ : Embeds ρ x₂ e₂) where
  abbrev larger : Dealer → Dealer
  larger s = on_lanes e₁ e₂ s

  abbrev pub Held : Dealer → Type 0
  Held s = Ready x₁ s.l1 × Ready x₂ s.l2

  -- slot d is written alike
  written : (s : Dealer) → Held s → (d : ℕ) → eqb 15 d ≡ false → (a b n p q p' q' : ℕ) (buf buf' : List ℕ) → p' ≡ p → q' ≡ q → buf' ≡ buf
      → let t : Dealer = record { a = a; b = b; deals = n; l1 = set s.l1 d p; l2 = set s.l2 d q; buffer = buf } in
      (◌≡◌ {A = Dealer}
      (record { a = a; b = b; deals = n; l1 = set (e₁ s.l1) (ρ d) p'; l2 = set (e₂ s.l2) (ρ d) q'; buffer = buf' }) (larger t))
      × Held t
  written s r d t a b n p q p' q' buf buf' ep eq eb =
      let y = put_same ρ x₁ s.l1 r.0 d p t e₁ E₁ p' ep in
      let z = put_same ρ x₂ s.l2 r.1 d q t e₂ E₂ q' eq in (
        λ i. record { a = a; b = b; deals = n; l1 = y i; l2 = z i; buffer = eb i },
        (still_ready ρ x₁ s.l1 r.0 d p t, still_ready ρ x₂ s.l2 r.1 d q t),
      )

  step_alike : {d : ℕ} {x y : Step} → Same ρ d x y → eqb 15 d ≡ false → (s : Dealer) → Held s
      → (dealing A B y (larger s) ≡ larger (dealing A B x s)) × Held (dealing A B x s)
  unfolding dealing shape on_mask dealt_word part2 moved_exchange
  step_alike {d = d} (same_local p q) t s r =
      written s r d t _ _ _ _ _ _ _ _ _ (q x₁ e₁ E₁ s.l1 r.0) (q x₂ e₂ E₂ s.l2 r.1) refl
  step_alike {d = d} (same_deal p) t s r =
      let e = p x₁ x₂ e₁ e₂ E₁ E₂ (at A s.a) s.l1 s.l2 r.0 r.1 in
      written s r d t _ _ _ _ _ _ _ _ _ refl e (ap (set s.buffer s.deals) e)
  step_alike {d = d} (same_exchange (product O i j)) t s r =
      written s r d t _ _ _ _ _ _ _ _ _ refl refl
      (rw (E₁.seen s.l1 r.0 i, E₁.seen s.l1 r.0 j, E₂.seen s.l2 r.1 i, E₂.seen s.l2 r.1 j))
  step_alike {d = d} (same_exchange (refresh O i)) t s r = written s r d t _ _ _ _ _ _ _ _ _ refl refl refl
  step_alike {d = d} (same_exchange (known_product O i j)) t s r = written s r d t _ _ _ _ _ _ _ _ _ refl refl refl

  pub gates_alike : (w : ℕ) (gs : List Gate) → Spares 15 gs → (s : Dealer) → Held s
      → (deal_all A B (map (meaning w) (map (moved ρ) gs)) (larger s) ≡ larger (deal_all A B (map (meaning w) gs) s))
      × Held (deal_all A B (map (meaning w) gs) s)
  unfolding deal_all
  gates_alike w [] none s r = (refl, r)
  gates_alike w (g ∷ gs) (also t p) s r =
      let k = step_alike (same_gate ρ w g) t s r in
      let ih = gates_alike w gs p (dealing A B (meaning w g) s) k.1 in
      (ap (deal_all A B (map (meaning w) (map (moved ρ) gs))) k.0 ∙ ih.0, ih.1)

-- a moved gate uses as much
same_cost : {ρ : ℕ → ℕ} {d : ℕ} {x y : Step} → Same ρ d x y → step_cost y ≡ step_cost x
unfolding step_cost moved_exchange
same_cost (same_local p q) = refl
same_cost (same_deal p) = refl
same_cost (same_exchange (product O i j)) = refl
same_cost (same_exchange (refresh O i)) = refl
same_cost (same_exchange (known_product O i j)) = refl

moved_cost : (ρ : ℕ → ℕ) (w : ℕ) (gs : List Gate) → cost (map (meaning w) (map (moved ρ) gs)) ≡ cost (map (meaning w) gs)
unfolding cost
moved_cost ρ w [] = refl
moved_cost ρ w (g ∷ gs) = ap₂ plus (same_cost (same_gate ρ w g)) (moved_cost ρ w gs)

-- ---- the code's own order

module _ (w : ℕ) (table : List ℕ) (o : ℕ) where
  abbrev own : List Gate
  own = program w (rows table) (own_order o)

  own_steps : steps_of w (order_words o) table ≡ map (meaning w) own ++ (end ∷ [])
  unfolding steps_of job_gates job_steps
  own_steps = rw (own_job o) (steps_are w own [])

-- ---- an order of the day

-- the code's lanes in the day's
abbrev pub in_day : (shares : List ℕ) → Dealer → Dealer
in_day S s = on_lanes (within 0 (first_tail S)) (within 0 (second_tail S)) s

module _ (A B S : List ℕ) (listed : length S ≡ 192) (w : ℕ) (o : ℕ) where
  abbrev E₁ : Embeds (place o) (at (first_tail S) o) (within 0 (first_tail S))
  E₁ = embeds o 0 (first_tail S) (first_short S listed)

  abbrev E₂ : Embeds (place o) (at (second_tail S) o) (within 0 (second_tail S))
  E₂ = embeds o 0 (second_tail S) (second_short S listed)

  abbrev Holding : Dealer → Type 0
  Holding s = Ready (at (first_tail S) o) s.l1 × Ready (at (second_tail S) o) s.l2

  abbrev Passes : List Gate → Dealer → Dealer → Type 0
  Passes gs s t = (deal_all A B (map (meaning w) gs) (in_day S s) ≡ in_day S t) × Holding t

  moved_gates : (gs : List Gate) → Spares 15 gs → (s : Dealer) → Holding s
      → Passes (map (moved (place o)) gs) s (deal_all A B (map (meaning w) gs) s)
  moved_gates gs sp s r =
      gates_alike A B (place o) (at (first_tail S) o) (at (second_tail S) o) (within 0 (first_tail S)) (within 0 (second_tail S)) E₁ E₂ w gs sp s r

  before : (k : ℕ) (s : Dealer) → Holding s → Passes (front k o) s (on_lanes (entered w k o) (entered w k o) s)
  unfolding front entered moved place meaning target deal_all dealing shape on_mask
  before k s r = go (ltb o 96)
    where
      go : (b : Bool)
          → Passes (cond b [] (Scale 22 0 k ∷ [])) s
          (on_lanes (λ l. cond b l (set l 22 (mul w (at l 0) k))) (λ l. cond b l (set l 22 (mul w (at l 0) k))) s)
      go true = (refl, r)
      go false = moved_gates (Scale 22 0 k ∷ []) (also refl none) s r

  after : (s : Dealer) → Holding s → Passes (back o) s (on_lanes (left w o) (left w o) s)
  unfolding back left moved place meaning target deal_all dealing shape on_mask
  after s r = go (ltb o 96)
    where
      go : (b : Bool)
          → Passes (cond b (Add 0 0 22 ∷ Add 1 1 20 ∷ []) []) s
          (on_lanes (λ l. cond b (counted w (summed w l)) l) (λ l. cond b (counted w (summed w l)) l) s)
      go true = moved_gates (Add 0 0 22 ∷ Add 1 1 20 ∷ []) (also refl (also refl none)) s r
      go false = (refl, r)

  -- the share at hand in its slot
  abbrev sharing : Dealer → Dealer
  sharing s = on_lanes (with_share (at S (o * 2))) (with_share (at S (o * 2 + 1))) s

  taken : (s : Dealer) → length s.l1 ≡ 24 → length s.l2 ≡ 24 → (in_day S (sharing s) ≡ in_day S s) × Holding (sharing s)
  taken s n₁ n₂ =
      let x = any_share 0 (first_tail S) s.l1 n₁ (at S (o * 2)) in
      let y = any_share 0 (second_tail S) s.l2 n₂ (at S (o * 2 + 1)) in (
        λ i. record { a = s.a; b = s.b; deals = s.deals; l1 = x i; l2 = y i; buffer = s.buffer },
        (
          subst (λ (v : ℕ). Ready v (sharing s).l1) (sym (first_word S listed o)) (takes (at S (o * 2)) s.l1 n₁),
          subst (λ (v : ℕ). Ready v (sharing s).l2) (sym (second_word S listed o)) (takes (at S (o * 2 + 1)) s.l2 n₂),
        ),
      )

-- ---- the code's turns

module _ (A B S : List ℕ) (w : ℕ) (table : List ℕ) (f : ℕ → Bool) (s₀ : Dealer) where
  -- the day's steps from order o on
  abbrev from : (order : ℕ) → List Step
  from o = job_steps w (drop o (day_gates w f (rows table)))

  -- at the head, with the orders before o dealt
  pub record Reached (o : ℕ) (s : Dealer) : Type 0 where
    pub among : o ≤ 97
    pub long₁ : length s.l1 ≡ 24
    pub long₂ : length s.l2 ≡ 24
    pub midway : Midway A B (day_steps w table f) (from o) (in_day S s₀) (in_day S s)

  pub day_begins : Room A B (day_steps w table f) s₀ → length s₀.l1 ≡ 24 → length s₀.l2 ≡ 24 → Reached 0 s₀
  unfolding day_steps
  day_begins r n₁ n₂ =
      record {
        among = omega arith;
        long₁ = n₁;
        long₂ = n₂;
        midway = begins A B (day_steps w table f) (in_day S s₀) (record { a = r.a; b = r.b; deals = r.deals });
      }

  -- behind the last order
  pub day_done : (o : ℕ) (s : Dealer) → 96 < o → Reached o s → in_day S s ≡ deal_all A B (day_steps w table f) (in_day S s₀)
  unfolding job_steps
  day_done o s l h =
      let n : length (day_gates w f (rows table)) ≤ o = omega (arith, day_gates_count w f (rows table)) in
      done A B (day_steps w table f) (in_day S s₀) (in_day S s)
      (subst (λ (gs : List (List Gate)). Midway A B (day_steps w table f) (job_steps w gs) (in_day S s₀) (in_day S s))
      (drop_of_length-le (day_gates w f (rows table)) n) h.midway)

  -- order o is next, and is left out
  pub order_idle : (o : ℕ) (s : Dealer) → o ≤ 96 → is_run f o ≡ false → Reached o s → Reached (o + 1) s
  order_idle o s i e h =
      let k = idle w f (rows table) o i e in
      let m : Midway A B (day_steps w table f) (end ∷ from (suc o)) (in_day S s₀) (in_day S s) =
      subst (λ (ss : List Step). Midway A B (day_steps w table f) ss (in_day S s₀) (in_day S s)) (steps_idle w f (rows table) o i k.0 k.1)
      h.midway in
      let n : Reached (suc o) s =
      record {
        among = omega arith;
        long₁ = h.long₁;
        long₂ = h.long₂;
        midway = past_end A B (day_steps w table f) (in_day S s₀) (in_day S s) (from (suc o)) m;
      } in
      rw (add-one o) n

  -- order o is next, with the code's words of it
  module _ (o : ℕ) (i : o ≤ 96) (run : is_run f o ≡ true) (job : List ℕ) (ej : job ≡ order_words o) (u : Used) (c₁ c₂ : Lane)
      (buf : List ℕ) (h : Reached o (dealer u c₁ c₂ buf)) where
    abbrev gates : List Gate
    gates = program w (rows table) (own_order o)

    abbrev here : List Step
    here = map (meaning w) (map (moved (place o)) gates)

    abbrev later : List Step
    later = map (meaning w) (back o) ++ (end ∷ from (suc o))

    job_is : steps_of w job table ≡ map (meaning w) gates ++ (end ∷ [])
    job_is = ap (λ (ws : List ℕ). steps_of w ws table) ej ∙ own_steps w table o

    -- there is room for its gates, whatever the lanes
    pub order_room : (d₁ d₂ : Lane) → Room A B (steps_of w job table) (dealer u d₁ d₂ buf)
    unfolding cost step_cost plus
    order_room d₁ d₂ =
        let k = ap cost job_is ∙ cost_append (map (meaning w) gates) (end ∷ []) in
        let m = moved_cost (place o) w gates in
        let all = ap cost (steps_whole w f (rows table) o i run) ∙ cost_append (map (meaning w) (front (day_factor f) o)) (here ++ later) in
        let rest = cost_append here later in
        let r = h.midway.room in
        record {
          a = omega (
            arith,
            r.a,
            ap (λ (c : Cost). c.a) k,
            ap (λ (c : Cost). c.a) m,
            ap (λ (c : Cost). c.a) all,
            ap (λ (c : Cost). c.a) rest,
          );
          b = omega (
            arith,
            r.b,
            ap (λ (c : Cost). c.b) k,
            ap (λ (c : Cost). c.b) m,
            ap (λ (c : Cost). c.b) all,
            ap (λ (c : Cost). c.b) rest,
          );
          deals = omega (
            arith,
            r.deals,
            ap (λ (c : Cost). c.deals) k,
            ap (λ (c : Cost). c.deals) m,
            ap (λ (c : Cost). c.deals) all,
            ap (λ (c : Cost). c.deals) rest,
          );
        }

    -- d₁ and d₂ are the lanes with its share and with what is done before its gates
    module _ (listed : length S ≡ 192) (d₁ d₂ : Lane) (e₁ : d₁ ≡ entered w (day_factor f) o (with_share (at S (o * 2)) c₁))
        (e₂ : d₂ ≡ entered w (day_factor f) o (with_share (at S (o * 2 + 1)) c₂)) where
      abbrev d : Dealer
      d = dealer u d₁ d₂ buf

      entered_is : Passes A B S listed w o (front (day_factor f) o) (dealer u c₁ c₂ buf) d
      entered_is =
          let s = dealer u c₁ c₂ buf in
          let t = taken A B S listed w o s h.long₁ h.long₂ in
          let k = before A B S listed w o (day_factor f) (sharing A B S listed w o s) t.1 in
          rw (e₁, e₂) (ap (deal_all A B (map (meaning w) (front (day_factor f) o))) (sym t.0) ∙ k.0, k.1)

      halfway : Midway A B (day_steps w table f) (here ++ later) (in_day S s₀) (in_day S d)
      halfway =
          further A B (day_steps w table f) (in_day S s₀) (in_day S (dealer u c₁ c₂ buf)) (from o) (map (meaning w) (front (day_factor f) o)) (here ++ later)
          (steps_whole w f (rows table) o i run) h.midway (in_day S d) (sym entered_is.0)

      -- they are dealt, to the lanes f₁ and f₂, and what is done behind them too, to g₁ and g₂
      pub order_done : (v : Used) (f₁ f₂ : Lane) (buf' : List ℕ)
          → dealer v f₁ f₂ buf' ≡ deal_all A B (steps_of w job table) (dealer u d₁ d₂ buf)
          → (g₁ g₂ : Lane) → g₁ ≡ left w o f₁ → g₂ ≡ left w o f₂ → Reached (o + 1) (dealer v g₁ g₂ buf')
      unfolding deal_all dealing shape on_mask
      order_done v f₁ f₂ buf' e g₁ g₂ p₁ p₂ =
          let z = dealer v f₁ f₂ buf' in
          let ef : z ≡ deal_all A B (map (meaning w) gates) d =
          e ∙ ap (λ (ss : List Step). deal_all A B ss d) job_is ∙ deal_append A B (map (meaning w) gates) (end ∷ []) d in
          let k = moved_gates A B S listed w o gates (own_spares w (rows table) o) d entered_is.1 in
          let a = after A B S listed w o z (subst (Holding A B S listed w o) (sym ef) k.1) in
          let g = dealer v g₁ g₂ buf' in
          let eg : on_lanes (left w o) (left w o) z ≡ g = rw (p₁, p₂) in
          let behind : Midway A B (day_steps w table f) later (in_day S s₀) (in_day S z) =
          further A B (day_steps w table f) (in_day S s₀) (in_day S d) (here ++ later) here later refl halfway (in_day S z)
          (ap (in_day S) ef ∙ sym k.0) in
          let m : Midway A B (day_steps w table f) (end ∷ from (suc o)) (in_day S s₀) (in_day S g) =
          further A B (day_steps w table f) (in_day S s₀) (in_day S z) later (map (meaning w) (back o)) (end ∷ from (suc o)) refl behind
          (in_day S g) (ap (in_day S) (sym eg) ∙ sym a.0) in
          let n : Reached (suc o) g =
          record {
            among = omega arith;
            long₁ = rw p₁ a.1.0.long;
            long₂ = rw p₂ a.1.1.long;
            midway = past_end A B (day_steps w table f) (in_day S s₀) (in_day S g) (from (suc o)) m;
          } in
          rw (add-one o) n
