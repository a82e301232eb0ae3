-- A word heard at a product or refresh of an order of a day, by the code's own order and by the day's: from there on the two are walked
-- alike. Assumes nothing.
use mathlib.Core.Path.{◌≡◌, refl, sym, ap, ap₂, subst, ◌∙◌}
use mathlib.Core.Bool.{false}
use mathlib.Core.List.{List, [], ◌∷◌, ◌++◌, map}
use Prim.Native.Nat.{ℕ, zero, suc, ◌≤◌}
use lib.Dec.{eqb}
use lib.ListN.{length, drop, set}
use Rattle.gates.specs.Gates.{Gate}
use Rattle.gates.specs.Steps.{Lane, at, Exchange, product, refresh, known_product, Step, exchange, end, meet, new_at, past_deal, Cursor, past}
use Rattle.gates.specs.Meaning.{meaning, order_steps}
use Rattle.gates.specs.Walk.{Exchanging, far}
use Rattle.gates.specs.Hosts.{Pair}
use Rattle.gates.specs.Speech.{met, shape}
use Rattle.gates.specs.Codes.{At, fetched}
use Rattle.gates.proofs.Fetched.{first_left}
use Rattle.programs.specs.Costs.{program_cost}
use Rattle.programs.proofs.Points.{target}
use Rattle.calls.specs.Lent.{Worker, worker_with}
use Rattle.calls.specs.Places.{found}
use Rattle.calls.specs.declared.Stored.{Stored}
use Rattle.calls.specs.Calls.{State, Answer, word_at, report, hear_walk}
use Rattle.walks.specs.Workers.{cursor, first_at, new_mask, sum_of, heard_at}
use Rattle.walks.specs.Halts.{reported}
use Rattle.walks.proofs.Halts.{past_exchange, walk_on}
use Rattle.walks.proofs.Workers.{heard_by, heard_as, heard_any}
use Rattle.runs.proofs.Written.{Spares, none, also}
use Rattle.days.specs.Orders.{within}
use Rattle.days.proofs.Moved.{moved, moved_exchange, Ready, Embeds, Same, same_local, same_deal, same_exchange, same_gate}
use Rattle.days.proofs.Moved.{still_ready, put_same}
use Rattle.days.proofs.Lanes.{place, embeds}
use Rattle.days.proofs.Outcomes.{says_same}
use Rattle.days.proofs.Walked.{steps_are, day_from, Held, Walked, walked}

-- ---- one exchange

module _ (h : ℕ) (M D : List ℕ) (ρ : ℕ → ℕ) (x₁ x₂ : ℕ) (e₁ e₂ : Lane → Lane) (E₁ : Embeds ρ x₁ e₁) (E₂ : Embeds ρ x₂ e₂) where
  abbrev W : Worker
  W = worker_with h M D

  abbrev big : Pair → Pair
  big s = (e₁ s.0, e₂ s.1)

  abbrev Both : Pair → Type 0
  Both s = Ready x₁ s.0 × Ready x₂ s.1

  -- slot d is written alike
  written : (d p q : ℕ) (s : Pair) → Both s → eqb 15 d ≡ false
      → (◌≡◌ {A = Pair} (set (e₁ s.0) (ρ d) p, set (e₂ s.1) (ρ d) q) (big (set s.0 d p, set s.1 d q)))
      × Both (set s.0 d p, set s.1 d q)
  written d p q s r t = (
    ap₂ {C = Pair} (λ (y z : Lane). (y, z)) (put_same ρ x₁ s.0 r.0 d p t e₁ E₁ p refl)
        (put_same ρ x₂ s.1 r.1 d q t e₂ E₂ q refl),
    (still_ready ρ x₁ s.0 r.0 d p t, still_ready ρ x₂ s.1 r.1 d q t),
  )

  -- an exchange, with the sum of the two words and the new mask
  heard_of : (d : ℕ) → eqb 15 d ≡ false → (a b n : ℕ) (s : Pair) → Both s → (v : ℕ) (e : Exchange) (sum new : ℕ)
      → let own : ℕ = W.say e (cursor 0 0 a b n) s in
      heard_by (shape (exchange d e)) (sum_of h (exchange d e) own v) (new_mask h M (exchange d e) a b) s
      ≡ (set s.0 d sum, set s.1 d new)
      → heard_by (shape (exchange (ρ d) (moved_exchange ρ e))) (sum_of h (exchange (ρ d) (moved_exchange ρ e)) own v)
      (new_mask h M (exchange (ρ d) (moved_exchange ρ e)) a b) (big s)
      ≡ (set (e₁ s.0) (ρ d) sum, set (e₂ s.1) (ρ d) new)
      → (heard_at W (exchange (ρ d) (moved_exchange ρ e)) (cursor 0 0 a b n) (big s) v
      ≡ big (heard_at W (exchange d e) (cursor 0 0 a b n) s v))
      × Both (heard_at W (exchange d e) (cursor 0 0 a b n) s v)
  unfolding word_at
  heard_of d t a b n s r v e sum new p q =
      let own : ℕ = W.say e (cursor 0 0 a b n) s in
      let here = heard_as M D 0 0 a b n s h (exchange d e) own v refl ∙ p in
      let there = heard_as M D 0 0 a b n (big s) h (exchange (ρ d) (moved_exchange ρ e)) own v
      (sym (says_same h M D ρ x₁ x₂ e₁ e₂ E₁ E₂ (cursor 0 0 a b n) s r e)) ∙ q in
      let k = written d sum new s r t in
      (there ∙ k.0 ∙ ap big (sym here), subst Both (sym here) k.1)

  pub heard_alike : {d : ℕ} {y z : Step} → Same ρ d y z → Exchanging (y ∷ []) → eqb 15 d ≡ false → (a b n : ℕ) (s : Pair) → Both s → (v : ℕ)
      → (heard_at W z (cursor 0 0 a b n) (big s) v ≡ big (heard_at W y (cursor 0 0 a b n) s v)) × Both (heard_at W y (cursor 0 0 a b n) s v)
  unfolding shape sum_of met meet new_mask first_at new_at moved_exchange
  heard_alike (same_local p q) x t a b n s r v = absurd x
  heard_alike (same_deal p) x t a b n s r v = absurd x
  heard_alike {d = d} (same_exchange (product O i j)) x t a b n s r v = heard_of d t a b n s r v (product O i j) _ _ refl refl
  heard_alike {d = d} (same_exchange (refresh O i)) x t a b n s r v = heard_of d t a b n s r v (refresh O i) _ _ refl refl
  heard_alike {d = d} (same_exchange (known_product O i j)) x t a b n s r v = heard_of d t a b n s r v (known_product O i j) _ _ refl refl

-- the same is used there, and the moved step is an exchange too
past_same : {ρ : ℕ → ℕ} {d : ℕ} {y z : Step} → Same ρ d y z → (c : Cursor) → past z c ≡ past y c
unfolding past new_at past_deal moved_exchange
past_same (same_local p q) c = refl
past_same (same_deal p) c = refl
past_same (same_exchange (product O i j)) c = refl
past_same (same_exchange (refresh O i)) c = refl
past_same (same_exchange (known_product O i j)) c = refl

pub speaks_same : {ρ : ℕ → ℕ} {d : ℕ} {y z : Step} → Same ρ d y z → Exchanging (y ∷ []) → Exchanging (z ∷ [])
speaks_same (same_local p q) x = absurd x
speaks_same (same_deal p) x = absurd x
speaks_same (same_exchange e) x = tt

drop_spares : (i : ℕ) (gs : List Gate) → Spares 15 gs → Spares 15 (drop i gs)
drop_spares zero gs p = p
drop_spares (suc i) [] none = none
drop_spares (suc i) (g ∷ gs) (also e p) = drop_spares i gs p

head_spares : (g : Gate) (gs : List Gate) → Spares 15 (g ∷ gs) → eqb 15 (target g) ≡ false
head_spares g gs (also e p) = e

-- ---- from the exchange at gate i of the code's own order on

module _ (h : ℕ) (M D : List ℕ) (w : ℕ) (o k₁ k₂ : ℕ) (t₁ t₂ : Lane) (l₁ : length t₁ ≤ 104) (l₂ : length t₂ ≤ 104) (own : List Gate)
    (sp : Spares 15 own) (i : ℕ) (g : Gate) (there : fetched own i ≡ At g) (speaks : Exchanging (meaning w g ∷ [])) (rest : List Step)
    (x a b n : ℕ) (m l : Lane) (r : Held h M D w o k₁ k₂ t₁ t₂ l₁ l₂ (m, l)) (stored : Stored) (v : ℕ) where
  abbrev P : Worker
  P = worker_with h M D

  abbrev hs : List Gate
  hs = drop (suc i) own

  abbrev state_at : (order : ℕ) → Lane → Lane → State
  state_at q c c' = record { m = c; mask = c'; order = q; turn = x; stored = stored }

  -- what the code answers, and the day
  abbrev pub code : Answer
  code = report P (hear_walk P (state_at 0 m l) v (found (order_steps w (drop i own) []) (cursor 0 x a b n)))

  abbrev pub day : Answer
  day = report P (hear_walk P (state_at o (within k₁ t₁ m) (within k₂ t₂ l)) v (found (day_from w o (drop i own) rest) (cursor o x a b n)))

  same : Same (place o) (target g) (meaning w g) (meaning w (moved (place o) g))
  same = same_gate (place o) w g

  cut : drop i own ≡ g ∷ hs
  cut = first_left own i g there

  alone : eqb 15 (target g) ≡ false
  alone = head_spares g hs (subst (Spares 15) cut (drop_spares i own sp))

  -- the lanes then, and the words of A and the deals used
  abbrev u : Pair
  u = heard_at P (meaning w g) (cursor 0 0 a b n) (m, l) v

  abbrev a' : ℕ
  a' = (past (meaning w g) (cursor 0 0 a 0 n)).a

  abbrev n' : ℕ
  n' = (past (meaning w g) (cursor 0 0 a 0 n)).deals

  heard : (heard_at P (meaning w (moved (place o) g)) (cursor 0 0 a b n) (within k₁ t₁ m, within k₂ t₂ l) v
      ≡ (within k₁ t₁ u.0, within k₂ t₂ u.1))
      × Held h M D w o k₁ k₂ t₁ t₂ l₁ l₂ u
  heard =
      heard_alike h M D (place o) (at t₁ o) (at t₂ o) (within k₁ t₁) (within k₂ t₂) (embeds o k₁ t₁ l₁) (embeds o k₂ t₂ l₂) same
      speaks alone a b n (m, l) r v

  code_on : code ≡ reported P (map (meaning w) hs ++ (end ∷ [])) (cursor 0 (suc x) a' (suc b) n') u
  unfolding order_steps
  code_on =
      ap (λ (gs : List Gate). report P (hear_walk P (state_at 0 m l) v (found (order_steps w gs []) (cursor 0 x a b n)))) cut
      ∙ walk_on P (state_at 0 m l) v (meaning w g) (order_steps w hs []) (cursor 0 x a b n) speaks
      ∙ ap (λ (c : Cursor). reported P (order_steps w hs []) c (heard_at P (meaning w g) (cursor 0 x a b n) (m, l) v))
      (past_exchange (meaning w g) speaks 0 x a b n)
      ∙ ap₂ (λ (ss : List Step) (z : Pair). reported P ss (cursor 0 (suc x) a' (suc b) n') z) (steps_are w hs [])
      (heard_any h M D (meaning w g) 0 x a b n (m, l) v)

  abbrev y : Step
  y = meaning w (moved (place o) g)

  past_day : past y (cursor o x a b n) ≡ cursor o (suc x) a' (suc b) n'
  past_day = past_same same (cursor o x a b n) ∙ past_exchange (meaning w g) speaks o x a b n

  day_cut : day_from w o (drop i own) rest ≡ y ∷ day_from w o hs rest
  day_cut = ap (λ (gs : List Gate). day_from w o gs rest) cut

  day_on : day ≡ reported P (day_from w o hs rest) (cursor o (suc x) a' (suc b) n') (within k₁ t₁ u.0, within k₂ t₂ u.1)
  day_on =
      let s = state_at o (within k₁ t₁ m) (within k₂ t₂ l) in
      ap (λ (ss : List Step). report P (hear_walk P s v (found ss (cursor o x a b n)))) day_cut
      ∙ walk_on P s v y (day_from w o hs rest) (cursor o x a b n) (speaks_same same speaks)
      ∙ ap₂ (reported P (day_from w o hs rest)) past_day
      (heard_any h M D y o x a b n (within k₁ t₁ m, within k₂ t₂ l) v ∙ heard.0)

  far_on : far (day_from w o (drop i own) rest) (cursor o x a b n) ≡ far (day_from w o hs rest) (cursor o (suc x) a' (suc b) n')
  unfolding far
  far_on = ap (λ (ss : List Step). far ss (cursor o x a b n)) day_cut ∙ ap (far (day_from w o hs rest)) past_day

  pub heard_walked : Walked h M D w o k₁ k₂ t₁ t₂ l₁ l₂ rest (suc x) (suc b) (program_cost w hs).b
      (far (day_from w o (drop i own) rest) (cursor o x a b n)) day code
  heard_walked =
      rw (code_on, day_on, far_on)
      (walked h M D w o k₁ k₂ t₁ t₂ l₁ l₂ hs (drop_spares (suc i) own sp) rest (suc x) a' (suc b) n' u heard.1)
