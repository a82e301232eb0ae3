-- The answer of a walk, step by step: it does not depend on the trail, and goes on at every step but a product or
-- refresh. Assumes nothing.
use mathlib.Core.Path.{◌≡◌, refl, ap, ◌∙◌}
use mathlib.Core.List.{List, [], ◌∷◌, ◌++◌}
use Prim.Native.Nat.{ℕ, suc, ◌+◌}
use native.Mathlib.Numerals.{add-one}
use native.Mathlib.Omega.{arith}
use Rattle.gates.specs.Steps.{product, refresh, known_product, Step, local, deal, exchange, end, Cursor, past}
use Rattle.gates.specs.declared.Used.{Used}
use Rattle.gates.specs.Costs.{step_cost, used_at}
use Rattle.gates.specs.Walk.{walk, Exchanging}
use Rattle.gates.specs.Hosts.{Pair}
use Rattle.calls.specs.Lent.{Worker}
use Rattle.calls.specs.Places.{found}
use Rattle.calls.specs.Calls.{State, stored_places, word_at, spoken_at, stored_at, report, hear_walk}
use Rattle.walks.specs.Workers.{cursor, heard_at}
use Rattle.walks.specs.Halts.{going_on, reported}
use Rattle.gates.proofs.GateSteps.{OfGate}
use Rattle.gates.proofs.Uses.{behind_a, behind_deals}

pub trail_free : (P : Worker) (ss : List Step) (c : Cursor) (s : Pair) (t u : List Pair)
    → report P (walk P.act ss c s t) ≡ report P (walk P.act ss c s u)
unfolding walk
trail_free P [] c s t u = refl
trail_free P (local d m l ∷ ss) c s t u = trail_free P ss _ _ t u
trail_free P (deal d f ∷ ss) c s t u = trail_free P ss _ _ t u
trail_free P (exchange d e ∷ ss) c s t u = refl
trail_free P (end ∷ ss) c s t u = trail_free P ss _ _ (t ++ (s ∷ [])) (u ++ (s ∷ []))

module _ (P : Worker) (ss : List Step) (o x a b dealt : ℕ) (s : Pair) where
  -- a step where no word of B is used
  pub passes : (y : Step) → OfGate y → (step_cost y).b ≡ 0
      → reported P (y ∷ ss) (cursor o x a b dealt) s
      ≡ reported P ss (cursor o x (past y (cursor 0 0 a 0 dealt)).a b (past y (cursor 0 0 a 0 dealt)).deals)
      (P.act y (cursor o x a b dealt) s)
  unfolding reported walk past step_cost
  passes (local d m l) g e = refl
  passes (deal d f) g e = refl
  passes (exchange d (product O p q)) g e = absurd (omega arith)
  passes (exchange d (refresh O p)) g e = absurd (omega arith)
  passes (exchange d (known_product O p q)) g e = absurd (omega arith)
  passes end g e = absurd g

  pub passes_end : (act_end : P.act end (cursor o x a b dealt) s ≡ s)
      → reported P (end ∷ ss) (cursor o x a b dealt) s ≡ reported P ss (cursor (suc o) 0 a b dealt) s
  unfolding reported walk past
  passes_end e =
      trail_free P ss _ _ _ []
      ∙ ap (λ (z : Pair). report P (walk P.act ss (cursor (suc o) 0 a b dealt) z [])) e

  -- the answer at a product or refresh
  pub stops : (y : Step) → Exchanging (y ∷ [])
      → reported P (y ∷ ss) (cursor o x a b dealt) s
      ≡ going_on (suc b) (word_at P.say (y ∷ []) (cursor o x a b dealt) s) s.0 s.1 o x
      (stored_places (past y (cursor 0 0 a 0 dealt)).a (suc b) (past y (cursor 0 0 a 0 dealt)).deals)
  unfolding reported walk word_at spoken_at stored_at past
  stops (local d m l) h = absurd h
  stops (deal d f) h = absurd h
  stops (exchange d e) h = refl
  stops end h = absurd h

  -- and at the end
  pub ends : reported P [] (cursor o x a b dealt) s ≡ going_on b 0 s.0 s.1 o x (stored_places a b dealt)
  unfolding reported walk word_at spoken_at stored_at
  ends = refl

-- ---- the other's word is heard

-- the cursor behind a product or refresh
pub past_exchange : (y : Step) → Exchanging (y ∷ []) → (o x a b dealt : ℕ)
    → past y (cursor o x a b dealt)
    ≡ cursor o (suc x) (past y (cursor 0 0 a 0 dealt)).a (suc b) (past y (cursor 0 0 a 0 dealt)).deals
unfolding past
past_exchange (local d m l) h o x a b n = absurd h
past_exchange (deal d f) h o x a b n = absurd h
past_exchange (exchange d e) h o x a b n = refl
past_exchange end h o x a b n = absurd h

-- the walk goes on behind it, on the lanes that are written then
pub walk_on : (P : Worker) (s : State) (v : ℕ) (y : Step) (ss : List Step) (c : Cursor) → Exchanging (y ∷ [])
    → report P (hear_walk P s v (found (y ∷ ss) c)) ≡ reported P ss (past y c) (heard_at P y c (s.m, s.mask) v)
unfolding hear_walk reported heard_at
walk_on P s v (local d m l) ss c h = absurd h
walk_on P s v (deal d f) ss c h = absurd h
walk_on P s v (exchange d e) ss c h = refl
walk_on P s v end ss c h = absurd h

-- the walk's places at a product or refresh, with what is used there
pub with_own : (y : Step) (ss : List Step) (u : Used) → u ≡ used_at y → Exchanging (y ∷ []) → (o x a b dealt : ℕ)
    → stored_at (y ∷ ss) (cursor o x a b dealt) ≡ stored_places (a + u.a) (b + 1) (dealt + u.deals)
unfolding stored_at past
with_own y ss u e h o x a b n =
    here y h
    ∙ rw (add-one b, behind_a y u e (cursor 0 0 a 0 n), behind_deals y u e (cursor 0 0 a 0 n))
  where
    here : (y : Step) → Exchanging (y ∷ [])
        → stored_at (y ∷ ss) (cursor o x a b n)
        ≡ stored_places (past y (cursor 0 0 a 0 n)).a (suc b) (past y (cursor 0 0 a 0 n)).deals
    here (local d m l) h = absurd h
    here (deal d f) h = absurd h
    here (exchange d e) h = refl
    here end h = absurd h
