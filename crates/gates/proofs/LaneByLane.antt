-- The three hosts' steps are the joint walk's, lane by lane, and their words at an exchange are its words. Assumes nothing.
use mathlib.Core.Path.{◌≡◌, refl}
use mathlib.Core.List.{List, ◌∷◌}
use Prim.Native.Nat.{ℕ}
use Rattle.gates.specs.Steps.{Lane, at, Exchange, product, refresh, known_product, Step, local, deal, exchange, end, say2, past_deal}
use Rattle.gates.specs.Steps.{emit, Cursor, past}
use Rattle.gates.specs.Hosts.{on_m, on_mask, Triple, of0, of1, of2, act0, dealt, deals, act1, word_of1, hear1, act2, word_of2, hear2}
use Rattle.gates.specs.Hosts.{joint1, joint2, act, Starts, Supplied}
use Rattle.gates.proofs.Seen.{Seen, quiet, Always, Any}

module _ (A B : List ℕ) where
  pub of0_act : (x : Step) (c : Cursor) (j : Triple) → act0 A B x c (of0 j) ≡ of0 (act A B x c j)
  unfolding act0 act
  of0_act (local d m l) c j = refl
  of0_act (deal d f) c j = refl
  of0_act (exchange d e) c j = refl
  of0_act end c j = refl

  pub seen0 : Seen (act A B) (act0 A B) of0 Always Any
  seen0 = record { keeps = λ x ss c s g. tt; same = λ x ss c s g o. of0_act x c s }

  of1_act : (x : Step) (c : Cursor) (j : Triple) → quiet x → act1 A x c (of1 j) ≡ of1 (act A B x c j)
  unfolding act1 act on_m on_mask
  of1_act (local d m l) c j q = refl
  of1_act (deal d f) c j q = refl
  of1_act (exchange d e) c j q = absurd q
  of1_act end c j q = refl

  pub seen1 : Seen (act A B) (act1 A) of1 Always quiet
  seen1 = record { keeps = λ x ss c s g. tt; same = λ x ss c s g o. of1_act x c s o }

  module _ (D : List ℕ) where
    supply_exchange : (e : Exchange) (n x : ℕ) (ds : List ℕ) → Starts D n (emit e x ds) → Starts D (past_deal e n) ds
    unfolding emit past_deal
    supply_exchange (product O a b) n x ds h = h.1
    supply_exchange (refresh O a) n x ds h = h
    supply_exchange (known_product O a b) n x ds h = h

    keeps2 : (x : Step) (ss : List Step) (c : Cursor) (j : Triple) → Supplied A B D (x ∷ ss) c j
        → Supplied A B D ss (past x c) (act A B x c j)
    unfolding deals dealt past
    keeps2 (local d m l) ss c j g = rw (← of0_act (local d m l) c j) g
    keeps2 (deal d f) ss c j g = rw (← of0_act (deal d f) c j) g.1
    keeps2 (exchange d e) ss c j g = rw (← of0_act (exchange d e) c j) (supply_exchange e c.deals _ _ g)
    keeps2 end ss c j g = rw (← of0_act end c j) g

    same2 : (x : Step) (ss : List Step) (c : Cursor) (j : Triple) → Supplied A B D (x ∷ ss) c j → quiet x
        → act2 B D x c (of2 j) ≡ of2 (act A B x c j)
    unfolding act2 act deals dealt on_m on_mask
    same2 (local d m l) ss c j g q = refl
    same2 (deal d f) ss c j g q = rw g.0
    same2 (exchange d e) ss c j g q = absurd q
    same2 end ss c j g q = refl

    pub seen2 : Seen (act A B) (act2 B D) of2 (Supplied A B D) quiet
    seen2 = record { keeps = keeps2; same = same2 }

    -- at an exchange
    pub says1 : (e : Exchange) (c : Cursor) (j : Triple) → word_of1 A e c (of1 j) ≡ joint1 A B e c j
    unfolding word_of1 joint1
    says1 e c j = refl

    say2_part : (e : Exchange) (n x : ℕ) (ds : List ℕ) (m l : Lane) (new : ℕ) → Starts D n (emit e x ds)
        → say2 e m l (at D n) new ≡ say2 e m l x new
    unfolding emit say2
    say2_part (product O a b) n x ds m l new h = rw h.0
    say2_part (refresh O a) n x ds m l new h = refl
    say2_part (known_product O a b) n x ds m l new h = refl

    pub says2 : (d : ℕ) (e : Exchange) (ss : List Step) (c : Cursor) (j : Triple) → Supplied A B D (exchange d e ∷ ss) c j
        → word_of2 B D e c (of2 j) ≡ joint2 A B e c j
    unfolding word_of2 joint2 deals dealt
    says2 d e ss c j g = say2_part e c.deals _ _ j.0 j.2 (at B c.b) g

    pub hears1 : (d : ℕ) (e : Exchange) (c : Cursor) (j : Triple) (v : ℕ) → v ≡ joint2 A B e c j
        → hear1 A d e c (of1 j) v ≡ of1 (act A B (exchange d e) c j)
    unfolding hear1 word_of1 joint1 act
    hears1 d e c j v h = rw h

    pub hears2 : (d : ℕ) (e : Exchange) (ss : List Step) (c : Cursor) (j : Triple) (v : ℕ) → Supplied A B D (exchange d e ∷ ss) c j
        → v ≡ joint1 A B e c j → hear2 B D d e c (of2 j) v ≡ of2 (act A B (exchange d e) c j)
    unfolding hear2 act
    hears2 d e ss c j v g h = rw (h, says2 d e ss c j g)
