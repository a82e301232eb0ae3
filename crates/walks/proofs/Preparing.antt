-- Host 0's walk over a list of steps, one list after another: as the definition of preparation has it, and as its code takes it: what
-- holds at the head, a turn, and the end. Assumes nothing.
use mathlib.Core.Path.{◌≡◌, refl, sym, ap, ◌∙◌}
use mathlib.Core.List.{List, [], ◌∷◌, ◌++◌}
use Prim.Native.Nat.{ℕ}
use native.Mathlib.Numerals.{towards_suc}
use native.Mathlib.Omega.{arith}
use lib.ListN.{length, length-set}
use lib.Seq.{sets}
use Rattle.gates.specs.Steps.{at, product, refresh, known_product, Step, local, deal, exchange, end, new_at, part2, past_deal, emit, Cursor, past}
use Rattle.gates.specs.Walk.{whole, far}
use Rattle.gates.specs.Hosts.{Pair, on_mask, act0, dealt, deals}
use Rattle.gates.specs.Speech.{dealt_word, shape}
use Rattle.gates.specs.Costs.{Cost, plus, step_cost, cost}
use Rattle.gates.proofs.Needs.{cost_append}
use Rattle.walks.specs.Dealers.{Dealer, dealing, deal_all, Room}
use Rattle.walks.proofs.Dealers.{size_kept}

-- a cursor, two lanes and a buffer
abbrev pub stands : Cursor → Pair → List ℕ → Dealer
stands c s buf = record { a = c.a; b = c.b; deals = c.deals; l1 = s.0; l2 = s.1; buffer = buf }

module _ (A B : List ℕ) where
  -- the code's walk is `whole`'s, whatever its trail, and its buffer has the deals one after another
  pub dealt_whole : (ss : List Step) (c : Cursor) (s : Pair) (t : List Pair) (buf : List ℕ)
      → deal_all A B ss (stands c s buf)
      ≡ stands (far ss c) (whole (act0 A B) ss c s t).state (sets buf c.deals (deals A B ss c s))
  unfolding deal_all dealing shape on_mask dealt_word whole far past act0 deals dealt new_at past_deal emit
  dealt_whole [] c s t buf = refl
  dealt_whole (local d m l ∷ ss) c s t buf = dealt_whole ss _ _ _ buf
  dealt_whole (deal d f ∷ ss) c s t buf = simp towards_suc (dealt_whole ss (past (deal d f) c) _ _ _)
  dealt_whole (exchange d (product O p q) ∷ ss) c s t buf = simp towards_suc (dealt_whole ss (past (exchange d (product O p q)) c) _ _ _)
  dealt_whole (exchange d (refresh O p) ∷ ss) c s t buf = simp towards_suc (dealt_whole ss (past (exchange d (refresh O p)) c) _ _ _)
  dealt_whole (exchange d (known_product O p q) ∷ ss) c s t buf = simp towards_suc (dealt_whole ss (past (exchange d (known_product O p q)) c) _ _ _)
  dealt_whole (end ∷ ss) c s t buf = dealt_whole ss (past end c) s _ buf

  -- the deals of one list of steps, and then those of another
  pub deals_append : (ss ts : List Step) (c : Cursor) (s : Pair) (t : List Pair)
      → deals A B (ss ++ ts) c s
      ≡ deals A B ss c s ++ deals A B ts (whole (act0 A B) ss c s t).cur (whole (act0 A B) ss c s t).state
  unfolding deals dealt whole emit
  deals_append [] ts c s t = refl
  deals_append (local d m l ∷ ss) ts c s t = deals_append ss ts _ _ _
  deals_append (deal d f ∷ ss) ts c s t = ap (λ (ds : List ℕ). f (at A c.a) s.0 s.1 ∷ ds) (deals_append ss ts _ _ _)
  deals_append (exchange d (product O p q) ∷ ss) ts c s t =
      ap (λ (ds : List ℕ). part2 (product O p q) (at A c.a) s.0 s.1 ∷ ds) (deals_append ss ts _ _ _)
  deals_append (exchange d (refresh O p) ∷ ss) ts c s t = deals_append ss ts _ _ _
  deals_append (exchange d (known_product O p q) ∷ ss) ts c s t = deals_append ss ts _ _ _
  deals_append (end ∷ ss) ts c s t = deals_append ss ts _ _ _

  pub deal_append : (ss ts : List Step) (s : Dealer) → deal_all A B (ss ++ ts) s ≡ deal_all A B ts (deal_all A B ss s)
  unfolding deal_all
  deal_append [] ts s = refl
  deal_append (x ∷ ss) ts s = deal_append ss ts _

  pub sizes_kept : (ss : List Step) (s : Dealer) → length (deal_all A B ss s).buffer ≡ length s.buffer
  unfolding deal_all
  sizes_kept [] s = refl
  sizes_kept (x ∷ ss) s = sizes_kept ss _ ∙ size_kept A B x s

  -- ---- room for the steps to come

  pub room_past : (x : Step) (ss : List Step) (s : Dealer) → Room A B (x ∷ ss) s → Room A B ss (dealing A B x s)
  unfolding cost plus step_cost dealing shape
  room_past (local d m l) ss s h = record { a = omega arith; b = omega arith; deals = omega arith }
  room_past (deal d f) ss s h = record { a = omega arith; b = omega arith; deals = simp length-set (omega arith) }
  room_past (exchange d (product O p q)) ss s h = record { a = omega arith; b = omega arith; deals = simp length-set (omega arith) }
  room_past (exchange d (refresh O p)) ss s h = record { a = omega arith; b = omega arith; deals = omega arith }
  room_past (exchange d (known_product O p q)) ss s h = record { a = omega arith; b = omega arith; deals = omega arith }
  room_past end ss s h = record { a = omega arith; b = omega arith; deals = omega arith }

  pub room_first : (ss ts : List Step) (s : Dealer) → Room A B (ss ++ ts) s → Room A B ss s
  unfolding plus
  room_first ss ts s h =
      let e = cost_append ss ts in
      record {
        a = omega (arith, ap (λ (k : Cost). k.a) e);
        b = omega (arith, ap (λ (k : Cost). k.b) e);
        deals = omega (arith, ap (λ (k : Cost). k.deals) e);
      }

  pub room_after : (ss ts : List Step) (s : Dealer) → Room A B (ss ++ ts) s → Room A B ts (deal_all A B ss s)
  unfolding deal_all
  room_after [] ts s h = h
  room_after (x ∷ ss) ts s h = room_after ss ts _ (room_past x (ss ++ ts) s h)

  -- ---- steps and then others

  -- at the head, with the steps ss left of the steps ss₀ that began at s₀
  pub record Midway (ss₀ ss : List Step) (s₀ s : Dealer) : Type 0 where
    pub same : deal_all A B ss s ≡ deal_all A B ss₀ s₀
    pub room : Room A B ss s
    pub size : length s.buffer ≡ length s₀.buffer

  pub begins : (ss : List Step) (s : Dealer) → Room A B ss s → Midway ss ss s s
  begins ss s h = record { same = refl; room = h; size = refl }

  module _ (ss₀ : List Step) (s₀ s : Dealer) where
    pub done : Midway ss₀ [] s₀ s → s ≡ deal_all A B ss₀ s₀
    unfolding deal_all
    done h = h.same

    -- the steps ts come first, then us
    module _ (ss ts us : List Step) (e : ss ≡ ts ++ us) (h : Midway ss₀ ss s₀ s) where
      pub room_now : Room A B ts s
      room_now = room_first ts us s (rw e at h.room)

      pub further : (t : Dealer) → t ≡ deal_all A B ts s → Midway ss₀ us s₀ t
      further t et =
          let p : deal_all A B (ts ++ us) s ≡ deal_all A B ss₀ s₀ = rw e at h.same in
          let q : Room A B (ts ++ us) s = rw e at h.room in
          let g : Midway ss₀ us s₀ (deal_all A B ts s) =
          record { same = sym (deal_append ts us s) ∙ p; room = room_after ts us s q; size = sizes_kept ts s ∙ h.size } in
          rw et g

    -- the end of an order
    pub past_end : (us : List Step) → Midway ss₀ (end ∷ us) s₀ s → Midway ss₀ us s₀ s
    unfolding deal_all dealing shape on_mask
    past_end us h = further (end ∷ us) (end ∷ []) us refl h s refl
