-- Each gate of the joint walk has the effect that document 01 gives it. Assumes nothing.
use mathlib.Core.Logic.{◌≢◌}
use mathlib.Core.Path.{◌≡◌, refl, ap, ◌∙◌}
use mathlib.Core.List.{List, [], ◌∷◌, ◌++◌}
use Prim.Native.Nat.{ℕ, suc, ◌+◌}
use native.Mathlib.Omega.{arith}
use lib.ListN.{length, set}
use lib.Seq.{get_or-set_same, get_or-set_other}
use Rattle.words.specs.Ring.{Ops}
use Rattle.shares.specs.Gates.{Share}
use Rattle.gates.specs.Steps as Steps
use Rattle.gates.specs.Steps.{Lane, at, Step, local, exchange, end, Cursor, past}
use Rattle.gates.specs.Steps.{say1, say2, meet, part2, new_at, past_deal, emit}
use Rattle.gates.specs.Meaning.{meaning}
use Rattle.gates.specs.Hosts.{Triple, of0, share, Slot, dealt, joint1, joint2, act}
use Rattle.gates.specs.Duet.{utter}
use Rattle.gates.specs.Costs.{Cost, cost_of, step_cost}
use Rattle.gates.specs.Formulas.{Effect, a_product, a_refresh, a_known_product, alone, Has, Formulas}

-- ---- one slot written on the three lanes

pub share_path : {x y : Share ℕ} → x.m ≡ y.m → x.l1 ≡ y.l1 → x.l2 ≡ y.l2 → x ≡ y
share_path p q r = λ i. record { m = p i; l1 = q i; l2 = r i }

module _ (j : Triple) (d : ℕ) (s : Share ℕ) where
  abbrev written : Triple
  written = (set j.0 d s.m, set j.1 d s.l1, set j.2 d s.l2)

  there : Slot j d → share written d ≡ s
  there h =
      share_path (get_or-set_same j.0 d s.m 0 h.m) (get_or-set_same j.1 d s.l1 0 h.l1)
      (get_or-set_same j.2 d s.l2 0 h.l2)

  elsewhere : (i : ℕ) → i ≢ d → share written i ≡ share j i
  elsewhere i n =
      share_path (get_or-set_other j.0 d i s.m 0 n) (get_or-set_other j.1 d i s.l1 0 n)
      (get_or-set_other j.2 d i s.l2 0 n)

-- ---- the steps, by their forms

-- the cursor moves on by what the step counts
record Moves (x : Step) (c : Cursor) : Type 0 where
  pub a : (past x c).a ≡ c.a + (step_cost x).a
  pub b : (past x c).b ≡ c.b + (step_cost x).b
  pub deals : (past x c).deals ≡ c.deals + (step_cost x).deals

moves : (x : Step) (c : Cursor) → Moves x c
unfolding past step_cost new_at past_deal
moves (local d m l) c = omega arith
moves (Steps.deal d f) c = omega arith
moves (exchange d (Steps.product O a b)) c = omega arith
moves (exchange d (Steps.refresh O a)) c = omega arith
moves (exchange d (Steps.known_product O a b)) c = omega arith
moves end c = omega arith

module _ (A B : List ℕ) (c : Cursor) (j : Triple) where
  -- a step's effect, from what it leaves, deals and speaks, and from its counts
  has : (x : Step) (d : ℕ) (e : Effect) → (Slot j d → share (act A B x c j) d ≡ e.left)
      → ((i : ℕ) → i ≢ d → share (act A B x c j) i ≡ share j i)
      → ((later : List ℕ) → dealt A B x c (of0 j) later ≡ e.deals ++ later)
      → ((later : List ℕ) → utter (joint1 A B) x c j later ≡ e.says1 ++ later)
      → ((later : List ℕ) → utter (joint2 A B) x c j later ≡ e.says2 ++ later)
      → step_cost x ≡ cost_of (length e.deals) (length e.says1 + length e.says2) (length e.a) (length e.b)
      → Has A B c j x d e
  has x d e target others deals says1 says2 counts =
      let z : Moves x c = moves x c in
      let p : (step_cost x).deals ≡ length e.deals = ap (λ (k : Cost). k.deals) counts in
      let q : (step_cost x).a ≡ length e.a = ap (λ (k : Cost). k.a) counts in
      let r : (step_cost x).b ≡ length e.b = ap (λ (k : Cost). k.b) counts in
      record {
        target = target;
        others = others;
        deals = deals;
        says1 = says1;
        says2 = says2;
        used_a = z.a ∙ ap (λ (n : ℕ). c.a + n) q;
        used_b = z.b ∙ ap (λ (n : ℕ). c.b + n) r;
        used_deals = z.deals ∙ ap (λ (n : ℕ). c.deals + n) p;
        counted_deals = p;
        counted_words = ap (λ (k : Cost). k.words) counts;
        counted_a = q;
        counted_b = r;
      }

  has_local : (d : ℕ) (m l : Lane → ℕ)
      → Has A B c j (local d m l) d (alone (record { m = m j.0; l1 = l j.1; l2 = l j.2 }))
  unfolding act dealt utter step_cost
  has_local d m l = has (local d m l) d _ (there j d _) (elsewhere j d _) (λ r. refl) (λ r. refl) (λ r. refl) refl

  has_deal : (d : ℕ) (f : ℕ → Lane → Lane → ℕ) (l1 : ℕ) → at A c.a ≡ l1
      → Has A B c j (Steps.deal d f) d
      (record {
        a = l1 ∷ [];
        b = [];
        deals = f l1 j.1 j.2 ∷ [];
        says1 = [];
        says2 = [];
        left = record { m = 0; l1 = l1; l2 = f l1 j.1 j.2 };
      })
  unfolding act dealt utter step_cost
  has_deal d f l1 h = rw (← h) (has (Steps.deal d f) d _ (there j d _) (elsewhere j d _) (λ r. refl) (λ r. refl) (λ r. refl) refl)

  has_product : (d : ℕ) (O : Ops ℕ) (a b g1 l1 l2 : ℕ) → at A c.a ≡ g1 → at A (suc c.a) ≡ l1 → at B c.b ≡ l2
      → Has A B c j (exchange d (Steps.product O a b)) d (a_product O (share j a) (share j b) g1 l1 l2)
  unfolding act dealt utter step_cost joint1 joint2 say1 say2 meet part2 new_at emit
  has_product d O a b g1 l1 l2 h k n =
      rw (← h, ← k, ← n) (has (exchange d (Steps.product O a b)) d _ (there j d _) (elsewhere j d _) (λ r. refl) (λ r. refl)
      (λ r. refl) refl)

  has_refresh : (d : ℕ) (O : Ops ℕ) (a l1 l2 : ℕ) → at A c.a ≡ l1 → at B c.b ≡ l2
      → Has A B c j (exchange d (Steps.refresh O a)) d (a_refresh O (share j a) l1 l2)
  unfolding act dealt utter step_cost joint1 joint2 say1 say2 meet part2 new_at emit
  has_refresh d O a l1 l2 h n =
      rw (← h, ← n) (has (exchange d (Steps.refresh O a)) d _ (there j d _) (elsewhere j d _) (λ r. refl) (λ r. refl) (λ r. refl) refl)

  has_known_product : (d : ℕ) (O : Ops ℕ) (a b l1 l2 : ℕ) → at A c.a ≡ l1 → at B c.b ≡ l2
      → Has A B c j (exchange d (Steps.known_product O a b)) d (a_known_product O (share j a).m (share j b) l1 l2)
  unfolding act dealt utter step_cost joint1 joint2 say1 say2 meet part2 new_at emit
  has_known_product d O a b l1 l2 h n =
      rw (← h, ← n) (has (exchange d (Steps.known_product O a b)) d _ (there j d _) (elsewhere j d _) (λ r. refl) (λ r. refl)
      (λ r. refl) refl)

  has_end : (d : ℕ) → Has A B c j end d (alone (share j d))
  unfolding act dealt utter step_cost
  has_end d = has end d _ (λ h. refl) (λ i n. refl) (λ r. refl) (λ r. refl) (λ r. refl) refl

-- ---- the gates

pub formulas : (A B : List ℕ) (c : Cursor) (j : Triple) (w : ℕ) → Formulas A B c j w
unfolding meaning
formulas A B c j w =
    record {
      product = λ d a b g1 l1 l2 h k. has_product A B c j d _ a b g1 l1 l2 h.0 h.1.0 k.0;
      product_bits = λ d a b g1 l1 l2 h k. has_product A B c j d _ a b g1 l1 l2 h.0 h.1.0 k.0;
      refresh = λ d a l1 l2 h k. has_refresh A B c j d _ a l1 l2 h.0 k.0;
      known_product = λ d a b l1 l2 h k. has_known_product A B c j d _ a b l1 l2 h.0 k.0;
      known_product_bits = λ d a b l1 l2 h k. has_known_product A B c j d _ a b l1 l2 h.0 k.0;
      deal = λ d a f l1 h k. has_deal A B c j d _ l1 h.0;
      deal_bits = λ d a l1 h k. has_deal A B c j d _ l1 h.0;
      const = λ d n h k. has_local A B c j d _ _;
      public = λ d a f h k. has_local A B c j d _ _;
      sum = λ d a b h k. has_local A B c j d _ _;
      difference = λ d a b h k. has_local A B c j d _ _;
      xor = λ d a b h k. has_local A B c j d _ _;
      scale = λ d a n h k. has_local A B c j d _ _;
      up = λ d a n h k. has_local A B c j d _ _;
      bit_of = λ d a n h k. has_local A B c j d _ _;
      plus = λ d a n h k. has_local A B c j d _ _;
      ends = λ d. has_end A B c j d;
    }
