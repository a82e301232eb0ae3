-- Host 2 at one step: the words of A that show it the same deal and the same word. Assumes nothing.
use mathlib.Core.Path.{◌≡◌, refl, sym, ap, ap₂, ◌∙◌}
use mathlib.Core.List.{List, [], ◌∷◌, ◌++◌}
use Prim.Native.Nat.{ℕ, zero, suc, ◌^◌, ◌<◌, ◌≤◌}
use native.Mathlib.Omega.{arith}
use lib.ListN.{length, take, set, get_or-append}
use lib.Pow.{pow_pos}
use Rattle.words.specs.Ring.{Ops}
use Rattle.words.proofs.Below.{Carrier}
use Rattle.gates.specs.Steps.{Lane, at, Exchange, product, refresh, known_product, Step, local, deal, exchange, end, say1, say2}
use Rattle.gates.specs.Steps.{meet, part2, emit, new_at, origin, past}
use Rattle.gates.specs.Hosts.{Triple, joint1, joint2, act, dealt}
use Rattle.gates.specs.Duet.{utter}
use Rattle.programs.proofs.Gates.{Fits}
use Rattle.privacy.specs.Unseen.{resolve1, swap2, side2}
use Rattle.privacy.proofs.Sight.{hears2, is_dealt, Agree2}
use Rattle.privacy.proofs.Walks.{Two, Lawful, Clear}
use Rattle.privacy.proofs.Solving.{Carried, Sound, Solved, say1_lt, part2_lt, resolve1_lt, reach1, back1, part_back}
use Rattle.privacy.proofs.Host1.{fits_one, first_of}

fits_two : (w x y : ℕ) → x < 2 ^ w → y < 2 ^ w → Fits w (x ∷ y ∷ [])
fits_two w x y h k zero = h
fits_two w x y h k (suc i) = fits_one w y k i

first_two : (u : List ℕ) → 2 ≤ length u → at u 0 ∷ at u 1 ∷ [] ≡ take 2 u
first_two [] h = absurd (omega arith)
first_two (x ∷ []) h = absurd (omega arith)
first_two (x ∷ y ∷ u) h = refl

front_at : (s r : List ℕ) (i : ℕ) → i < length s → at (s ++ r) i ≡ at s i
front_at s r i e = get_or-append s r 0 i e

-- ---- only the words used count

step_front : (x : Step) (B s r : List ℕ) (j : Triple) → length s ≡ (past x origin).a → act (s ++ r) B x origin j ≡ act s B x origin j
unfolding act joint1 joint2 past new_at
step_front (local d m l) B s r j e = refl
step_front (deal d f) B s r j e = rw (front_at s r 0 (omega arith))
step_front (exchange d (product O a b)) B s r j e = rw (front_at s r 0 (omega arith), front_at s r 1 (omega arith))
step_front (exchange d (refresh O a)) B s r j e = rw (front_at s r 0 (omega arith))
step_front (exchange d (known_product O a b)) B s r j e = rw (front_at s r 0 (omega arith))
step_front end B s r j e = refl

swap_front : (x : Step) (B s r : List ℕ) (j k : Triple) → length s ≡ (past x origin).a → swap2 x B (s ++ r) j k ≡ swap2 x B s j k
unfolding swap2 joint1 past new_at
swap_front (local d m l) B s r j k e = refl
swap_front (deal d f) B s r j k e = rw (front_at s r 0 (omega arith))
swap_front (exchange d (product O a b)) B s r j k e = rw (front_at s r 0 (omega arith), front_at s r 1 (omega arith))
swap_front (exchange d (refresh O a)) B s r j k e = rw (front_at s r 0 (omega arith))
swap_front (exchange d (known_product O a b)) B s r j k e = rw (front_at s r 0 (omega arith))
swap_front end B s r j k e = refl

as_many : (x : Step) (B A : List ℕ) (j k : Triple) → length (swap2 x B A j k) ≡ (past x origin).a
unfolding swap2 emit past new_at
as_many (local d m l) B A j k = refl
as_many (deal d f) B A j k = refl
as_many (exchange d (product O a b)) B A j k = refl
as_many (exchange d (refresh O a)) B A j k = refl
as_many (exchange d (known_product O a b)) B A j k = refl
as_many end B A j k = refl

heard_front : (x : Step) (B s r : List ℕ) (j : Triple) (ws : List ℕ) → length s ≡ (past x origin).a
    → hears2 x B (s ++ r) j ws ≡ hears2 x B s j ws
unfolding utter joint1 past new_at
heard_front (local d m l) B s r j ws e = refl
heard_front (deal d f) B s r j ws e = refl
heard_front (exchange d (product O a b)) B s r j ws e = rw (front_at s r 0 (omega arith), front_at s r 1 (omega arith))
heard_front (exchange d (refresh O a)) B s r j ws e = rw (front_at s r 0 (omega arith))
heard_front (exchange d (known_product O a b)) B s r j ws e = rw (front_at s r 0 (omega arith))
heard_front end B s r j ws e = refl

dealt_front : (x : Step) (B s r : List ℕ) (j : Triple) (ds : List ℕ) → length s ≡ (past x origin).a
    → is_dealt x B (s ++ r) j ds ≡ is_dealt x B s j ds
unfolding dealt past new_at
dealt_front (local d m l) B s r j ds e = refl
dealt_front (deal d f) B s r j ds e = rw (front_at s r 0 (omega arith))
dealt_front (exchange d (product O a b)) B s r j ds e = rw (front_at s r 0 (omega arith))
dealt_front (exchange d (refresh O a)) B s r j ds e = rw (front_at s r 0 (omega arith))
dealt_front (exchange d (known_product O a b)) B s r j ds e = rw (front_at s r 0 (omega arith))
dealt_front end B s r j ds e = refl

module _ (w : ℕ) where
  abbrev Runs : (B A : List ℕ) (j k : Triple) → Type 0
  Runs = Two w side2 Agree2

  -- ---- a deal

  module _ (d : ℕ) (f : ℕ → Lane → Lane → ℕ) (S : Solved w (deal d f)) (B A : List ℕ) (j k : Triple) (h : Runs B A j k) where
    abbrev v2 : ℕ
    v2 = f (at A 0) j.1 j.2

    abbrev here : (v2 < 2 ^ w) × (f v2 j.1 j.2 ≡ at A 0)
    here = S (at A 0) j.1 j.2 (h.u_fits 0) h.j_fits.l1 h.j_fits.l2

    abbrev there : (f v2 k.1 k.2 < 2 ^ w) × (f (f v2 k.1 k.2) k.1 k.2 ≡ v2)
    there = S v2 k.1 k.2 here.0 h.k_fits.l1 h.k_fits.l2

    undealt : f (f (f v2 k.1 k.2) k.1 k.2) j.1 j.2 ≡ at A 0
    undealt = ap (λ (v : ℕ). f v j.1 j.2) there.1 ∙ here.1

  -- ---- an exchange: g1, where there is one, and then the new L1

  module _ (e : Exchange) (C : Carried w e) (B A : List ℕ) (j k : Triple) (h : Runs B A j k) where
    abbrev g2 : ℕ
    g2 = part2 e (at A 0) j.1 j.2

    abbrev g1 : ℕ
    g1 = part2 e g2 k.1 k.2

    abbrev new : ℕ
    new = resolve1 e k.0 k.1 g1 (joint1 A B e origin j)

    g2_lt : g2 < 2 ^ w
    g2_lt = part2_lt w e C _ _ _ (h.u_fits 0) h.j_fits.l1 h.j_fits.l2

    g1_lt : g1 < 2 ^ w
    g1_lt = part2_lt w e C _ _ _ g2_lt h.k_fits.l1 h.k_fits.l2

    spoken_lt : joint1 A B e origin j < 2 ^ w
    unfolding joint1
    spoken_lt = say1_lt w e C _ _ _ _ h.j_fits.m h.j_fits.l1 (h.u_fits 0) (h.u_fits (new_at e 0))

    new_lt : new < 2 ^ w
    new_lt = resolve1_lt w k.0 k.1 _ _ h.k_fits.m h.k_fits.l1 g1_lt spoken_lt e C

    reached : say1 e k.0 k.1 g1 new ≡ joint1 A B e origin j
    reached = reach1 w k.0 k.1 _ _ h.k_fits.m h.k_fits.l1 g1_lt spoken_lt e C

    returned : resolve1 e j.0 j.1 (at A 0) (joint1 A B e origin j) ≡ at A (new_at e 0)
    unfolding joint1
    returned = back1 w j.0 j.1 _ _ h.j_fits.m h.j_fits.l1 (h.u_fits 0) (h.u_fits (new_at e 0)) e C

  -- host 1's word is the same
  same_word : (d : ℕ) (e : Exchange) → Carried w e → (B A : List ℕ) (j k : Triple) → Runs B A j k
      → joint1 A B e origin j ≡ joint1 (swap2 (exchange d e) B A j k) B e origin k
  unfolding swap2 joint1 emit new_at say1
  same_word d (product O a b) C B A j k h = sym (reached (product O a b) C B A j k h)
  same_word d (refresh O a) C B A j k h = sym (reached (refresh O a) C B A j k h)
  same_word d (known_product O a b) C B A j k h = sym (reached (known_product O a b) C B A j k h)

  -- the deal of a product is the same; the other exchanges have none
  same_part : (d : ℕ) (e : Exchange) → Carried w e → (B A : List ℕ) (j k : Triple) → Runs B A j k
      → part2 e (at A 0) j.1 j.2 ≡ part2 e (at (swap2 (exchange d e) B A j k) 0) k.1 k.2
  unfolding swap2 emit part2
  same_part d (product O a b) C B A j k h =
      sym (part_back w O a b C _ k.1 k.2 (g2_lt (product O a b) C B A j k h) h.k_fits.l1 h.k_fits.l2)
  same_part d (refresh O a) C B A j k h = refl
  same_part d (known_product O a b) C B A j k h = refl

  -- so is host 2's own word
  own_word : (d : ℕ) (e : Exchange) → Carried w e → (B A : List ℕ) (j k : Triple) → Runs B A j k
      → joint2 A B e origin j ≡ joint2 (swap2 (exchange d e) B A j k) B e origin k
  unfolding joint2
  own_word d e C B A j k h =
      ap (λ (g : ℕ). say2 e j.0 j.2 g (at B 0)) (same_part d e C B A j k h)
      ∙ ap₂ (λ (m l : Lane). say2 e m l (part2 e (at (swap2 (exchange d e) B A j k) 0) k.1 k.2) (at B 0)) h.agree.0 h.agree.1

  swap_fits : (x : Step) → Sound w x → (B A : List ℕ) (j k : Triple) → Runs B A j k → Fits w (swap2 x B A j k)
  unfolding swap2 emit
  swap_fits (local d m l) S B A j k h i = pow_pos w
  swap_fits (deal d f) S B A j k h i = fits_one w _ (there d f S.solved B A j k h).0 i
  swap_fits (exchange d (product O a b)) S B A j k h i =
      fits_two w _ _ (g1_lt (product O a b) S.solved B A j k h) (new_lt (product O a b) S.solved B A j k h) i
  swap_fits (exchange d (refresh O a)) S B A j k h i = fits_one w _ (new_lt (refresh O a) S.solved B A j k h) i
  swap_fits (exchange d (known_product O a b)) S B A j k h i = fits_one w _ (new_lt (known_product O a b) S.solved B A j k h) i
  swap_fits end S B A j k h i = pow_pos w

  same_deal : (d : ℕ) (f : ℕ → Lane → Lane → ℕ) → Solved w (deal d f) → (B A : List ℕ) (j k : Triple) → Runs B A j k
      → f (at A 0) j.1 j.2 ≡ f (at (swap2 (deal d f) B A j k) 0) k.1 k.2
  unfolding swap2
  same_deal d f S B A j k h = sym (there d f S B A j k h).1

  agrees : (x : Step) → Sound w x → (B A : List ℕ) (j k : Triple) → Runs B A j k
      → Agree2 (act A B x origin j) (act (swap2 x B A j k) B x origin k)
  unfolding act
  agrees (local d m l) S B A j k h = (ap (λ (s : Lane). set s d (m s)) h.agree.0, ap (λ (s : Lane). set s d (l s)) h.agree.1)
  agrees (deal d f) S B A j k h = (
    ap (λ (s : Lane). set s d 0) h.agree.0,
    ap₂ (λ (s : Lane) (v : ℕ). set s d v) h.agree.1 (same_deal d f S.solved B A j k h),
  )
  agrees (exchange d e) S B A j k h = (
    ap₂ (λ (s : Lane) (v : ℕ). set s d v) h.agree.0
        (ap₂ (meet e) (same_word d e S.solved B A j k h) (own_word d e S.solved B A j k h)),
    ap (λ (s : Lane). set s d (at B 0)) h.agree.1,
  )
  agrees end S B A j k h = h.agree

  -- from the second run g1 comes back
  old_part : (d : ℕ) (O : Ops ℕ) (a b : ℕ) (C : Carrier w O) (B A : List ℕ) (j k : Triple) → Runs B A j k
      → part2 (product O a b) (part2 (product O a b) (at (swap2 (exchange d (product O a b)) B A j k) 0) k.1 k.2) j.1 j.2
      ≡ at A 0
  old_part d O a b C B A j k h =
      ap (λ (g : ℕ). part2 (product O a b) g j.1 j.2) (sym (same_part d (product O a b) C B A j k h))
      ∙ part_back w O a b C (at A 0) j.1 j.2 (h.u_fits 0) h.j_fits.l1 h.j_fits.l2

  -- a refresh has no g1, and a product with a known value has none
  no_part : (O : Ops ℕ) (a : ℕ) (m l : Lane) (g g' v : ℕ) → resolve1 (refresh O a) m l g v ≡ resolve1 (refresh O a) m l g' v
  unfolding resolve1 say1
  no_part O a m l g g' v = refl

  no_part_known : (O : Ops ℕ) (a b : ℕ) (m l : Lane) (g g' v : ℕ)
      → resolve1 (known_product O a b) m l g v ≡ resolve1 (known_product O a b) m l g' v
  unfolding resolve1 say1
  no_part_known O a b m l g g' v = refl

  undone : (x : Step) → Sound w x → (B A : List ℕ) (j k : Triple) → Runs B A j k → (past x origin).a ≤ length A
      → swap2 x B (swap2 x B A j k) k j ≡ take (past x origin).a A
  unfolding swap2 past new_at emit
  undone (local d m l) S B A j k h e = refl
  undone (deal d f) S B A j k h e = ap {B = List ℕ} (λ (v : ℕ). v ∷ []) (undealt d f S.solved B A j k h) ∙ first_of A e
  undone (exchange d (product O a b)) S B A j k h e =
      ap₂ {C = List ℕ} (λ (x y : ℕ). x ∷ y ∷ []) (old_part d O a b S.solved B A j k h)
      (ap₂ (resolve1 (product O a b) j.0 j.1) (old_part d O a b S.solved B A j k h)
      (sym (same_word d (product O a b) S.solved B A j k h))
      ∙ returned (product O a b) S.solved B A j k h)
      ∙ first_two A e
  undone (exchange d (refresh O a)) S B A j k h e =
      ap {B = List ℕ} (λ (y : ℕ). y ∷ [])
      (ap (resolve1 (refresh O a) j.0 j.1 _) (sym (same_word d (refresh O a) S.solved B A j k h))
      ∙ no_part O a j.0 j.1 _ (at A 0) _ ∙ returned (refresh O a) S.solved B A j k h)
      ∙ first_of A e
  undone (exchange d (known_product O a b)) S B A j k h e =
      ap {B = List ℕ} (λ (y : ℕ). y ∷ [])
      (ap (resolve1 (known_product O a b) j.0 j.1 _) (sym (same_word d (known_product O a b) S.solved B A j k h))
      ∙ no_part_known O a b j.0 j.1 _ (at A 0) _ ∙ returned (known_product O a b) S.solved B A j k h)
      ∙ first_of A e
  undone end S B A j k h e = refl

  pub lawful2 : (x : Step) → Sound w x → Lawful w side2 Agree2 x
  lawful2 x S =
      record {
        step_front = step_front x;
        swap_front = swap_front x;
        as_many = as_many x;
        step_fits = λ B A j hB hA hj. S.fits A B origin j hA hB hj;
        swap_fits = swap_fits x S;
        agrees = agrees x S;
        agrees_back = λ B A j k h. let q = agrees x S B A j k h in (sym q.0, sym q.1);
        undone = undone x S;
      }

  heard_same : (x : Step) → Sound w x → (B A : List ℕ) (j k : Triple) (ws : List ℕ) → Runs B A j k
      → hears2 x B A j ws ≡ hears2 x B (swap2 x B A j k) k ws
  unfolding utter
  heard_same (local d m l) S B A j k ws h = refl
  heard_same (deal d f) S B A j k ws h = refl
  heard_same (exchange d e) S B A j k ws h = ap (λ (v : ℕ). v ∷ ws) (same_word d e S.solved B A j k h)
  heard_same end S B A j k ws h = refl

  dealt_same : (x : Step) → Sound w x → (B A : List ℕ) (j k : Triple) (ds : List ℕ) → Runs B A j k
      → is_dealt x B A j ds ≡ is_dealt x B (swap2 x B A j k) k ds
  unfolding dealt
  dealt_same (local d m l) S B A j k ds h = refl
  dealt_same (deal d f) S B A j k ds h = ap (λ (v : ℕ). v ∷ ds) (same_deal d f S.solved B A j k h)
  dealt_same (exchange d e) S B A j k ds h = ap (λ (v : ℕ). emit e v ds) (same_part d e S.solved B A j k h)
  dealt_same end S B A j k ds h = refl

  pub clear2 : (x : Step) → Sound w x → Clear w side2 Agree2 hears2 x
  clear2 x S = record { front = heard_front x; same = heard_same x S }

  pub clear_deals : (x : Step) → Sound w x → Clear w side2 Agree2 is_dealt x
  clear_deals x S = record { front = dealt_front x; same = dealt_same x S }
