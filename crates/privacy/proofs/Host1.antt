-- Host 1 at one step: the words of B that show it the same. Assumes nothing.
use mathlib.Core.Path.{◌≡◌, refl, sym, ap, ap₂, ◌∙◌}
use mathlib.Core.List.{List, [], ◌∷◌, ◌++◌}
use Prim.Native.Nat.{ℕ, zero, suc, ◌^◌, ◌<◌, ◌≤◌}
use native.Mathlib.Omega.{arith}
use lib.ListN.{length, take, set, get_or-append}
use lib.Pow.{pow_pos}
use Rattle.gates.specs.Steps.{Lane, at, Exchange, Step, local, deal, exchange, end, say1, meet, part2, new_at, origin, past}
use Rattle.gates.specs.Hosts.{Triple, joint1, joint2, act}
use Rattle.gates.specs.Duet.{utter}
use Rattle.programs.proofs.Gates.{Fits, FitsAll}
use Rattle.privacy.specs.Unseen.{resolve2, swap1, side1}
use Rattle.privacy.proofs.Sight.{hears1, Agree1}
use Rattle.privacy.proofs.Walks.{Two, Lawful, Clear}
use Rattle.privacy.proofs.Solving.{Carried, Sound, say2_lt, part2_lt, resolve2_lt, reach2, back2}

pub fits_one : (w x : ℕ) → x < 2 ^ w → Fits w (x ∷ [])
fits_one w x h zero = h
fits_one w x h (suc i) = pow_pos w

pub first_of : (u : List ℕ) → 1 ≤ length u → at u 0 ∷ [] ≡ take 1 u
first_of [] h = absurd (omega arith)
first_of (x ∷ u) h = refl

module _ (w : ℕ) where
  abbrev Runs : (A B : List ℕ) (j k : Triple) → Type 0
  Runs = Two w side1 Agree1

  module _ (d : ℕ) (e : Exchange) (C : Carried w e) (A B : List ℕ) (j k : Triple) (h : Runs A B j k) where
    g2_lt : (i : Triple) → FitsAll w i → part2 e (at A 0) i.1 i.2 < 2 ^ w
    g2_lt i f = part2_lt w e C _ _ _ (h.v_fits 0) f.l1 f.l2

    spoken_lt : joint2 A B e origin j < 2 ^ w
    unfolding joint2
    spoken_lt = say2_lt w e C _ _ _ _ h.j_fits.m h.j_fits.l2 (g2_lt j h.j_fits) (h.u_fits 0)

    new_lt : resolve2 e k.0 k.2 (part2 e (at A 0) k.1 k.2) (joint2 A B e origin j) < 2 ^ w
    new_lt = resolve2_lt w k.0 k.2 _ _ h.k_fits.m h.k_fits.l2 (g2_lt k h.k_fits) spoken_lt e C

    -- host 2's word is the same
    same_word : joint2 A B e origin j ≡ joint2 A (swap1 (exchange d e) A B j k) e origin k
    unfolding swap1 joint2
    same_word = sym (reach2 w k.0 k.2 _ _ h.k_fits.m h.k_fits.l2 (g2_lt k h.k_fits) spoken_lt e C)

    -- and by the same word B comes back
    undone_word : resolve2 e j.0 j.2 (part2 e (at A 0) j.1 j.2) (joint2 A (swap1 (exchange d e) A B j k) e origin k) ≡ at B 0
    unfolding joint2
    undone_word =
        ap (resolve2 e j.0 j.2 (part2 e (at A 0) j.1 j.2)) (sym same_word)
        ∙ back2 w j.0 j.2 _ _ h.j_fits.m h.j_fits.l2 (g2_lt j h.j_fits) (h.u_fits 0) e C

    same_sum : meet e (joint1 A B e origin j) (joint2 A B e origin j)
        ≡ meet e (joint1 A (swap1 (exchange d e) A B j k) e origin k) (joint2 A (swap1 (exchange d e) A B j k) e origin k)
    unfolding joint1
    same_sum = ap₂ (meet e) (ap₂ (λ (m l : Lane). say1 e m l (at A 0) (at A (new_at e 0))) h.agree.0 h.agree.1) same_word

  front_at : (s r : List ℕ) → length s ≡ 1 → at (s ++ r) 0 ≡ at s 0
  front_at s r e = get_or-append s r 0 0 (omega arith)

  step_front : (x : Step) (A s r : List ℕ) (j : Triple) → length s ≡ (past x origin).b → act A (s ++ r) x origin j ≡ act A s x origin j
  unfolding act joint1 joint2 past
  step_front (local d m l) A s r j e = refl
  step_front (deal d f) A s r j e = refl
  step_front (exchange d q) A s r j e = rw (front_at s r e)
  step_front end A s r j e = refl

  swap_front : (x : Step) (A s r : List ℕ) (j k : Triple) → length s ≡ (past x origin).b → swap1 x A (s ++ r) j k ≡ swap1 x A s j k
  unfolding swap1 joint2 past
  swap_front (local d m l) A s r j k e = refl
  swap_front (deal d f) A s r j k e = refl
  swap_front (exchange d q) A s r j k e = rw (front_at s r e)
  swap_front end A s r j k e = refl

  as_many : (x : Step) (A B : List ℕ) (j k : Triple) → length (swap1 x A B j k) ≡ (past x origin).b
  unfolding swap1 past
  as_many (local d m l) A B j k = refl
  as_many (deal d f) A B j k = refl
  as_many (exchange d e) A B j k = refl
  as_many end A B j k = refl

  swap_fits : (x : Step) → Sound w x → (A B : List ℕ) (j k : Triple) → Runs A B j k → Fits w (swap1 x A B j k)
  unfolding swap1
  swap_fits (local d m l) S A B j k h i = pow_pos w
  swap_fits (deal d f) S A B j k h i = pow_pos w
  swap_fits (exchange d e) S A B j k h i = fits_one w _ (new_lt d e S.solved A B j k h) i
  swap_fits end S A B j k h i = pow_pos w

  agrees : (x : Step) → Sound w x → (A B : List ℕ) (j k : Triple) → Runs A B j k
      → Agree1 (act A B x origin j) (act A (swap1 x A B j k) x origin k)
  unfolding act
  agrees (local d m l) S A B j k h = (ap (λ (s : Lane). set s d (m s)) h.agree.0, ap (λ (s : Lane). set s d (l s)) h.agree.1)
  agrees (deal d f) S A B j k h = (ap (λ (s : Lane). set s d 0) h.agree.0, ap (λ (s : Lane). set s d (at A 0)) h.agree.1)
  agrees (exchange d e) S A B j k h = (
    ap₂ (λ (s : Lane) (v : ℕ). set s d v) h.agree.0 (same_sum d e S.solved A B j k h),
    ap (λ (s : Lane). set s d (at A (new_at e 0))) h.agree.1,
  )
  agrees end S A B j k h = h.agree

  undone : (x : Step) → Sound w x → (A B : List ℕ) (j k : Triple) → Runs A B j k → (past x origin).b ≤ length B
      → swap1 x A (swap1 x A B j k) k j ≡ take (past x origin).b B
  unfolding swap1 past
  undone (local d m l) S A B j k h e = refl
  undone (deal d f) S A B j k h e = refl
  undone (exchange d q) S A B j k h e = ap {B = List ℕ} (λ (v : ℕ). v ∷ []) (undone_word d q S.solved A B j k h) ∙ first_of B e
  undone end S A B j k h e = refl

  pub lawful1 : (x : Step) → Sound w x → Lawful w side1 Agree1 x
  lawful1 x S =
      record {
        step_front = step_front x;
        swap_front = swap_front x;
        as_many = as_many x;
        step_fits = λ A B j hA hB hj. S.fits A B origin j hA hB hj;
        swap_fits = swap_fits x S;
        agrees = agrees x S;
        agrees_back = λ A B j k h. let q = agrees x S A B j k h in (sym q.0, sym q.1);
        undone = undone x S;
      }

  heard_front : (x : Step) (A s r : List ℕ) (j : Triple) (ws : List ℕ) → length s ≡ (past x origin).b
      → hears1 x A (s ++ r) j ws ≡ hears1 x A s j ws
  unfolding utter joint2 past
  heard_front (local d m l) A s r j ws e = refl
  heard_front (deal d f) A s r j ws e = refl
  heard_front (exchange d q) A s r j ws e = rw (front_at s r e)
  heard_front end A s r j ws e = refl

  heard_same : (x : Step) → Sound w x → (A B : List ℕ) (j k : Triple) (ws : List ℕ) → Runs A B j k
      → hears1 x A B j ws ≡ hears1 x A (swap1 x A B j k) k ws
  unfolding utter
  heard_same (local d m l) S A B j k ws h = refl
  heard_same (deal d f) S A B j k ws h = refl
  heard_same (exchange d e) S A B j k ws h = ap (λ (v : ℕ). v ∷ ws) (same_word d e S.solved A B j k h)
  heard_same end S A B j k ws h = refl

  pub clear1 : (x : Step) → Sound w x → Clear w side1 Agree1 hears1 x
  clear1 x S = record { front = heard_front x; same = heard_same x S }
