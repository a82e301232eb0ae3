-- The number of a hearing whose lent words pass 1 to 7: by what is found at the state's place, and by its stored
-- places. Assumes nothing.
use mathlib.Core.Path.{◌≡◌, refl, sym, ap, subst, ◌∙◌}
use mathlib.Core.Bool.{Bool, true, false, ◌&&◌, cond}
use Prim.Native.Nat.{ℕ, zero, suc}
use native.Mathlib.Omega.{arith}
use borrow.Author.Tests.{eq-eqb, eqb-true, eqb-false}
use lib.Dec.{eqb}
use Rattle.calls.specs.declared.Stored.{Stored}
use Rattle.calls.specs.Places.{Found}
use Rattle.calls.specs.Lent.{Worker}
use Rattle.calls.specs.Calls.{State, Answer, report, unless, hear_walk, place_fault, walked_to, same_places, hearing_fault, resume}

pub places_path : {u v : Stored} → u.a ≡ v.a → u.b ≡ v.b → u.deals ≡ v.deals → u ≡ v
places_path p q r = λ i. record { a = p i; b = q i; deals = r i }

pub same_told : (u v : Stored) → u ≡ v → same_places u v ≡ true
same_told u v e =
    rw (
      eq-eqb u.a v.a (ap (λ (x : Stored). x.a) e),
      eq-eqb u.b v.b (ap (λ (x : Stored). x.b) e),
      eq-eqb u.deals v.deals (ap (λ (x : Stored). x.deals) e),
    )

pub apart : false ≡ true → ⊥
apart e = subst (λ (b : Bool). cond b ⊥ Unit) e tt

pub same_tells : (u v : Stored) → same_places u v ≡ true → u ≡ v
same_tells u v e = go (eqb u.a v.a) (eqb u.b v.b) (eqb u.deals v.deals) refl refl refl e
  where
    go : (a b c : Bool) → eqb u.a v.a ≡ a → eqb u.b v.b ≡ b → eqb u.deals v.deals ≡ c
        → (a && (b && c)) ≡ true → u ≡ v
    go true true true p q r e = places_path (eqb-true _ _ p) (eqb-true _ _ q) (eqb-true _ _ r)
    go true true false p q r e = absurd (apart e)
    go true false c p q r e = absurd (apart e)
    go false b c p q r e = absurd (apart e)

-- which of the three it is, and where
pub data Judged (u : Stored) (f : Found) : ℕ → Type 0 where
  no_place : place_fault f ≡ 8 → Judged u f 8
  unequal : (place_fault f ≡ 8 → ⊥) → (u ≡ walked_to f → ⊥) → Judged u f 18
  equal : (place_fault f ≡ 8 → ⊥) → u ≡ walked_to f → Judged u f (place_fault f)

pub judged : (u : Stored) (f : Found) → Judged u f (hearing_fault u f)
unfolding hearing_fault
judged u f = go (eqb (place_fault f) 8) (same_places u (walked_to f)) refl refl
  where
    go : (a b : Bool) → eqb (place_fault f) 8 ≡ a → same_places u (walked_to f) ≡ b
        → Judged u f (cond a 8 (cond b (place_fault f) 18))
    go true b p q = no_place (eqb-true _ _ p)
    go false true p q = equal (eqb-false _ _ p) (same_tells u (walked_to f) q)
    go false false p q = unequal (eqb-false _ _ p) (λ e. apart (sym q ∙ same_told u (walked_to f) e))

-- where the stored places are the walk's, the place's own number alone counts
pub judged_equal : (u : Stored) (f : Found) → u ≡ walked_to f → hearing_fault u f ≡ place_fault f
unfolding hearing_fault
judged_equal u f e = rw (same_told u (walked_to f) e) (go (eqb (place_fault f) 8) refl)
  where
    go : (a : Bool) → eqb (place_fault f) 8 ≡ a → cond a 8 (place_fault f) ≡ place_fault f
    go true p = sym (eqb-true _ _ p)
    go false p = refl

-- nothing is found fault with
pub judged_none : (u : Stored) (f : Found) → hearing_fault u f ≡ 0 → (place_fault f ≡ 0) × (u ≡ walked_to f)
judged_none u f z = go (hearing_fault u f) (judged u f) z
  where
    go : (n : ℕ) → Judged u f n → n ≡ 0 → (place_fault f ≡ 0) × (u ≡ walked_to f)
    go _ (no_place p) z = absurd (omega arith)
    go _ (unequal p q) z = absurd (omega arith)
    go _ (equal p q) z = (z, q)

-- ---- the answer

answered : (k : ℕ) (s : State) (a : Answer) → k ≡ 0 → unless k (k, 0) s a ≡ a
unfolding unless
answered zero s a e = refl
answered (suc k) s a e = absurd (omega arith)

numbered : (k : ℕ) (s : State) (a : Answer) → a.number ≡ 0 → (unless k (k, 0) s a).number ≡ k
unfolding unless
numbered zero s a e = e
numbered (suc k) s a e = refl

module _ (P : Worker) (s : State) (v : ℕ) (f : Found) where
  -- at a product or refresh, with the walk's places
  pub resumed_there : place_fault f ≡ 0 → s.stored ≡ walked_to f → resume P s v f ≡ report P (hear_walk P s v f)
  unfolding resume
  resumed_there z e = answered _ s (report P (hear_walk P s v f)) (judged_equal s.stored f e ∙ z)

  -- its number does not depend on the words lent
  pub resume_is : (resume P s v f).number ≡ hearing_fault s.stored f
  unfolding resume
  resume_is = numbered _ s (report P (hear_walk P s v f)) refl

  pub resume_none : (resume P s v f).number ≡ 0 → (place_fault f ≡ 0) × (s.stored ≡ walked_to f)
  resume_none z = judged_none s.stored f (sym resume_is ∙ z)
