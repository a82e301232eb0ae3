-- Over any list of gates, at any width: neither host 1 nor host 2 can tell two runs apart whose lanes agree in what it holds. Assumes
-- nothing.
use mathlib.Core.Path.{◌≡◌, sym, ◌∙◌}
use mathlib.Core.List.{List, [], ◌∷◌}
use Prim.Native.Nat.{ℕ, ◌≤◌}
use lib.ListN.{length, drop}
use Rattle.gates.specs.Gates.{Gate}
use Rattle.gates.specs.Steps.{Step, origin}
use Rattle.gates.specs.Meaning.{order_steps, job_steps}
use Rattle.gates.specs.Hosts.{Triple, of0, joint1, joint2, act, deals}
use Rattle.gates.specs.Duet.{words}
use Rattle.gates.specs.Costs.{cost}
use Rattle.programs.proofs.Gates.{Fits}
use Rattle.privacy.specs.Unseen.{Side, side1, side2, others}
use Rattle.privacy.proofs.Sight.{need, hears1, hears2, is_dealt, Agree1, Agree2}
use Rattle.privacy.proofs.Walks.{All, Two, Lawful, others_fit, others_length, others_beyond, others_undone, told_same}
use Rattle.privacy.proofs.Solving.{Sound, gate_sound, end_sound}
use Rattle.privacy.proofs.Host1.{lawful1, clear1}
use Rattle.privacy.proofs.Host2.{lawful2, clear2, clear_deals}
use Rattle.privacy.proofs.Tails.{heard_by_1, heard_by_2, dealt_to_2, need1, need2}

-- ---- the steps of gates

order_sound : (w : ℕ) (gs : List Gate) (ss : List Step) → All (Sound w) ss → All (Sound w) (order_steps w gs ss)
unfolding order_steps
order_sound w [] ss h = (end_sound w, h)
order_sound w (g ∷ gs) ss h = (gate_sound w g, order_sound w gs ss h)

pub gates_sound : (w : ℕ) (os : List (List Gate)) → All (Sound w) (job_steps w os)
unfolding job_steps
gates_sound w [] = tt
gates_sound w (o ∷ os) = order_sound w o (job_steps w os) (gates_sound w os)

-- ---- the unseen lists of the two runs

-- they correspond: the way back has the same form; the length is kept, and so are the words beyond the n that are needed
pub record Corresponds (P : Side) (w : ℕ) (ss : List Step) (n : ℕ) (v u : List ℕ) (j k : Triple) : Type 0 where
  pub back : others P ss v (others P ss v u j k) k j ≡ u
  pub as_long : length (others P ss v u j k) ≡ length u
  pub beyond : drop n (others P ss v u j k) ≡ drop n u
  pub fits : Fits w (others P ss v u j k)

corresponds : (w : ℕ) (P : Side) (Agree : Triple → Triple → Type 0) → ((x : Step) → Sound w x → Lawful w P Agree x) → (ss : List Step)
    → All (Sound w) ss → (n : ℕ) → need P ss ≡ n → (v u : List ℕ) (j k : Triple) → Two w P Agree v u j k → n ≤ length u
    → Corresponds P w ss n v u j k
corresponds w P Agree law ss all n e v u j k h l =
    record {
      back = others_undone w P Agree (Sound w) law ss all v u j k h (rw e l);
      as_long = others_length w P Agree (Sound w) law ss all v u j k (rw e l);
      beyond = rw (← e) (others_beyond w P Agree (Sound w) law ss all v u j k);
      fits = others_fit w P Agree (Sound w) law ss all v u j k h;
    }

module _ (w : ℕ) (ss : List Step) (all : All (Sound w) ss) (A B : List ℕ) (j k : Triple) where
  -- host 1: B' is the list that it does not see, and it hears the same of host 2 at every exchange
  abbrev B' : List ℕ
  B' = others side1 ss A B j k

  pub lists1 : Two w side1 Agree1 A B j k → (cost ss).b ≤ length B → Corresponds side1 w ss (cost ss).b A B j k
  lists1 = corresponds w side1 Agree1 (lawful1 w) ss all (cost ss).b (need1 ss) A B j k

  pub heard1 : Two w side1 Agree1 A B j k → words (act A B) (joint2 A B) ss origin j ≡ words (act A B') (joint2 A B') ss origin k
  heard1 h =
      sym (heard_by_1 A B ss origin j) ∙ told_same w side1 Agree1 (Sound w) (lawful1 w) hears1 ss all (clear1 w) A B j k h
      ∙ heard_by_1 A B' ss origin k

  -- host 2: A' is the list that it does not see, and it is dealt the same, and hears the same of host 1
  abbrev A' : List ℕ
  A' = others side2 ss B A j k

  pub lists2 : Two w side2 Agree2 B A j k → (cost ss).a ≤ length A → Corresponds side2 w ss (cost ss).a B A j k
  lists2 = corresponds w side2 Agree2 (lawful2 w) ss all (cost ss).a (need2 ss) B A j k

  pub dealt2 : Two w side2 Agree2 B A j k → deals A B ss origin (of0 j) ≡ deals A' B ss origin (of0 k)
  dealt2 h =
      sym (dealt_to_2 A B ss origin j) ∙ told_same w side2 Agree2 (Sound w) (lawful2 w) is_dealt ss all (clear_deals w) B A j k h
      ∙ dealt_to_2 A' B ss origin k

  pub heard2 : Two w side2 Agree2 B A j k → words (act A B) (joint1 A B) ss origin j ≡ words (act A' B) (joint1 A' B) ss origin k
  heard2 h =
      sym (heard_by_2 A B ss origin j) ∙ told_same w side2 Agree2 (Sound w) (lawful2 w) hears2 ss all (clear2 w) B A j k h
      ∙ heard_by_2 A' B ss origin k
