-- Hosts 1 and 2, walking side by side on the deals of host 0, hold the lanes of the joint walk and speak its words. Assumes nothing.
use mathlib.Core.Path.{◌≡◌, refl, ap, ap₂, ◌∙◌}
use mathlib.Core.List.{List, [], ◌∷◌, map}
use Prim.Native.Nat.{ℕ}
use Rattle.gates.specs.Steps.{Exchange, Step, local, deal, exchange, end, Cursor, past}
use Rattle.gates.specs.Walk.{whole}
use Rattle.gates.specs.Hosts.{Pair, Triple, of0, act0, word_of1, word_of2, joint1, joint2}
use Rattle.gates.specs.Hosts.{act, Supplied}
use Rattle.gates.specs.Duet.{duet, utter, words, words1, words2, of12}
use Rattle.gates.proofs.Seen.{through, Seen, Any, see_whole}
use Rattle.gates.proofs.LaneByLane.{seen0, seen1, seen2, says1, says2, hears1, hears2}

module _ (A B D : List ℕ) where
  same12 : (x : Step) (ss : List Step) (c : Cursor) (j : Triple) → Supplied A B D (x ∷ ss) c j → Any x
      → duet A B D x c (of12 j) ≡ of12 (act A B x c j)
  unfolding duet
  same12 (local d m l) ss c j g o = ap₂ {C = Pair × Pair} (λ (p q : Pair). (p, q)) ((seen1 A B).same (local d m l) ss c j tt tt)
      ((seen2 A B D).same (local d m l) ss c j g tt)
  same12 (deal d f) ss c j g o = ap₂ {C = Pair × Pair} (λ (p q : Pair). (p, q)) ((seen1 A B).same (deal d f) ss c j tt tt)
      ((seen2 A B D).same (deal d f) ss c j g tt)
  same12 (exchange d e) ss c j g o =
      ap₂ {C = Pair × Pair} (λ (p q : Pair). (p, q)) (hears1 A B D d e c j _ (says2 A B D d e ss c j g))
      (hears2 A B D d e ss c j _ g (says1 A B D e c j))
  same12 end ss c j g o = ap₂ {C = Pair × Pair} (λ (p q : Pair). (p, q)) ((seen1 A B).same end ss c j tt tt)
      ((seen2 A B D).same end ss c j g tt)

  seen12 : Seen (act A B) (duet A B D) of12 (Supplied A B D) Any
  seen12 = record { keeps = (seen2 A B D).keeps; same = same12 }

  -- the hosts' walk from registers that agree, host 2 having the deals that host 0 makes: the lanes of the joint walk
  pub duet_lanes : (ss : List Step) (c : Cursor) (j : Triple) (t : List Triple) → Supplied A B D ss c j
      → whole (duet A B D) ss c (of12 j) (map of12 t) ≡ through of12 (whole (act A B) ss c j t)
  duet_lanes = see_whole (act A B) (duet A B D) of12 (Supplied A B D) seen12

  -- and host 0's
  pub host0_lanes : (ss : List Step) (c : Cursor) (j : Triple) (t : List Triple)
      → whole (act0 A B) ss c (of0 j) (map of0 t) ≡ through of0 (whole (act A B) ss c j t)
  host0_lanes ss c j t = see_whole (act A B) (act0 A B) of0 _ (seen0 A B) ss c j t tt

  -- every spoken word is the joint walk's
  utter_same : (say : Exchange → Cursor → Pair × Pair → ℕ) (joint : Exchange → Cursor → Triple → ℕ)
      → ((d : ℕ) (e : Exchange) (ss : List Step) (c : Cursor) (j : Triple) → Supplied A B D (exchange d e ∷ ss) c j
      → say e c (of12 j) ≡ joint e c j)
      → (x : Step) (ss : List Step) (c : Cursor) (j : Triple) (ws : List ℕ) → Supplied A B D (x ∷ ss) c j
      → utter say x c (of12 j) ws ≡ utter joint x c j ws
  unfolding utter
  utter_same say joint h (local d m l) ss c j ws g = refl
  utter_same say joint h (deal d f) ss c j ws g = refl
  utter_same say joint h (exchange d e) ss c j ws g = ap (λ (v : ℕ). v ∷ ws) (h d e ss c j g)
  utter_same say joint h end ss c j ws g = refl

  words_same : (say : Exchange → Cursor → Pair × Pair → ℕ) (joint : Exchange → Cursor → Triple → ℕ)
      → ((d : ℕ) (e : Exchange) (ss : List Step) (c : Cursor) (j : Triple) → Supplied A B D (exchange d e ∷ ss) c j
      → say e c (of12 j) ≡ joint e c j)
      → (ss : List Step) (c : Cursor) (j : Triple) → Supplied A B D ss c j
      → words (duet A B D) say ss c (of12 j) ≡ words (act A B) joint ss c j
  unfolding words
  words_same say joint h [] c j g = refl
  words_same say joint h (x ∷ ss) c j g =
      utter_same say joint h x ss c j _ g
      ∙ ap (utter joint x c j) (rw (same12 x ss c j g tt) (words_same say joint h ss (past x c) (act A B x c j) (seen12.keeps x ss c j g)))

  pub words1_joint : (ss : List Step) (c : Cursor) (j : Triple) → Supplied A B D ss c j
      → words1 A B D ss c (of12 j) ≡ words (act A B) (joint1 A B) ss c j
  unfolding words1
  words1_joint = words_same (λ e c s. word_of1 A e c s.0) (joint1 A B) (λ d e ss c j g. says1 A B D e c j)

  pub words2_joint : (ss : List Step) (c : Cursor) (j : Triple) → Supplied A B D ss c j
      → words2 A B D ss c (of12 j) ≡ words (act A B) (joint2 A B) ss c j
  unfolding words2
  words2_joint = words_same (λ e c s. word_of2 B D e c s.1) (joint2 A B) (λ d e ss c j g. says2 A B D d e ss c j g)
