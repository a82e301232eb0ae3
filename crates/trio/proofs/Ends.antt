-- Where the three hosts stand at the end of a job, their answers are those of the whole joint walk. Assumes nothing.
use mathlib.Core.Path.{◌≡◌, refl, sym, ap, ap₂, ◌∙◌}
use mathlib.Core.Logic.{◌⊎◌, inl, inr}
use mathlib.Core.List.{List, [], ◌∷◌}
use Prim.Native.Nat.{ℕ, suc, ◌+◌, ◌≤◌, ◌<◌}
use native.Mathlib.Nat.{zero-add}
use native.Mathlib.Omega.{arith}
use lib.ListN.{length}
use Rattle.gates.specs.Steps.{Exchange, Step, local, deal, exchange, end, Cursor, origin, past}
use Rattle.gates.specs.Walk.{Conf, conf, whole, far, Exchanging}
use Rattle.gates.specs.Hosts.{Pair, Triple, of1, of2, act, joint1, joint2}
use Rattle.gates.proofs.Needs.{far_used}
use Rattle.gates.proofs.Seen.{through}
use Rattle.calls.specs.Scripts.{Script, script_cost, ends, orders_in, Closed}
use Rattle.calls.specs.Places.{seek}
use Rattle.calls.specs.Calls.{stored_places, State, Answer, word_at, spoken_at, stored_at, state_of}
use Rattle.runs.specs.Runs.{Stage}
use Rattle.runs.proofs.Places.{Halted, steps_in, ends_pos, exchange_or_end, seek_pos, shrinks, whole_pos}
use Rattle.runs.proofs.Counts.{far_at, stands}
use Rattle.runs.proofs.Kept.{all, j₀}
use Rattle.trio.specs.Together.{Trio, left, end_answer, together}
use Rattle.trio.specs.Ran.{ran}
use Rattle.trio.proofs.Positions.{heard_of, left_of, P, with_answers, prepared_is, at_n, answer_at, standing, Standing, heard_at}

-- ---- where every step stands in an order, the last ends one: "the end is the number of orders and 0"

end_alone : (x : Step) (c : Cursor) → 1 ≤ ends (x ∷ []) → (past x c).turn ≡ 0
unfolding ends past
end_alone (local d m l) c h = absurd (omega arith)
end_alone (deal d f) c h = absurd (omega arith)
end_alone (exchange d e) c h = absurd (omega arith)
end_alone end c h = refl

far_closed : (ss : List Step) (c : Cursor) → Closed ss → (ss ≡ [] → c.turn ≡ 0) → (far ss c).turn ≡ 0
unfolding far
far_closed [] c h e = e refl
far_closed (x ∷ ss) c h e = far_closed ss (past x c) h.1 (λ n. end_alone x c (rw n at h.0))

-- the steps ahead of a state's place
abbrev pub ahead : Script → State → ℕ
ahead σ s = steps_in (seek s.order s.turn σ.steps origin)

-- an answer with no step left
last_answer : (h : Triple → Pair) (say : Exchange → Cursor → Triple → ℕ) (ss : List Step) (c : Cursor) (j : Triple) (t : List Triple)
    (a b n o : ℕ) → ss ≡ [] → c.a ≡ a → c.b ≡ b → c.deals ≡ n → c.order ≡ o
    → c.turn ≡ 0
    → ◌≡◌ {A = Answer} (record {
      number = 0;
      index = 0;
      spoken = spoken_at ss c;
      word = word_at say ss c j;
      state = state_of (through h (conf ss c j t));
    })
    (record {
      number = 0;
      index = 0;
      spoken = b;
      word = 0;
      state = record { m = (h j).0; mask = (h j).1; order = o; turn = 0; stored = stored_places a b n };
    })
unfolding spoken_at word_at stored_at
last_answer h say [] c j t a b n o e x p y q r = rw (x, p, y, q, r)
last_answer h say (z ∷ ss) c j t a b n o e x p y q r = cc

whole_rest : (A B : List ℕ) (ss : List Step) (c : Cursor) (j : Triple) (t : List Triple) → ss ≡ [] → (whole (act A B) ss c j t).state ≡ j
unfolding whole
whole_rest A B [] c j t e = refl
whole_rest A B (x ∷ ss) c j t e = cc

speaks : (ss : List Step) (c : Cursor) → Exchanging ss → spoken_at ss c ≡ suc c.b
unfolding spoken_at
speaks [] c x = absurd x
speaks (local d m l ∷ ss) c x = absurd x
speaks (deal d f ∷ ss) c x = absurd x
speaks (exchange d e ∷ ss) c x = refl
speaks (end ∷ ss) c x = absurd x

far_rest : (ss : List Step) (c : Cursor) → ss ≡ [] → far ss c ≡ c
unfolding far
far_rest [] c e = refl
far_rest (x ∷ ss) c e = cc

module _ (S : Stage) (shut : Closed S.script.steps) (buf : List ℕ) (done : (P S buf).number ≡ 0) where
  abbrev walk_at : ℕ → Conf Triple
  walk_at n = at_n S buf n

  -- ---- before the end a word is to be heard

  live : (n : ℕ) → Halted (walk_at n).rest → (walk_at n).cur.order < orders_in S.script → Exchanging (walk_at n).rest
  unfolding ends
  live n h l = go (exchange_or_end (act S.A S.B) (all S) (j₀ S) _ h)
    where
      go : Exchanging (walk_at n).rest ⊎ ((walk_at n).rest ≡ []) → Exchanging (walk_at n).rest
      go (inl x) = x
      go (inr e) =
          let p : ends (walk_at n).rest + (walk_at n).cur.order ≡ ends (all S) = ends_pos (act S.A S.B) (all S) (j₀ S) n in
          let q : 0 + (walk_at n).cur.order ≡ ends (all S) = ap (λ (ss : List Step). ends ss + (walk_at n).cur.order) (sym e) ∙ p in
          absurd (omega (arith, q))

  ahead_at : (n : ℕ) → Halted (walk_at n).rest → ahead S.script (standing S buf n).one.state ≡ length (walk_at n).rest
  ahead_at n h = ap steps_in (seek_pos (act S.A S.B) (all S) (j₀ S) n h)

  pub record Turn (s : Trio) : Type 0 where
    pub stands : Standing S buf (heard_of S s)
    pub fewer : ahead S.script (heard_of S s).one.state < ahead S.script s.one.state

  turn_at : (n : ℕ) → Halted (walk_at n).rest → (walk_at n).cur.order < orders_in S.script → Turn (standing S buf n)
  turn_at n h l =
      let x = live n h l in
      let r = heard_at S buf done n h x in
      let m : ahead S.script (heard_of S (standing S buf n)).one.state ≡ length (walk_at r.0.n).rest =
      ap (λ (s : Trio). ahead S.script s.one.state) r.0.is ∙ ahead_at r.0.n r.0.halts in
      record { stands = r.0; fewer = omega (arith, m, ahead_at n h, shrinks (act S.A S.B) (all S) (j₀ S) n r.0.n x r.1) }

  pub turn : (s : Trio) → Standing S buf s → s.one.state.order < orders_in S.script → Turn s
  turn s Z l = rw Z.is (turn_at Z.n Z.halts (rw Z.is at l))

  -- ---- at the end

  pub no_step : (n : ℕ) → Halted (walk_at n).rest → orders_in S.script ≤ (walk_at n).cur.order → (walk_at n).rest ≡ []
  no_step n h l = go (exchange_or_end (act S.A S.B) (all S) (j₀ S) _ h)
    where
      go : Exchanging (walk_at n).rest ⊎ ((walk_at n).rest ≡ []) → (walk_at n).rest ≡ []
      go (inl x) =
          let p : ends (walk_at n).rest + (walk_at n).cur.order ≡ ends (all S) = ends_pos (act S.A S.B) (all S) (j₀ S) n in
          let q = (stands S.A S.B (all S) (j₀ S) shut n h).at_end (omega (arith, p, l)) in
          absurd (omega (arith, q.0, speaks (walk_at n).rest (walk_at n).cur x))
      go (inr e) = e

  module _ (n : ℕ) (e : (walk_at n).rest ≡ []) where
    pub cur_is : (walk_at n).cur ≡ far (all S) origin
    cur_is = sym (far_rest _ _ e) ∙ far_at S.A S.B (all S) (j₀ S) shut n

    state_is : (walk_at n).state ≡ left_of S
    unfolding left
    state_is =
        sym (ap (λ (p : Conf Triple). p.state) (whole_pos (act S.A S.B) (all S) (j₀ S) n) ∙ whole_rest S.A S.B _ _ _ _ e)

    last_is : (h : Triple → Pair) (say : Exchange → Cursor → Triple → ℕ) → answer_at S buf h say n ≡ end_answer S.script (h (left_of S))
    unfolding end_answer ends
    last_is h say =
        let p : ends (walk_at n).rest + (walk_at n).cur.order ≡ ends (all S) = ends_pos (act S.A S.B) (all S) (j₀ S) n in
        let q : (walk_at n).cur.order ≡ orders_in S.script =
        sym (zero-add _) ∙ ap (λ (ss : List Step). ends ss + (walk_at n).cur.order) (sym e) ∙ p in
        let k = far_used (all S) origin in
        let a : (walk_at n).cur.a ≡ (script_cost S.script).a = ap (λ (c : Cursor). c.a) cur_is ∙ k.a ∙ zero-add _ in
        let b : (walk_at n).cur.b ≡ (script_cost S.script).b = ap (λ (c : Cursor). c.b) cur_is ∙ k.b ∙ zero-add _ in
        let d : (walk_at n).cur.deals ≡ (script_cost S.script).deals =
        ap (λ (c : Cursor). c.deals) cur_is ∙ k.deals ∙ zero-add _ in
        let t : (walk_at n).cur.turn ≡ 0 = ap (λ (c : Cursor). c.turn) cur_is ∙ far_closed (all S) origin shut (λ n. refl) in
        last_answer h say (walk_at n).rest (walk_at n).cur (walk_at n).state (walk_at n).trail _ _ _ _ e a b d q t
        ∙ ap {B = Answer} (λ (j : Triple). end_answer S.script (h j)) state_is

    finish_at : standing S buf n ≡ ran S buf
    unfolding together
    finish_at =
        ap₂ {C = Trio} (λ (a b : Answer). with_answers S buf a b) (last_is of1 (joint1 S.A S.B)) (last_is of2 (joint2 S.A S.B))
        ∙ sym (prepared_is S buf done _ _)

  pub finish : (s : Trio) → Standing S buf s → orders_in S.script ≤ s.one.state.order → s ≡ ran S buf
  finish s Z l =
      let k : orders_in S.script ≤ (walk_at Z.n).cur.order = rw Z.is at l in
      Z.is ∙ finish_at Z.n (no_step Z.n Z.halts k)
