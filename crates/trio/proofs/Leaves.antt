-- What the three hosts leave: a register opens what the joint walk holds in it, and the counts are the script's. Assumes nothing.
use mathlib.Core.Path.{◌≡◌, refl, sym, ap, ◌∙◌, subst}
use mathlib.Core.List.{List, [], ◌∷◌, ◌++◌}
use Prim.Native.Nat.{ℕ, ◌<◌}
use lib.ListN.{get_or, take}
use lib.Seq.{get_or-take}
use Rattle.words.specs.Words.{numbers}
use Rattle.words.specs.Signed.{signed}
use Rattle.shares.specs.Gates.{value}
use Rattle.shares.proofs.RoundTrip.{share_opens}
use Rattle.gates.specs.Gates.{Gate}
use Rattle.gates.specs.Steps.{Step, Cursor, origin, past}
use Rattle.gates.specs.Meaning.{meaning, order_steps, job_steps}
use Rattle.gates.specs.Walk.{Conf, whole}
use Rattle.gates.specs.Hosts.{Pair, Triple, of1, of2, act, share}
use Rattle.calls.specs.Scripts.{script_cost}
use Rattle.runs.specs.Runs.{Stage, ready, opened_slot}
use Rattle.runs.specs.Orders.{after_order, trail, first}
use Rattle.runs.proofs.Chain.{mark_gate}
use Rattle.demands.proofs.Demand2.{demand2}
use Rattle.runs.proofs.Kept.{DealerOk, dealt_all, prepares_ok}
use Rattle.trio.specs.Together.{Trio, left, end_answer, together}
use Rattle.trio.specs.Ran.{ran}
use Rattle.trio.proofs.Positions.{left_of, P, with_answers, prepared_is}

-- ---- one order: it leaves what the walk ends with

order_whole : (w : ℕ) (A B : List ℕ) (gs : List Gate) (c : Cursor) (j : Triple) (t : List Triple)
    → (whole (act A B) (order_steps w gs []) c j t).trail ≡ t ++ ((whole (act A B) (order_steps w gs []) c j t).state ∷ [])
unfolding whole order_steps act
order_whole w A B [] c j t = refl
order_whole w A B (g ∷ gs) c j t =
    let f : List Triple → Conf Triple = λ u. whole (act A B) (order_steps w gs []) (past (meaning w g) c) (act A B (meaning w g) c j) u in
    subst (λ (u : List Triple). (f u).trail ≡ t ++ ((f u).state ∷ [])) (sym (mark_gate w g j t)) (order_whole w A B gs _ _ t)

pub left_one : (w : ℕ) (S : Stage) (gs : List Gate) → S.script.steps ≡ job_steps w (gs ∷ []) → left_of S ≡ after_order S 0
unfolding left after_order trail job_steps
left_one w S gs e =
    let f : List Step → Conf Triple = λ ss. whole (act S.A S.B) ss origin (first S) [] in
    subst (λ (ss : List Step). (f ss).state ≡ get_or (f ss).trail 0 (first S)) (sym e)
    (sym (ap (λ (t : List Triple). get_or t 0 (first S)) (order_whole w S.A S.B gs origin (first S) [])))

module _ (S : Stage) (buf : List ℕ) (done : (P S buf).number ≡ 0) where
  abbrev over : Trio
  over = ran S buf

  abbrev end_state : Triple
  end_state = left_of S

  -- the last answers
  pub over_is : over ≡ with_answers S buf (end_answer S.script (of1 end_state)) (end_answer S.script (of2 end_state))
  unfolding together
  over_is = prepared_is S buf done _ _

  masks_are : (P S buf).masks ≡ (take S.script.slots end_state.1, take S.script.slots end_state.2)
  unfolding left
  masks_are = go (prepares_ok S (S.r1, S.r2) buf refl done)
    where
      go : {t : List Pair} {d : List ℕ} → DealerOk S (ready (P S buf).masks t) d
          → (P S buf).masks ≡ (take S.script.slots end_state.1, take S.script.slots end_state.2)
      go (dealt_all post e m t) = m

  -- opening never meets 10
  pub register_opens : (w i : ℕ) → i < S.script.slots
      → opened_slot w over.masks (over.one.state.m, over.one.state.mask) (over.two.state.m, over.two.state.mask) i
      ≡ (0, signed w (value (numbers w) (share end_state i)))
  unfolding end_answer
  register_opens w i h =
      rw (over_is, masks_are, get_or-take S.script.slots end_state.1 i 0 h, get_or-take S.script.slots end_state.2 i 0 h)
      (share_opens w (share end_state i))

  pub words_spoken : (over.one.spoken ≡ (script_cost S.script).b) × (over.two.spoken ≡ (script_cost S.script).b)
  unfolding end_answer
  words_spoken = rw over_is (refl, refl)

pub deals_dealt : (S : Stage) (buf : List ℕ) → (P S buf).number ≡ 0 → (ran S buf).deals ≡ (script_cost S.script).deals
deals_dealt S buf done = ap (λ (s : Trio). s.deals) (over_is S buf done) ∙ demand2.deals_counted S buf (S.r1, S.r2) done
