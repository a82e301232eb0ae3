-- Lanes behind every step's target: where no step writes slot k or one behind it, a host holds there what it was given, in
-- every run. Assumes nothing.
use mathlib.Core.Path.{◌≡◌, refl, ap, ◌∙◌}
use mathlib.Core.List.{List, [], ◌∷◌}
use Prim.Native.Nat.{ℕ, zero, suc, ◌≤◌, ◌<◌}
use native.Mathlib.Omega.{arith}
use native.Mathlib.Decide.{dec_le}
use borrow.Author.Tests.{eqb-false}
use lib.ListN.{drop, set}
use lib.Seq.{drop-set-lt}
use Rattle.gates.specs.Gates.{Gate, Add, Sub, Xor, Mul, And, Refresh, MulKnown, AndKnown, Scale, Plus, Up, Bit, Const, Public, Deal, DealBits}
use Rattle.gates.specs.Steps.{Step, local, deal, exchange, end, Cursor}
use Rattle.gates.specs.Walk.{Conf, conf, next}
use Rattle.gates.specs.Meaning.{meaning, order_steps, job_steps}
use Rattle.gates.specs.Hosts.{Pair, Triple, act}
use Rattle.programs.proofs.Points.{target}
use Rattle.calls.specs.Calls.{State, fresh}
use Rattle.runs.specs.Runs.{Stage, Spoken, Dealer, idle, Side, waiting, going, side_state, world, held, Call, Run}
use Rattle.runs.proofs.Places.{pos}
use Rattle.runs.proofs.Ties.{joint}
use Rattle.runs.proofs.Refusals.{HasSlots}
use Rattle.runs.proofs.Kept.{all, j₀, position, not_yet, wait1, go1, wait2, go2, Ok, ok, kept, one_holds, two_holds}
use Rattle.runs.proofs.Written.{Spares, also}

-- ---- steps that write slots below k alone

abbrev pub Low : (k : ℕ) → List Step → Type 0
Low k [] = Unit
Low k (local d m l ∷ ss) = (d < k) × Low k ss
Low k (deal d f ∷ ss) = (d < k) × Low k ss
Low k (exchange d e ∷ ss) = (d < k) × Low k ss
Low k (end ∷ ss) = Low k ss

-- a gate's step writes the gate's target
low_gate : (w k : ℕ) (g : Gate) (ss : List Step) → target g < k → Low k ss → Low k (meaning w g ∷ ss)
unfolding meaning target
low_gate w k (Add d a b) ss h r = (h, r)
low_gate w k (Sub d a b) ss h r = (h, r)
low_gate w k (Xor d a b) ss h r = (h, r)
low_gate w k (Mul d a b) ss h r = (h, r)
low_gate w k (And d a b) ss h r = (h, r)
low_gate w k (Refresh d a) ss h r = (h, r)
low_gate w k (MulKnown d a b) ss h r = (h, r)
low_gate w k (AndKnown d a b) ss h r = (h, r)
low_gate w k (Scale d a n) ss h r = (h, r)
low_gate w k (Plus d a n) ss h r = (h, r)
low_gate w k (Up d a n) ss h r = (h, r)
low_gate w k (Bit d a n) ss h r = (h, r)
low_gate w k (Const d n) ss h r = (h, r)
low_gate w k (Public d a f) ss h r = (h, r)
low_gate w k (Deal d a f) ss h r = (h, r)
low_gate w k (DealBits d a) ss h r = (h, r)

-- no gate writes slot k or one behind it
abbrev pub SparesFrom : (k : ℕ) → List Gate → Type 0
SparesFrom k gs = (i : ℕ) → k ≤ i → Spares i gs

abbrev pub AllSpareFrom : (k : ℕ) → List (List Gate) → Type 0
AllSpareFrom k [] = Unit
AllSpareFrom k (gs ∷ os) = SparesFrom k gs × AllSpareFrom k os

low_target : (k : ℕ) (g : Gate) (gs : List Gate) → SparesFrom k (g ∷ gs) → target g < k
low_target k g gs f = go (dec_le k (target g))
  where
    own : Spares (target g) (g ∷ gs) → ⊥
    own (also e p) = eqb-false (target g) (target g) e refl

    go : Dec (k ≤ target g) → target g < k
    go (yes h) = absurd (own (f (target g) h))
    go (no h) = omega arith

spares_rest : (i : ℕ) (g : Gate) (gs : List Gate) → Spares i (g ∷ gs) → Spares i gs
spares_rest i g gs (also e p) = p

low_order : (w k : ℕ) (gs : List Gate) (ss : List Step) → SparesFrom k gs → Low k ss → Low k (order_steps w gs ss)
unfolding order_steps
low_order w k [] ss f h = h
low_order w k (g ∷ gs) ss f h =
    low_gate w k g (order_steps w gs ss) (low_target k g gs f) (low_order w k gs ss (λ i l. spares_rest i g gs (f i l)) h)

pub low_orders : (w k : ℕ) (os : List (List Gate)) → AllSpareFrom k os → Low k (job_steps w os)
unfolding job_steps
low_orders w k [] f = tt
low_orders w k (gs ∷ os) f = low_order w k gs (job_steps w os) f.0 (low_orders w k os f.1)

-- ---- on the joint walk the lanes from slot k on stay as they were

module _ (A B : List ℕ) (k : ℕ) (j : Triple) where
  record Behind (x : Triple) : Type 0 where
    pub m : drop k x.0 ≡ drop k j.0
    pub l1 : drop k x.1 ≡ drop k j.1
    pub l2 : drop k x.2 ≡ drop k j.2

  -- a step that writes slot d
  wrote : (x : Triple) (d a b c : ℕ) → d < k → Behind x → Behind (set x.0 d a, set x.1 d b, set x.2 d c)
  wrote x d a b c h y =
      record {
        m = drop-set-lt k x.0 d a h ∙ y.m;
        l1 = drop-set-lt k x.1 d b h ∙ y.l1;
        l2 = drop-set-lt k x.2 d c h ∙ y.l2;
      }

  abbrev Stays : Conf Triple → Type 0
  Stays p = Low k p.rest × Behind p.state

  behind_next : (ss : List Step) (c : Cursor) (x : Triple) (t : List Triple) → Low k ss → Behind x
      → Stays (next (act A B) (conf ss c x t))
  unfolding act
  behind_next [] c x t h y = (h, y)
  behind_next (local d m l ∷ ss) c x t h y = (h.1, wrote x d _ _ _ h.0 y)
  behind_next (deal d f ∷ ss) c x t h y = (h.1, wrote x d _ _ _ h.0 y)
  behind_next (exchange d e ∷ ss) c x t h y = (h.1, wrote x d _ _ _ h.0 y)
  behind_next (end ∷ ss) c x t h y = (h, y)

  behind_at : (ss : List Step) → Low k ss → (n : ℕ) → Stays (joint A B ss j n)
  unfolding pos
  behind_at ss h zero = (h, record { m = refl; l1 = refl; l2 = refl })
  behind_at ss h (suc n) =
      let p : Conf Triple = joint A B ss j n in
      let y = behind_at ss h n in
      behind_next p.rest p.cur p.state p.trail y.0 y.1

-- ---- in every run

module _ (S : Stage) where
  -- host 0 before its preparation, and hosts 1 and 2 before their startings, hold what they were given
  pub idle_holds : {cs : List Call} {r : Pair} {buf : List ℕ} {one two : Side} → Run S cs (world (idle r) buf one two)
      → r ≡ (S.r1, S.r2)
  idle_holds {r = r} R = go (kept S R)
    where
      go : {buf : List ℕ} {one two : Side} → Ok S (world (idle r) buf one two) → r ≡ (S.r1, S.r2)
      go (ok (not_yet h) one two a) = h

  pub waiting_holds1 : {cs : List Call} {z : Dealer} {buf : List ℕ} {s : State} {two : Side}
      → Run S cs (world z buf (waiting s) two) → held S s ≡ (S.rm, S.r1)
  waiting_holds1 {s = s} R = go (kept S R)
    where
      go : {z : Dealer} {buf : List ℕ} {two : Side} → Ok S (world z buf (waiting s) two) → held S s ≡ (S.rm, S.r1)
      go (ok z (wait1 h) two a) = h

  pub waiting_holds2 : {cs : List Call} {z : Dealer} {buf : List ℕ} {one : Side} {s : State}
      → Run S cs (world z buf one (waiting s)) → held S s ≡ (S.rm, S.r2)
  waiting_holds2 {s = s} R = go (kept S R)
    where
      go : {z : Dealer} {buf : List ℕ} {one : Side} → Ok S (world z buf one (waiting s)) → held S s ≡ (S.rm, S.r2)
      go (ok z one (wait2 h) a) = h

  -- hosts 1 and 2 always have the slots given
  pub both_hold : {cs : List Call} {z : Dealer} {buf : List ℕ} {one two : Side} → Run S cs (world z buf one two)
      → HasSlots S.script.slots (side_state one) × HasSlots S.script.slots (side_state two)
  both_hold {one = one} {two = two} R = go (kept S R)
    where
      go : {z : Dealer} {buf : List ℕ} → Ok S (world z buf one two)
          → HasSlots S.script.slots (side_state one) × HasSlots S.script.slots (side_state two)
      go (ok z one two a) = (one_holds S one, two_holds S two)

  -- and once they go, behind every step's target, what they were given
  module _ (k : ℕ) (low : Low k S.script.steps) where
    behind : (n : ℕ) → Behind S.A S.B k (j₀ S) (position S n).state
    behind n = (behind_at S.A S.B k (j₀ S) (all S) low n).1

    pub behind1 : {cs : List Call} {z : Dealer} {buf : List ℕ} {s : State} {t : List Pair} {said : List Spoken} {two : Side}
        → Run S cs (world z buf (going s t said) two)
        → (drop k s.m ≡ drop k (fresh S.rm)) × (drop k s.mask ≡ drop k (fresh S.r1))
    behind1 {s = s} {t = t} {said = said} R = go (kept S R)
      where
        go : {z : Dealer} {buf : List ℕ} {two : Side} → Ok S (world z buf (going s t said) two)
            → (drop k s.m ≡ drop k (fresh S.rm)) × (drop k s.mask ≡ drop k (fresh S.r1))
        go (ok z (go1 X) two a) = (
          ap (λ (x : State). drop k x.m) X.is ∙ (behind X.n).m,
          ap (λ (x : State). drop k x.mask) X.is ∙ (behind X.n).l1,
        )

    pub behind2 : {cs : List Call} {z : Dealer} {buf : List ℕ} {one : Side} {s : State} {t : List Pair} {said : List Spoken}
        → Run S cs (world z buf one (going s t said))
        → (drop k s.m ≡ drop k (fresh S.rm)) × (drop k s.mask ≡ drop k (fresh S.r2))
    behind2 {s = s} {t = t} {said = said} R = go (kept S R)
      where
        go : {z : Dealer} {buf : List ℕ} {one : Side} → Ok S (world z buf one (going s t said))
            → (drop k s.m ≡ drop k (fresh S.rm)) × (drop k s.mask ≡ drop k (fresh S.r2))
        go (ok z one (go2 X) a) = (
          ap (λ (x : State). drop k x.m) X.is ∙ (behind X.n).m,
          ap (λ (x : State). drop k x.mask) X.is ∙ (behind X.n).l2,
        )
