-- Steps and gates that do not write a slot, from an order on, or write it as the last of an order alone, or only behind the last product or
-- refresh of an order. Assumes nothing.
use mathlib.Core.Path.{◌≡◌, refl}
use mathlib.Core.Bool.{false}
use mathlib.Core.Logic.{◌⊎◌, inl, inr}
use mathlib.Core.List.{List, [], ◌∷◌, ◌++◌}
use Prim.Native.Nat.{ℕ, zero, suc, ◌≤◌, ◌<◌}
use native.Mathlib.Omega.{arith}
use lib.Dec.{eqb}
use lib.ListN.{get_or, length}
use Rattle.gates.specs.Gates.{Gate, Add, Sub, Xor, Mul, And, Refresh, MulKnown, AndKnown, Scale, Plus, Up, Bit, Const, Public, Deal, DealBits}
use Rattle.gates.specs.Steps.{Step, local, deal, exchange, end, Cursor}
use Rattle.gates.specs.Meaning.{meaning, order_steps, job_steps}
use Rattle.gates.specs.Hosts.{Triple, share, act}
use Rattle.programs.proofs.Points.{target}
use Rattle.gates.proofs.GateSteps.{OfGate, of_gate}
use Rattle.calls.specs.Scripts.{ends, Closed}
use Rattle.runs.specs.Orders.{Unwritten, GoingOn, WrittenLast, Silent, WrittenBehind}
use Rattle.runs.proofs.Spared.{other_slot}
use Rattle.runs.proofs.Places.{Halted}
use Rattle.runs.proofs.Written.{Spares, none, also, SparesFront, none_in_front, alone, in_front}

-- ---- steps that do not write slot i

abbrev pub Misses : ℕ → Step → Type 0
Misses i (local d m l) = eqb i d ≡ false
Misses i (deal d f) = eqb i d ≡ false
Misses i (exchange d e) = eqb i d ≡ false
Misses i end = Unit

pub act_misses : (A B : List ℕ) (x : Step) (c : Cursor) (j : Triple) (i : ℕ) → Misses i x → share (act A B x c j) i ≡ share j i
unfolding act
act_misses A B (local d m l) c j i h = other_slot A B j d i _ _ _ h
act_misses A B (deal d f) c j i h = other_slot A B j d i _ _ _ h
act_misses A B (exchange d e) c j i h = other_slot A B j d i _ _ _ h
act_misses A B end c j i h = refl

-- where every step stands in an order, none comes behind the last
pub closed_from : (i : ℕ) (ss : List Step) → Closed ss → (p : ℕ) → ends ss ≤ p → Unwritten i p ss
unfolding ends
closed_from i [] c p h = tt
closed_from i (local d m l ∷ ss) c zero h = absurd (omega (arith, c.0))
closed_from i (local d m l ∷ ss) c (suc p) h = closed_from i ss c.1 (suc p) h
closed_from i (deal d f ∷ ss) c zero h = absurd (omega (arith, c.0))
closed_from i (deal d f ∷ ss) c (suc p) h = closed_from i ss c.1 (suc p) h
closed_from i (exchange d e ∷ ss) c zero h = absurd (omega (arith, c.0))
closed_from i (exchange d e ∷ ss) c (suc p) h = closed_from i ss c.1 (suc p) h
closed_from i (end ∷ ss) c zero h = tt
closed_from i (end ∷ ss) c (suc p) h = closed_from i ss c.1 p (omega arith)

-- behind a step of the order at hand
pub unwritten_behind : (i q : ℕ) (x : Step) (ss : List Step) → OfGate x → Unwritten i q (x ∷ ss) → Unwritten i q ss
unwritten_behind i zero (local d m l) ss o u = u.1
unwritten_behind i zero (deal d f) ss o u = u.1
unwritten_behind i zero (exchange d e) ss o u = u.1
unwritten_behind i (suc q) (local d m l) ss o u = u
unwritten_behind i (suc q) (deal d f) ss o u = u
unwritten_behind i (suc q) (exchange d e) ss o u = u
unwritten_behind i q end ss o u = absurd o

-- ---- steps of which only an order's last may write slot i

going_on : {P : Type 0} (ss : List Step) → P → GoingOn ss P
going_on [] p = p
going_on (local d m l ∷ ss) p = p
going_on (deal d f ∷ ss) p = p
going_on (exchange d e ∷ ss) p = p
going_on (end ∷ ss) p = tt

pub last_behind : (i q : ℕ) (x : Step) (ss : List Step) → OfGate x → WrittenLast i q (x ∷ ss) → WrittenLast i q ss
last_behind i zero (local d m l) ss o u = u.1
last_behind i zero (deal d f) ss o u = u.1
last_behind i zero (exchange d e) ss o u = u.1
last_behind i (suc q) (local d m l) ss o u = u
last_behind i (suc q) (deal d f) ss o u = u
last_behind i (suc q) (exchange d e) ss o u = u
last_behind i q end ss o u = absurd o

-- ---- steps of which only those behind an order's last product or refresh may write slot i

pub halted_speaks : (ss : List Step) → Halted ss → Silent ss → ⊥
halted_speaks [] h n = n
halted_speaks (local d m l ∷ ss) h n = h
halted_speaks (deal d f ∷ ss) h n = h
halted_speaks (exchange d e ∷ ss) h n = n
halted_speaks (end ∷ ss) h n = h

pub misses_or : {P Q : Type 0} → P ⊎ Q → (Q → ⊥) → P
misses_or (inl p) n = p
misses_or (inr q) n = absurd (n q)

pub behind_behind : (i q : ℕ) (x : Step) (ss : List Step) → OfGate x → WrittenBehind i q (x ∷ ss) → WrittenBehind i q ss
behind_behind i zero (local d m l) ss o u = u.1
behind_behind i zero (deal d f) ss o u = u.1
behind_behind i zero (exchange d e) ss o u = u.1
behind_behind i (suc q) (local d m l) ss o u = u
behind_behind i (suc q) (deal d f) ss o u = u
behind_behind i (suc q) (exchange d e) ss o u = u
behind_behind i q end ss o u = absurd o

-- a slot that is never written
pub never_behind : (i q : ℕ) (ss : List Step) → Unwritten i q ss → WrittenBehind i q ss
never_behind i q [] u = tt
never_behind i zero (local d m l ∷ ss) u = (inl u.0, never_behind i zero ss u.1)
never_behind i zero (deal d f ∷ ss) u = (inl u.0, never_behind i zero ss u.1)
never_behind i zero (exchange d e ∷ ss) u = (inl u.0, never_behind i zero ss u.1)
never_behind i zero (end ∷ ss) u = tt
never_behind i (suc q) (local d m l ∷ ss) u = never_behind i (suc q) ss u
never_behind i (suc q) (deal d f ∷ ss) u = never_behind i (suc q) ss u
never_behind i (suc q) (exchange d e ∷ ss) u = never_behind i (suc q) ss u
never_behind i (suc q) (end ∷ ss) u = never_behind i q ss u

-- behind an order's last step stands nothing
or_ends : {P : Type 0} (ss : List Step) → GoingOn ss P → P ⊎ Silent ss
or_ends [] p = inl p
or_ends (local d m l ∷ ss) p = inl p
or_ends (deal d f ∷ ss) p = inl p
or_ends (exchange d e ∷ ss) p = inl p
or_ends (end ∷ ss) p = inr tt

pub last_is_behind : (i q : ℕ) (ss : List Step) → WrittenLast i q ss → WrittenBehind i q ss
last_is_behind i q [] u = tt
last_is_behind i zero (local d m l ∷ ss) u = (or_ends ss u.0, last_is_behind i zero ss u.1)
last_is_behind i zero (deal d f ∷ ss) u = (or_ends ss u.0, last_is_behind i zero ss u.1)
last_is_behind i zero (exchange d e ∷ ss) u = (or_ends ss u.0, last_is_behind i zero ss u.1)
last_is_behind i zero (end ∷ ss) u = tt
last_is_behind i (suc q) (local d m l ∷ ss) u = last_is_behind i (suc q) ss u
last_is_behind i (suc q) (deal d f ∷ ss) u = last_is_behind i (suc q) ss u
last_is_behind i (suc q) (exchange d e ∷ ss) u = last_is_behind i (suc q) ss u
last_is_behind i (suc q) (end ∷ ss) u = last_is_behind i q ss u

-- ---- lists of gates

-- a gate's step writes the gate's target
gate_misses : (w i : ℕ) (g : Gate) → eqb i (target g) ≡ false → Misses i (meaning w g)
unfolding meaning target
gate_misses w i (Add d a b) h = h
gate_misses w i (Sub d a b) h = h
gate_misses w i (Xor d a b) h = h
gate_misses w i (Mul d a b) h = h
gate_misses w i (And d a b) h = h
gate_misses w i (Refresh d a) h = h
gate_misses w i (MulKnown d a b) h = h
gate_misses w i (AndKnown d a b) h = h
gate_misses w i (Scale d a n) h = h
gate_misses w i (Plus d a n) h = h
gate_misses w i (Up d a n) h = h
gate_misses w i (Bit d a n) h = h
gate_misses w i (Const d n) h = h
gate_misses w i (Public d a f) h = h
gate_misses w i (Deal d a f) h = h
gate_misses w i (DealBits d a) h = h

unwritten_step : (i : ℕ) (x : Step) (ss : List Step) → OfGate x → Misses i x → Unwritten i 0 ss → Unwritten i 0 (x ∷ ss)
unwritten_step i (local d m l) ss o h u = (h, u)
unwritten_step i (deal d f) ss o h u = (h, u)
unwritten_step i (exchange d e) ss o h u = (h, u)
unwritten_step i end ss o h u = absurd o

skip_gate : (w i k : ℕ) (g : Gate) (ss : List Step) → Unwritten i (suc k) ss → Unwritten i (suc k) (meaning w g ∷ ss)
skip_gate w i k g ss h = go (meaning w g) (of_gate w g)
  where
    go : (y : Step) → OfGate y → Unwritten i (suc k) (y ∷ ss)
    go (local d m l) o = h
    go (deal d f) o = h
    go (exchange d e) o = h
    go end o = absurd o

unwritten_order : (w i : ℕ) (gs : List Gate) (ss : List Step) → Spares i gs → Unwritten i 0 (order_steps w gs ss)
unfolding order_steps
unwritten_order w i [] ss none = tt
unwritten_order w i (g ∷ gs) ss (also e p) =
    unwritten_step i (meaning w g) (order_steps w gs ss) (of_gate w g) (gate_misses w i g e) (unwritten_order w i gs ss p)

skip_order : (w i k : ℕ) (gs : List Gate) (ss : List Step) → Unwritten i k ss → Unwritten i (suc k) (order_steps w gs ss)
unfolding order_steps
skip_order w i k [] ss h = h
skip_order w i k (g ∷ gs) ss h = skip_gate w i k g (order_steps w gs ss) (skip_order w i k gs ss h)

pub unwritten_gates : (w i p : ℕ) (os : List (List Gate)) → (p < length os → Spares i (get_or os p [])) → Unwritten i p (job_steps w os)
unfolding job_steps
unwritten_gates w i p [] f = tt
unwritten_gates w i zero (o ∷ os) f = unwritten_order w i o (job_steps w os) (f (omega arith))
unwritten_gates w i (suc p) (o ∷ os) f = skip_order w i p o (job_steps w os) (unwritten_gates w i p os (λ h. f (omega arith)))

-- ---- gates of which only an order's last may write slot i

last_step : (i : ℕ) (x : Step) (ss : List Step) → OfGate x → GoingOn ss (Misses i x) → WrittenLast i 0 ss → WrittenLast i 0 (x ∷ ss)
last_step i (local d m l) ss o h u = (h, u)
last_step i (deal d f) ss o h u = (h, u)
last_step i (exchange d e) ss o h u = (h, u)
last_step i end ss o h u = absurd o

skip_last : (w i k : ℕ) (g : Gate) (ss : List Step) → WrittenLast i (suc k) ss → WrittenLast i (suc k) (meaning w g ∷ ss)
skip_last w i k g ss h = go (meaning w g) (of_gate w g)
  where
    go : (y : Step) → OfGate y → WrittenLast i (suc k) (y ∷ ss)
    go (local d m l) o = h
    go (deal d f) o = h
    go (exchange d e) o = h
    go end o = absurd o

last_order : (w i : ℕ) (gs : List Gate) (ss : List Step) (d : ℕ) → SparesFront i d gs → WrittenLast i 0 (order_steps w gs ss)
unfolding order_steps
last_order w i [] ss d none_in_front = tt
last_order w i (g ∷ []) ss d (alone t) = last_step i (meaning w g) (end ∷ ss) (of_gate w g) tt tt
last_order w i (g ∷ []) ss d (in_front e p) = last_step i (meaning w g) (end ∷ ss) (of_gate w g) tt tt
last_order w i (g ∷ h ∷ gs) ss d (in_front e p) =
    let rest : List Step = order_steps w (h ∷ gs) ss in
    last_step i (meaning w g) rest (of_gate w g) (going_on rest (gate_misses w i g e)) (last_order w i (h ∷ gs) ss d p)

skip_order_last : (w i k : ℕ) (gs : List Gate) (ss : List Step) → WrittenLast i k ss → WrittenLast i (suc k) (order_steps w gs ss)
unfolding order_steps
skip_order_last w i k [] ss h = h
skip_order_last w i k (g ∷ gs) ss h = skip_last w i k g (order_steps w gs ss) (skip_order_last w i k gs ss h)

pub last_gates : (w i p d : ℕ) (os : List (List Gate)) → (p < length os → SparesFront i d (get_or os p [])) → WrittenLast i p (job_steps w os)
unfolding job_steps
last_gates w i p d [] f = tt
last_gates w i zero d (o ∷ os) f = last_order w i o (job_steps w os) d (f (omega arith))
last_gates w i (suc p) d (o ∷ os) f = skip_order_last w i p o (job_steps w os) (last_gates w i p d os (λ h. f (omega arith)))

-- ---- gates of which only those behind an order's last product or refresh may write slot i

behind_step : (i : ℕ) (x : Step) (ss : List Step) → OfGate x → Misses i x → WrittenBehind i 0 ss → WrittenBehind i 0 (x ∷ ss)
behind_step i (local d m l) ss o h u = (inl h, u)
behind_step i (deal d f) ss o h u = (inl h, u)
behind_step i (exchange d e) ss o h u = (inl h, u)
behind_step i end ss o h u = absurd o

pub then_behind : (w i : ℕ) (gs hs : List Gate) (ss : List Step) → Spares i gs → WrittenBehind i 0 (order_steps w hs ss)
    → WrittenBehind i 0 (order_steps w (gs ++ hs) ss)
unfolding order_steps
then_behind w i [] hs ss none u = u
then_behind w i (g ∷ gs) hs ss (also e p) u =
    behind_step i (meaning w g) (order_steps w (gs ++ hs) ss) (of_gate w g) (gate_misses w i g e) (then_behind w i gs hs ss p u)

pub front_behind : (w i d : ℕ) (gs : List Gate) (ss : List Step) → SparesFront i d gs → WrittenBehind i 0 (order_steps w gs ss)
front_behind w i d gs ss p = last_is_behind i 0 (order_steps w gs ss) (last_order w i gs ss d p)

skip_behind : (w i k : ℕ) (g : Gate) (ss : List Step) → WrittenBehind i (suc k) ss → WrittenBehind i (suc k) (meaning w g ∷ ss)
skip_behind w i k g ss h = go (meaning w g) (of_gate w g)
  where
    go : (y : Step) → OfGate y → WrittenBehind i (suc k) (y ∷ ss)
    go (local d m l) o = h
    go (deal d f) o = h
    go (exchange d e) o = h
    go end o = absurd o

skip_order_behind : (w i k : ℕ) (gs : List Gate) (ss : List Step) → WrittenBehind i k ss → WrittenBehind i (suc k) (order_steps w gs ss)
unfolding order_steps
skip_order_behind w i k [] ss h = h
skip_order_behind w i k (g ∷ gs) ss h = skip_behind w i k g (order_steps w gs ss) (skip_order_behind w i k gs ss h)

pub behind_gates : (w i p : ℕ) (os : List (List Gate))
    → (p < length os → (ss : List Step) → WrittenBehind i 0 (order_steps w (get_or os p []) ss)) → WrittenBehind i p (job_steps w os)
unfolding job_steps
behind_gates w i p [] f = tt
behind_gates w i zero (o ∷ os) f = f (omega arith) (job_steps w os)
behind_gates w i (suc p) (o ∷ os) f = skip_order_behind w i p o (job_steps w os) (behind_gates w i p os (λ h. f (omega arith)))
