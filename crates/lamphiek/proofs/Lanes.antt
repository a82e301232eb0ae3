-- The lanes of hosts keep their lengths through every call, on plain values. Assumes nothing.
use mathlib.Core.Path.{◌≡◌, refl, ap, ◌∙◌}
use mathlib.Core.Bool.{Bool, true, false, cond}
use mathlib.Core.List.{List, [], ◌∷◌}
use Prim.Native.Nat.{ℕ, zero, suc, ◌+◌}
use lib.Dec.{eqb}
use lib.ListN.{length, set, length-set, length-append, replicate}
use Rattle.gates.specs.Steps.{Lane, Step, local, deal, exchange, end, Exchange, Cursor, origin, past}
use Rattle.gates.specs.Walk.{walk, whole, mark}
use Rattle.gates.specs.Hosts.{Pair, on_m, on_mask, act0, act1, hear1, act2, hear2}
use Rattle.jobs.specs.Job.{Fault}
use Rattle.calls.specs.Scripts.{Script}
use Rattle.calls.specs.Lent.{Lent, Worker, worker1, worker2, worker_with, worker_of, lent_fault}
use Rattle.calls.specs.Places.{Found, nowhere, found}
use Rattle.calls.specs.Calls as Calls

-- two lanes of n words
pub record Wide (n : ℕ) (s : Pair) : Type 0 where
  pub m : length s.0 ≡ n
  pub mask : length s.1 ≡ n

-- a word written on both
set_wide : (n d : ℕ) (s : Pair) (a b : ℕ) → Wide n s → Wide n (set s.0 d a, set s.1 d b)
set_wide n d s a b h = record { m = length-set s.0 d a ∙ h.m; mask = length-set s.1 d b ∙ h.mask }

-- ---- hosts 1 and 2

m_kept : (x : Step) (s : Lane) → length (on_m x s) ≡ length s
unfolding on_m
m_kept (local d m l) s = length-set s d (m s)
m_kept (deal d f) s = length-set s d 0
m_kept (exchange d e) s = refl
m_kept end s = refl

mask_kept : (x : Step) (v : ℕ) (s : Lane) → length (on_mask x v s) ≡ length s
unfolding on_mask
mask_kept (local d m l) v s = length-set s d (l s)
mask_kept (deal d f) v s = length-set s d v
mask_kept (exchange d e) v s = refl
mask_kept end v s = refl

acts_wide : (n : ℕ) (x : Step) (v : ℕ) (s : Pair) → Wide n s → Wide n (on_m x s.0, on_mask x v s.1)
acts_wide n x v s h = record { m = m_kept x s.0 ∙ h.m; mask = mask_kept x v s.1 ∙ h.mask }

-- a worker's steps and hearings
record Keeps (P : Worker) : Type 0 where
  acts : (n : ℕ) (x : Step) (c : Cursor) (s : Pair) → Wide n s → Wide n (P.act x c s)
  hears : (n d : ℕ) (e : Exchange) (c : Cursor) (s : Pair) (v : ℕ) → Wide n s → Wide n (P.hear d e c s v)

keeps1 : (A : List ℕ) → Keeps (worker1 A)
unfolding act1 hear1
keeps1 A = record { acts = λ n x c s h. acts_wide n x _ s h; hears = λ n d e c s v h. set_wide n d s _ _ h }

keeps2 : (B D : List ℕ) → Keeps (worker2 B D)
unfolding act2 hear2
keeps2 B D = record { acts = λ n x c s h. acts_wide n x _ s h; hears = λ n d e c s v h. set_wide n d s _ _ h }

either : (b : Bool) (M D : List ℕ) → Keeps (cond b (worker1 M) (worker2 M D))
either true M D = keeps1 M
either false M D = keeps2 M D

keeps : (h : ℕ) (M D : List ℕ) → Keeps (worker_with h M D)
unfolding worker_with
keeps h M D = either (eqb h 1) M D

module _ (P : Worker) (k : Keeps P) (n : ℕ) where
  walk_wide : (ss : List Step) (c : Cursor) (s : Pair) (t : List Pair) → Wide n s → Wide n (walk P.act ss c s t).state
  unfolding walk
  walk_wide [] c s t h = h
  walk_wide (local d m l ∷ ss) c s t h = walk_wide ss _ _ t (k.acts n (local d m l) c s h)
  walk_wide (deal d f ∷ ss) c s t h = walk_wide ss _ _ t (k.acts n (deal d f) c s h)
  walk_wide (exchange d e ∷ ss) c s t h = h
  walk_wide (end ∷ ss) c s t h = walk_wide ss _ _ _ (k.acts n end c s h)

  hear_wide : (s : Calls.State) (v : ℕ) (f : Found) → Wide n (s.m, s.mask) → Wide n (Calls.hear_walk P s v f).state
  unfolding Calls.hear_walk
  hear_wide s v nowhere h = walk_wide [] origin (s.m, s.mask) [] h
  hear_wide s v (found [] c) h = walk_wide [] c (s.m, s.mask) [] h
  hear_wide s v (found (local d m l ∷ ss) c) h = walk_wide [] c (s.m, s.mask) [] h
  hear_wide s v (found (deal d f ∷ ss) c) h = walk_wide [] c (s.m, s.mask) [] h
  hear_wide s v (found (exchange d e ∷ ss) c) h = walk_wide ss _ _ [] (k.hears n d e c (s.m, s.mask) v h)
  hear_wide s v (found (end ∷ ss) c) h = walk_wide [] c (s.m, s.mask) [] h

-- a state, with both lanes
abbrev pub Full : (n : ℕ) → Calls.State → Type 0
Full n s = Wide n (s.m, s.mask)

unless_full : (n i : ℕ) (f : Fault) (s : Calls.State) (a : Calls.Answer) → Full n s → Full n a.state → Full n (Calls.unless i f s a).state
unfolding Calls.unless
unless_full n zero f s a h k = k
unless_full n (suc i) f s a h k = h

fresh_wide : (n : ℕ) (r : Pair) → Wide n r → Wide (n + 8) (Calls.fresh2 r)
unfolding Calls.fresh
fresh_wide n r h = record { m = length-append r.0 (replicate 8 0) ∙ ap (λ (k : ℕ). k + 8) h.m; mask = length-append r.1 (replicate 8 0) ∙ ap (λ (k : ℕ). k + 8) h.mask }

-- "Starting": from n registers, and eight kept words
pub start_full : (n : ℕ) (loan : Lent) (r : Pair) → Wide n r → Full (n + 8) (Calls.start loan r).state
unfolding Calls.start Calls.start_walk Calls.given
start_full n loan r h =
    let k = keeps loan.host loan.masks loan.deals in
    unless_full (n + 8) (lent_fault loan).0 (lent_fault loan) (Calls.given r) (Calls.report (worker_of loan) (Calls.start_walk loan r)) (fresh_wide n r h) (walk_wide (worker_of loan) k (n + 8) loan.script.steps origin (Calls.fresh2 r) [] (fresh_wide n r h))

pub hear_full : (n : ℕ) (loan : Lent) (s : Calls.State) (v : ℕ) → Full n s → Full n (Calls.hear loan s v).state
unfolding Calls.hear Calls.resume
hear_full n loan s v h =
    let k = keeps loan.host loan.masks loan.deals in
    let P = worker_of loan in
    let f = Calls.found_of loan s in
    unless_full n (lent_fault loan).0 (lent_fault loan) s (Calls.resume P s v f) h
    (unless_full n (Calls.hearing_fault s.stored f) (Calls.hearing_fault s.stored f, 0) s (Calls.report P (Calls.hear_walk P s v f)) h (hear_wide P k n s v f h))

-- ---- host 0

act0_wide : (A B : List ℕ) (n : ℕ) (x : Step) (c : Cursor) (s : Pair) → Wide n s → Wide n (act0 A B x c s)
unfolding act0
act0_wide A B n (local d m l) c s h = set_wide n d s _ _ h
act0_wide A B n (deal d f) c s h = set_wide n d s _ _ h
act0_wide A B n (exchange d e) c s h = set_wide n d s _ _ h
act0_wide A B n end c s h = h

whole_wide : (A B : List ℕ) (n : ℕ) (ss : List Step) (c : Cursor) (s : Pair) (t : List Pair) → Wide n s → Wide n (whole (act0 A B) ss c s t).state
unfolding whole
whole_wide A B n [] c s t h = h
whole_wide A B n (x ∷ ss) c s t h = whole_wide A B n ss (past x c) (act0 A B x c s) (mark x s t) (act0_wide A B n x c s h)

pub prepare_wide : (n : ℕ) (σ : Script) (A B : List ℕ) (r : Pair) → Wide n r → Wide (n + 8) (Calls.prepare_walk σ A B r).state
unfolding Calls.prepare_walk
prepare_wide n σ A B r h = whole_wide A B (n + 8) σ.steps origin (Calls.fresh2 r) [] (fresh_wide n r h)
