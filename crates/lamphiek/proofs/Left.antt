-- What a call leaves in the lent words: as many words as there were, which read as what the host holds after it. Assumes nothing.
use mathlib.Core.Path.{◌≡◌, refl, sym, ap, ◌∙◌, subst}
use mathlib.Core.Logic.{◌≢◌}
use mathlib.Core.List.{List, ◌++◌}
use Prim.Native.Nat.{ℕ, zero, suc, ◌+◌, ◌≤◌}
use native.Mathlib.Omega.{arith}
use lib.ListN.{length, take, drop, length-drop, length-append}
use lib.Seq.{length-take-le, take-take}
use Rattle.gates.specs.Hosts.{Pair}
use Rattle.jobs.specs.Job.{Fault}
use Rattle.calls.specs.Scripts.{Script, job_script}
use Rattle.calls.specs.Lent.{Lent, dealer_fault}
use Rattle.calls.specs.Calls as Calls
use Rattle.runs.specs.Runs.{registers, Turned, at_start, at_hearing, waiting, side_state}
use Rattle.runs.proofs.Refusals.{HasSlots, turned_back, hear_state}
use Rattle.lamphiek.specs.Layout.{written, masks_in, masks_out, state_words, state_in, places_out, state_out, registers_in}
use Rattle.lamphiek.specs.Stepping.{preparation, masks_left, state_left}
use Rattle.lamphiek.proofs.Packing.{state_back, masks_back}
use Rattle.lamphiek.proofs.Told.{not_written, is_written}
use Rattle.lamphiek.proofs.Lanes.{Wide, Full, start_full, hear_full, prepare_wide}

-- what is cut out of the words has its length
part : (n at : ℕ) (w : List ℕ) → at + n ≤ length w → length (take n (drop at w)) ≡ n
part n at w h = length-take-le n (drop at w) (omega (arith, length-drop at w))

written_length : (i n : ℕ) (new old : List ℕ) → length new ≡ n → length old ≡ n → length (written i new old) ≡ n
unfolding written
written_length zero n new old h k = h
written_length (suc i) n new old h k = k

-- ---- host 0

sixteen : (p : Pair) → Wide 24 p → Wide 16 (take 16 p.0, take 16 p.1)
sixteen p h = record { m = length-take-le 16 p.0 (omega (arith, h.m)); mask = length-take-le 16 p.1 (omega (arith, h.mask)) }

masks_wide : (M : List ℕ) → length M ≡ 32 → Wide 16 (masks_in M)
masks_wide M e = record { m = part 16 0 M (omega (arith, e)); mask = part 16 16 M (omega (arith, e)) }

-- the masks that a preparation gives, or gives back
given_wide : (n : ℕ) (f : Fault) (σ : Script) (A B D M : List ℕ) → σ.slots ≡ 16 → length M ≡ 32 → Wide 16 (Calls.prepared n f σ A B D (masks_in M)).masks
unfolding Calls.prepared
given_wide zero f σ A B D M z l =
    let p = (Calls.prepare_walk σ A B (masks_in M)).state in
    let w = sixteen p (prepare_wide 16 σ A B (masks_in M) (masks_wide M l)) in
    record { m = ap (λ (k : ℕ). length (take k p.0)) z ∙ w.m; mask = ap (λ (k : ℕ). length (take k p.1)) z ∙ w.mask }
given_wide (suc n) f σ A B D M z l = masks_wide M l

-- the masks of a preparation that completes, and as many words as there were
pub masks_done : (p : Calls.Prepared) (M : List ℕ) → Wide 16 p.masks → p.number ≡ 0 → masks_in (masks_left p M) ≡ p.masks
masks_done p M w z = ap masks_in (sym (is_written p.number (masks_out p.masks) M z)) ∙ masks_back p.masks w.m w.mask

pub masks_stay : (p : Calls.Prepared) (M : List ℕ) → Wide 16 p.masks → length M ≡ 32 → length (masks_left p M) ≡ 32
masks_stay p M w l =
    written_length p.number 32 (masks_out p.masks) M (omega (arith, length-append p.masks.0 p.masks.1, w.m, w.mask)) l

masks_by : (n : ℕ) (f : Fault) (σ : Script) (A B D M : List ℕ) → f.0 ≡ n → Wide 16 (Calls.prepared n f σ A B D (masks_in M)).masks
    → masks_in (masks_left (Calls.prepared n f σ A B D (masks_in M)) M) ≡ (Calls.prepared n f σ A B D (masks_in M)).masks
unfolding Calls.prepared
masks_by zero f σ A B D M e w = masks_done (Calls.prepared 0 f σ A B D (masks_in M)) M w refl
masks_by (suc n) f σ A B D M e w = ap masks_in (sym (not_written f.0 _ M (λ y. omega arith)))

module _ (M J T A B D : List ℕ) (l : length M ≡ 32) where
  wide : Wide 16 (preparation M J T A B D).masks
  unfolding Calls.prepare
  wide = given_wide (dealer_fault (job_script 32 J T) A B D).0 (dealer_fault (job_script 32 J T) A B D) (job_script 32 J T) A B D M refl l

  pub masks_read : masks_in (masks_left (preparation M J T A B D) M) ≡ (preparation M J T A B D).masks
  unfolding Calls.prepare
  masks_read = masks_by (dealer_fault (job_script 32 J T) A B D).0 (dealer_fault (job_script 32 J T) A B D) (job_script 32 J T) A B D M refl wide

  pub masks_long : length (masks_left (preparation M J T A B D) M) ≡ 32
  masks_long = masks_stay (preparation M J T A B D) M wide l

-- ---- hosts 1 and 2

pub state_full : (s : List ℕ) → length s ≡ state_words → Full 24 (state_in s)
state_full s e = record { m = part 24 0 s (omega (arith, e)); mask = part 24 24 s (omega (arith, e)) }

pub taken : (s : List ℕ) → registers_in s ≡ registers 16 (state_in s)
taken s = λ t. (sym (take-take 16 24 s (omega arith)) t, sym (take-take 16 24 (drop 24 s) (omega arith)) t)

pub state_long : (a : Calls.Answer) (s : List ℕ) → Full 24 a.state → length s ≡ state_words → length (state_left a s) ≡ state_words
state_long a s h l =
    let tail : List ℕ = places_out a.state in
    written_length a.number state_words (state_out a.state) s
    (omega (arith, length-append a.state.m (a.state.mask ++ tail), length-append a.state.mask tail, h.m, h.mask)) l

-- the state of an answer, where the call completes; the words as they were, where it is refused
pub state_read : (a : Calls.Answer) (s : List ℕ) → Full 24 a.state → a.number ≡ 0 → state_in (state_left a s) ≡ a.state
state_read a s h z = ap state_in (sym (is_written a.number _ s z)) ∙ state_back a.state h.m h.mask

pub same_read : (a : Calls.Answer) (s : List ℕ) → a.number ≢ 0 → state_in (state_left a s) ≡ state_in s
same_read a s h = ap state_in (sym (not_written a.number _ s h))

module _ (s : List ℕ) (l : length s ≡ state_words) (loan : Lent) where
  start_is : Full 24 (Calls.start loan (registers_in s)).state
  start_is = start_full 16 loan (registers_in s) (record { m = part 16 0 s (omega (arith, l)); mask = part 16 24 s (omega (arith, l)) })

  pub start_long : length (state_left (Calls.start loan (registers_in s)) s) ≡ state_words
  start_long = state_long (Calls.start loan (registers_in s)) s start_is l

  pub start_read : (Calls.start loan (registers_in s)).number ≡ 0 → state_in (state_left (Calls.start loan (registers_in s)) s) ≡ (Calls.start loan (registers_in s)).state
  start_read z = state_read (Calls.start loan (registers_in s)) s start_is z

  -- a refused starting is a turned-down call of the host
  pub start_turned : (Calls.start loan (registers_in s)).number ≢ 0 → Turned 16 (state_in s) (state_in (state_left (Calls.start loan (registers_in s)) s))
  start_turned h =
      let k : (Calls.start loan (registers 16 (state_in s))).number ≢ 0 = λ y. h (ap (λ (x : Pair). (Calls.start loan x).number) (taken s) ∙ y) in
      let w = state_full s l in
      let slots : HasSlots 16 (state_in s) = record { m = omega (arith, w.m); mask = omega (arith, w.mask) } in
      subst (Turned 16 (state_in s)) (ap side_state (turned_back 16 (waiting (state_in s)) slots (at_start loan k)) ∙ sym (same_read (Calls.start loan (registers_in s)) s h)) (at_start loan k)

  module _ (v : ℕ) where
    hear_is : Full 24 (Calls.hear loan (state_in s) v).state
    hear_is = hear_full 24 loan (state_in s) v (state_full s l)

    pub hear_long : length (state_left (Calls.hear loan (state_in s) v) s) ≡ state_words
    hear_long = state_long (Calls.hear loan (state_in s) v) s hear_is l

    pub hear_read : (Calls.hear loan (state_in s) v).number ≡ 0 → state_in (state_left (Calls.hear loan (state_in s) v) s) ≡ (Calls.hear loan (state_in s) v).state
    hear_read z = state_read (Calls.hear loan (state_in s) v) s hear_is z

    pub hear_turned : (Calls.hear loan (state_in s) v).number ≢ 0 → Turned 16 (state_in s) (state_in (state_left (Calls.hear loan (state_in s) v) s))
    hear_turned h = subst (Turned 16 (state_in s)) (hear_state loan (state_in s) v h ∙ sym (same_read (Calls.hear loan (state_in s) v) s h)) (at_hearing loan v h)
