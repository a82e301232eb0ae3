-- Each call from C is a step of a run, from what the lent words read as before it to what they read as after it. Assumes nothing.
use mathlib.Core.Path.{◌≡◌, refl, sym, ap, ◌∙◌, subst}
use mathlib.Core.Logic.{◌≢◌}
use lib.Dec.{T}
use mathlib.Core.List.{List, [], ◌∷◌, ◌++◌}
use Prim.Native.Nat.{ℕ, ◌+◌, ◌^◌, ◌≤◌, ◌<◌}
use native.Mathlib.Omega.{arith}
use lib.ListN.{length, take, drop}
use lib.IntN.{ℤ}
use lib.Seq.{get_or-take, get_or-drop, take-take}
use Rattle.words.specs.Signed.{in_range}
use Rattle.shares.specs.Sharing.{split, reconstruction}
use Rattle.shares.proofs.RoundTrip.{round_trip}
use Rattle.gates.specs.Steps.{at}
use Rattle.gates.specs.Hosts.{Pair}
use Rattle.calls.specs.Scripts.{job_script}
use Rattle.calls.specs.Lent.{Lent, lent, worker_of}
use Rattle.calls.specs.Calls as Calls
use Rattle.runs.specs.Runs.{Setting, staged, Spoken, placed_word, Among, Dealer, idle, ready, Side, going, dealer_holds, with_masks, side_state, world}
use Rattle.runs.specs.Runs.{registers, Refuses, refuses0, refuses0_elsewhere, lent1, lent2, Dealt, Begins, given_out}
use Rattle.runs.specs.Runs.{Completes, prepares, starts1, starts2, hears1, hears2, six, preparing, starting1, starting2, hearing1, hearing2}
use Rattle.runs.specs.Returned.{opened_now}
use Rattle.lamphiek.specs.Layout.{six_in, six_out, masks_in, state_in, registers_in, state_words}
use Rattle.lamphiek.specs.Readings.{shares_left}
use Rattle.lamphiek.specs.Stepping.{preparation, masks_left, state_left}
use Rattle.lamphiek.specs.FromC.{FromC, prepare0, start1, start2, hear1, hear2, waits, goes, speaks, on_with, share_words}
use Rattle.lamphiek.proofs.Told.{is_written}
use Rattle.lamphiek.proofs.Left.{masks_read, masks_long, taken, start_long, start_read, start_turned, hear_long, hear_read, hear_turned}

split_opens : (x : ℤ) (l1 l2 : ℕ) (old : List ℕ) → T (in_range 32 x) → l1 < 2 ^ 32 → l2 < 2 ^ 32 → reconstruction 32 (six_in (shares_left (split 32 x l1 l2) old)) ≡ (0, x)
split_opens x l1 l2 old h a b =
    let e = round_trip 32 x l1 l2 (omega arith) h a b in
    ap (λ (w : List ℕ). reconstruction 32 (six_in w)) (sym (is_written (split 32 x l1 l2).0 (six_out (split 32 x l1 l2).1) old e.0)) ∙ e.1

-- ---- before the first call

begins : (S : Setting) (M D one two : List ℕ) → masks_in M ≡ (S.r1, S.r2) → registers_in one ≡ (S.rm, S.r1) → registers_in two ≡ (S.rm, S.r2)
    → Begins (staged 32 S) (world (idle (masks_in M)) D (waits one) (waits two))
begins S M D one two e f g =
    subst (λ (r : Pair). Begins (staged 32 S) (world (idle r) D (waits one) (waits two))) (sym e) (given_out (sym (taken one) ∙ f) (sym (taken two) ∙ g))

-- ---- host 0

module _ (S : Setting) (M D : List ℕ) (l : length M ≡ 32) where
  prepared_step : (one two : Side) → (prepare0 S D M).number ≡ 0
      → (t : List Pair)
      × Completes (staged 32 S) preparing (world (idle (masks_in M)) D one two)
      (world (ready (masks_in (masks_left (prepare0 S D M) M)) t) (prepare0 S D M).buffer one two)
  prepared_step one two z =
      let t = (Calls.prepare_walk (job_script 32 S.job S.table) S.A S.B (masks_in M)).trail in (
        t,
        subst (λ (r : Pair). Completes (staged 32 S) preparing (world (idle (masks_in M)) D one two) (world (ready r t) (prepare0 S D M).buffer one two))
            (sym (masks_read M S.job S.table S.A S.B D l)) (prepares z),
      )

module _ (z : Dealer) (M J T A B D : List ℕ) (one two : Side) (l : length M ≡ 32) (e : dealer_holds z ≡ masks_in M) (h : (preparation M J T A B D).number ≢ 0) where
  same_number : (Calls.prepare (job_script 32 J T) A B D (dealer_holds z)).number ≢ 0
  same_number = λ y. h (sym (ap (λ (r : Pair). (Calls.prepare (job_script 32 J T) A B D r).number) e) ∙ y)

  refused_step : Refuses 16 (world z D one two) (world (with_masks z (masks_in (masks_left (preparation M J T A B D) M))) (preparation M J T A B D).buffer one two)
  refused_step =
      subst (λ (r : Pair). Refuses 16 (world z D one two) (world (with_masks z r) (preparation M J T A B D).buffer one two)) (sym (masks_read M J T A B D l))
      (subst
      (λ (r : Pair). Refuses 16 (world z D one two) (world (with_masks z (Calls.prepare (job_script 32 J T) A B D r).masks) (Calls.prepare (job_script 32 J T) A B D r).buffer one two))
      e (refuses0 (job_script 32 J T) A B same_number))

  elsewhere_step : (buf : List ℕ) → Refuses 16 (world z buf one two) (world (with_masks z (masks_in (masks_left (preparation M J T A B D) M))) buf one two)
  elsewhere_step buf =
      subst (λ (r : Pair). Refuses 16 (world z buf one two) (world (with_masks z r) buf one two)) (sym (masks_read M J T A B D l))
      (subst (λ (r : Pair). Refuses 16 (world z buf one two) (world (with_masks z (Calls.prepare (job_script 32 J T) A B D r).masks) buf one two)) e
      (refuses0_elsewhere (job_script 32 J T) A B D same_number))

-- ---- hosts 1 and 2

-- a host that goes on from a state, with the word given there in front: the same on what the words read as
went_on : (a : Calls.Answer) (s : List ℕ) (st : Calls.State) (w : ℕ) (t : List Pair) (said : List Spoken) → st ≡ state_in (state_left a s) → w ≡ a.word
    → going st t (placed_word st w ∷ said) ≡ on_with a s t said
went_on a s st w t said e f = λ i. going (e i) t (placed_word (e i) (f i) ∷ said)

module _ (s : List ℕ) (l : length s ≡ state_words) (loan : Lent) where
  started_number : (Calls.start loan (registers_in s)).number ≡ 0 → (Calls.start loan (registers 16 (state_in s))).number ≡ 0
  started_number z = sym (ap (λ (r : Pair). (Calls.start loan r).number) (taken s)) ∙ z

  started_side : (Calls.start loan (registers_in s)).number ≡ 0
      → going (Calls.start loan (registers 16 (state_in s))).state (Calls.start_walk loan (registers 16 (state_in s))).trail
      (placed_word (Calls.start loan (registers 16 (state_in s))).state (Calls.start loan (registers 16 (state_in s))).word ∷ [])
      ≡ on_with (Calls.start loan (registers_in s)) s (Calls.start_walk loan (registers 16 (state_in s))).trail []
  started_side z =
      went_on (Calls.start loan (registers_in s)) s _ _ _ [] (sym (ap (λ (r : Pair). (Calls.start loan r).state) (taken s)) ∙ sym (start_read s l loan z))
      (sym (ap (λ (r : Pair). (Calls.start loan r).word) (taken s)))

  heard_side : (v : ℕ) (t : List Pair) (said : List Spoken) → (Calls.hear loan (state_in s) v).number ≡ 0
      → going (Calls.hear loan (state_in s) v).state t (placed_word (Calls.hear loan (state_in s) v).state (Calls.hear loan (state_in s) v).word ∷ said)
      ≡ on_with (Calls.hear loan (state_in s) v) s t said
  heard_side v t said z = went_on (Calls.hear loan (state_in s) v) s _ _ t said (sym (hear_read s l loan v z)) refl

module _ (S : Setting) (buf D s : List ℕ) (l : length s ≡ state_words) where
  started1 : (z : Dealer) (two : Side) → (start1 S D s).number ≡ 0
      → (t : List Pair) × Completes (staged 32 S) starting1 (world z buf (waits s) two) (world z buf (on_with (start1 S D s) s t []) two)
  started1 z two n =
      let loan = lent1 (staged 32 S) D in (
        (Calls.start_walk loan (registers 16 (state_in s))).trail,
        subst (λ (x : Side). Completes (staged 32 S) starting1 (world z buf (waits s) two) (world z buf x two)) (started_side s l loan n)
            (starts1 D (started_number s l loan n)),
      )

  started2 : (r : Pair) (t₀ : List Pair) (one : Side) → Dealt (staged 32 S) buf D → (start2 S D s).number ≡ 0
      → (t : List Pair) × Completes (staged 32 S) starting2 (world (ready r t₀) buf one (waits s)) (world (ready r t₀) buf one (on_with (start2 S D s) s t []))
  started2 r t₀ one d n =
      let loan = lent2 (staged 32 S) D in (
        (Calls.start_walk loan (registers 16 (state_in s))).trail,
        subst (λ (x : Side). Completes (staged 32 S) starting2 (world (ready r t₀) buf one (waits s)) (world (ready r t₀) buf one x)) (started_side s l loan n)
            (starts2 D d (started_number s l loan n)),
      )

  module _ (other : List ℕ) (z : Dealer) (t t₀ : List Pair) (said said₀ : List Spoken) (v : ℕ) (spoke : Among (speaks s v) said₀) where
    heard1 : (hear1 S D s v).number ≡ 0
        → (t' : List Pair)
        × Completes (staged 32 S) (hearing1 v) (world z buf (goes s t said) (goes other t₀ said₀)) (world z buf (on_with (hear1 S D s v) s t' said) (goes other t₀ said₀))
    heard1 n =
        let loan = lent1 (staged 32 S) D in (
          t ++ (Calls.hear_walk (worker_of loan) (state_in s) v (Calls.found_of loan (state_in s))).trail,
          subst (λ (x : Side). Completes (staged 32 S) (hearing1 v) (world z buf (goes s t said) (goes other t₀ said₀)) (world z buf x (goes other t₀ said₀)))
              (heard_side s l loan v _ said n) (hears1 D v spoke n),
        )

    heard2 : Dealt (staged 32 S) buf D → (hear2 S D s v).number ≡ 0
        → (t' : List Pair)
        × Completes (staged 32 S) (hearing2 v) (world z buf (goes other t₀ said₀) (goes s t said)) (world z buf (goes other t₀ said₀) (on_with (hear2 S D s v) s t' said))
    heard2 d n =
        let loan = lent2 (staged 32 S) D in (
          t ++ (Calls.hear_walk (worker_of loan) (state_in s) v (Calls.found_of loan (state_in s))).trail,
          subst (λ (x : Side). Completes (staged 32 S) (hearing2 v) (world z buf (goes other t₀ said₀) (goes s t said)) (world z buf (goes other t₀ said₀) x))
              (heard_side s l loan v _ said n) (hears2 D d v spoke n),
        )

-- ---- opening

-- a register's six words in the structs are those of the lanes' first 16
pub words_in : (M one two : List ℕ) (i : ℕ) → i < 16
    → six_in (share_words M one two i) ≡ six (masks_in M) (registers 16 (state_in one)) (registers 16 (state_in two)) i
words_in M one two i h =
    λ t. record {
      l1_of_0 = sym (get_or-take 16 M i 0 h) t;
      l2_of_0 = (sym (get_or-drop 16 M i 0) ∙ sym (get_or-take 16 (drop 16 M) i 0 h)) t;
      m_of_1 = front 24 one (omega arith) t;
      l1_of_1 = behind 24 one (omega arith) t;
      m_of_2 = front 24 two (omega arith) t;
      l2_of_2 = behind 24 two (omega arith) t;
    }
  where
    -- a word of a struct is that of a lane's first n, and of its first 16
    front : (n : ℕ) (w : List ℕ) → 16 ≤ n → at w i ≡ at (take 16 (take n w)) i
    front n w k = sym (get_or-take 16 w i 0 h) ∙ ap (λ (l : List ℕ). at l i) (sym (take-take 16 n w k))

    behind : (n : ℕ) (w : List ℕ) → 16 ≤ n → at w (n + i) ≡ at (take 16 (take n (drop n w))) i
    behind n w k = sym (get_or-drop n w i 0) ∙ front n (drop n w) k

opens : (z : Dealer) (buf M one two : List ℕ) (x y : Side) (i : ℕ) → i < 16 → dealer_holds z ≡ masks_in M → side_state x ≡ state_in one → side_state y ≡ state_in two
    → reconstruction 32 (six_in (share_words M one two i)) ≡ opened_now 32 16 (world z buf x y) i
unfolding opened_now
opens z buf M one two x y i h e f g =
    ap (reconstruction 32) (words_in M one two i h ∙ (λ t. six (sym e t) (registers 16 (sym f t)) (registers 16 (sym g t)) i))

pub from_c : FromC
from_c =
    record {
      split_opens = split_opens;
      masks_long = masks_long;
      start_long = λ s h J T M D l. start_long s l (lent h (job_script 32 J T) M D);
      hear_long = λ s h J T M D v l. hear_long s l (lent h (job_script 32 J T) M D) v;
      begins = begins;
      prepares = λ S M D one two l z. prepared_step S M D l one two z;
      starts1 = λ S z buf D s two l n. started1 S buf D s l z two n;
      starts2 = λ S r t₀ buf D s one l d n. started2 S buf D s l r t₀ one d n;
      hears1 = λ S z buf D s s2 t t2 said said2 v l spoke n. heard1 S buf D s l s2 z t t2 said said2 v spoke n;
      hears2 = λ S z buf D s s1 t t1 said said1 v l d spoke n. heard2 S buf D s l s1 z t t1 said said1 v spoke d n;
      refused0 = λ z M J T A B D one two l e h. refused_step z M J T A B D one two l e h;
      refused0_elsewhere = λ z buf M J T A B D one two l e h. elsewhere_step z M J T A B D one two l e h buf;
      refused_start = λ s h J T M D l k. start_turned s l (lent h (job_script 32 J T) M D) k;
      refused_hearing = λ s h J T M D v l k. hear_turned s l (lent h (job_script 32 J T) M D) v k;
      opens = opens;
    }
