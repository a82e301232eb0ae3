-- A preparation, starting or hearing from C, made as document 01's text of a run has it, is a step of a run
-- (runs/specs/Runs.antt), from what the lent words read as before it to what they read as after it. So a list of such
-- calls is a `Run`: `begins` is for its constructor `begin`, what completes for `complete`, and what is refused for
-- `refuse`, a starting or hearing by `refuses1` or `refuses2`. Assumes nothing.
use Rattle.std.specs.Prelude.{◌≡◌, ◌≢◌, T, List, [], ◌∷◌, ℕ, ◌+◌, ◌^◌, ◌<◌, length, ℤ}
use Rattle.words.specs.Signed.{in_range}
use Rattle.shares.specs.Sharing.{split, reconstruction}
use Rattle.gates.specs.Steps.{at}
use Rattle.gates.specs.Hosts.{Pair}
use Rattle.calls.specs.Calls as Calls
use Rattle.runs.specs.Runs.{Setting, staged, Spoken, placed_word, Among, Dealer, idle, ready, Side, waiting, going}
use Rattle.runs.specs.Runs.{dealer_holds, with_masks, side_state, world, Turned, Refuses, Dealt, Begins, Completes}
use Rattle.runs.specs.Runs.{preparing, starting1, starting2, hearing1, hearing2}
use Rattle.runs.specs.Returned.{opened_now}
use Rattle.lamphiek.specs.Layout.{six_in, masks_in, state_in, registers_in, state_words}
use Rattle.lamphiek.specs.Readings.{shares_left}
use Rattle.lamphiek.specs.Stepping.{preparation, masks_left, starting, hearing, state_left}

-- ---- the calls of a run, lent the run's job, table and lists; D is the buffer, or the deals lent

abbrev pub prepare0 : Setting → (D masks : List ℕ) → Calls.Prepared
prepare0 S D M = preparation M S.job S.table S.A S.B D

abbrev pub start1 : Setting → (D state : List ℕ) → Calls.Answer
start1 S D s = starting s 1 S.job S.table S.A D

abbrev pub start2 : Setting → (D state : List ℕ) → Calls.Answer
start2 S D s = starting s 2 S.job S.table S.B D

abbrev pub hear1 : Setting → (D state : List ℕ) (heard : ℕ) → Calls.Answer
hear1 S D s v = hearing s 1 S.job S.table S.A D v

abbrev pub hear2 : Setting → (D state : List ℕ) (heard : ℕ) → Calls.Answer
hear2 S D s v = hearing s 2 S.job S.table S.B D v

-- ---- what is in the words of a state: the host before its starting; once started, with its trail and the words that
-- it has spoken; a word spoken there

abbrev pub waits : (state : List ℕ) → Side
waits s = waiting (state_in s)

abbrev pub goes : (state : List ℕ) → List Pair → List Spoken → Side
goes s t said = going (state_in s) t said

abbrev pub speaks : (state : List ℕ) (word : ℕ) → Spoken
speaks s v = placed_word (state_in s) v

-- ---- what an answer makes of a host: its words then, the word given in front of those that it spoke before

abbrev pub on_with : Calls.Answer → (state : List ℕ) → List Pair → List Spoken → Side
on_with a s t said = goes (state_left a s) t (speaks (state_left a s) a.word ∷ said)

-- ---- the six words of register i in the structs of the three hosts, as lamphiek_open takes them

abbrev pub share_words : (masks one two : List ℕ) (i : ℕ) → List ℕ
share_words M one two i =
    at M i ∷ at M (16 + i) ∷ at one i ∷ at one (24 + i) ∷ at two i ∷ at two (24 + i) ∷ []

pub record FromC : Type 0 where
  -- "splitting then opening gives back the reading"
  pub split_opens : (x : ℤ) (l1 l2 : ℕ) (old : List ℕ) → T (in_range 32 x) → l1 < 2 ^ 32 → l2 < 2 ^ 32
      → reconstruction 32 (six_in (shares_left (split 32 x l1 l2) old)) ≡ (0, x)
  -- the words stay as many as the header's structs have
  pub masks_long : (M J T A B D : List ℕ) → length M ≡ 32
      → length (masks_left (preparation M J T A B D) M) ≡ 32
  pub start_long : (s : List ℕ) (h : ℕ) (J T M D : List ℕ) → length s ≡ state_words
      → length (state_left (starting s h J T M D) s) ≡ state_words
  pub hear_long : (s : List ℕ) (h : ℕ) (J T M D : List ℕ) (v : ℕ) → length s ≡ state_words
      → length (state_left (hearing s h J T M D v) s) ≡ state_words
  -- before the first call: words that hold the registers given, with whatever places and kept words
  pub begins : (S : Setting) (M D one two : List ℕ) → masks_in M ≡ (S.r1, S.r2)
      → registers_in one ≡ (S.rm, S.r1)
      → registers_in two ≡ (S.rm, S.r2)
      → Begins (staged 32 S) (world (idle (masks_in M)) D (waits one) (waits two))
  -- a preparation that completes
  pub prepares : (S : Setting) (M D : List ℕ) (one two : Side) → length M ≡ 32 → (prepare0 S D M).number ≡ 0
      → (t : List Pair)
      × Completes (staged 32 S) preparing (world (idle (masks_in M)) D one two)
      (world (ready (masks_in (masks_left (prepare0 S D M) M)) t) (prepare0 S D M).buffer one two)
  -- startings that complete
  pub starts1 : (S : Setting) (z : Dealer) (buf D s : List ℕ) (two : Side) → length s ≡ state_words
      → (start1 S D s).number ≡ 0
      → (t : List Pair)
      × Completes (staged 32 S) starting1 (world z buf (waits s) two)
      (world z buf (on_with (start1 S D s) s t []) two)
  pub starts2 : (S : Setting) (r : Pair) (t₀ : List Pair) (buf D s : List ℕ) (one : Side) → length s ≡ state_words
      → Dealt (staged 32 S) buf D
      → (start2 S D s).number ≡ 0
      → (t : List Pair)
      × Completes (staged 32 S) starting2 (world (ready r t₀) buf one (waits s))
      (world (ready r t₀) buf one (on_with (start2 S D s) s t []))
  -- hearings that complete, of the word that the other spoke at that same place
  pub hears1 : (S : Setting) (z : Dealer) (buf D s s2 : List ℕ) (t t2 : List Pair) (said said2 : List Spoken)
      (v : ℕ)
      → length s ≡ state_words
      → Among (speaks s v) said2
      → (hear1 S D s v).number ≡ 0
      → (t' : List Pair)
      × Completes (staged 32 S) (hearing1 v) (world z buf (goes s t said) (goes s2 t2 said2))
      (world z buf (on_with (hear1 S D s v) s t' said) (goes s2 t2 said2))
  pub hears2 : (S : Setting) (z : Dealer) (buf D s s1 : List ℕ) (t t1 : List Pair) (said said1 : List Spoken)
      (v : ℕ)
      → length s ≡ state_words
      → Dealt (staged 32 S) buf D
      → Among (speaks s v) said1
      → (hear2 S D s v).number ≡ 0
      → (t' : List Pair)
      × Completes (staged 32 S) (hearing2 v) (world z buf (goes s1 t1 said1) (goes s t said))
      (world z buf (goes s1 t1 said1) (on_with (hear2 S D s v) s t' said))
  -- refused calls, lent anything: a preparation, into the run's buffer or another
  pub refused0 : (z : Dealer) (M J T A B D : List ℕ) (one two : Side) → length M ≡ 32
      → dealer_holds z ≡ masks_in M
      → (preparation M J T A B D).number ≢ 0
      → Refuses 16 (world z D one two)
      (world (with_masks z (masks_in (masks_left (preparation M J T A B D) M))) (preparation M J T A B D).buffer
      one two)
  pub refused0_elsewhere : (z : Dealer) (buf M J T A B D : List ℕ) (one two : Side) → length M ≡ 32
      → dealer_holds z ≡ masks_in M
      → (preparation M J T A B D).number ≢ 0
      → Refuses 16 (world z buf one two)
      (world (with_masks z (masks_in (masks_left (preparation M J T A B D) M))) buf one two)
  -- a starting, a hearing
  pub refused_start : (s : List ℕ) (h : ℕ) (J T M D : List ℕ) → length s ≡ state_words
      → (starting s h J T M D).number ≢ 0
      → Turned 16 (state_in s) (state_in (state_left (starting s h J T M D) s))
  pub refused_hearing : (s : List ℕ) (h : ℕ) (J T M D : List ℕ) (v : ℕ) → length s ≡ state_words
      → (hearing s h J T M D v).number ≢ 0
      → Turned 16 (state_in s) (state_in (state_left (hearing s h J T M D v) s))
  -- opening, on a register's six words in the structs of the three hosts: what the run's hosts open as they stand, of
  -- which `returned` (runs/specs/Returned.antt) speaks
  pub opens : (z : Dealer) (buf M one two : List ℕ) (x y : Side) (i : ℕ) → i < 16
      → dealer_holds z ≡ masks_in M
      → side_state x ≡ state_in one
      → side_state y ≡ state_in two
      → reconstruction 32 (six_in (share_words M one two i)) ≡ opened_now 32 16 (world z buf x y) i
