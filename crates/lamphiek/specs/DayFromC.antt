-- R-3: a day's preparation, starting or hearing from C, made as document 01's text of a run has it, is a step of a run
-- of the day's calls (day_demands/specs/Runs.antt), from what the lent words read as before it to what they read as
-- after it. So a list of such calls is a `DayRun`; a refused call of a job may stand among them (FromC.antt, its
-- `refused_start` and `refused_hearing`, for `job_refuses1` and `job_refuses2`). Assumes nothing.
use Rattle.std.specs.Prelude.{◌≡◌, ◌≢◌, List, [], ◌∷◌, ℕ, ◌<◌, length}
use Rattle.shares.specs.Sharing.{reconstruction}
use Rattle.calls.specs.Calls as Calls
use Rattle.runs.specs.Runs.{Spoken, Among, Dealt, preparing, starting1, starting2, hearing1, hearing2}
use Rattle.days.specs.Day.{Hours}
use Rattle.days.specs.DayCalls.{day_start, day_hear, day_prepare}
use Rattle.day_demands.specs.Settings.{DaySetting, day_staged}
use Rattle.day_demands.specs.Runs.{DayDealer, unprepared, prepared, DayHost, resting, running, day_world, host_state}
use Rattle.day_demands.specs.Runs.{with_answer, prepare0, start1, start2, hear1, hear2, DayCompletes, DayRefuses}
use Rattle.day_demands.specs.Runs.{DayRun, dealer_masks, day_opened}
use Rattle.lamphiek.specs.Layout.{six_in, masks_in, state_in, state_words}
use Rattle.lamphiek.specs.Stepping.{masks_left, state_left}
use Rattle.lamphiek.specs.FromC.{speaks, share_words}

-- ---- what is in the words of a state: the host before its starting; once started, with the words that it has spoken

abbrev pub rests : (state : List ℕ) → DayHost
rests s = resting (state_in s)

abbrev pub runs_on : (state : List ℕ) → List Spoken → DayHost
runs_on s said = running (state_in s) said

-- what an answer makes of a host: its words then, the word given in front of those that it spoke before
abbrev pub day_on : Calls.Answer → (state : List ℕ) → List Spoken → DayHost
day_on a s said = runs_on (state_left a s) (speaks (state_left a s) a.word ∷ said)

pub record DayFromC : Type 0 where
  -- the words stay as many as the header's structs have
  pub masks_long : (M T L : List ℕ) (H : Hours) (A B D : List ℕ) → length M ≡ 32
      → length (masks_left (day_prepare 32 T L H A B D) M) ≡ 32
  pub start_long : (s : List ℕ) (h : ℕ) (T L : List ℕ) (H : Hours) (M D : List ℕ) → length s ≡ state_words
      → length (state_left (day_start 32 h T L H M D) s) ≡ state_words
  pub hear_long : (s : List ℕ) (h : ℕ) (T L : List ℕ) (H : Hours) (M D : List ℕ) (v : ℕ) → length s ≡ state_words
      → length (state_left (day_hear 32 h T L H M D (state_in s) v) s) ≡ state_words
  -- before the first call, whatever the words hold
  pub begins : (S : DaySetting) (D one two : List ℕ) → DayRun 32 S [] (day_world unprepared D (rests one) (rests two))
  -- a preparation that completes
  pub prepares : (S : DaySetting) (M D : List ℕ) (one two : DayHost) → (prepare0 32 S D).number ≡ 0
      → DayCompletes 32 S preparing (day_world unprepared D one two)
      (day_world (prepared (masks_in (masks_left (prepare0 32 S D) M))) (prepare0 32 S D).buffer one two)
  -- startings that complete
  pub starts1 : (S : DaySetting) (z : DayDealer) (buf D s : List ℕ) (two : DayHost) → (start1 32 S D).number ≡ 0
      → DayCompletes 32 S starting1 (day_world z buf (rests s) two) (day_world z buf (day_on (start1 32 S D) s []) two)
  pub starts2 : (S : DaySetting) (M buf D s : List ℕ) (one : DayHost) → Dealt (day_staged 32 S) buf D
      → (start2 32 S D).number ≡ 0
      → DayCompletes 32 S starting2 (day_world (prepared (masks_in M)) buf one (rests s))
      (day_world (prepared (masks_in M)) buf one (day_on (start2 32 S D) s []))
  -- hearings that complete, of the word that the other spoke at that same place
  pub hears1 : (S : DaySetting) (z : DayDealer) (buf D s s2 : List ℕ) (said said2 : List Spoken) (v : ℕ)
      → length s ≡ state_words
      → Among (speaks s v) said2
      → (hear1 32 S D (state_in s) v).number ≡ 0
      → DayCompletes 32 S (hearing1 v) (day_world z buf (runs_on s said) (runs_on s2 said2))
      (day_world z buf (day_on (hear1 32 S D (state_in s) v) s said) (runs_on s2 said2))
  pub hears2 : (S : DaySetting) (z : DayDealer) (buf D s s1 : List ℕ) (said said1 : List Spoken) (v : ℕ)
      → length s ≡ state_words
      → Dealt (day_staged 32 S) buf D
      → Among (speaks s v) said1
      → (hear2 32 S D (state_in s) v).number ≡ 0
      → DayCompletes 32 S (hearing2 v) (day_world z buf (runs_on s1 said1) (runs_on s said))
      (day_world z buf (runs_on s1 said1) (day_on (hear2 32 S D (state_in s) v) s said))
  -- refused calls, lent anything: a preparation leaves the words of the masks, and its buffer; a starting the words of
  -- the state
  pub refused0 : (S : DaySetting) (z : DayDealer) (M T L : List ℕ) (H : Hours) (A B D : List ℕ) (one two : DayHost)
      → (day_prepare 32 T L H A B D).number ≢ 0
      → (masks_left (day_prepare 32 T L H A B D) M ≡ M)
      × DayRefuses 32 S (day_world z D one two) (day_world z (day_prepare 32 T L H A B D).buffer one two)
  pub refused_start : (s : List ℕ) (h : ℕ) (T L : List ℕ) (H : Hours) (M D : List ℕ)
      → (day_start 32 h T L H M D).number ≢ 0
      → state_left (day_start 32 h T L H M D) s ≡ s
  -- a hearing, of a host that holds what the words read as
  pub refused_hearing1 : (S : DaySetting) (z : DayDealer) (buf s : List ℕ) (one two : DayHost) (h : ℕ)
      (T L : List ℕ) (H : Hours) (M D : List ℕ) (v : ℕ)
      → length s ≡ state_words
      → host_state one ≡ state_in s
      → (day_hear 32 h T L H M D (state_in s) v).number ≢ 0
      → DayRefuses 32 S (day_world z buf one two)
      (day_world z buf (with_answer one (state_in (state_left (day_hear 32 h T L H M D (state_in s) v) s))) two)
  pub refused_hearing2 : (S : DaySetting) (z : DayDealer) (buf s : List ℕ) (one two : DayHost) (h : ℕ)
      (T L : List ℕ) (H : Hours) (M D : List ℕ) (v : ℕ)
      → length s ≡ state_words
      → host_state two ≡ state_in s
      → (day_hear 32 h T L H M D (state_in s) v).number ≢ 0
      → DayRefuses 32 S (day_world z buf one two)
      (day_world z buf one (with_answer two (state_in (state_left (day_hear 32 h T L H M D (state_in s) v) s))))
  -- opening, on a register's six words in the structs of the three hosts: what the day's hosts open as they stand, of
  -- which `day_returned` (day_demands/specs/Returned.antt) speaks
  pub opens : (z : DayDealer) (buf M one two : List ℕ) (x y : DayHost) (i : ℕ) → i < 16
      → dealer_masks z ≡ masks_in M
      → host_state x ≡ state_in one
      → host_state y ≡ state_in two
      → reconstruction 32 (six_in (share_words M one two i)) ≡ day_opened 32 (day_world z buf x y) i
