-- Each call of a day from C is a step of a run of the day's calls. Assumes nothing.
use mathlib.Core.Path.{◌≡◌, sym, ap, ◌∙◌, subst}
use mathlib.Core.Logic.{◌≢◌}
use mathlib.Core.List.{List, [], ◌∷◌}
use Prim.Native.Nat.{ℕ, ◌<◌}
use lib.ListN.{length}
use lib.Seq.{get_or-take}
use Rattle.shares.specs.Sharing.{reconstruction}
use Rattle.gates.specs.Hosts.{Pair}
use Rattle.calls.specs.Calls as Calls
use Rattle.runs.specs.Runs.{Spoken, placed_word, Among, registers, Dealt, preparing, starting1, starting2, hearing1, hearing2, opened_slot}
use Rattle.days.specs.Day.{Hours}
use Rattle.days.specs.DayCalls.{day_start, day_hear, day_prepare}
use Rattle.day_demands.specs.Settings.{DaySetting, day_staged}
use Rattle.day_demands.specs.Calls.{list1, list2}
use Rattle.day_demands.specs.Runs.{DayDealer, unprepared, prepared, DayHost, running, day_world, host_state, with_answer, answering, prepare0}
use Rattle.day_demands.specs.Runs.{start1, start2, hear1, hear2, DayCompletes, day_prepares, day_starts1, day_starts2, day_hears1, day_hears2}
use Rattle.day_demands.specs.Runs.{DayRefuses, day_refuses0, day_refuses1, day_refuses2, day_begin, dealer_masks, day_opened}
use Rattle.day_demands.proofs.Numbers.{day_numbers}
use Rattle.lamphiek.specs.Layout.{six_in, masks_in, state_in, state_words}
use Rattle.lamphiek.specs.Stepping.{masks_left, state_left}
use Rattle.lamphiek.specs.FromC.{speaks, share_words}
use Rattle.lamphiek.specs.DayFromC.{rests, runs_on, day_on, DayFromC}
use Rattle.lamphiek.proofs.Told.{not_written}
use Rattle.lamphiek.proofs.Lanes.{Full}
use Rattle.lamphiek.proofs.Left.{masks_done, masks_stay, state_full, state_long, state_read, same_read}
use Rattle.lamphiek.proofs.FromC.{words_in}
use Rattle.lamphiek.proofs.DayLeft.{start_full_day, hear_full_day, masks_wide_day}

-- a host that has answered, as its words read then
answers : (a : Calls.Answer) (s : List ℕ) (said : List Spoken) → Full 24 a.state → a.number ≡ 0 → answering a said ≡ day_on a s said
answers a s said h z = let e = sym (state_read a s h z) in λ t. running (e t) (placed_word (e t) a.word ∷ said)

module _ (S : DaySetting) where
  prepared_day : (M D : List ℕ) (one two : DayHost) → (prepare0 32 S D).number ≡ 0
      → DayCompletes 32 S preparing (day_world unprepared D one two)
      (day_world (prepared (masks_in (masks_left (prepare0 32 S D) M))) (prepare0 32 S D).buffer one two)
  prepared_day M D one two n =
      subst
      (λ (r : Pair). DayCompletes 32 S preparing (day_world unprepared D one two) (day_world (prepared r) (prepare0 32 S D).buffer one two))
      (sym (masks_done (prepare0 32 S D) M (masks_wide_day _ S.table S.hours S.A S.B D) n)) (day_prepares n)

  module _ (buf D s : List ℕ) where
    started1 : (z : DayDealer) (two : DayHost) → (start1 32 S D).number ≡ 0
        → DayCompletes 32 S starting1 (day_world z buf (rests s) two) (day_world z buf (day_on (start1 32 S D) s []) two)
    started1 z two n =
        subst (λ (x : DayHost). DayCompletes 32 S starting1 (day_world z buf (rests s) two) (day_world z buf x two))
        (answers (start1 32 S D) s [] (start_full_day (list1 S) 1 S.table S.hours S.A D) n) (day_starts1 D n)

    started2 : (r : Pair) (one : DayHost) → Dealt (day_staged 32 S) buf D → (start2 32 S D).number ≡ 0
        → DayCompletes 32 S starting2 (day_world (prepared r) buf one (rests s)) (day_world (prepared r) buf one (day_on (start2 32 S D) s []))
    started2 r one d n =
        subst (λ (x : DayHost). DayCompletes 32 S starting2 (day_world (prepared r) buf one (rests s)) (day_world (prepared r) buf one x))
        (answers (start2 32 S D) s [] (start_full_day (list2 S) 2 S.table S.hours S.B D) n) (day_starts2 D d n)

    module _ (l : length s ≡ state_words) (z : DayDealer) (other : List ℕ) (said said₀ : List Spoken) (v : ℕ) (spoke : Among (speaks s v) said₀) where
      heard1 : (hear1 32 S D (state_in s) v).number ≡ 0
          → DayCompletes 32 S (hearing1 v) (day_world z buf (runs_on s said) (runs_on other said₀))
          (day_world z buf (day_on (hear1 32 S D (state_in s) v) s said) (runs_on other said₀))
      heard1 n =
          subst
          (λ (x : DayHost). DayCompletes 32 S (hearing1 v) (day_world z buf (runs_on s said) (runs_on other said₀)) (day_world z buf x (runs_on other said₀)))
          (answers (hear1 32 S D (state_in s) v) s said (hear_full_day (list1 S) 1 S.table S.hours S.A D (state_in s) v (state_full s l)) n)
          (day_hears1 D v spoke n)

      heard2 : Dealt (day_staged 32 S) buf D → (hear2 32 S D (state_in s) v).number ≡ 0
          → DayCompletes 32 S (hearing2 v) (day_world z buf (runs_on other said₀) (runs_on s said))
          (day_world z buf (runs_on other said₀) (day_on (hear2 32 S D (state_in s) v) s said))
      heard2 d n =
          subst
          (λ (x : DayHost). DayCompletes 32 S (hearing2 v) (day_world z buf (runs_on other said₀) (runs_on s said)) (day_world z buf (runs_on other said₀) x))
          (answers (hear2 32 S D (state_in s) v) s said (hear_full_day (list2 S) 2 S.table S.hours S.B D (state_in s) v (state_full s l)) n)
          (day_hears2 D d v spoke n)

-- ---- refused hearings: the words are left, and read as the state that the call gives back

module _ (s : List ℕ) (x : DayHost) (h : ℕ) (T L : List ℕ) (H : Hours) (M D : List ℕ) (v : ℕ) (l : length s ≡ state_words) (e : host_state x ≡ state_in s)
    (n : (day_hear 32 h T L H M D (state_in s) v).number ≢ 0) where
  still_refused : (day_hear 32 h T L H M D (host_state x) v).number ≢ 0
  still_refused k = n (ap (λ (y : Calls.State). (day_hear 32 h T L H M D y v).number) (sym e) ∙ k)

  left_is : (day_hear 32 h T L H M D (host_state x) v).state ≡ state_in (state_left (day_hear 32 h T L H M D (state_in s) v) s)
  left_is =
      let f = state_full s l in
      ap (λ (y : Calls.State). (day_hear 32 h T L H M D y v).state) e
      ∙ (day_numbers.hearing_unchanged h T L H M D (state_in s) v f.m f.mask n).0
      ∙ sym (same_read (day_hear 32 h T L H M D (state_in s) v) s n)

-- ---- opening

opens : (z : DayDealer) (buf M one two : List ℕ) (x y : DayHost) (i : ℕ) → i < 16 → dealer_masks z ≡ masks_in M
    → host_state x ≡ state_in one
    → host_state y ≡ state_in two
    → reconstruction 32 (six_in (share_words M one two i)) ≡ day_opened 32 (day_world z buf x y) i
unfolding day_opened
opens z buf M one two x y i h e f g =
    ap (reconstruction 32) (words_in M one two i h)
    ∙ whole_lanes (state_in one) (state_in two)
    ∙ (λ t. opened_slot 32 (sym e t) (lanes (sym f t)) (lanes (sym g t)) i)
  where
    lanes : Calls.State → Pair
    lanes s = (s.m, s.mask)

    whole_lanes : (s u : Calls.State)
        → opened_slot 32 (masks_in M) (registers 16 s) (registers 16 u) i ≡ opened_slot 32 (masks_in M) (lanes s) (lanes u) i
    whole_lanes s u =
        rw (get_or-take 16 s.m i 0 h, get_or-take 16 s.mask i 0 h, get_or-take 16 u.m i 0 h, get_or-take 16 u.mask i 0 h)

pub day_from_c : DayFromC
day_from_c =
    record {
      masks_long = λ M T L H A B D l. masks_stay (day_prepare 32 T L H A B D) M (masks_wide_day L T H A B D) l;
      start_long = λ s h T L H M D l. state_long (day_start 32 h T L H M D) s (start_full_day L h T H M D) l;
      hear_long = λ s h T L H M D v l.
          state_long (day_hear 32 h T L H M D (state_in s) v) s (hear_full_day L h T H M D (state_in s) v (state_full s l)) l;
      begins = λ S D one two. day_begin;
      prepares = prepared_day;
      starts1 = λ S z buf D s two n. started1 S buf D s z two n;
      starts2 = λ S M buf D s one d n. started2 S buf D s (masks_in M) one d n;
      hears1 = λ S z buf D s s2 said said2 v l spoke n. heard1 S buf D s l z s2 said said2 v spoke n;
      hears2 = λ S z buf D s s1 said said1 v l d spoke n. heard2 S buf D s l z s1 said said1 v spoke d n;
      refused0 = λ S z M T L H A B D one two n. (
        sym (not_written (day_prepare 32 T L H A B D).number _ M n),
        day_refuses0 T L H A B n,
      );
      refused_start = λ s h T L H M D n. sym (not_written (day_start 32 h T L H M D).number _ s n);
      refused_hearing1 = λ S z buf s one two h T L H M D v l e n.
          subst (λ (y : Calls.State). DayRefuses 32 S (day_world z buf one two) (day_world z buf (with_answer one y) two))
          (left_is s one h T L H M D v l e n) (day_refuses1 h T L H M D v (still_refused s one h T L H M D v l e n));
      refused_hearing2 = λ S z buf s one two h T L H M D v l e n.
          subst (λ (y : Calls.State). DayRefuses 32 S (day_world z buf one two) (day_world z buf one (with_answer two y)))
          (left_is s two h T L H M D v l e n) (day_refuses2 h T L H M D v (still_refused s two h T L H M D v l e n));
      opens = opens;
    }
