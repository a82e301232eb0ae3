-- A weekday's 26 words alone: they are sound, and their quarters count, as in the calendar. Assumes nothing.
use mathlib.Core.Path.{◌≡◌, refl, sym, ap, ap₂, ◌∙◌}
use mathlib.Core.Bool.{Bool, true, false, ◌&&◌}
use mathlib.Core.List.{List, []}
use mathlib.Core.Logic.{◌↔◌}
use Prim.Native.Nat.{ℕ, zero, suc, ◌+◌, ◌*◌, ◌/◌, ◌≤◌, ◌<◌}
use native.Mathlib.Nat.{zero-add}
use native.Mathlib.Omega.{arith}
use borrow.Author.Tests.{eq-eqb, ne_eqb, le-leb, lt-leb, leb-true}
use lib.Dec.{leb}
use lib.ListN.{length, get_or, drop}
use lib.Seq.{get_or-drop}
use Rattle.std.proofs.lemmas.List.{get_or-take, get_or_default}
use Rattle.std.specs.List.{All}
use Rattle.std.specs.Simd.{first_chunks}
use Rattle.calendars.specs.Ranges.{every, some, packed}
use Rattle.calendars.specs.Calendar.{rule, in_cleaning, open_windows, cleaning_windows, open_at, cleaning_at, start, end, sound_window, sound_day, sound}
use Rattle.calendars.specs.Calendar.{in_window, first_minute, lies, in_open, counts}
use Rattle.calendars.specs.Quarters.{quarters_where}
use Rattle.calendars.specs.Answers.{HasRoom}
use Rattle.calendars.specs.Hours.{Sound}
use Rattle.calendars.proofs.Packing.{packed_same}
use Rattle.calendars.proofs.Ranges.{every_below}
use Rattle.calendars.proofs.Tests.{below_every}

-- word j of weekday d
word_alone : (n d j : ℕ) (c : List ℕ) → d < n → j < 26 → get_or (get_or (first_chunks 26 n c) d []) j 0 ≡ get_or c (26 * d + j) 0
word_alone zero d j c h l = absurd (omega arith)
word_alone (suc n) zero j c h l = get_or-take 26 c j 0 l ∙ ap (λ (k : ℕ). get_or c k 0) (sym (zero-add j))
word_alone (suc n) (suc d) j c h l =
    let e : 26 + (26 * d + j) ≡ 26 * suc d + j = omega arith in
    word_alone n d j (drop 26 c) (omega arith) l ∙ get_or-drop 26 c (26 * d + j) 0 ∙ ap (λ (k : ℕ). get_or c k 0) e

every_same : (f g : ℕ → Bool) (q n : ℕ) → ((k : ℕ) → k < n → f (q + k) ≡ g (q + k)) → every f q n ≡ every g q n
unfolding every
every_same f g q zero h = refl
every_same f g q (suc n) h =
    let a : q + 0 ≡ q = omega arith in
    let e : f q ≡ g q = rw a at (h 0 (omega arith)) in
    let r : every f (suc q) n ≡ every g (suc q) n
    = every_same f g (suc q) n (λ k l. let b : q + suc k ≡ suc q + k = omega arith in rw b at (h (suc k) (omega arith))) in
    rw (e, r)

some_same : (f g : ℕ → Bool) (q n : ℕ) → ((k : ℕ) → k < n → f (q + k) ≡ g (q + k)) → some f q n ≡ some g q n
unfolding some
some_same f g q zero h = refl
some_same f g q (suc n) h =
    let a : q + 0 ≡ q = omega arith in
    let e : f q ≡ g q = rw a at (h 0 (omega arith)) in
    let r : some f (suc q) n ≡ some g (suc q) n
    = some_same f g (suc q) n (λ k l. let b : q + suc k ≡ suc q + k = omega arith in rw b at (h (suc k) (omega arith))) in
    rw (e, r)

module _ (c : List ℕ) (n d : ℕ) (h : d < n) {day : List ℕ} (is_day : day ≡ get_or (first_chunks 26 n c) d []) where
  word : (j : ℕ) → j < 26 → get_or day j 0 ≡ get_or c (26 * d + j) 0
  word j l = rw is_day (word_alone n d j c h l)

  pub opens_alone : open_windows day 0 ≡ open_windows c d
  opens_alone = let e : 26 * d + 0 ≡ 26 * d = omega arith in word 0 (omega arith) ∙ ap (λ (k : ℕ). get_or c k 0) e

  pub cleans_alone : cleaning_windows day 0 ≡ cleaning_windows c d
  cleans_alone = word 1 (omega arith)

  module _ (at m : ℕ) (l : at + 2 * m ≤ 26) where
    start_alone : (k : ℕ) → k < m → start day at k ≡ start c (26 * d + at) k
    start_alone k s =
        let e : 26 * d + (at + 2 * k) ≡ 26 * d + at + 2 * k = omega arith in
        word (at + 2 * k) (omega arith) ∙ ap (λ (j : ℕ). get_or c j 0) e

    end_alone : (k : ℕ) → k < m → end day at k ≡ end c (26 * d + at) k
    end_alone k s =
        let e : 26 * d + (at + 2 * k + 1) ≡ 26 * d + at + 2 * k + 1 = omega arith in
        word (at + 2 * k + 1) (omega arith) ∙ ap (λ (j : ℕ). get_or c j 0) e

    windows_alone : every (sound_window day at) 0 m ≡ every (sound_window c (26 * d + at)) 0 m
    unfolding sound_window
    windows_alone =
        every_same (sound_window day at) (sound_window c (26 * d + at)) 0 m (λ k s.
        let a : 0 + k ≡ k = omega arith in rw (a, start_alone k s, end_alone k s))

    lies_alone : (q : ℕ) → lies day at m q ≡ lies c (26 * d + at) m q
    unfolding lies in_window
    lies_alone q =
        some_same (in_window day at (first_minute q)) (in_window c (26 * d + at) (first_minute q)) 0 m (λ k s.
        let a : 0 + k ≡ k = omega arith in rw (a, start_alone k s, end_alone k s))

  pub day_alone : sound_day day 0 ≡ sound_day c d
  unfolding sound_day
  day_alone = rw (opens_alone, cleans_alone) (go (leb (open_windows c d) 8) (leb (cleaning_windows c d) 4) refl refl)
    where
      go : (a b : Bool) → leb (open_windows c d) 8 ≡ a → leb (cleaning_windows c d) 4 ≡ b
          → (a && b && every (sound_window day (open_at 0)) 0 (open_windows c d) && every (sound_window day (cleaning_at 0)) 0 (cleaning_windows c d))
          ≡ (a && b && every (sound_window c (open_at d)) 0 (open_windows c d) && every (sound_window c (cleaning_at d)) 0 (cleaning_windows c d))
      go true true s t =
          let o = leb-true _ _ s in
          let k = leb-true _ _ t in
          rw (windows_alone 2 (open_windows c d) (omega (arith, o)), windows_alone 18 (cleaning_windows c d) (omega (arith, k)))
      go true false s t = refl
      go false b s t = refl

  module _ (o : open_windows c d ≤ 8) (k : cleaning_windows c d ≤ 4) where
    open_alone : (q : ℕ) → in_open day 0 q ≡ in_open c d q
    unfolding in_open
    open_alone q = rw opens_alone (lies_alone 2 (open_windows c d) (omega (arith, o)) q)

    cleaning_alone : (q : ℕ) → in_cleaning day 0 q ≡ in_cleaning c d q
    unfolding in_cleaning
    cleaning_alone q = rw cleans_alone (lies_alone 18 (cleaning_windows c d) (omega (arith, k)) q)

    counts_alone : (q : ℕ) → counts day 0 q ≡ counts c d q
    unfolding counts
    counts_alone q = ap₂ rule (open_alone q) (cleaning_alone q)

    pub quarters_alone : quarters_where (counts day 0) ≡ quarters_where (counts c d)
    quarters_alone =
        let same : (q : ℕ) → packed (counts day 0) q 32 ≡ packed (counts c d) q 32
        = λ q. packed_same (counts day 0) (counts c d) counts_alone q 32 in
        rw (same 0, same 32, same 64)

-- ---- the weekdays of a calendar

module _ (c : List ℕ) (d : ℕ) where
  pub ill_sized : (length c ≡ 182 → ⊥) → false ≡ sound c d
  unfolding sound
  ill_sized h = rw (ne_eqb (length c) 182 h)

  pub no_weekday : length c ≡ 182 → 6 < d → leb d 6 ≡ sound c d
  unfolding sound
  no_weekday h l = rw (eq-eqb (length c) 182 h, lt-leb d 6 l)

module _ (c : List ℕ) {days : List (List ℕ)} (cut : days ≡ first_chunks 26 (length c / 26) c) (many : length days ≡ length c / 26) where
  is_day : (k : ℕ) → get_or days k [] ≡ get_or (first_chunks 26 (length c / 26) c) k []
  is_day k = ap (λ (ds : List (List ℕ)). get_or ds k []) cut

  module _ (sized : length c ≡ 182) {r : Bool} (each : (r ≡ true) ↔ All (λ day. sound_day day 0 ≡ true) days) where
    week_alone : r ≡ every (sound_day c) 0 7
    week_alone = same r (every (sound_day c) 0 7)
        (λ t. below_every (sound_day c) 7 (λ k l. sym (alone k l) ∙ each.0 t k [] (omega (arith, many))))
        (λ e. each.1 (λ k o l.
        let j : k < 7 = omega (arith, many) in
        let p : get_or days k o ≡ get_or days k [] = get_or_default days k o [] l in
        rw p (alone k j ∙ every_below (sound_day c) 7 e k j)))
      where
        alone : (k : ℕ) → k < 7 → sound_day (get_or days k []) 0 ≡ sound_day c k
        alone k l = day_alone c (length c / 26) k (omega arith) (is_day k)

        same : (a b : Bool) → (a ≡ true → b ≡ true) → (b ≡ true → a ≡ true) → a ≡ b
        same true b f g = sym (f refl)
        same false true f g = g refl
        same false false f g = refl

    pub all_sound : (d : ℕ) → d ≤ 6 → r ≡ sound c d
    unfolding sound
    all_sound d l = week_alone ∙ rw (eq-eqb (length c) 182 sized, le-leb d 6 l)

  -- the weekday of a sound calendar and its quarters
  module _ {d : ℕ} (s : Sound c d) where
    pub placed : d < length days
    placed = omega (arith, many, s.sized, s.weekday)

    in_calendar : d < length c / 26
    in_calendar = omega (arith, s.sized, s.weekday)

    pub room : HasRoom (get_or days d []) 0
    room =
        let day = s.each_day d s.weekday in
        record {
          opens = omega (arith, opens_alone c (length c / 26) d in_calendar (is_day d), day.at_most_eight);
          cleans = omega (arith, cleans_alone c (length c / 26) d in_calendar (is_day d), day.at_most_four);
        }

    pub same_quarters : quarters_where (counts (get_or days d []) 0) ≡ quarters_where (counts c d)
    same_quarters =
        let day = s.each_day d s.weekday in
        quarters_alone c (length c / 26) d in_calendar (is_day d) day.at_most_eight day.at_most_four
