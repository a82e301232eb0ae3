-- The quarters that lie in windows, window by window, and the rule of the two kinds of window, as bits. Assumes nothing.
use mathlib.Core.Path.{◌≡◌, refl, sym, ap₂, ◌∙◌}
use mathlib.Core.Bool.{◌&&◌, ◌||◌}
use mathlib.Core.List.{List}
use Prim.Native.Nat.{ℕ, ◌+◌, ◌/◌}
use native.Mathlib.Numerals.{add-one}
use native.Mathlib.Omega.{arith}
use lib.Bits.{bit_or}
use lib.Dec.{leb, ltb}
use Rattle.calendars.specs.Ranges.{some, packed}
use Rattle.calendars.specs.Calendar.{open_windows, cleaning_windows, open_at, cleaning_at, start, end, first_minute, in_window, lies, in_open, in_cleaning, counts}
use Rattle.calendars.specs.Quarters.{Ruled}
use Rattle.calendars.proofs.Ranges.{some_more}
use Rattle.calendars.proofs.Packing.{packed_none, packed_same, packed_or, quarters_held}

module _ (c : List ℕ) (at : ℕ) where
  pub no_marks : (q : ℕ) → 0 ≡ packed (lies c at 0) q 32
  unfolding lies some
  no_marks q = sym (packed_none (lies c at 0) q 32 (λ k l. refl))

  module _ (i : ℕ) {s e : ℕ} (is_s : s ≡ (start c at i + 14) / 15) (is_e : e ≡ (end c at i + 14) / 15) where
    one_more : (k : ℕ) → (lies c at i k || (leb s k && ltb k e)) ≡ lies c at (i + 1) k
    unfolding lies in_window
    one_more k =
        let a : 0 + i ≡ i = omega arith in
        rw (is_s, is_e, quarters_held (start c at i) (end c at i) k, add-one i, some_more (in_window c at (first_minute k)) 0 i, a)

    pub mark : (q : ℕ) {bits new : ℕ} → bits ≡ packed (lies c at i) q 32 → new ≡ packed (λ k. leb s k && ltb k e) q 32 → bit_or bits new ≡ packed (lies c at (i + 1)) q 32
    mark q p r =
        ap₂ bit_or p r ∙ packed_or (lies c at i) (λ k. leb s k && ltb k e) q 32
        ∙ packed_same (λ k. lies c at i k || (leb s k && ltb k e)) (lies c at (i + 1)) one_more q 32

module _ (c : List ℕ) (d : ℕ) where
  pub by_rule : (q : ℕ) {opened cleaned r : ℕ} → opened ≡ packed (lies c (open_at d) (open_windows c d)) q 32
      → cleaned ≡ packed (lies c (cleaning_at d) (cleaning_windows c d)) q 32 → Ruled opened cleaned r
      → r ≡ packed (counts c d) q 32
  unfolding counts in_open in_cleaning
  by_rule q p r law = law (lies c (open_at d) (open_windows c d)) (lies c (cleaning_at d) (cleaning_windows c d)) q p r
