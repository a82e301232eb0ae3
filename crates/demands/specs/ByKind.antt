-- What an order of each kind opens after every run that finishes it, in document 01's words and at every width w, of
-- which document 01 has 32: whole numbers, of the signed readings of its sources. Assumes nothing.
use Rattle.std.specs.Prelude.{◌≡◌, List, ℕ, ◌^◌, ◌≤◌, T, ℤ, pos, neg_ℤ, ◌+ℤ◌, ◌-ℤ◌, ◌*ℤ◌, ◌≤ℤ◌, ◌<ℤ◌}
use Rattle.words.specs.Words.{add}
use Rattle.words.specs.Signed.{floor, signed, wrap, in_range}
use Rattle.truncations.specs.Truncation.{one_bit, slip}
use Rattle.tables.specs.Table.{Row, rows}
use Rattle.curves.specs.Curve.{relu, word_curve, above_last, word_scaled}
use Rattle.programs.specs.Programs.{t_slot}
use Rattle.runs.specs.Runs.{Setting, staged, World, opened_after}
use Rattle.runs.specs.Orders.{order_of, refresh_mask, source_mask, second_value, reading, opens, Finishes}
use Rattle.demands.specs.Demand3.{Y_of, Exact, OneBit, last_r}

-- "arithmetic on them is modulo 2^32": the signed reading of the word that is z modulo 2^w
unfoldable pub reduced : (w : ℕ) → ℤ → ℤ
reduced w z = signed w (wrap w z)

-- what the second source opens just before order q: "The fourth word is the second source .. for kinds 0, 1, 4"
unfoldable pub second_reading : (w : ℕ) → Setting → ℕ → ℤ
second_reading w S q = signed w (second_value w S q)

-- "a shift k for 6, 7, 8"
abbrev pub shift : Setting → ℕ → ℕ
shift S q = (order_of S q).fourth

-- "m = x + L", of the first source just before order q
unfoldable pub m_of : (w : ℕ) → Setting → ℕ → ℕ
m_of w S q = wrap w (reading w S q +ℤ pos (source_mask w S q))

-- W: "4096 × first c + sum over segments of S × (ReLU(x - r) - ReLU(x - next r))" on words, modulo 2^w throughout
unfoldable pub W_of : (w : ℕ) → Setting → ℕ → ℕ
W_of w S q = word_scaled w (rows S.table) (wrap w (reading w S q))

-- R-1's a: "takes the sign of (last r - x), makes it a number a", on words
unfoldable pub a_of : (w : ℕ) → Setting → ℕ → ℕ
a_of w S q = above_last w (last_r S) (wrap w (reading w S q))

-- "and subtracts the product of a with the value plus 1": of the value v
abbrev pub less_product : ℕ → ℤ → ℤ
less_product a v = v -ℤ pos a *ℤ (v +ℤ pos 1)

-- whatever the run, an order q of this kind that it finishes opens f of the order, and meets no number
abbrev pub KindOpens : (w kind : ℕ) → (Setting → ℕ → ℤ) → Type 0
KindOpens w kind f =
    (S : Setting) (q : ℕ) (v : World) → Finishes w (staged w S) q v → (order_of S q).kind ≡ kind
    → opens w S v q ≡ (0, f S q)

pub record ByKind (w : ℕ) : Type 0 where
  -- "0 add. 1 subtract."
  pub sum : KindOpens w 0 (λ S q. reduced w (reading w S q +ℤ second_reading w S q))
  pub difference : KindOpens w 1 (λ S q. reduced w (reading w S q -ℤ second_reading w S q))
  -- "2 add constant (to m). 3 times constant."
  pub plus_constant : KindOpens w 2 (λ S q. reduced w (reading w S q +ℤ pos (order_of S q).fourth))
  pub times_constant : KindOpens w 3 (λ S q. reduced w (reading w S q *ℤ pos (order_of S q).fourth))
  -- "4 product. 5 refresh."
  pub product : KindOpens w 4 (λ S q. reduced w (reading w S q *ℤ second_reading w S q))
  pub refresh : KindOpens w 5 (λ S q. reading w S q)
  -- "6 large slack ..: deal floor(signed(-L) / 2^k), plus known floor(signed(m) / 2^k)."
  pub large_slack : KindOpens w 6 (λ S q.
      reduced w (floor (reduced w (neg_ℤ (pos (source_mask w S q)))) (2 ^ shift S q)
      +ℤ floor (signed w (m_of w S q)) (2 ^ shift S q)))
  -- "7 one_bit ..: For x from -2^30 to 2^30 - 1 it opens floor(x / 2^k), plus 1 exactly when (x mod 2^k) + (L mod 2^k)
  -- is at least 2^k."
  pub one_bit_range : (S : Setting) (q : ℕ) (v : World) → Finishes w (staged w S) q v → (order_of S q).kind ≡ 7
      → T (in_range w (reading w S q))
      → opens w S v q
      ≡ (
        0,
        floor (reading w S q) (2 ^ shift S q)
            +ℤ pos (slip (shift S q) (wrap (shift S q) (reading w S q)) (source_mask w S q)),
      )
  -- "kinds 7 and 10 for x outside -2^30 to 2^30 - 1, open what their steps give for x and the masks": every x
  pub one_bit_steps : KindOpens w 7 (λ S q. signed w (one_bit w (shift S q) (m_of w S q) (source_mask w S q)))
  -- "8 exact ..; opens floor(x / 2^k) for every x."
  pub exact_floor : KindOpens w 8 (λ S q. floor (reading w S q) (2 ^ shift S q))
  -- "9 ReLU: ..; opens the larger of x and 0."
  pub larger : KindOpens w 9 (λ S q. relu (reading w S q))
  -- "Each row's ReLU runs in row order; then kind 8 with k = 12", and then R-1's steps: every x
  pub curve_exact : (S : Setting) (q : ℕ) (v : World) → Finishes w (staged w S) q v → Exact S q
      → opens w S v q ≡ (0, less_product (a_of w S q) (floor (signed w (W_of w S q)) 4096))
  -- "or kind 5 and kind 7 with k = 12", under the refresh's mask, and then R-1's steps: every x
  pub curve_one_bit : (S : Setting) (q : ℕ) (v : World) → Finishes w (staged w S) q v → OneBit S q
      → opens w S v q
      ≡ (
        0,
        less_product (a_of w S q)
            (signed w (one_bit w 12 (add w (W_of w S q) (refresh_mask w S q)) (refresh_mask w S q))),
      )
  -- a is 1 for every x above the last r, and 0 for a reading in range up to it
  pub a_above : (S : Setting) (q : ℕ) → pos (last_r S) <ℤ reading w S q → a_of w S q ≡ 1
  pub a_below : 28 ≤ w → (S : Setting) (q : ℕ) (v : World) → Finishes w (staged w S) q v
      → (order_of S q).kind ≡ 10
      → T (in_range w (reading w S q)) → reading w S q ≤ℤ pos (last_r S) → a_of w S q ≡ 0
  -- a stands in a temporary when the order ends: opening slot t as the order leaves it gives a
  pub a_left : (S : Setting) (q : ℕ) (v : World) → Finishes w (staged w S) q v → (order_of S q).kind ≡ 10
      → opened_after w v q t_slot ≡ (0, pos (a_of w S q))
  -- W is the sum that the hosts form of words, row by row: at any width, for every x and whatever the rows
  pub curve_sum : (w' : ℕ) (ps : List Row) (x : ℕ) → word_curve w' ps x ≡ word_scaled w' ps x
  -- "and nothing wraps": for a reading in range W reads Y, which takes at most 28 bits
  pub curve_range : 28 ≤ w → (S : Setting) (q : ℕ) (v : World) → Finishes w (staged w S) q v
      → (order_of S q).kind ≡ 10
      → T (in_range w (reading w S q)) → signed w (W_of w S q) ≡ Y_of w S q
