-- In every program, the known side of a product with a known value is written by the gate before it, and so has the masks 0. Assumes
-- nothing.
use mathlib.Core.Path.{◌≡◌, refl}
use mathlib.Core.List.{List, [], ◌∷◌, ◌++◌}
use Prim.Native.Nat.{ℕ, zero, suc}
use native.Mathlib.Omega.{arith}
use lib.IntN.{ℤ, pos}
use lib.ListN.{get_or, set}
use Rattle.words.specs.Ring.{Ops}
use Rattle.truncations.specs.Adder.{Update, generate, propagate, distances, updates}
use Rattle.tables.specs.Table.{Row}
use Rattle.curves.specs.Curve.{last_count, slope_after, coefficient}
use Rattle.gates.specs.Gates.{Part, Gate, MulKnown, AndKnown, Public}
use Rattle.gates.specs.Steps.{product, refresh, known_product, Step, local, deal, exchange, end, Cursor, past}
use Rattle.gates.specs.Meaning.{meaning, order_steps, job_steps}
use Rattle.gates.specs.Hosts.{Pair, Triple, of0, act}
use Rattle.gates.specs.Known.{SpokenLike, KnownSide, SideAt, AtEach, saves}
use Rattle.gates.proofs.Known.{spoken_like, zeroed}
use Rattle.programs.specs.declared.Order.{Order}
use Rattle.programs.specs.Programs.{y_slot, update_gates, rounds, adder, to_number, sign_program, relu_program}
use Rattle.programs.specs.Programs.{slack_program, one_bit_program, exact_program, row_program, rows_program, sum_program, truncation}
use Rattle.programs.specs.Programs.{saturation_head, saturation_end, saturation}
use Rattle.programs.specs.Orders.{curve_program, kinds, program}

-- each product with a known value, of numbers or of bits, stands behind the gate that makes its side known
pub data Told (w : ℕ) : List Gate → Type 0 where
  none : Told w []
  plain : {g : Gate} {gs : List Gate} → saves (meaning w g) ≡ 0 → Told w gs → Told w (g ∷ gs)
  of_numbers : {d a b x : ℕ} {f : Part} {gs : List Gate} → Told w gs → Told w (Public a x f ∷ MulKnown d a b ∷ gs)
  of_bits : {d a b x : ℕ} {f : Part} {gs : List Gate} → Told w gs → Told w (Public a x f ∷ AndKnown d a b ∷ gs)

pub told_append : {w : ℕ} {gs hs : List Gate} → Told w gs → Told w hs → Told w (gs ++ hs)
told_append none q = q
told_append (plain e p) q = plain e (told_append p q)
told_append (of_numbers p) q = of_numbers (told_append p q)
told_append (of_bits p) q = of_bits (told_append p q)

-- ---- the programs

module _ (w : ℕ) where
  told_rounds : (us : List Update) → Told w (rounds us)
  unfolding rounds update_gates meaning saves
  told_rounds [] = none
  told_rounds (generate D ∷ us) = plain refl (plain refl (plain refl (told_rounds us)))
  told_rounds (propagate D ∷ us) = plain refl (plain refl (told_rounds us))

  told_adder : (x : ℕ) → Told w (adder w x)
  unfolding adder meaning saves
  told_adder x = plain refl (of_bits (plain refl (plain refl (told_rounds (updates (distances w))))))

  told_number : Told w (to_number w)
  unfolding to_number meaning saves
  told_number = plain refl (of_numbers (plain refl (plain refl (plain refl none))))

  told_sign : (x : ℕ) → Told w (sign_program w x)
  unfolding sign_program meaning saves
  told_sign x = told_append (told_adder x) (plain refl (plain refl told_number))

  told_relu : (x d : ℕ) → Told w (relu_program w x d)
  unfolding relu_program meaning saves
  told_relu x d = told_append (told_sign x) (plain refl (plain refl (plain refl none)))

  told_slack : (k x d : ℕ) → Told w (slack_program k x d)
  unfolding slack_program meaning saves
  told_slack k x d = plain refl (plain refl (plain refl none))

  told_one_bit : (k x d : ℕ) → Told w (one_bit_program w k x d)
  unfolding one_bit_program meaning saves
  told_one_bit k x d =
      plain refl (plain refl (plain refl (plain refl (of_numbers
      (plain refl (plain refl (plain refl (plain refl (plain refl (plain refl (plain refl none)))))))))))

  pub told_exact : (k x d : ℕ) → Told w (exact_program w k x d)
  unfolding exact_program meaning saves
  told_exact k x d =
      told_append
      (told_append
      (told_append (plain refl (plain refl (plain refl (plain refl (told_adder y_slot))))) (plain refl told_number))
      (plain refl (plain refl told_number)))
      (plain refl (plain refl (plain refl none)))

  told_row : (x r c : ℕ) → Told w (row_program w x r c)
  unfolding row_program meaning saves
  told_row x r c = told_append (plain refl (told_relu _ _)) (plain refl (plain refl none))

  told_rows : (x : ℕ) (s : ℤ) (ps : List Row) → Told w (rows_program w x s ps)
  unfolding rows_program
  told_rows x s [] = none
  told_rows x s (p ∷ ps) = told_append (told_row x p.r (coefficient w s p ps)) (told_rows x (slope_after p ps) ps)

  told_sum : (x : ℕ) (ps : List Row) → Told w (sum_program w x ps)
  unfolding sum_program meaning saves
  told_sum x [] = plain refl none
  told_sum x (p ∷ ps) = plain refl (told_rows x (pos 0) (p ∷ ps))

  told_truncation : (mode : ℕ) → Told w (truncation w mode)
  unfolding truncation meaning saves
  told_truncation zero = told_exact 12 _ _
  told_truncation (suc m) = plain refl (told_one_bit 12 _ _)

  told_saturation : (r x d : ℕ) → Told w (saturation w r x d)
  unfolding saturation saturation_head saturation_end meaning saves
  told_saturation r x d = plain refl (plain refl (told_append (told_sign y_slot) (plain refl (plain refl (plain refl none)))))

  pub told_curve : (x d : ℕ) (ps : List Row) (mode : ℕ) → Told w (curve_program w x d ps mode)
  unfolding curve_program
  told_curve x d ps mode = told_append (told_sum x ps) (told_append (told_truncation mode) (told_saturation (last_count ps) x d))

  -- whatever the kind
  abbrev pub AllTold : List (List Gate) → Type 0
  AllTold [] = Unit
  AllTold (gs ∷ os) = Told w gs × AllTold os

  told_at : (os : List (List Gate)) → AllTold os → (k : ℕ) → Told w (get_or os k [])
  told_at [] h k = none
  told_at (gs ∷ os) h zero = h.0
  told_at (gs ∷ os) h (suc k) = told_at os h.1 k

  one : {g : Gate} → saves (meaning w g) ≡ 0 → Told w (g ∷ [])
  one e = plain e none

  pub told_program : (ps : List Row) (o : Order) → Told w (program w ps o)
  unfolding program kinds meaning saves
  told_program ps o =
      let d = o.target in
      let a = o.source in
      let c = o.fourth in
      told_at (kinds w ps d a c) (
        one refl,
        (
          one refl,
          (
            one refl,
            (
              one refl,
              (
                one refl,
                (
                  one refl,
                  (
                    told_slack c a d,
                    (
                      told_one_bit c a d,
                      (
                        told_exact c a d,
                        (told_relu a d, (told_curve a d ps c, tt)),
                      ),
                    ),
                  ),
                ),
              ),
            ),
          ),
        ),
      )
      o.kind

-- ---- on a walk

side_plain : (x : Step) → saves x ≡ 0 → (s : Pair) → SideAt x s
unfolding saves
side_plain (local d m l) e s = tt
side_plain (deal d f) e s = tt
side_plain (exchange d (product O a b)) e s = tt
side_plain (exchange d (refresh O a)) e s = tt
side_plain (exchange d (known_product O a b)) e s = absurd (omega arith)
side_plain end e s = tt

-- the lanes L1 and L2 where slot a was made known
side_told : {O : Ops ℕ} → SpokenLike O → (s : Pair) (a : ℕ) → KnownSide O a (set s.0 a 0, set s.1 a 0)
side_told like s a = record { l1 = zeroed s.0 a; l2 = zeroed s.1 a; like = like }

-- at each step of the joint walk, from wherever it comes
abbrev pub Known : (A B : List ℕ) → List Step → Type 0
Known A B ss = (c : Cursor) (j : Triple) → AtEach (act A B) (λ x j. SideAt x (of0 j)) ss c j

module _ (w : ℕ) (A B : List ℕ) where
  pub order_known : {gs : List Gate} → Told w gs → (ss : List Step) → Known A B ss → Known A B (order_steps w gs ss)
  unfolding order_steps meaning act
  order_known none ss h c j = (tt, h (past end c) (act A B end c j))
  order_known (plain {g = g} e p) ss h c j =
      (side_plain (meaning w g) e (of0 j), order_known p ss h (past (meaning w g) c) (act A B (meaning w g) c j))
  order_known (of_numbers {a = a} p) ss h c j = (tt, (side_told (spoken_like w).0 (of0 j) a, order_known p ss h _ _))
  order_known (of_bits {a = a} p) ss h c j = (tt, (side_told (spoken_like w).1 (of0 j) a, order_known p ss h _ _))

  pub job_known : (os : List (List Gate)) → AllTold w os → Known A B (job_steps w os)
  unfolding job_steps
  job_known [] h = λ c j. tt
  job_known (gs ∷ os) h = order_known h.0 (job_steps w os) (job_known os h.1)
