-- Document 01, "Orders": the gates of an order, "four words: kind, target, first source, fourth word".
-- Assumes nothing.
use Rattle.std.specs.Prelude.{List, [], ◌∷◌, ◌++◌, ℕ, get_or}
use Rattle.gates.specs.Gates.{Gate, Add, Sub, Mul, Refresh, Scale, Plus}
use Rattle.tables.specs.Table.{Row}
use Rattle.curves.specs.Curve.{last_count}
use Rattle.programs.specs.declared.Order.{Order}
use Rattle.programs.specs.Programs.{relu_program, slack_program, one_bit_program, exact_program, sum_program}
use Rattle.programs.specs.Programs.{truncation, saturation}

-- "10 curve, mode 0 exact, 1 one-bit": the sum of its rows, the truncation, and R-1's last steps
unfoldable pub curve_program : (w x d : ℕ) → List Row → (mode : ℕ) → List Gate
curve_program w x d ps mode = sum_program w x ps ++ (truncation w mode ++ saturation w (last_count ps) x d)

-- the gates of each kind, in the kinds' order, for target d, source a and fourth word c:
-- "0 add. 1 subtract. 2 add constant (to m). 3 times constant. 4 product. 5 refresh. 6 large slack. 7 one-bit.
-- 8 exact. 9 ReLU. 10 curve"
unfoldable pub kinds : (w : ℕ) → List Row → (d a c : ℕ) → List (List Gate)
kinds w ps d a c =
    (Add d a c ∷ []) ∷ (Sub d a c ∷ []) ∷ (Plus d a c ∷ []) ∷ (Scale d a c ∷ []) ∷ (Mul d a c ∷ [])
    ∷ (Refresh d a ∷ [])
    ∷ slack_program c a d ∷ one_bit_program w c a d ∷ exact_program w c a d ∷ relu_program w a d
    ∷ curve_program w a d ps c ∷ []

-- an order's gates; none for a kind above 10, which is turned down
unfoldable pub program : ℕ → List Row → Order → List Gate
program w ps o = get_or (kinds w ps o.target o.source o.fourth) o.kind []
