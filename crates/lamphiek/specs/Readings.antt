-- Splitting and opening, as C is answered: the number is given, the rest is left in lent words. Assumes nothing.
use Rattle.std.specs.Prelude.{List, ℕ, ℤ}
use Rattle.shares.specs.Sharing.{Six}
use Rattle.lamphiek.specs.Layout.{written, six_out}

abbrev pub shares_left : ℕ × Six → (old : List ℕ) → List ℕ
shares_left p old = written p.0 (six_out p.1) old

abbrev pub value_left : ℕ × ℤ → (old : ℤ) → ℤ
value_left p old = written p.0 p.1 old
