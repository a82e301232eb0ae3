-- What a C caller lends on after a loading. Assumes nothing.
use mathlib.Core.Path.{◌≡◌, refl, sym, ap, ◌∙◌}
use mathlib.Core.List.{List}
use Prim.Native.Nat.{ℕ, zero, suc}
use native.Mathlib.Omega.{arith}
use lib.ListN.{take}
use Rattle.table_load.specs.Loading.{Loaded}
use Rattle.table_load.specs.Loading.{loading, lent_on}
use Rattle.table_load.proofs.Loads.{loads}
use Rattle.lamphiek.specs.Loading.{table_left}
use Rattle.lamphiek.specs.LoadFromC.{LoadFromC}
use Rattle.lamphiek.proofs.Told.{is_written}

none : (ws vs : List ℕ) (n : ℕ) → n ≡ 0 → take n ws ≡ take n vs
none ws vs n e = ap (λ (m : ℕ). take m ws) e ∙ sym (ap (λ (m : ℕ). take m vs) e)

lends_on : (t old : List ℕ) → take (loading t).len (table_left (loading t) old) ≡ lent_on (loading t)
lends_on t old = by_number (loading t).number refl
  where
    by_number : (n : ℕ) → (loading t).number ≡ n → take (loading t).len (table_left (loading t) old) ≡ lent_on (loading t)
    by_number zero e = sym (ap (λ (ws : List ℕ). take (loading t).len ws) (is_written (loading t).number (loading t).table old e))
    by_number (suc n) e =
        none _ _ (loading t).len (ap (λ (a : Loaded). a.len) (loads.refused_empty t (λ z. omega arith)))

pub load_from_c : LoadFromC
load_from_c = record { lends_on = lends_on }
