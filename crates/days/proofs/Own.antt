-- The order of a job by which the code walks an order of a day: its words, and that none of its gates writes slot 15. Assumes nothing.
use mathlib.Core.Path.{◌≡◌, refl}
use mathlib.Core.Bool.{Bool, true, false, cond}
use mathlib.Core.List.{List, [], ◌∷◌}
use Prim.Native.Nat.{ℕ}
use lib.Dec.{ltb, lit<}
use lib.ListN.{length}
use Rattle.tables.specs.Table.{Row}
use Rattle.programs.specs.Orders.{program}
use Rattle.jobs.specs.Job.{orders, order_at}
use Rattle.runs.proofs.Written.{Spares, spares_program}
use Rattle.days.specs.Orders.{curve_order, mean_order, own_order, order_words}

pub own_job : (o : ℕ) → orders (order_words o) ≡ own_order o ∷ []
unfolding order_words orders
own_job o = refl

pub own_at : (o : ℕ) → order_at (order_words o) 0 ≡ own_order o
unfolding order_words
own_at o = refl

pub own_length : (o : ℕ) → length (order_words o) ≡ 4
unfolding order_words
own_length o = refl

pub own_spares : (w : ℕ) (ps : List Row) (o : ℕ) → Spares 15 (program w ps (own_order o))
unfolding own_order
own_spares w ps o = go (ltb o 96)
  where
    go : (b : Bool) → Spares 15 (program w ps (cond b curve_order mean_order))
    go true = spares_program w ps curve_order 15 (lit< tt) refl
    go false = spares_program w ps mean_order 15 (lit< tt) refl
