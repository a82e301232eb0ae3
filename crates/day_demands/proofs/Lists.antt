-- A day list has the words that it is made of: its first words, its second words, and their number. Assumes nothing.
use mathlib.Core.Path.{◌≡◌, refl, ap}
use mathlib.Core.List.{[], ◌∷◌}
use Prim.Native.Nat.{◌*◌}
use native.Mathlib.Omega.{arith}
use lib.ListN.{length}
use Rattle.gates.specs.Steps.{Lane}
use Rattle.days.specs.DayCalls.{firsts, seconds}
use Rattle.day_demands.specs.Settings.{day_list}

pub list_length : (xs ys : Lane) → length xs ≡ length ys → length (day_list xs ys) ≡ 2 * length xs
unfolding day_list
list_length [] ys e = refl
list_length (x ∷ xs) [] e = absurd (omega (arith, e))
list_length (x ∷ xs) (y ∷ ys) e = omega (arith, list_length xs ys (omega (arith, e)))

pub firsts_list : (xs ys : Lane) → length xs ≡ length ys → firsts (day_list xs ys) ≡ xs
unfolding day_list firsts
firsts_list [] ys e = refl
firsts_list (x ∷ xs) [] e = absurd (omega (arith, e))
firsts_list (x ∷ xs) (y ∷ ys) e = ap (λ (l : Lane). x ∷ l) (firsts_list xs ys (omega (arith, e)))

pub seconds_list : (xs ys : Lane) → length xs ≡ length ys → seconds (day_list xs ys) ≡ ys
unfolding day_list seconds
seconds_list [] [] e = refl
seconds_list [] (y ∷ ys) e = absurd (omega (arith, e))
seconds_list (x ∷ xs) [] e = absurd (omega (arith, e))
seconds_list (x ∷ xs) (y ∷ ys) e = ap (λ (l : Lane). y ∷ l) (seconds_list xs ys (omega (arith, e)))
