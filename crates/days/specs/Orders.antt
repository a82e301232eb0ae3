-- How the hosts' code runs an order of a day: as one order of a job, on the 24 slots of a state. While it runs, the
-- share of its quarter stands in slot 15, a register that no order of a day writes. What the calls give is defined
-- without all this (DayCalls.antt). Assumes nothing.
use Rattle.std.specs.Prelude.{Bool, true, cond, List, [], ◌∷◌, ◌++◌, ℕ, ltb, set, replicate}
use Rattle.words.specs.Words.{add, mul}
use Rattle.gates.specs.Gates.{Gate, Add, Scale}
use Rattle.gates.specs.Steps.{Lane, at}
use Rattle.programs.specs.declared.Order.{Order}
use Rattle.programs.specs.Programs.{t_slot, acc_slot}
use Rattle.days.specs.DayCalls.{firsts, seconds}

-- the curve of a quarter, from slot 15 into slot acc; the truncation of the mean, from slot acc into register 0
abbrev pub curve_order : Order
curve_order = record { kind = 10; target = acc_slot; source = 15; fourth = 0 }

abbrev pub mean_order : Order
mean_order = record { kind = 8; target = 0; source = acc_slot; fourth = 16 }

unfoldable pub own_order : (order : ℕ) → Order
own_order o = cond (ltb o 96) curve_order mean_order

-- whether it is run: R-6, "A quarter left out is run by no host"; f tells which count
unfoldable pub is_run : (f : ℕ → Bool) (order : ℕ) → Bool
is_run f o = cond (ltb o 96) (f o) true

-- its four words
unfoldable pub order_words : (order : ℕ) → List ℕ
order_words o = (own_order o).kind ∷ (own_order o).target ∷ (own_order o).source ∷ (own_order o).fourth ∷ []

-- a word in slot 15
abbrev pub with_share : (word : ℕ) → Lane → Lane
with_share v l = set l 15 v

-- before the mean's truncation: "It multiplies the sum by" the factor
unfoldable pub entered : (w by order : ℕ) → Lane → Lane
entered w k o l = cond (ltb o 96) l (set l acc_slot (mul w (at l 0) k))

-- "as a quarter ends, 0 gets the sum .. and 1 the count"
abbrev pub summed : (w : ℕ) → Lane → Lane
summed w l = set l 0 (add w (at l 0) (at l acc_slot))

abbrev pub counted : (w : ℕ) → Lane → Lane
counted w l = set l 1 (add w (at l 1) (at l t_slot))

unfoldable pub left : (w order : ℕ) → Lane → Lane
left w o l = cond (ltb o 96) (counted w (summed w l)) l

-- ---- the gates of the day's order around those of the code's own

unfoldable pub front : (by order : ℕ) → List Gate
front k o = cond (ltb o 96) [] (Scale acc_slot 0 k ∷ [])

unfoldable pub back : (order : ℕ) → List Gate
back o = cond (ltb o 96) (Add 0 0 acc_slot ∷ Add 1 1 t_slot ∷ []) []

-- ---- the day's lane: the code's lane c with k in slot 15, and the tail behind, a host's shares and eight slots of 0

unfoldable pub within : (k : ℕ) (tail c : Lane) → Lane
within k tail c = set (c ++ tail) 15 k

unfoldable pub first_tail : (shares : List ℕ) → Lane
first_tail S = firsts S ++ replicate 8 0

unfoldable pub second_tail : (shares : List ℕ) → Lane
second_tail S = seconds S ++ replicate 8 0
