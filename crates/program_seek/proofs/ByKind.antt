-- The program of an order by its kind, and where the program of a single exchange has it. Assumes nothing.
use mathlib.Core.Path.{◌≡◌, refl, sym, ap, ◌∙◌}
use mathlib.Core.Logic.{◌⊎◌, inl, inr}
use mathlib.Core.List.{List, [], ◌∷◌}
use Prim.Native.Nat.{ℕ, zero, suc, ◌<◌}
use native.Mathlib.Omega.{arith}
use lib.ListN.{get_or}
use Rattle.std.specs.Prelude.{Option, Some, None}
use Rattle.gates.specs.Gates.{Mul, Refresh}
use Rattle.gates.specs.Meaning.{meaning}
use Rattle.gates.specs.Speech.{shape}
use Rattle.tables.specs.Table.{Row}
use Rattle.std.proofs.lemmas.List.{get_or_past}
use Rattle.programs.specs.declared.Order.{Order}
use Rattle.programs.specs.declared.kind.Kind.{Kind}
use Rattle.programs.specs.declared.kind.Kind.TheVariants.{Add, Subtract, AddConstant, TimesConstant, Product, Refresh, Slack}
use Rattle.programs.specs.Kinds.{kind_number}
use Rattle.programs.specs.Programs.{slack_program}
use Rattle.programs.specs.Orders.{kinds, program}
use Rattle.programs.specs.declared.GatePlace.{GatePlace}
use Rattle.programs.specs.Seek.{gate_place, sought_at, sought}

-- ---- a program of one exchange

abbrev Once : Option GatePlace → (w n i a deals : ℕ) → Type 0
Once s w n i a deals =
    ((d x y : ℕ) → s ≡ sought w (Mul d x y ∷ []) n i a deals) × ((d x : ℕ) → s ≡ sought w (Refresh d x ∷ []) n i a deals)

module _ (w n i a deals : ℕ) where
  pub once : n ≡ 0 → Once (Some (gate_place i a deals)) w n i a deals
  unfolding sought sought_at meaning shape
  once z = (λ d x y. rw z, λ d x. rw z)

pub not_once : (w n i a deals : ℕ) → (n ≡ 0 → ⊥) → Once None w n i a deals
unfolding sought sought_at meaning shape
not_once w zero i a deals f = absurd (f refl)
not_once w (suc n) i a deals f = (λ d x y. refl, λ d x. refl)

-- ---- an order's program, by the kind that its first word is the number of

pub above : (w : ℕ) (ps : List Row) (o : Order) (n : ℕ) → 10 < o.kind → None ≡ sought w (program w ps o) n 0 0 0
unfolding program kinds sought
above w ps o n h = rw (get_or_past (kinds w ps o.target o.source o.fourth) o.kind [] (omega arith))

module _ (w : ℕ) (ps : List Row) (o : Order) (n : ℕ) (k : Kind) (e : kind_number k ≡ o.kind) where
  abbrev finds : ℕ → Option GatePlace
  finds j = sought w (get_or (kinds w ps o.target o.source o.fourth) j []) n 0 0 0

  pub of_kind : (j : Kind) → k ≡ j → (s : Option GatePlace) → s ≡ finds (kind_number j) → s ≡ sought w (program w ps o) n 0 0 0
  unfolding program
  of_kind j h s q = q ∙ ap finds (ap kind_number (sym h) ∙ e)

  pub once_of : (s : Option GatePlace) → Once s w n 0 0 0 → (k ≡ Product) ⊎ (k ≡ Refresh) → s ≡ sought w (program w ps o) n 0 0 0
  unfolding kinds
  once_of s p (inl h) = of_kind Product h s (p.0 _ _ _)
  once_of s p (inr h) = of_kind Refresh h s (p.1 _ _)

  -- neither a product, a refresh, a truncation nor a ReLU
  pub no_exchange : (k ≡ Add) ⊎ ((k ≡ Subtract) ⊎ ((k ≡ AddConstant) ⊎ ((k ≡ TimesConstant) ⊎ (k ≡ Slack))))
      → None ≡ sought w (program w ps o) n 0 0 0
  unfolding kinds slack_program sought sought_at meaning shape
  no_exchange (inl h) = of_kind Add h None refl
  no_exchange (inr (inl h)) = of_kind Subtract h None refl
  no_exchange (inr (inr (inl h))) = of_kind AddConstant h None refl
  no_exchange (inr (inr (inr (inl h)))) = of_kind TimesConstant h None refl
  no_exchange (inr (inr (inr (inr h)))) = of_kind Slack h None refl
