-- Document 01, "House table by hand": its bold cases, and those that R-1 changes, in every run and from the definitions
-- alone. Assumes nothing.
use Rattle.std.specs.Prelude.{◌≡◌, List, [], ◌∷◌, map, ℕ, ◌-◌, ◌^◌, ◌≤◌, ℤ, pos, neg_ℤ}
use Rattle.words.specs.Signed.{floor, signed, wrap}
use Rattle.tables.specs.Table.{rows, house}
use Rattle.curves.specs.Curve.{scaled}
use Rattle.programs.specs.declared.Order.{Order}
use Rattle.programs.specs.Opens.{order_value}
use Rattle.runs.specs.Runs.{Setting, staged, World}
use Rattle.runs.specs.Orders.{order_of, source_mask, reading, opens, Finishes}
use Rattle.demands.specs.Demand3.{Exact}

-- "Exact mode: -2^30 gives 0; 200 gives 0; 201 gives 0; 202 gives 1; 455 gives 249; 456 gives 250; 3571 gives 4248;
-- 3572 gives 4249": what the source reads, and what the order opens
abbrev pub curve_cases : List (ℤ × ℤ)
curve_cases =
    (neg_ℤ (pos (2 ^ 30)), pos 0) ∷ (pos 200, pos 0) ∷ (pos 201, pos 0) ∷ (pos 202, pos 1) ∷ (pos 455, pos 249)
    ∷ (pos 456, pos 250) ∷ (pos 3571, pos 4248) ∷ (pos 3572, pos 4249) ∷ []

-- R-1: "The cases 5000 and 2^30 - 1 now open -1", in both modes; and so does the first count above the last r
abbrev pub above_cases : List (ℤ × ℤ)
above_cases = (pos 3573, neg_ℤ (pos 1)) ∷ (pos 5000, neg_ℤ (pos 1)) ∷ (pos (2 ^ 30 - 1), neg_ℤ (pos 1)) ∷ []

-- "Kind 7, x = 5, k = 2: L = 2 gives 1; L = 3 gives 2": the mask L, and what the order opens
abbrev pub one_bit_cases : List (ℕ × ℤ)
one_bit_cases = (2, pos 1) ∷ (3, pos 2) ∷ []

-- "Kind 8: -5, k = 1 gives -3; -1, k = 31 gives -1": what the source reads, k, and what the order opens
abbrev pub exact_cases : List (ℤ × ℕ × ℤ)
exact_cases = (neg_ℤ (pos 5), 1, neg_ℤ (pos 3)) ∷ (neg_ℤ (pos 1), 31, neg_ℤ (pos 1)) ∷ []

-- ---- in every run that finishes the order

-- a curve in exact mode on the house table
abbrev pub CurveOpens : ℤ × ℤ → Type 0
CurveOpens c =
    (S : Setting) (q : ℕ) (v : World) → Finishes 32 (staged 32 S) q v → Exact S q → S.table ≡ house
    → reading 32 S q ≡ c.0 → opens 32 S v q ≡ (0, c.1)

-- .. in either mode
abbrev pub AboveOpens : ℤ × ℤ → Type 0
AboveOpens c =
    (S : Setting) (q : ℕ) (v : World) → Finishes 32 (staged 32 S) q v → (order_of S q).kind ≡ 10
    → S.table ≡ house
    → reading 32 S q ≡ c.0 → opens 32 S v q ≡ (0, c.1)

-- order q truncates by k
pub record Truncates (kind k : ℕ) (S : Setting) (q : ℕ) : Type 0 where
  pub is_kind : (order_of S q).kind ≡ kind
  pub shift : (order_of S q).fourth ≡ k

-- L is the mask of its source, just before it
abbrev pub OneBitOpens : ℕ × ℤ → Type 0
OneBitOpens c = (S : Setting) (q : ℕ) (v : World) → Finishes 32 (staged 32 S) q v → Truncates 7 2 S q
    → reading 32 S q ≡ pos 5 → source_mask 32 S q ≡ c.0 → opens 32 S v q ≡ (0, c.1)

abbrev pub ExactOpens : ℤ × ℕ × ℤ → Type 0
ExactOpens c = (S : Setting) (q : ℕ) (v : World) → Finishes 32 (staged 32 S) q v → Truncates 8 c.1 S q
    → reading 32 S q ≡ c.0 → opens 32 S v q ≡ (0, c.2)

abbrev pub Each : {A : Type 0} → (A → Type 0) → List A → Type 0
Each P [] = Unit {0}
Each P (c ∷ cs) = P c × Each P cs

-- ---- from the definitions alone

-- Y on the house table
abbrev pub house_Y : ℤ → ℤ
house_Y x = scaled (rows house) x

-- what an order of this kind with fourth word c gives on the house table, where its source reads x under the mask L
abbrev pub gives : (kind c : ℕ) → ℤ → (L : ℕ) → ℤ
gives kind c x L =
    let o : Order = record { kind = kind; target = 0; source = 0; fourth = c } in
    signed 32 (order_value 32 (rows house) o (wrap 32 x) 0 L 0)

pub record ByHand : Type 0 where
  pub curves : Each CurveOpens curve_cases
  pub aboves : Each AboveOpens above_cases
  pub one_bits : Each OneBitOpens one_bit_cases
  pub exacts : Each ExactOpens exact_cases
  pub curves_defined : map (λ c. gives 10 0 c.0 0) curve_cases ≡ map (λ c. c.1) curve_cases
  pub aboves_defined : (mode : ℕ) → mode ≤ 1
      → map (λ c. gives 10 mode c.0 0) above_cases ≡ map (λ c. c.1) above_cases
  pub one_bits_defined : map (λ c. gives 7 2 (pos 5) c.0) one_bit_cases ≡ map (λ c. c.1) one_bit_cases
  pub exacts_defined : map (λ c. gives 8 c.1 c.0 0) exact_cases ≡ map (λ c. c.2) exact_cases
  -- "opens exactly floor(Y / 4096) in exact mode"
  pub floors : map (λ c. floor (house_Y c.0) 4096) curve_cases ≡ map (λ c. c.1) curve_cases
  -- "201 .. (Y 4000); 202 .. (Y 8000); .. 3572 .. (Y 17407900, Y mod 4096 3996)"
  pub sums : map house_Y (pos 201 ∷ pos 202 ∷ pos 3572 ∷ []) ≡ pos 4000 ∷ pos 8000 ∷ pos 17407900 ∷ []
  pub remainder : wrap 12 (house_Y (pos 3572)) ≡ 3996
