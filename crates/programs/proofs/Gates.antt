-- What each gate opens, over the operations of numbers and of bits. Assumes nothing.
use mathlib.Core.Path.{◌≡◌, refl}
use Prim.Native.Nat.{ℕ, ◌^◌, ◌<◌}
use Rattle.words.specs.Ring.{Ops}
use Rattle.words.proofs.Solver.{exprs, Expr}
use Rattle.words.proofs.Below.{Carrier, solve_below}
use Rattle.shares.specs.Gates as S
use Rattle.shares.specs.Gates.{Share, value}
use Rattle.gates.specs.Steps.{Lane, at}
use Rattle.gates.specs.Hosts.{Triple}

-- every word of a lane is below 2^w
abbrev pub Fits : ℕ → Lane → Type 0
Fits w l = (i : ℕ) → at l i < 2 ^ w

pub record FitsAll (w : ℕ) (j : Triple) : Type 0 where
  pub m : Fits w j.0
  pub l1 : Fits w j.1
  pub l2 : Fits w j.2

-- ---- linear steps, over any carrier: what the three lanes' words open

abbrev vars : Expr → Expr → Expr → Share Expr
vars m l1 l2 = record { m = m; l1 = l1; l2 = l2 }

module _ (w : ℕ) (O : Ops ℕ) (C : Carrier w O) where
  abbrev open3 : (m l1 l2 : ℕ) → ℕ
  open3 m l1 l2 = value O (record { m = m; l1 = l1; l2 = l2 })

  pub sum_opens : (ma : ℕ) → ma < 2 ^ w → (a1 : ℕ) → a1 < 2 ^ w → (a2 : ℕ) → a2 < 2 ^ w → (mb : ℕ) → mb < 2 ^ w → (b1 : ℕ) → b1 < 2 ^ w
      → (b2 : ℕ) → b2 < 2 ^ w
      → open3 (O.add ma mb) (O.add a1 b1) (O.add a2 b2) ≡ O.add (open3 ma a1 a2) (open3 mb b1 b2)
  sum_opens =
      solve_below w O C 6
      (λ ma a1 a2 mb b1 b2. (
        value exprs (vars (exprs.add ma mb) (exprs.add a1 b1) (exprs.add a2 b2)),
        exprs.add (value exprs (vars ma a1 a2)) (value exprs (vars mb b1 b2)),
      )) refl

  pub difference_opens : (ma : ℕ) → ma < 2 ^ w → (a1 : ℕ) → a1 < 2 ^ w → (a2 : ℕ) → a2 < 2 ^ w → (mb : ℕ) → mb < 2 ^ w → (b1 : ℕ)
      → b1 < 2 ^ w → (b2 : ℕ) → b2 < 2 ^ w
      → open3 (O.sub ma mb) (O.sub a1 b1) (O.sub a2 b2) ≡ O.sub (open3 ma a1 a2) (open3 mb b1 b2)
  difference_opens =
      solve_below w O C 6
      (λ ma a1 a2 mb b1 b2. (
        value exprs (vars (exprs.sub ma mb) (exprs.sub a1 b1) (exprs.sub a2 b2)),
        exprs.sub (value exprs (vars ma a1 a2)) (value exprs (vars mb b1 b2)),
      )) refl

  pub scale_opens : (m : ℕ) → m < 2 ^ w → (l1 : ℕ) → l1 < 2 ^ w → (l2 : ℕ) → l2 < 2 ^ w → (n : ℕ) → n < 2 ^ w
      → open3 (O.mul m n) (O.mul l1 n) (O.mul l2 n) ≡ O.mul (open3 m l1 l2) n
  scale_opens =
      solve_below w O C 4
      (λ m l1 l2 n. (value exprs (vars (exprs.mul m n) (exprs.mul l1 n) (exprs.mul l2 n)), exprs.mul (value exprs (vars m l1 l2)) n))
      refl

  pub plus_opens : (m : ℕ) → m < 2 ^ w → (l1 : ℕ) → l1 < 2 ^ w → (l2 : ℕ) → l2 < 2 ^ w → (n : ℕ) → n < 2 ^ w
      → open3 (O.add m n) l1 l2 ≡ O.add (open3 m l1 l2) n
  plus_opens =
      solve_below w O C 4 (λ m l1 l2 n. (value exprs (vars (exprs.add m n) l1 l2), exprs.add (value exprs (vars m l1 l2)) n)) refl

  pub known_opens : (v : ℕ) → v < 2 ^ w → open3 v O.nil O.nil ≡ v
  known_opens = solve_below w O C 1 (λ v. (value exprs (S.known exprs v), v)) refl

  pub deal_opens : (v : ℕ) → v < 2 ^ w → (a : ℕ) → a < 2 ^ w → value O (S.deal O v a) ≡ v
  deal_opens = solve_below w O C 2 (λ v a. (value exprs (S.deal exprs v a), v)) refl

  pub product_opens : (ma : ℕ) → ma < 2 ^ w → (a1 : ℕ) → a1 < 2 ^ w → (a2 : ℕ) → a2 < 2 ^ w → (mb : ℕ) → mb < 2 ^ w → (b1 : ℕ) → b1 < 2 ^ w
      → (b2 : ℕ) → b2 < 2 ^ w
      → (g1 : ℕ) → g1 < 2 ^ w → (l1 : ℕ) → l1 < 2 ^ w → (l2 : ℕ) → l2 < 2 ^ w
      → value O (S.product O (record { m = ma; l1 = a1; l2 = a2 }) (record { m = mb; l1 = b1; l2 = b2 }) g1 l1 l2)
      ≡ O.mul (open3 ma a1 a2) (open3 mb b1 b2)
  product_opens =
      solve_below w O C 9
      (λ ma a1 a2 mb b1 b2 g1 l1 l2. (
        value exprs (S.product exprs (vars ma a1 a2) (vars mb b1 b2) g1 l1 l2),
        exprs.mul (value exprs (vars ma a1 a2)) (value exprs (vars mb b1 b2)),
      )) refl

  pub known_product_opens : (v : ℕ) → v < 2 ^ w → (mb : ℕ) → mb < 2 ^ w → (b1 : ℕ) → b1 < 2 ^ w → (b2 : ℕ) → b2 < 2 ^ w
      → (l1 : ℕ) → l1 < 2 ^ w → (l2 : ℕ) → l2 < 2 ^ w
      → value O (S.known_product O v (record { m = mb; l1 = b1; l2 = b2 }) l1 l2) ≡ O.mul v (open3 mb b1 b2)
  known_product_opens =
      solve_below w O C 6
      (λ v mb b1 b2 l1 l2. (value exprs (S.known_product exprs v (vars mb b1 b2) l1 l2), exprs.mul v (value exprs (vars mb b1 b2)))) refl

  pub refresh_opens : (m : ℕ) → m < 2 ^ w → (a1 : ℕ) → a1 < 2 ^ w → (a2 : ℕ) → a2 < 2 ^ w → (l1 : ℕ) → l1 < 2 ^ w → (l2 : ℕ) → l2 < 2 ^ w
      → value O (S.refresh O (record { m = m; l1 = a1; l2 = a2 }) l1 l2) ≡ open3 m a1 a2
  refresh_opens =
      solve_below w O C 5 (λ m a1 a2 l1 l2. (value exprs (S.refresh exprs (vars m a1 a2) l1 l2), value exprs (vars m a1 a2))) refl
