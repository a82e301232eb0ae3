-- Tallies: the counts they stand for, and their sums. Assumes nothing.
use mathlib.Core.Path.{◌≡◌, refl, ap, ◌∙◌}
use Prim.Native.Nat.{ℕ, ◌+◌, ◌*◌, ◌≤◌, ◌<◌}
use native.Mathlib.Omega.{arith}
use Rattle.gates.specs.Costs.{cost_of, plus}
use Rattle.gates.proofs.Needs.{cost_path}
use Rattle.jobs.specs.CostTable.{curve_cost}
use Rattle.jobs.proofs.Sums.{Below}
use Rattle.job_check.specs.Tally.{tallied}

-- an empty tally
pub nothing : tallied 0 ≡ cost_of 0 0 0 0
unfolding tallied
nothing = refl

-- a tally of these counts
abbrev pub tally : (deals a b : ℕ) → ℕ
tally d a b = d * 1099511627776 + a * 1048576 + b

-- counts below 2^20 come back from their tally
pub taken_apart : (d a b : ℕ) → a < 1048576 → b < 1048576 → tallied (tally d a b) ≡ cost_of d (2 * b) a b
unfolding tallied
taken_apart d a b ha hb = cost_path (omega arith) (omega arith) (omega arith) (omega arith)

-- ---- a curve's: a row's for each row, its truncation's, and those of R-1's steps

module _ (n : ℕ) (few : n ≤ 16) where
  pub exact_tally : tallied (n * tally 12 24 12 + tally 13 25 12 + tally 12 24 12) ≡ curve_cost 0 n
  unfolding curve_cost
  exact_tally =
      let e : n * tally 12 24 12 + tally 13 25 12 + tally 12 24 12 ≡ tally (12 * n + 25) (24 * n + 49) (12 * n + 24) = omega arith in
      ap tallied e ∙ taken_apart (12 * n + 25) (24 * n + 49) (12 * n + 24) (omega arith) (omega arith)
      ∙ cost_path refl (omega arith) refl refl

  pub one_bit_tally : tallied (n * tally 12 24 12 + tally 2 4 2 + tally 12 24 12) ≡ curve_cost 1 n
  unfolding curve_cost
  one_bit_tally =
      let e : n * tally 12 24 12 + tally 2 4 2 + tally 12 24 12 ≡ tally (12 * n + 14) (24 * n + 28) (12 * n + 14) = omega arith in
      ap tallied e ∙ taken_apart (12 * n + 14) (24 * n + 28) (12 * n + 14) (omega arith) (omega arith)
      ∙ cost_path refl (omega arith) refl refl

-- ---- sums

-- a tally, by the counts it stands for
apart : (t : ℕ) → t ≡ tally (tallied t).deals (tallied t).a (tallied t).b
unfolding tallied
apart t = omega arith

module _ (x y : ℕ) (few : Below (tallied x) 63) (one : Below (tallied y) 1) where
  pub sum_fits : x + y < 18446744073709551616
  sum_fits = omega (arith, apart x, apart y, few, one)

  pub tallied_sum : tallied (x + y) ≡ plus (tallied x) (tallied y)
  unfolding tallied plus
  tallied_sum =
      let d : ℕ = (tallied x).deals + (tallied y).deals in
      let a : ℕ = (tallied x).a + (tallied y).a in
      let b : ℕ = (tallied x).b + (tallied y).b in
      let e : x + y ≡ tally d a b = omega (arith, apart x, apart y) in
      ap tallied e ∙ taken_apart d a b (omega (arith, few, one)) (omega (arith, few, one)) ∙ cost_path refl (omega arith) refl refl
