-- The quarters that are left out between two orders of a day: a walk goes by them, and uses nothing. Assumes nothing.
use mathlib.Core.Path.{◌≡◌, refl, sym, ap, ◌∙◌}
use mathlib.Core.Bool.{Bool, true, false, cond}
use mathlib.Core.List.{List, ◌∷◌}
use Prim.Native.Nat.{ℕ, zero, suc, ◌+◌, ◌-◌, ◌≤◌, ◌<◌}
use native.Mathlib.Omega.{arith}
use borrow.Author.Tests.{ltb-true}
use lib.Dec.{ltb}
use lib.ListN.{drop}
use Rattle.tables.specs.Table.{Row}
use Rattle.gates.specs.Steps.{Step, end, past}
use Rattle.gates.specs.Meaning.{job_steps}
use Rattle.gates.specs.Walk.{far}
use Rattle.gates.specs.Hosts.{Pair}
use Rattle.calls.specs.Lent.{Worker, worker_with}
use Rattle.walks.specs.Workers.{cursor}
use Rattle.walks.specs.Halts.{reported}
use Rattle.walks.proofs.Halts.{passes_end}
use Rattle.walks.proofs.Workers.{acts_end}
use Rattle.calendars.specs.Ranges.{next}
use Rattle.calendars.proofs.Counting.{next_from, next_skips, next_holds}
use Rattle.days.specs.Day.{day_gates}
use Rattle.days.specs.Orders.{is_run}
use Rattle.days.proofs.Orders.{steps_idle}

-- the order from q on that is run next, with those before it left out
pub next_run : (f : ℕ → Bool) (q r : ℕ) → q ≤ 96 → r ≡ next f q (96 - q)
    → (q ≤ r) × (r ≤ 96) × (is_run f r ≡ true) × ((k : ℕ) → q ≤ k → k < r → f k ≡ false)
unfolding is_run
next_run f q r l e =
    let n = next_from f q (96 - q) in
    let w : q + (96 - q) ≡ 96 = omega arith in (
      omega (arith, n.0, e),
      omega (arith, n.1, e),
      go (ltb r 96) refl,
      λ k u v. next_skips f q (96 - q) k u (omega (arith, v, e)),
    )
  where
    go : (b : Bool) → ltb r 96 ≡ b → cond b (f r) true ≡ true
    go true t =
        let u : r < 96 = ltb-true r 96 t in
        ap f e ∙ next_holds f q (96 - q) (omega (arith, u, e))
    go false t = refl

module _ (h : ℕ) (M D : List ℕ) (w : ℕ) (f : ℕ → Bool) (ps : List Row) where
  abbrev P : Worker
  P = worker_with h M D

  -- the day's steps from order o on
  abbrev from : ℕ → List Step
  from o = job_steps w (drop o (day_gates w f ps))

  -- from order o the walk stands where it stands from order p, with as much used behind all
  abbrev Reaches : (o p a b n : ℕ) → Type 0
  Reaches o p a b n =
      ((s : Pair) → reported P (from o) (cursor o 0 a b n) s ≡ reported P (from p) (cursor p 0 a b n) s)
      × (far (from o) (cursor o 0 a b n) ≡ far (from p) (cursor p 0 a b n))

  module _ (a b n : ℕ) where
    one_idle : (o : ℕ) → o < 96 → f o ≡ false → Reaches o (suc o) a b n
    unfolding far past
    one_idle o l e =
        let i = steps_idle w f ps o (omega arith) l e in (
          λ s. ap (λ (ss : List Step). reported P ss (cursor o 0 a b n) s) i
              ∙ passes_end P (from (suc o)) o 0 a b n s (acts_end h M D (cursor o 0 a b n) s),
          ap (λ (ss : List Step). far ss (cursor o 0 a b n)) i,
        )

    so_many : (k o : ℕ) → o + k ≤ 96 → ((q : ℕ) → o ≤ q → q < o + k → f q ≡ false) → Reaches o (o + k) a b n
    so_many zero o l out = let e : o + 0 ≡ o = omega arith in rw e (λ s. refl, refl)
    so_many (suc k) o l out =
        let x = one_idle o (omega arith) (out o (omega arith) (omega arith)) in
        let y = so_many k (suc o) (omega arith) (λ q u v. out q (omega arith) (omega arith)) in
        let e : o + suc k ≡ suc o + k = omega arith in
        rw e (λ s. x.0 s ∙ y.0 s, x.1 ∙ y.1)

  pub idle_walk : (o p : ℕ) → o ≤ p → p ≤ 96 → ((q : ℕ) → o ≤ q → q < p → f q ≡ false) → (a b n : ℕ) → Reaches o p a b n
  idle_walk o p l i out a b n =
      let e : o + (p - o) ≡ p = omega arith in
      rw e at (so_many a b n (p - o) o (omega arith) (λ q u v. out q u (omega arith)))
