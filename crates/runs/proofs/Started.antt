-- A host that has started was lent an accepted script, with lists that are long enough. Assumes nothing.
use mathlib.Core.Path.{◌≡◌, refl, subst}
use mathlib.Core.Bool.{Bool, true, false, cond}
use mathlib.Core.List.{List}
use Prim.Native.Nat.{ℕ, ◌≤◌, ◌<◌}
use native.Mathlib.Nat.{not-suc-le-zero}
use native.Mathlib.Omega.{arith}
use borrow.Author.Tests.{eqb-true, eqb-false, ltb-false}
use lib.Dec.{eqb, ltb}
use lib.ListN.{length}
use Rattle.jobs.specs.Job.{Fault, short_a}
use Rattle.calls.specs.Scripts.{script_cost}
use Rattle.calls.specs.Lent.{or_else, lists_fault, lent_fault}
use Rattle.runs.specs.Runs.{Stage, waiting, going, World, world, Call, lent1, held, Completes, prepares, starts1, starts2, hears1}
use Rattle.runs.specs.Runs.{hears2, given_out, Run, begin, complete, refuse, order1}
use Rattle.runs.proofs.Refusals.{start_none}
use Rattle.runs.proofs.Kept.{refuses_nothing, kept}

pub or_else_none : (f : Fault) (n : ℕ) → (or_else f n).0 ≡ 0 → (f.0 ≡ 0) × (n ≡ 0)
unfolding or_else
or_else_none f n e = go (eqb f.0 0) refl e
  where
    go : (b : Bool) → eqb f.0 0 ≡ b → (cond b (n, 0) f).0 ≡ 0 → (f.0 ≡ 0) × (n ≡ 0)
    go true t h = (eqb-true f.0 0 t, h)
    go false t h = absurd (eqb-false f.0 0 t h)

abbrev Gone : World → Type 0
Gone (world z buf (waiting s) two) = ⊥
Gone (world z buf (going s t said) two) = Unit

-- what host 1's starting was checked for
pub record Checked (S : Stage) : Type 0 where
  pub script : S.script.fault.0 ≡ 0
  pub a : (script_cost S.script).a ≤ length S.A

checked_of : (S : Stage) (D : List ℕ) → (lent_fault (lent1 S D)).0 ≡ 0 → Checked S
unfolding lent_fault lists_fault short_a
checked_of S D e =
    let p = or_else_none S.script.fault _ e in
    record { script = p.0; a = go (ltb (length S.A) (script_cost S.script).a) refl p.1 }
  where
    go : (b : Bool) → ltb (length S.A) (script_cost S.script).a ≡ b → ◌≡◌ {A = ℕ} (cond b 6 0) 0
        → (script_cost S.script).a ≤ length S.A
    go true t h = absurd (omega arith)
    go false t h = ltb-false (length S.A) (script_cost S.script).a t

module _ (S : Stage) where
  completed : {c : Call} {v v' : World} → Completes S c v v' → (Gone v → Checked S) → Gone v' → Checked S
  completed (prepares {one = waiting s} e) h g = absurd g
  completed (prepares {one = going s t said} e) h g = h tt
  completed (starts1 {s = s} D e) h g = checked_of S D (start_none (lent1 S D) (held S s) e).0
  completed (starts2 {one = waiting s} D d e) h g = absurd g
  completed (starts2 {one = going s t said} D d e) h g = h tt
  completed (hears1 D v m e) h g = h tt
  completed (hears2 D d v m e) h g = h tt

  gone : {cs : List Call} {v : World} → Run S cs v → Gone v → Checked S
  gone (begin (given_out h k)) g = absurd g
  gone (complete r c) g = completed c (λ h. gone r h) g
  gone (refuse r c) g = gone r (subst Gone (refuses_nothing S (kept S r) c) g)

  -- a run in which host 1 is past an order is one of an accepted script
  pub past_checked : {cs : List Call} (v : World) (q : ℕ) → Run S cs v → q < order1 v → Checked S
  past_checked (world z buf (waiting s) two) q r l = absurd (not-suc-le-zero l)
  past_checked (world z buf (going s t said) two) q r l = gone r tt
