-- Host 0 at one step: what it writes, by the step's shape, and what it has used then. Assumes nothing.
use mathlib.Core.Path.{◌≡◌, refl, ap, subst, sym, ◌∙◌}
use mathlib.Core.List.{List}
use Prim.Native.Nat.{ℕ, ◌+◌}
use native.Mathlib.Omega.{arith}
use lib.ListN.{length, set, length-set}
use Rattle.gates.specs.declared.Shape.{Shape}
use Rattle.gates.specs.declared.Shape.TheVariants.{Local, Dealing, Product, Undealt}
use Rattle.gates.specs.declared.Used.{Used}
use Rattle.gates.specs.Steps.{Lane, at, product, refresh, known_product, Step, local, deal, exchange, end}
use Rattle.gates.specs.Costs.{step_cost, used_at}
use Rattle.gates.specs.Hosts.{on_mask}
use Rattle.gates.specs.Speech.{dealt_word, shape}
use Rattle.walks.specs.Dealers.{Dealer, dealer, Holds, Counts, next_deal, shaped, dealing}

-- ---- its lanes and its buffer

-- the deal, with the next word x of A in hand
next_dealt : (A : List ℕ) (s : Dealer) (y : Step) {x v : ℕ} → x ≡ at A s.a → v ≡ dealt_word y x s.l1 s.l2 → v ≡ next_deal A y s
next_dealt A s y ex ev = ev ∙ ap (λ (n : ℕ). dealt_word y n s.l1 s.l2) ex

module _ (A B : List ℕ) (s : Dealer) (y : Step) {l1 l2 : Lane} where
  by_shape : (t : Shape) (buf : List ℕ) → t ≡ shape y → Holds (shaped A B t y s) l1 l2 buf → Holds (dealing A B y s) l1 l2 buf
  unfolding dealing
  by_shape t buf e h = subst (λ (u : Shape). Holds (shaped A B u y s) l1 l2 buf) e h

  pub holds_local : Local ≡ shape y → l1 ≡ on_mask y 0 s.l1 → l2 ≡ on_mask y 0 s.l2 → Holds (dealing A B y s) l1 l2 s.buffer
  holds_local e p q = by_shape Local _ e (p, q, refl)

  -- x is the next word of A, v the deal
  pub holds_deal : (d : ℕ) {x v : ℕ} {buf : List ℕ} → Dealing d ≡ shape y → x ≡ at A s.a → v ≡ dealt_word y x s.l1 s.l2
      → l1 ≡ set s.l1 d x → l2 ≡ set s.l2 d v → buf ≡ set s.buffer s.deals v → Holds (dealing A B y s) l1 l2 buf
  holds_deal d e ex ev p q r =
      let n = next_dealt A s y ex ev in
      by_shape (Dealing d) _ e (p ∙ ap (set s.l1 d) ex, q ∙ ap (set s.l2 d) n, r ∙ ap (set s.buffer s.deals) n)

  -- and n1 the word of A after it, n2 the next word of B
  pub holds_product : (d : ℕ) {x v n1 n2 : ℕ} {buf : List ℕ} → Product d ≡ shape y → x ≡ at A s.a
      → v ≡ dealt_word y x s.l1 s.l2 → n1 ≡ at A (s.a + 1) → n2 ≡ at B s.b
      → l1 ≡ set s.l1 d n1 → l2 ≡ set s.l2 d n2 → buf ≡ set s.buffer s.deals v → Holds (dealing A B y s) l1 l2 buf
  holds_product d e ex ev e1 e2 p q r =
      by_shape (Product d) _ e
      (p ∙ ap (set s.l1 d) e1, q ∙ ap (set s.l2 d) e2, r ∙ ap (set s.buffer s.deals) (next_dealt A s y ex ev))

  pub holds_undealt : (d : ℕ) {n1 n2 : ℕ} → Undealt d ≡ shape y → n1 ≡ at A s.a → n2 ≡ at B s.b
      → l1 ≡ set s.l1 d n1 → l2 ≡ set s.l2 d n2 → Holds (dealing A B y s) l1 l2 s.buffer
  holds_undealt d e e1 e2 p q = by_shape (Undealt d) _ e (p ∙ ap (set s.l1 d) e1, q ∙ ap (set s.l2 d) e2, refl)

-- ---- what it has used

-- with what a step uses
abbrev more : Dealer → Used → Used
more s u = record { a = s.a + u.a; b = s.b + u.b; deals = s.deals + u.deals }

counts_at : (A B : List ℕ) (x : Step) (s : Dealer) → Counts (dealing A B x s) (more s (used_at x))
unfolding dealing shape used_at step_cost
counts_at A B (local d m l) s = (omega arith, omega arith, omega arith)
counts_at A B (deal d f) s = (refl, omega arith, refl)
counts_at A B (exchange d (product O p q)) s = (refl, refl, refl)
counts_at A B (exchange d (refresh O p)) s = (refl, refl, omega arith)
counts_at A B (exchange d (known_product O p q)) s = (refl, refl, omega arith)
counts_at A B end s = (omega arith, omega arith, omega arith)

pub counts_behind : (A B : List ℕ) (x : Step) (s : Dealer) (u : Used) → u ≡ used_at x → Counts (dealing A B x s) (more s u)
counts_behind A B x s u e = subst (λ (v : Used). Counts (dealing A B x s) (more s v)) (sym e) (counts_at A B x s)

-- ---- both

-- host 0, by its counts, its lanes and its buffer
pub joined : (s : Dealer) (u : Used) (l1 l2 : Lane) (buf : List ℕ) → Counts s u → Holds s l1 l2 buf → dealer u l1 l2 buf ≡ s
joined s u l1 l2 buf c h = λ i. record { a = c.0 i; b = c.1 i; deals = c.2 i; l1 = h.0 i; l2 = h.1 i; buffer = h.2 i }

pub size_kept : (A B : List ℕ) (x : Step) (s : Dealer) → length (dealing A B x s).buffer ≡ length s.buffer
unfolding dealing shape
size_kept A B (local d m l) s = refl
size_kept A B (deal d f) s = simp length-set
size_kept A B (exchange d (product O p q)) s = simp length-set
size_kept A B (exchange d (refresh O p)) s = refl
size_kept A B (exchange d (known_product O p q)) s = refl
size_kept A B end s = refl
