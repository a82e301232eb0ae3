-- The answer of preparing a script, from what the checks find and from where host 0's walk ends. Assumes nothing.
use mathlib.Core.Path.{◌≡◌, refl, ap, ◌∙◌}
use mathlib.Core.List.{List, [], ◌++◌}
use Prim.Native.Nat.{ℕ, zero, suc, ◌+◌, ◌≤◌}
use native.Mathlib.Nat.{zero-add}
use native.Mathlib.Omega.{arith}
use lib.ListN.{length, take, drop}
use lib.Seq.{sets, sets-eq}
use Rattle.gates.specs.Steps.{Lane, origin}
use Rattle.gates.specs.Walk.{far}
use Rattle.gates.specs.Hosts.{Pair, deals}
use Rattle.gates.proofs.Needs.{far_used, deals_length}
use Rattle.jobs.specs.Job.{Fault}
use Rattle.calls.specs.Scripts.{Script, script_cost}
use Rattle.calls.specs.Lent.{dealer_fault}
use Rattle.calls.specs.Calls.{fresh, fresh2, Prepared, prepare_walk, script_deals, prepared, prepare}
use Rattle.walks.specs.Dealers.{Dealer, outset, deal_all, Room}
use Rattle.calls.proofs.Faults.{Enough, enough_lent}
use Rattle.walks.proofs.Preparing.{stands, dealt_whole}

module _ (σ : Script) (A B buf : List ℕ) where
  pub room_outset : (l1 l2 : Lane) → (dealer_fault σ A B buf).0 ≡ 0 → Room A B σ.steps (outset l1 l2 buf)
  room_outset l1 l2 e =
      let q : Enough (script_cost σ) A B buf = enough_lent σ A B buf e in
      record { a = omega arith; b = omega arith; deals = omega arith }

  module _ (r : Pair) where
    -- refused
    refused_by : (m n i : ℕ) (f : Fault) → (n, i) ≡ f → f.0 ≡ m → (n ≡ 0 → ⊥)
        → ◌≡◌ {A = Prepared} (record { number = n; index = i; deals = 0; masks = r; buffer = buf }) (prepared m f σ A B buf r)
    unfolding prepared
    refused_by zero n i f e z h = absurd (h (ap (λ (x : Fault). x.0) e ∙ z))
    refused_by (suc m) n i f e z h = λ t. record { number = (e t).0; index = (e t).1; deals = 0; masks = r; buffer = buf }

    pub refused : (n i : ℕ) → (n, i) ≡ dealer_fault σ A B buf → (n ≡ 0 → ⊥)
        → ◌≡◌ {A = Prepared} (record { number = n; index = i; deals = 0; masks = r; buffer = buf }) (prepare σ A B buf r)
    unfolding prepare
    refused n i e h = refused_by _ n i (dealer_fault σ A B buf) e refl h

    -- ---- where the walk ends

    abbrev ds : List ℕ
    ds = script_deals σ A B r

    walked : deal_all A B σ.steps (outset (fresh r.0) (fresh r.1) buf)
        ≡ stands (far σ.steps origin) (prepare_walk σ A B r).state (sets buf 0 ds)
    unfolding prepare_walk script_deals
    walked = dealt_whole A B σ.steps origin (fresh2 r) [] buf

    as_many : length ds ≡ (script_cost σ).deals
    unfolding script_deals
    as_many = deals_length A B σ.steps origin (fresh2 r)

    counted : (far σ.steps origin).deals ≡ length ds
    counted = omega (arith, (far_used σ.steps origin).deals, as_many)

    written : length ds ≤ length buf → sets buf 0 ds ≡ ds ++ drop (length ds) buf
    written h = let l : 0 + length ds ≤ length buf = omega arith in sets-eq ds buf 0 l ∙ rw zero-add

    -- the code's answer, with its lanes, the registers that it keeps of them, and the buffer
    module _ (s : Dealer) (f1 f2 : Lane) (e : (dealer_fault σ A B buf).0 ≡ 0) (g1 : f1 ≡ fresh r.0) (g2 : f2 ≡ fresh r.1)
        (h : s ≡ deal_all A B σ.steps (outset f1 f2 buf)) where
      ended : s ≡ stands (far σ.steps origin) (prepare_walk σ A B r).state (sets buf 0 ds)
      ended = h ∙ rw (g1, g2) walked

      pub dealt_count : s.deals ≡ (script_cost σ).deals
      dealt_count = ap (λ (x : Dealer). x.deals) ended ∙ counted ∙ as_many

      pub finished : (k1 k2 : List ℕ) → k1 ≡ take σ.slots s.l1 → k2 ≡ take σ.slots s.l2
          → ◌≡◌ {A = Prepared} (record { number = 0; index = 0; deals = s.deals; masks = (k1, k2); buffer = s.buffer })
          (prepare σ A B buf r)
      unfolding prepare prepared
      finished k1 k2 e1 e2 =
          let q : Enough (script_cost σ) A B buf = enough_lent σ A B buf e in
          let m1 : k1 ≡ take σ.slots (prepare_walk σ A B r).state.0 = e1 ∙ ap (λ (x : Dealer). take σ.slots x.l1) ended in
          let m2 : k2 ≡ take σ.slots (prepare_walk σ A B r).state.1 = e2 ∙ ap (λ (x : Dealer). take σ.slots x.l2) ended in
          let n : s.deals ≡ length ds = ap (λ (x : Dealer). x.deals) ended ∙ counted in
          let b : s.buffer ≡ ds ++ drop (length ds) buf = ap (λ (x : Dealer). x.buffer) ended ∙ written (omega (arith, as_many)) in
          rw e (λ t. record { number = 0; index = 0; deals = n t; masks = (m1 t, m2 t); buffer = b t })
