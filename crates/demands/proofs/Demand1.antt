-- Demand 1, proved for preparation, starting and hearing: the number and the index of every job's calls, and that a
-- refused call changes nothing. Assumes nothing.
use mathlib.Core.Path.{◌≡◌, refl, sym, ap, ◌∙◌, subst}
use mathlib.Core.Logic.{◌≢◌}
use mathlib.Core.List.{List}
use Prim.Native.Nat.{ℕ, zero, suc}
use lib.ListN.{length}
use Rattle.tables.specs.Table.{rows}
use Rattle.gates.specs.Hosts.{Pair}
use Rattle.gates.specs.Costs.{Cost}
use Rattle.jobs.specs.Job.{Fault, orders, job_fault, job_gates, job_cost}
use Rattle.jobs.specs.CostTable.{table_counts}
use Rattle.jobs.specs.FirstFault.{Numbered, faultless}
use Rattle.jobs.proofs.FirstFault.{job_number, number_0}
use Rattle.jobs.proofs.CostTable.{cost_table}
use Rattle.jobs.proofs.Indices.{gates_length}
use Rattle.calls.specs.Scripts.{Script, job_script}
use Rattle.calls.proofs.Scripts.{job_made}
use Rattle.calls.specs.Lent.{Lent, lent, lent_fault, dealer_fault, worker_of}
use Rattle.calls.specs.Calls.{State, Answer, fresh, report, unless, given, start_walk, start, hear_walk, hearing_fault, found_of}
use Rattle.calls.specs.Calls.{resume, hear, prepared, prepare}
use Rattle.demands.specs.Conditions.{places_from, used_in, walks_places, Terms, Single}
use Rattle.demands.specs.Numbers.{Told, ToldPlaces}
use Rattle.demands.specs.Demand1.{terms_of, gate_terms, given_back, Demand1At, Demand1}
use Rattle.runs.proofs.Chain.{job_orders, job_orderly}
use Rattle.runs.proofs.Refusals.{start_state, hear_state, prepare_back}
use Rattle.demands.proofs.Placed.{gates_placed}
use Rattle.demands.proofs.Walked.{gates_walked, gates_all}
use Rattle.demands.proofs.Numbers.{numbers}

-- ---- a job's terms

module _ (w : ℕ) (job table : List ℕ) where
  told : (needs : Cost) → job_cost w job table ≡ needs → Told (job_script w job table) (terms_of w job table needs)
  unfolding job_cost
  told needs n =
      record {
        none = λ e. let p = (number_0 w job table).0 e in faultless p.0 p.1;
        some = λ k e. subst (λ (n : ℕ). Numbered w job table n (job_fault w job table).1) e ((job_number w job table _ _).0 refl);
        needs = n;
        places = ap (places_from 0 0) (job_made w job table) ∙ gates_placed w 0 (job_gates w job table);
        orders = job_orders w job table;
      }

  told_places : (needs : Cost) → ToldPlaces (job_script w job table) (terms_of w job table needs)
  told_places needs =
      record {
        walked = λ before behind d e p. gates_walked w (job_gates w job table) before behind d e (sym (job_made w job table) ∙ p);
        walked_all =
            ap used_in (job_made w job table) ∙ gates_all w (job_gates w job table)
            ∙ ap (λ (n : ℕ). walks_places w (job_gates w job table) (n, 0)) (gates_length w job table);
      }

  single : Single (Numbered w job table)
  single n i m j p q =
      let e : ◌≡◌ {A = Fault} (n, i) (m, j) = sym ((job_number w job table n i).1 p) ∙ (job_number w job table m j).1 q in
      (ap (λ (f : Fault). f.0) e, ap (λ (f : Fault). f.1) e)

-- ---- a refusal's other numbers

prepared_deals : (n : ℕ) (f : Fault) (σ : Script) (A B D : List ℕ) (r : Pair) → (prepared n f σ A B D r).number ≢ 0
    → (prepared n f σ A B D r).deals ≡ 0
unfolding prepared
prepared_deals zero f σ A B D r h = absurd (h refl)
prepared_deals (suc n) f σ A B D r h = refl

unless_rest : (n : ℕ) (f : Fault) (s : State) (a : Answer) → (unless n f s a).number ≢ 0 → (a.number ≢ 0 → (a.spoken ≡ 0) × (a.word ≡ 0))
    → ((unless n f s a).spoken ≡ 0) × ((unless n f s a).word ≡ 0)
unfolding unless
unless_rest zero f s a h k = k h
unless_rest (suc n) f s a h k = (refl, refl)

prepare_rest : (σ : Script) (A B D : List ℕ) (r : Pair) → (prepare σ A B D r).number ≢ 0 → (prepare σ A B D r).deals ≡ 0
unfolding prepare
prepare_rest σ A B D r h = prepared_deals (dealer_fault σ A B D).0 (dealer_fault σ A B D) σ A B D r h

start_rest : (loan : Lent) (r : Pair) → (start loan r).number ≢ 0 → ((start loan r).spoken ≡ 0) × ((start loan r).word ≡ 0)
unfolding start
start_rest loan r h =
    unless_rest (lent_fault loan).0 (lent_fault loan) (given r) (report (worker_of loan) (start_walk loan r)) h (λ k. absurd (k refl))

hear_rest : (loan : Lent) (s : State) (v : ℕ) → (hear loan s v).number ≢ 0 → ((hear loan s v).spoken ≡ 0) × ((hear loan s v).word ≡ 0)
unfolding hear resume
hear_rest loan s v h =
    let f = found_of loan s in
    let a = report (worker_of loan) (hear_walk (worker_of loan) s v f) in
    let n = hearing_fault s.stored f in
    unless_rest (lent_fault loan).0 (lent_fault loan) s (unless n (n, 0) s a) h
    (λ k. unless_rest n (n, 0) s a k (λ z. absurd (z refl)))

-- the registers as they were given
start_back : (loan : Lent) (r : Pair) → (start loan r).number ≢ 0 → (start loan r).state ≡ given_back r
unfolding given fresh
start_back loan r h = start_state loan r h

module _ (w : ℕ) (needs : (job table : List ℕ) → Cost) (costs : (job table : List ℕ) → job_cost w job table ≡ needs job table) where
  abbrev terms : (job table : List ℕ) → Terms
  terms job table = terms_of w job table (needs job table)

  job_told : (job table : List ℕ) → Told (job_script w job table) (terms job table)
  job_told job table = told w job table (needs job table) (costs job table)

  demanded : Demand1At w terms
  demanded =
      record {
        preparing = λ job table A B D r. numbers.preparing (job_script w job table) (terms job table) (job_told job table) A B D r;
        starting = λ h job table M D r. numbers.starting (lent h (job_script w job table) M D) (terms job table) (job_told job table) r;
        hearing = λ h job table M D s v.
            numbers.hearing (lent h (job_script w job table) M D) (terms job table) (job_told job table)
            (told_places w job table (needs job table)) (job_orderly w job table) s v;
        one_preparation = λ job table. numbers.one_preparation (terms job table) (single w job table);
        one_start = λ h job table M D. numbers.one_start (terms job table) (single w job table) h M D;
        one_hearing = λ h job table M D o x u.
            numbers.one_hearing (job_script w job table) (terms job table) (job_told job table) (job_orderly w job table)
            (single w job table) h M D o x u;
        told = job_told;
        told_places = λ job table. told_places w job table (needs job table);
        single = single w;
        preparing_unchanged = λ σ A B D r h. let p = prepare_back σ A B D r h in (p.0, p.1, prepare_rest σ A B D r h);
        starting_unchanged = λ loan r h. let p = start_rest loan r h in (start_back loan r h, p.0, p.1);
        hearing_unchanged = λ loan s v h. let p = hear_rest loan s v h in (hear_state loan s v h, p.0, p.1);
      }

-- at every width, by the costs of the orders' gates
pub demand1_at : (w : ℕ) → Demand1At w (gate_terms w)
demand1_at w = demanded w (job_cost w) (λ job table. refl)

-- at 32 bits, by document 01's table of costs
pub demand1 : Demand1
demand1 = demanded 32 (λ job table. table_counts (length (rows table)) (orders job)) cost_table.job_counts
