-- From what the engine's calls ensure to what their exported forms ensure, on plain values. Assumes nothing.
use mathlib.Core.Path.{◌≡◌, refl, sym, ap, ◌∙◌}
use mathlib.Core.Bool.{Bool, true, false}
use mathlib.Core.Logic.{⊎_elim}
use mathlib.Core.List.{List}
use Prim.Native.Nat.{ℕ, zero, suc, ◌-◌, ◌≤◌, ◌<◌}
use native.Mathlib.Omega.{arith}
use lib.ListN.{length, drop, length-drop, drop_of_length-le}
use Rattle.words.proofs.Integers.{le_or_lt}
use Rattle.gates.specs.Costs.{Cost}
use Rattle.jobs.specs.Job.{Fault, job_fault, job_cost}
use Rattle.jobs.specs.Answers.{Verdict, refusal, acceptance, judged, check_job, need, leftover_number, leftover_part}
use Rattle.jobs.specs.declared.Which.{Which}
use Rattle.calls.specs.Calls as Calls
use Rattle.std.specs.Prelude.{Result, Ok, Err}
use Rattle.dealer.specs.declared.Prepared.{Prepared}
use Rattle.dealer.specs.declared.Refused.{Refused}
use Rattle.dealer.specs.Answers as Dealer
use Rattle.lamphiek.specs.declared.Answer.{Answer}
use Rattle.lamphiek.specs.Layout.{written, answer, counts_out}
use Rattle.lamphiek.specs.Checking.{checked, counts_left, unused, last}
use Rattle.lamphiek.specs.Stepping.{prepared, masks_left}

-- an answer of a number and a value: the number, and what is written
pub told : {A B : Type 0} (f : A → B) (n : ℕ) (x : A) (old : B) {p : ℕ × A} → (n, x) ≡ p → (n ≡ p.0) × (written n (f x) old ≡ written p.0 (f p.1) old)
told {A} f n x old e = (ap (λ (p : ℕ × A). p.0) e, ap (λ (p : ℕ × A). written p.0 (f p.1) old) e)

-- ---- a refusal writes nothing, a completed call writes

pub not_written : {A : Type 0} (n : ℕ) (new old : A) → (n ≡ 0 → ⊥) → old ≡ written n new old
unfolding written
not_written zero new old h = absurd (h refl)
not_written (suc n) new old h = refl

pub is_written : {A : Type 0} (n : ℕ) (new old : A) → n ≡ 0 → new ≡ written n new old
unfolding written
is_written zero new old e = refl
is_written (suc n) new old e = absurd (omega arith)

-- ---- checking

module _ (J T old : List ℕ) where
  pub check_refused : (n i : ℕ) → refusal (n, i) ≡ check_job 32 J T
      → (answer n i 0 0 ≡ checked (check_job 32 J T)) × (old ≡ counts_left (check_job 32 J T) old)
  unfolding check_job judged
  check_refused n i e = (ap checked e, go (job_fault 32 J T).0 (job_fault 32 J T) refl e)
    where
      go : (m : ℕ) (f : Fault) → f.0 ≡ m → refusal (n, i) ≡ judged m f (job_cost 32 J T) → old ≡ counts_left (judged m f (job_cost 32 J T)) old
      go zero f q p = let z : ◌≡◌ {A = Bool} false true = ap (λ (v : Verdict). v.accepted) p in let y : ◌≡◌ {A = ℕ} 0 1 = cc in absurd (omega arith)
      go (suc m) f q p = not_written f.0 _ old (λ z. omega arith)

  pub check_accepted : (k : Cost) → acceptance k ≡ check_job 32 J T
      → (answer 0 0 0 0 ≡ checked (check_job 32 J T)) × (counts_out k ≡ counts_left (check_job 32 J T) old)
  unfolding written
  check_accepted k e = (ap checked e, ap (λ (v : Verdict). counts_left v old) e)

-- ---- unused masks: a part that ends where the list ends is known by its length

suffix : (k : ℕ) (l : List ℕ) → last (length (drop k l)) l ≡ drop k l
suffix k l = ⊎_elim inside past (le_or_lt k (length l))
  where
    inside : k ≤ length l → last (length (drop k l)) l ≡ drop k l
    inside h = let e : length l - length (drop k l) ≡ k = omega (arith, length-drop k l) in ap (λ (j : ℕ). drop j l) e

    past : length l < k → last (length (drop k l)) l ≡ drop k l
    past h =
        let all : length l ≤ length l - length (drop k l) = omega (arith, length-drop k l) in
        let over : length l ≤ k = omega arith in
        drop_of_length-le l all ∙ sym (drop_of_length-le l over)

part_last : (n : ℕ) (J T : List ℕ) (x : Which) (l : List ℕ) → last (length (leftover_part n 32 J T x l)) l ≡ leftover_part n 32 J T x l
unfolding leftover_part
part_last zero J T x l = suffix (need x (job_cost 32 J T)) l
part_last (suc n) J T x l = let z : length l - length l ≡ 0 = omega arith in ap (λ (j : ℕ). drop j l) z

pub left_over : (J T : List ℕ) (x : Which) (l r : List ℕ) → r ≡ unused x J T l → (length r ≡ length (unused x J T l)) × (last (length r) l ≡ unused x J T l)
left_over J T x l r e = (ap length e, ap (λ (y : List ℕ). last (length y) l) e ∙ part_last (leftover_number 32 J T x l) J T x l)

-- ---- preparation: X is what it is defined to answer on the words, p what the code was answered

pub from_dealer : (X p : Calls.Prepared) (r : Answer) (put w : List ℕ) → p ≡ X → r ≡ prepared p → put ≡ masks_left p w
    → (r ≡ prepared X) × ((p.buffer ≡ X.buffer) × (put ≡ masks_left X w))
from_dealer X p r put w same er ep = (
  er ∙ ap prepared same,
  (ap (λ (x : Calls.Prepared). x.buffer) same, ep ∙ ap (λ (x : Calls.Prepared). masks_left x w) same),
)

-- the buffer of an answer is the code's
pub buffer_of : (r : Result Prepared Refused) (buf : List ℕ) → buf ≡ (Dealer.answer r buf).buffer
buffer_of (Ok p) buf = refl
buffer_of (Err e) buf = refl
