-- What the buffer holds: the joint walk's deals in gate order, then the words that stood behind them. Assumes nothing.
use mathlib.Core.Path.{◌≡◌, refl, ap, ◌∙◌}
use mathlib.Core.List.{List, [], ◌∷◌, ◌++◌}
use Prim.Native.Nat.{ℕ}
use lib.ListN.{length, drop}
use Rattle.gates.specs.Steps.{Step, Cursor, origin, past}
use Rattle.gates.specs.Hosts.{Pair, Triple, of0, dealt, deals, act}
use Rattle.gates.proofs.LaneByLane.{of0_act}
use Rattle.jobs.specs.Job.{Fault}
use Rattle.calls.specs.Lent.{dealer_fault}
use Rattle.calls.specs.Calls.{script_deals, prepare}
use Rattle.runs.specs.Runs.{Stage, Spoken, idle, ready, Side, World, world, Call, preparation, Completes, prepares, starts1, starts2}
use Rattle.runs.specs.Runs.{hears1, hears2, Begins, given_out, Run, begin, buffer_of}
use Rattle.runs.specs.Strict.{Calls, none, completes, refuses}
use Rattle.runs.specs.Buffers.{defined_deals, deals_of, with_deals, Buffers}
use Rattle.runs.proofs.Kept.{not_yet, Ok, ok, prepared_none, refuses_nothing, kept}
use Rattle.runs.proofs.Strict.{wide_on}

deals_defined : (A B : List ℕ) (ss : List Step) (c : Cursor) (j : Triple) → deals A B ss c (of0 j) ≡ defined_deals A B ss c j
unfolding deals defined_deals
deals_defined A B [] c j = refl
deals_defined A B (x ∷ ss) c j =
    ap (λ (p : Pair). dealt A B x c (of0 j) (deals A B ss (past x c) p)) (of0_act A B x c j)
    ∙ ap (dealt A B x c (of0 j)) (deals_defined A B ss (past x c) (act A B x c j))

module _ (S : Stage) where
  -- the preparation from the masks given
  own_deals : script_deals S.script S.A S.B (S.r1, S.r2) ≡ deals_of S
  unfolding script_deals
  own_deals = deals_defined S.A S.B S.script.steps origin _

  -- a preparation of a run is from these masks
  masks_given : {r : Pair} {buf : List ℕ} {one two : Side} → Ok S (world (idle r) buf one two) → r ≡ (S.r1, S.r2)
  masks_given (ok (not_yet h) one two a) = h

  from_given : (r : Pair) (buf : List ℕ) → r ≡ (S.r1, S.r2) → (preparation S buf r).number ≡ 0
      → ((preparation S buf r).deals ≡ length (deals_of S)) × ((preparation S buf r).buffer ≡ with_deals S buf)
  unfolding prepare
  from_given r buf h e =
      let f : Fault = dealer_fault S.script S.A S.B buf in
      let p = prepared_none S f.0 f buf r refl e in
      let d : script_deals S.script S.A S.B r ≡ deals_of S =
      ap {B = List ℕ} (λ (x : Pair). script_deals S.script S.A S.B x) h ∙ own_deals in
      (p.2 ∙ ap length d, p.1 ∙ ap (λ (l : List ℕ). l ++ drop (length l) buf) d)

  pub prepares_filled : {cs : List Call} {r : Pair} {buf : List ℕ} {one two : Side} → Run S cs (world (idle r) buf one two)
      → (preparation S buf r).number ≡ 0
      → ((preparation S buf r).deals ≡ length (deals_of S)) × ((preparation S buf r).buffer ≡ with_deals S buf)
  prepares_filled {r = r} {buf = buf} R e = from_given r buf (masks_given (kept S R)) e

  -- ---- along a run

  abbrev Held : (buffer : List ℕ) → World → Type 0
  Held b (world (idle r) buf one two) = buf ≡ b
  Held b (world (ready r t) buf one two) = buf ≡ with_deals S b

  held_on : {cs : List Call} {c : Call} {v v' : World} (b : List ℕ) → Run S cs v → Completes S c v v' → Held b v → Held b v'
  held_on b R (prepares {r = r} {buf = buf} e) h = (prepares_filled R e).1 ∙ ap (with_deals S) h
  held_on b R (starts1 {z = idle r} D e) h = h
  held_on b R (starts1 {z = ready r t} D e) h = h
  held_on b R (starts2 D d e) h = h
  held_on b R (hears1 {z = idle r} D v m e) h = h
  held_on b R (hears1 {z = ready r t} D v m e) h = h
  held_on b R (hears2 {z = idle r} D d v m e) h = h
  held_on b R (hears2 {z = ready r t} D d v m e) h = h

  held_first : {v : World} → Begins S v → Held (buffer_of v) v
  held_first (given_out a b) = refl

  pub held_along : {E : List ℕ} {v v' : World} {cs : List Call} {h1 h2 : List Spoken} → Begins S v → Calls S E v [] [] cs v' h1 h2
      → Held (buffer_of v) v'
  held_along b none = held_first b
  held_along {v = v} b (completes c k n) = held_on (buffer_of v) (wide_on S (begin b) c) k (held_along b c)
  held_along b (refuses c f) = rw (refuses_nothing S (kept S (wide_on S (begin b) c)) f) (held_along b c)

pub buffers : Buffers
buffers =
    record {
      written = λ S cs r buf one two R e. (prepares_filled S R e).1;
      reported = λ S cs r buf one two R e. (prepares_filled S R e).0;
      before = λ S E v cs r buf one two h1 h2 b c. held_along S b c;
      after = λ S E v cs r t buf one two h1 h2 b c. held_along S b c;
    }
