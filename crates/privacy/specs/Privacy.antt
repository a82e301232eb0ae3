-- R-8, "What a host could learn": "one host alone learns nothing". What a host sees of a run, and that the masks which
-- it does not see correspond one-to-one between the runs on any two lists of values, "so that the host sees the same
-- words in both": of any script of gates, at any width, and so of jobs. Days: DayPrivacy.antt. Assumes nothing.
use Rattle.std.specs.Prelude.{◌≡◌, cond, List, [], ◌∷◌, map, ℕ, zero, suc, ◌^◌, ◌≤◌, ◌<◌, eqb, length, drop}
use Rattle.std.proofs.Common.{ap, arith}
use Rattle.words.specs.Words.{numbers}
use Rattle.shares.specs.Gates.{masked}
use Rattle.gates.specs.Gates.{Gate}
use Rattle.gates.specs.Steps.{Lane, at}
use Rattle.gates.specs.Meaning.{job_steps}
use Rattle.gates.specs.Hosts.{Pair}
use Rattle.gates.specs.Costs.{Cost}
use Rattle.calls.specs.Scripts.{Script, job_script, script_cost}
use Rattle.calls.specs.Lent.{Lent}
use Rattle.calls.specs.Calls.{State, Answer, start, hear, Prepared, prepare}
use Rattle.runs.specs.Runs.{Stage, Spoken, dealer_holds, World, registers, Turned, at_start, at_hearing}
use Rattle.runs.specs.Runs.{Refuses, refuses0, refuses0_elsewhere, refuses1, refuses2, Call, preparing, starting1}
use Rattle.runs.specs.Runs.{starting2, turned_down, hearing1, hearing2, lent1, lent2, preparation, held, Completes}
use Rattle.runs.specs.Runs.{prepares, starts1, starts2, hears1, hears2}
use Rattle.runs.specs.Strict.{Calls, none, completes, refuses, StrictRun}

-- ---- the values that are given, and the masks of a run

-- L1 and L2 of each value given, and the mask lists A and B
pub record Masks : Type 0 where
  pub l1 : Lane
  pub l2 : Lane
  pub A : List ℕ
  pub B : List ℕ

-- "m = x + L" of each value
unfoldable pub mask_all : ℕ → (x l1 l2 : List ℕ) → Lane
mask_all w [] l1 l2 = []
mask_all w (x ∷ xs) [] l2 = []
mask_all w (x ∷ xs) (a ∷ l1) [] = []
mask_all w (x ∷ xs) (a ∷ l1) (b ∷ l2) = (masked (numbers w) x a b).m ∷ mask_all w xs l1 l2

pub mask_all_long : (w : ℕ) (x l1 l2 : List ℕ) (n : ℕ) → length x ≡ n → length l1 ≡ n → length l2 ≡ n
    → length (mask_all w x l1 l2) ≡ n
unfolding mask_all
mask_all_long w [] l1 l2 n h j k = h
mask_all_long w (x ∷ xs) [] l2 n h j k = j
mask_all_long w (x ∷ xs) (a ∷ l1) [] n h j k = k
mask_all_long w (x ∷ xs) (a ∷ l1) (b ∷ l2) zero h j k = absurd (omega arith)
mask_all_long w (x ∷ xs) (a ∷ l1) (b ∷ l2) (suc n) h j k =
    ap suc (mask_all_long w xs l1 l2 n (omega arith) (omega arith) (omega arith))

-- n words of w bits
pub record Given (w n : ℕ) (x : List ℕ) : Type 0 where
  pub many : length x ≡ n
  pub words : (i : ℕ) → at x i < 2 ^ w

-- masks of n values, and lists that are long enough for these counts, all of w bits
pub record Enough (w n : ℕ) (need : Cost) (M : Masks) : Type 0 where
  pub l1 : Given w n M.l1
  pub l2 : Given w n M.l2
  pub A : (i : ℕ) → at M.A i < 2 ^ w
  pub B : (i : ℕ) → at M.B i < 2 ^ w
  pub a : need.a ≤ length M.A
  pub b : need.b ≤ length M.B

-- "registers not given are zero": value i, and all that the hosts hold of it
pub record NotGiven (w : ℕ) (x : List ℕ) (M : Masks) (i : ℕ) : Type 0 where
  pub value : at x i ≡ 0
  pub m : at (mask_all w x M.l1 M.l2) i ≡ 0
  pub l1 : at M.l1 i ≡ 0
  pub l2 : at M.l2 i ≡ 0

-- ---- "the unseen masks of one run must correspond one-to-one to those of the other"

-- Of n values: `stage` is what is run on given values and masks, `has` what the host has of it before its first call,
-- and `Unseen S S'` that a run on S' stands beside every run on S, in which the host sees the same
module _ (w n : ℕ) (need : Cost) {T : Type 0}
    (stage : (x : List ℕ) (M : Masks) → Given w n x → Enough w n need M → T) (has : T → List (List ℕ))
    (Unseen : T → T → Type 0) where
  -- the masks M of the values x, and the masks M' of the values y
  pub record Beside (x y : List ℕ) (M M' : Masks) (hx : Given w n x) (hy : Given w n y) (hM : Enough w n need M)
      : Type 0 where
    -- within their width, and long enough
    pub enough : Enough w n need M'
    -- the lists keep their lengths, and their words beyond the need
    pub as_long : (length M'.A ≡ length M.A) × (length M'.B ≡ length M.B)
    pub beyond : (drop need.a M'.A ≡ drop need.a M.A) × (drop need.b M'.B ≡ drop need.b M.B)
    -- "registers not given are zero in both"
    pub not_given : (i : ℕ) → NotGiven w x M i → at y i ≡ 0 → NotGiven w y M' i
    -- the host has the same before its first call, and sees the same
    pub has_same : has (stage y M' hy enough) ≡ has (stage x M hx hM)
    pub sees_same : Unseen (stage x M hx hM) (stage y M' hy enough)

  pub record Hides : Type 0 where
    -- the masks for the values y, from those for the values x
    pub other : (x y : List ℕ) → Masks → Masks
    pub beside : (x y : List ℕ) (M : Masks) (hx : Given w n x) (hy : Given w n y) (hM : Enough w n need M)
        → Beside x y M (other x y M) hx hy hM
    -- from y back to x they are the first again: x and y are any two, so it is one-to-one both ways
    pub back : (x y : List ℕ) (M : Masks) → Given w n x → Given w n y → Enough w n need M
        → other y x (other x y M) ≡ M

-- ---- what a host sees of a script's run

-- "Host 0 sees A, B and its input masks; host 1 sees A, its shares ..; host 2 sees B, its shares ..": what hosts 0, 1
-- and 2 have before their first call. The words and the deals come to a host in its calls
abbrev pub has : (host : ℕ) → Stage → List (List ℕ)
has zero S = S.A ∷ S.B ∷ S.r1 ∷ S.r2 ∷ []
has (suc zero) S = S.A ∷ S.rm ∷ S.r1 ∷ []
has (suc (suc h)) S = S.B ∷ S.rm ∷ S.r2 ∷ []

-- a call, as the host that makes it sees it: all that it is lent and given, and the whole answer
pub data Event : Type 0 where
  prepared : Script → (A B buffer : List ℕ) → (masks : Pair) → Prepared → Event
  started : Lent → (registers : Pair) → Answer → Event
  heard : Lent → State → (word : ℕ) → Answer → Event

-- a starting or hearing that is turned down
abbrev pub turned_event : {n : ℕ} {s s' : State} → Turned n s s' → Event
turned_event {n = n} {s = s} (at_start loan e) = started loan (registers n s) (start loan (registers n s))
turned_event {s = s} (at_hearing loan v e) = heard loan s v (hear loan s v)

-- a refused call, and the host that makes it
abbrev pub refused_event : {n : ℕ} {v v' : World} → Refuses n v v' → ℕ × Event
refused_event (refuses0 {z = z} {buf = buf} σ A B e) =
    (0, prepared σ A B buf (dealer_holds z) (prepare σ A B buf (dealer_holds z)))
refused_event (refuses0_elsewhere {z = z} σ A B other e) =
    (0, prepared σ A B other (dealer_holds z) (prepare σ A B other (dealer_holds z)))
refused_event (refuses1 t) = (1, turned_event t)
refused_event (refuses2 t) = (2, turned_event t)

module _ (S : Stage) where
  -- a call that completes, and the host that makes it
  abbrev pub event : {c : Call} {v v' : World} → Completes S c v v' → ℕ × Event
  event (prepares {r = r} {buf = buf} e) = (0, prepared S.script S.A S.B buf r (preparation S buf r))
  event (starts1 {s = s} D e) = (1, started (lent1 S D) (held S s) (start (lent1 S D) (held S s)))
  event (starts2 {s = s} D d e) = (2, started (lent2 S D) (held S s) (start (lent2 S D) (held S s)))
  event (hears1 {s = s} D x m e) = (1, heard (lent1 S D) s x (hear (lent1 S D) s x))
  event (hears2 {s = s} D d x m e) = (2, heard (lent2 S D) s x (hear (lent2 S D) s x))

  -- the calls of one host, the last in front
  abbrev pub with_event : (host : ℕ) → ℕ × Event → List Event → List Event
  with_event h e l = cond (eqb h e.0) (e.1 ∷ l) l

  unfoldable pub calls_of : (host : ℕ) {E : List ℕ} {v : World} {h1 h2 : List Spoken} {cs : List Call} {v' : World}
      {u1 u2 : List Spoken}
      → Calls S E v h1 h2 cs v' u1 u2 → List Event
  calls_of h none = []
  calls_of h (completes r k n) = with_event h (event k) (calls_of h r)
  calls_of h (refuses r f) = with_event h (refused_event f) (calls_of h r)

-- a call of a run without the word that is heard
abbrev pub silent : Call → Call
silent preparing = preparing
silent starting1 = starting1
silent starting2 = starting2
silent turned_down = turned_down
silent (hearing1 v) = hearing1 0
silent (hearing2 v) = hearing2 0

-- Document 01's runs, in which host 1 is lent no deals. Beside the run r on S, one on S': the hosts make the same
-- calls, refused ones too, and this host is lent and given the same in each of its own, and answers the same
pub record SeenBeside (host : ℕ) (S S' : Stage) (cs : List Call) (v : World) (h1 h2 : List Spoken)
    (r : StrictRun S [] cs v h1 h2) : Type 0 where
  pub calls : List Call
  pub ends_in : World
  pub heard1 : List Spoken
  pub heard2 : List Spoken
  pub run : StrictRun S' [] calls ends_in heard1 heard2
  pub alike : map silent calls ≡ map silent cs
  pub same : calls_of S' host run.calls ≡ calls_of S host r.calls

abbrev pub SeesSame : (host : ℕ) (S S' : Stage) → Type 0
SeesSame h S S' = (cs : List Call) (v : World) (h1 h2 : List Spoken) (r : StrictRun S [] cs v h1 h2)
    → SeenBeside h S S' cs v h1 h2 r

-- ---- the theorem

-- the script on the values x, with the masks M
abbrev pub stage_of : (w : ℕ) (σ : Script) (x : List ℕ) (M : Masks) → Given w σ.slots x
    → Enough w σ.slots (script_cost σ) M → Stage
stage_of w σ x M hx hM =
    record {
      script = σ;
      A = M.A;
      B = M.B;
      rm = mask_all w x M.l1 M.l2;
      r1 = M.l1;
      r2 = M.l2;
      rm_full = mask_all_long w x M.l1 M.l2 σ.slots hx.many hM.l1.many hM.l2.many;
      r1_full = hM.l1.many;
      r2_full = hM.l2.many;
    }

-- "For each host, .. any two lists of .. values"
pub record NothingLearned (w : ℕ) (σ : Script) : Type 0 where
  pub host0 : Hides w σ.slots (script_cost σ) (stage_of w σ) (has 0) (SeesSame 0)
  pub host1 : Hides w σ.slots (script_cost σ) (stage_of w σ) (has 1) (SeesSame 1)
  pub host2 : Hides w σ.slots (script_cost σ) (stage_of w σ) (has 2) (SeesSame 2)

-- the script's steps are those of lists of gates
pub record OfGates (w : ℕ) (σ : Script) : Type 0 where
  pub gates : List (List Gate)
  pub made : σ.steps ≡ job_steps w gates

-- "Job, table .. are the same in both runs"
pub record Privacy : Type 0 where
  pub script : (w : ℕ) (σ : Script) → OfGates w σ → NothingLearned w σ
  pub job : (w : ℕ) (job table : List ℕ) → NothingLearned w (job_script w job table)
