-- Document 01, "Stepping": preparation, starting and hearing, each with its whole answer. Assumes nothing.
use Rattle.std.specs.Prelude.{Bool, ◌&&◌, cond, List, [], ◌∷◌, ◌++◌, ℕ, zero, suc, eqb, take, drop, replicate, length}
use Rattle.gates.specs.Steps.{Lane, Exchange, Step, local, deal, exchange, end, Cursor, origin, past}
use Rattle.gates.specs.Walk.{Conf, walk, whole}
use Rattle.gates.specs.Hosts.{Pair, act0, deals}
use Rattle.jobs.specs.Job.{Fault}
use Rattle.calls.specs.declared.Stored.{Stored}
use Rattle.calls.specs.Places.{Found, nowhere, found, seek}
use Rattle.calls.specs.Scripts.{Script}
use Rattle.calls.specs.Lent.{Lent, Worker, lent_fault, dealer_fault, worker_of}

-- R-7, the stored places: "how far A, B and the deals are used"
abbrev pub stored_places : (a b deals : ℕ) → Stored
stored_places a b n = record { a = a; b = b; deals = n }

-- "A host's state is sixteen registers, the words kept between gates, and a place": the lanes m and mask, registers in
-- slots 0 to 15 and temporaries behind; R-7: "The state shall store the three places"
pub record State : Type 0 where
  pub m : Lane
  pub mask : Lane
  pub order : ℕ
  pub turn : ℕ
  pub stored : Stored

-- the answer of starting and hearing: the number, 0 for none, and the order's index; the words spoken so far, the word
-- given, and the state
pub record Answer : Type 0 where
  pub number : ℕ
  pub index : ℕ
  pub spoken : ℕ
  pub word : ℕ
  pub state : State

-- "every other number in a refused answer is 0"
abbrev pub refused : Fault → State → Answer
refused f s = record { number = f.0; index = f.1; spoken = 0; word = 0; state = s }

-- what is given, for a job sixteen registers, with eight slots behind it that are 0
unfoldable pub fresh : Lane → Lane
fresh r = r ++ replicate 8 0

abbrev pub fresh2 : Pair → Pair
fresh2 r = (fresh r.0, fresh r.1)

-- ---- where a walk halts

-- the word given there: at the end 0
unfoldable pub word_at : {S : Type 0} → (Exchange → Cursor → S → ℕ) → List Step → Cursor → S → ℕ
word_at say [] c s = 0
word_at say (local d m l ∷ ss) c s = 0
word_at say (deal d f ∷ ss) c s = 0
word_at say (exchange d e ∷ ss) c s = say e c s
word_at say (end ∷ ss) c s = 0

-- the words spoken so far: one at each product and refresh passed, which is as many as words of B used, and the word
-- just given
unfoldable pub spoken_at : List Step → Cursor → ℕ
spoken_at [] c = c.b
spoken_at (local d m l ∷ ss) c = c.b
spoken_at (deal d f ∷ ss) c = c.b
spoken_at (exchange d e ∷ ss) c = suc c.b
spoken_at (end ∷ ss) c = c.b

-- R-7, what the walk would give: "On either host the walk counts all three, over the gates up to and with the place's
-- own, at the end over all."
abbrev pub counted_to : Cursor → Stored
counted_to c = stored_places c.a c.b c.deals

unfoldable pub stored_at : List Step → Cursor → Stored
stored_at [] c = counted_to c
stored_at (local d m l ∷ ss) c = counted_to c
stored_at (deal d f ∷ ss) c = counted_to c
stored_at (exchange d e ∷ ss) c = counted_to (past (exchange d e) c)
stored_at (end ∷ ss) c = counted_to c

abbrev pub state_of : Conf Pair → State
state_of p =
    record {
      m = p.state.0;
      mask = p.state.1;
      order = p.cur.order;
      turn = p.cur.turn;
      stored = stored_at p.rest p.cur;
    }

abbrev pub report : Worker → Conf Pair → Answer
report P p =
    record {
      number = 0;
      index = 0;
      spoken = spoken_at p.rest p.cur;
      word = word_at P.say p.rest p.cur p.state;
      state = state_of p;
    }

-- the fault's refusal, or the answer where there is none
unfoldable pub unless : ℕ → Fault → State → Answer → Answer
unless zero f s a = a
unless (suc n) f s a = refused f s

-- ---- starting: "runs to its first product or refresh and gives the word it speaks"

unfoldable pub start_walk : Lent → Pair → Conf Pair
start_walk loan r = walk (worker_of loan).act loan.script.steps origin (fresh2 r) []

-- "Refused starting gives back the registers it was given"; "every other number in a refused answer is 0", the stored
-- places too
unfoldable pub given : Pair → State
given r = record { m = fresh r.0; mask = fresh r.1; order = 0; turn = 0; stored = stored_places 0 0 0 }

unfoldable pub start : Lent → (registers : Pair) → Answer
start loan r = unless (lent_fault loan).0 (lent_fault loan) (given r) (report (worker_of loan) (start_walk loan r))

-- ---- hearing: "takes the other's word and runs to the next, or to the end, where the word given is 0"

-- the walk from the product or refresh that was found, the word heard
unfoldable pub hear_walk : Worker → State → ℕ → Found → Conf Pair
hear_walk P s v nowhere = walk P.act [] origin (s.m, s.mask) []
hear_walk P s v (found [] c) = walk P.act [] c (s.m, s.mask) []
hear_walk P s v (found (local d m l ∷ ss) c) = walk P.act [] c (s.m, s.mask) []
hear_walk P s v (found (deal d f ∷ ss) c) = walk P.act [] c (s.m, s.mask) []
hear_walk P s v (found (exchange d e ∷ ss) c) = walk P.act ss (past (exchange d e) c)
    (P.hear d e c (s.m, s.mask) v) []
hear_walk P s v (found (end ∷ ss) c) = walk P.act [] c (s.m, s.mask) []

-- "8. The state's place is neither the end nor a product or refresh of this job." "9. Hearing is called at the end."
unfoldable pub place_fault : Found → ℕ
place_fault nowhere = 8
place_fault (found [] c) = 9
place_fault (found (local d m l ∷ ss) c) = 8
place_fault (found (deal d f ∷ ss) c) = 8
place_fault (found (exchange d e ∷ ss) c) = 0
place_fault (found (end ∷ ss) c) = 8

-- R-7: "18, stored places unequal to the walk's"
unfoldable pub walked_to : Found → Stored
walked_to nowhere = stored_places 0 0 0
walked_to (found ss c) = stored_at ss c

abbrev pub same_places : Stored → Stored → Bool
same_places u v = eqb u.a v.a && (eqb u.b v.b && eqb u.deals v.deals)

-- in checking order 8, then 18 ("after 8"), then 9
unfoldable pub hearing_fault : Stored → Found → ℕ
hearing_fault u f = cond (eqb (place_fault f) 8) 8 (cond (same_places u (walked_to f)) (place_fault f) 18)

unfoldable pub found_of : Lent → State → Found
found_of loan s = seek s.order s.turn loan.script.steps origin

unfoldable pub resume : Worker → State → ℕ → Found → Answer
resume P s v f =
    unless (hearing_fault s.stored f) (hearing_fault s.stored f, 0) s (report P (hear_walk P s v f))

unfoldable pub hear : Lent → State → (heard : ℕ) → Answer
hear loan s v = unless (lent_fault loan).0 (lent_fault loan) s (resume (worker_of loan) s v (found_of loan s))

-- ---- preparation: "writes exactly its deals, in gate order, and gives back its masks of all registers; later words of
-- its buffer keep their content"

pub record Prepared : Type 0 where
  pub number : ℕ
  pub index : ℕ
  pub deals : ℕ
  pub masks : Pair
  pub buffer : List ℕ

unfoldable pub prepare_walk : Script → (A B : List ℕ) → Pair → Conf Pair
prepare_walk σ A B r = whole (act0 A B) σ.steps origin (fresh2 r) []

unfoldable pub script_deals : Script → (A B : List ℕ) → Pair → List ℕ
script_deals σ A B r = deals A B σ.steps origin (fresh2 r)

unfoldable pub prepared : ℕ → Fault → Script → (A B buffer : List ℕ) → Pair → Prepared
prepared zero f σ A B buf r =
    record {
      number = 0;
      index = 0;
      deals = length (script_deals σ A B r);
      masks = (take σ.slots (prepare_walk σ A B r).state.0, take σ.slots (prepare_walk σ A B r).state.1);
      buffer = script_deals σ A B r ++ drop (length (script_deals σ A B r)) buf;
    }
prepared (suc n) f σ A B buf r = record { number = f.0; index = f.1; deals = 0; masks = r; buffer = buf }

unfoldable pub prepare : Script → (A B buffer : List ℕ) (masks : Pair) → Prepared
prepare σ A B buf r = prepared (dealer_fault σ A B buf).0 (dealer_fault σ A B buf) σ A B buf r
