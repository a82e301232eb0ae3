-- Document 01's own runs, narrower than `Run`: host 2 is lent the buffer that the preparation wrote, host 1 one and
-- the same list, and a word is used once. Assumes nothing.
use Rattle.std.specs.Prelude.{◌≡◌, List, [], ◌∷◌, ◌++◌, ℕ, ◌<◌}
use Rattle.calls.specs.Scripts.{orders_in}
use Rattle.runs.specs.Runs.{Stage, Spoken, placed_word, Among, World, Refuses, Call, turned_down, Completes}
use Rattle.runs.specs.Runs.{prepares, starts1, starts2, hears1, hears2, Begins, Run, Finished, buffer_of}
use Rattle.runs.specs.Runs.{Accepted}

module _ (S : Stage) where
  -- A call that completes, of document 01: "every call is lent the same job, table and lists" (the same script and
  -- lists), "host 2 the deals that host 0's preparation wrote" and host 1, which takes no notice of deals, the list
  -- E; "the word .., used once": one that is not among those that this host has heard
  abbrev pub Narrow : (E : List ℕ) (heard1 heard2 : List Spoken) {c : Call} {v v' : World}
      → Completes S c v v' → Type 0
  Narrow E h1 h2 (prepares e) = Unit
  Narrow E h1 h2 (starts1 D e) = D ≡ E
  Narrow E h1 h2 (starts2 {buf = buf} D d e) = D ≡ buf
  Narrow E h1 h2 (hears1 {s = s} D x m e) = (D ≡ E) × (Among (placed_word s x) h1 → ⊥)
  Narrow E h1 h2 (hears2 {buf = buf} {s = s} D d x m e) = (D ≡ buf) × (Among (placed_word s x) h2 → ⊥)

  -- the words that hosts 1 and 2 have heard after the call, each with its place
  abbrev pub heard_by_1 : {c : Call} {v v' : World} → Completes S c v v' → List Spoken → List Spoken
  heard_by_1 (prepares e) h = h
  heard_by_1 (starts1 D e) h = h
  heard_by_1 (starts2 D d e) h = h
  heard_by_1 (hears1 {s = s} D x m e) h = placed_word s x ∷ h
  heard_by_1 (hears2 D d x m e) h = h

  abbrev pub heard_by_2 : {c : Call} {v v' : World} → Completes S c v v' → List Spoken → List Spoken
  heard_by_2 (prepares e) h = h
  heard_by_2 (starts1 D e) h = h
  heard_by_2 (starts2 D d e) h = h
  heard_by_2 (hears1 D x m e) h = h
  heard_by_2 (hears2 {s = s} D d x m e) h = placed_word s x ∷ h

  -- calls, the last in front, that take the world v, where hosts 1 and 2 have heard h1 and h2, to the world v'
  pub data Calls (E : List ℕ) (v : World) (h1 h2 : List Spoken) : List Call → World
      → (heard1 heard2 : List Spoken) → Type 0 where
    none : Calls E v h1 h2 [] v h1 h2
    completes : {cs : List Call} {c : Call} {v' v'' : World} {u1 u2 : List Spoken}
        → Calls E v h1 h2 cs v' u1 u2 → (k : Completes S c v' v'') → Narrow E u1 u2 k
        → Calls E v h1 h2 (c ∷ cs) v'' (heard_by_1 k u1) (heard_by_2 k u2)
    refuses : {cs : List Call} {v' v'' : World} {u1 u2 : List Spoken} → Calls E v h1 h2 cs v' u1 u2
        → Refuses S.script.slots v' v'' → Calls E v h1 h2 (turned_down ∷ cs) v'' u1 u2

  -- a run: calls from a world in which nothing was called yet
  pub record StrictRun (E : List ℕ) (cs : List Call) (v : World) (heard1 heard2 : List Spoken) : Type 0 where
    pub from : World
    pub begins : Begins S from
    pub calls : Calls E from [] [] cs v heard1 heard2

  -- from this very world on, more calls until every order is finished
  pub record Done (E : List ℕ) (v : World) (h1 h2 : List Spoken) : Type 0 where
    pub more : List Call
    pub ends_in : World
    pub heard1 : List Spoken
    pub heard2 : List Spoken
    pub calls : Calls E v h1 h2 more ends_in heard1 heard2
    pub finished : (q : ℕ) → q < orders_in S.script → Finished ends_in q

pub record Strict : Type 0 where
  -- every such run is a run, and every run is such a run, whatever list E host 1 is lent: the same calls come to the
  -- same world
  pub wide : (S : Stage) (E : List ℕ) (cs : List Call) (v : World) (h1 h2 : List Spoken)
      → StrictRun S E cs v h1 h2
      → Run S cs v
  pub narrow : (S : Stage) (E : List ℕ) (cs : List Call) (v : World) → Run S cs v
      → (h1 : List Spoken) × (h2 : List Spoken) × StrictRun S E cs v h1 h2
  -- "A run of a job accepted with its lists, after which only refused calls can stand, has finished every order": no
  -- call of document 01 can complete
  pub finishes : (S : Stage) (E : List ℕ) (cs : List Call) (v : World) (h1 h2 : List Spoken)
      → StrictRun S E cs v h1 h2 → Accepted S (buffer_of v)
      → ((c : Call) (v' : World) (k : Completes S c v v') → Narrow S E h1 h2 k → ⊥)
      → (q : ℕ) → q < orders_in S.script → Finished v q
  -- more calls make a longer run
  pub longer : (S : Stage) (E : List ℕ) (cs more : List Call) (v v' : World) (h1 h2 u1 u2 : List Spoken)
      → StrictRun S E cs v h1 h2
      → Calls S E v h1 h2 more v' u1 u2 → StrictRun S E (more ++ cs) v' u1 u2
  -- every run of an accepted script can be carried on, from where it stands, until every order is finished
  pub goes_on : (S : Stage) (E : List ℕ) (cs : List Call) (v : World) (h1 h2 : List Spoken)
      → StrictRun S E cs v h1 h2
      → Accepted S (buffer_of v) → Done S E v h1 h2
  -- so from every beginning, whatever its kept words and its buffer: of any script accepted with its lists and that
  -- buffer
  pub exists : (S : Stage) (E : List ℕ) (v : World) → Begins S v → Accepted S (buffer_of v) → Done S E v [] []
