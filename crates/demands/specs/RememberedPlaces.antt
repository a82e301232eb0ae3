-- R-7, "Remembered places in the lists": in every run, at every moment, a host's stored places are what the walk gives;
-- and what they tell of the words still to be used. Assumes nothing.
use Rattle.std.specs.Prelude.{◌≡◌, ◌≢◌, List, [], ◌∷◌, ◌++◌, ℕ, ◌+◌, ◌≤◌, ◌<◌, length}
use Rattle.gates.specs.Steps.{at, Step, exchange, origin}
use Rattle.gates.specs.Costs.{cost}
use Rattle.gates.specs.Hosts.{Pair}
use Rattle.calls.specs.Scripts.{Script, script_cost, orders_in, Orderly}
use Rattle.calls.specs.Lent.{Lent, lent}
use Rattle.calls.specs.declared.Stored.{Stored}
use Rattle.calls.specs.Calls.{State, start, hear}
use Rattle.runs.specs.Runs.{Stage, Setting, staged, Spoken, Dealer, Side, going, World, world, Call, Run}
use Rattle.runs.specs.Strict.{Calls}
use Rattle.demands.specs.Conditions.{used_in}
use Rattle.demands.specs.Completed.{Located}

-- the place (o, x) in a script: the steps up to and with its product or refresh, and those behind it; at the end all of
-- them, and none
pub data Standing (σ : Script) (o x : ℕ) : (done left : List Step) → Type 0 where
  at_exchange : (l : Located σ.steps origin o x)
      → Standing σ o x (l.before ++ (exchange l.target l.gate ∷ [])) l.behind
  at_end : orders_in σ ≡ o → 0 ≡ x → Standing σ o x σ.steps []

-- "each operation keeps them equal to what the walk would give"
pub record Remembers (σ : Script) (s : State) : Type 0 where
  pub done : List Step
  pub left : List Step
  pub stands : Standing σ s.order s.turn done left
  pub stored : s.stored ≡ used_in done
  -- what is left: with the stored places, what the steps behind use makes up the whole need of each list
  pub left_a : s.stored.a + (cost left).a ≡ (script_cost σ).a
  pub left_b : s.stored.b + (cost left).b ≡ (script_cost σ).b
  pub left_deals : s.stored.deals + (cost left).deals ≡ (script_cost σ).deals

-- a call took a host from one state to another: the steps that it ran, with the next product or refresh, whose word it
-- speaks there
pub record Ran (σ : Script) (s s' : State) : Type 0 where
  pub done : List Step
  pub ran : List Step
  pub left : List Step
  pub from : Standing σ s.order s.turn done (ran ++ left)
  pub to : Standing σ s'.order s'.turn (done ++ ran) left
  pub given : s.stored ≡ used_in done
  pub returned : s'.stored ≡ used_in (done ++ ran)

-- two lists have the same words from place i on, up to place n
abbrev pub SameFrom : (i n : ℕ) (X Y : List ℕ) → Type 0
SameFrom i n X Y = (k : ℕ) → i ≤ k → k < n → at X k ≡ at Y k

-- the first words of its lists that a started host can still look at: those of the product or refresh where it stands,
-- right before its stored places; at the end there are none
pub data Looks (σ : Script) (s : State) : Stored → Type 0 where
  from_exchange : (l : Located σ.steps origin s.order s.turn) → Looks σ s (used_in l.before)
  from_end : orders_in σ ≡ s.order → 0 ≡ s.turn → Looks σ s (used_in σ.steps)

-- a stage with other lists A and B
abbrev pub relisted : Stage → (A B : List ℕ) → Stage
relisted S A B =
    record {
      script = S.script;
      A = A;
      B = B;
      rm = S.rm;
      r1 = S.r1;
      r2 = S.r2;
      rm_full = S.rm_full;
      r1_full = S.r1_full;
      r2_full = S.r2_full;
    }

pub record RememberedPlaces : Type 0 where
  -- ---- in every run, at every moment from a host's starting on: the state that it holds

  pub host1 : (S : Stage) → Orderly S.script → (cs : List Call) (z : Dealer) (buf : List ℕ) (s : State)
      (t : List Pair) (said : List Spoken) (two : Side)
      → Run S cs (world z buf (going s t said) two) → Remembers S.script s
  pub host2 : (S : Stage) → Orderly S.script → (cs : List Call) (z : Dealer) (buf : List ℕ) (one : Side)
      (s : State) (t : List Pair) (said : List Spoken)
      → Run S cs (world z buf one (going s t said)) → Remembers S.script s
  -- so a run never meets 18: no hearing of the run's job has that number on what a host holds, whichever host it names
  -- and whatever else it is lent
  pub never_18_1 : (w : ℕ) (S : Setting) (cs : List Call) (z : Dealer) (buf : List ℕ) (s : State) (t : List Pair)
      (said : List Spoken) (two : Side) → Run (staged w S) cs (world z buf (going s t said) two)
      → (h : ℕ) (M D : List ℕ) (v : ℕ) → (hear (lent h (staged w S).script M D) s v).number ≢ 18
  pub never_18_2 : (w : ℕ) (S : Setting) (cs : List Call) (z : Dealer) (buf : List ℕ) (one : Side) (s : State)
      (t : List Pair) (said : List Spoken) → Run (staged w S) cs (world z buf one (going s t said))
      → (h : ℕ) (M D : List ℕ) (v : ℕ) → (hear (lent h (staged w S).script M D) s v).number ≢ 18
  -- of any script: it has that number only where the script's own conditions give it
  pub own_18_1 : (S : Stage) (cs : List Call) (z : Dealer) (buf : List ℕ) (s : State) (t : List Pair)
      (said : List Spoken) (two : Side) → Run S cs (world z buf (going s t said) two)
      → (h : ℕ) (M D : List ℕ) (v : ℕ) → (hear (lent h S.script M D) s v).number ≡ 18 → S.script.fault.0 ≡ 18
  pub own_18_2 : (S : Stage) (cs : List Call) (z : Dealer) (buf : List ℕ) (one : Side) (s : State) (t : List Pair)
      (said : List Spoken) → Run S cs (world z buf one (going s t said))
      → (h : ℕ) (M D : List ℕ) (v : ℕ) → (hear (lent h S.script M D) s v).number ≡ 18 → S.script.fault.0 ≡ 18
  -- ---- what a call uses, in a run or outside one: the words from the stored places that it is given up to those that
  -- it returns are those of the steps that it runs, so the calls that follow one another use word after word

  pub started : (loan : Lent) → Orderly loan.script → (r : Pair) → (start loan r).number ≡ 0
      → Remembers loan.script (start loan r).state
  pub heard : (loan : Lent) → Orderly loan.script → (s : State) (v : ℕ) → (hear loan s v).number ≡ 0
      → Ran loan.script s (hear loan s v).state
  -- and no others: other lists that have these words give the same answer. A hearing also looks at those of its own
  -- product or refresh, right before its stored places, since it works out its own word there again.
  pub starting1 : (σ : Script) (A A' D D' : List ℕ) (r : Pair) → (start (lent 1 σ A D) r).number ≡ 0
      → (start (lent 1 σ A' D') r).number ≡ 0 → SameFrom 0 (start (lent 1 σ A D) r).state.stored.a A A'
      → start (lent 1 σ A' D') r ≡ start (lent 1 σ A D) r
  pub starting2 : (σ : Script) (B B' D D' : List ℕ) (r : Pair) → (start (lent 2 σ B D) r).number ≡ 0
      → (start (lent 2 σ B' D') r).number ≡ 0 → SameFrom 0 (start (lent 2 σ B D) r).state.stored.b B B'
      → SameFrom 0 (start (lent 2 σ B D) r).state.stored.deals D D'
      → start (lent 2 σ B' D') r ≡ start (lent 2 σ B D) r
  pub hearing1 : (σ : Script) (A A' D D' : List ℕ) (s : State) (v : ℕ) → (hear (lent 1 σ A D) s v).number ≡ 0
      → (hear (lent 1 σ A' D') s v).number ≡ 0
      → (l : Located σ.steps origin s.order s.turn)
      → SameFrom (used_in l.before).a (hear (lent 1 σ A D) s v).state.stored.a A A'
      → hear (lent 1 σ A' D') s v ≡ hear (lent 1 σ A D) s v
  pub hearing2 : (σ : Script) (B B' D D' : List ℕ) (s : State) (v : ℕ) → (hear (lent 2 σ B D) s v).number ≡ 0
      → (hear (lent 2 σ B' D') s v).number ≡ 0
      → (l : Located σ.steps origin s.order s.turn)
      → SameFrom (used_in l.before).b (hear (lent 2 σ B D) s v).state.stored.b B B'
      → SameFrom (used_in l.before).deals (hear (lent 2 σ B D) s v).state.stored.deals D D'
      → hear (lent 2 σ B' D') s v ≡ hear (lent 2 σ B D) s v
  -- so too of all later calls of a run, from where both hosts are started: whatever calls follow, they are calls on
  -- every other two lists A and B that have the same words from there on up to the need, with the same words spoken and
  -- the same states, on the same deals. What stood before was used up, and what stands behind is not used.
  pub later : (S : Stage) → Orderly S.script → (A' B' : List ℕ)
      → (script_cost S.script).a ≤ length A' → (script_cost S.script).b ≤ length B'
      → (cs : List Call) (z : Dealer) (buf : List ℕ) (s s2 : State) (t t2 : List Pair) (said said2 : List Spoken)
      → Run S cs (world z buf (going s t said) (going s2 t2 said2))
      → (u u2 : Stored) → Looks S.script s u → Looks S.script s2 u2
      → SameFrom u.a (script_cost S.script).a S.A A'
      → SameFrom u2.b (script_cost S.script).b S.B B'
      → (E : List ℕ) (h1 h2 g1 g2 : List Spoken) (more : List Call) (v : World)
      → Calls S E (world z buf (going s t said) (going s2 t2 said2)) h1 h2 more v g1 g2
      → Calls (relisted S A' B') E (world z buf (going s t said) (going s2 t2 said2)) h1 h2 more v g1 g2
  -- ---- "hosts 1 and 2 each the words they have spoken so far": as many as words of B used

  pub spoken_start : (loan : Lent) (r : Pair) → (start loan r).number ≡ 0
      → (start loan r).spoken ≡ (start loan r).state.stored.b
  pub spoken_hear : (loan : Lent) (s : State) (v : ℕ) → (hear loan s v).number ≡ 0
      → (hear loan s v).spoken ≡ (hear loan s v).state.stored.b
