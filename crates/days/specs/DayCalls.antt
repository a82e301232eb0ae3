-- R-3: "The day has its own preparation, starting and hearing, lent the table and the host's 96 shares each time, and
-- no job or registers", and since R-6 the hours. Each is the script's call on lanes that have the lent shares behind
-- the registers and kept words, and answers with these alone. Assumes nothing.
use Rattle.std.specs.Prelude.{List, [], ◌∷◌, ◌++◌, ℕ, length, take, replicate}
use Rattle.gates.specs.Steps.{Lane}
use Rattle.gates.specs.Hosts.{Pair}
use Rattle.calls.specs.Lent.{Lent, lent}
use Rattle.calls.specs.Calls.{State, Answer, fresh, start, hear, Prepared, prepare}
use Rattle.days.specs.Day.{Hours, day_script}

-- a day list has two words to a share: host 0's L1 and L2, hosts 1 and 2's m and mask. The first word of each, and the
-- second
unfoldable pub firsts : List ℕ → Lane
firsts [] = []
firsts (x ∷ []) = []
firsts (x ∷ y ∷ l) = x ∷ firsts l

unfoldable pub seconds : List ℕ → Lane
seconds [] = []
seconds (x ∷ []) = []
seconds (x ∷ y ∷ l) = y ∷ seconds l

-- "Registers start at zero": sixteen registers and eight kept words, and the lent shares behind them
abbrev pub day_given : (shares : List ℕ) → Pair
day_given S = (replicate 24 0 ++ firsts S, replicate 24 0 ++ seconds S)

-- a host's state with the lent shares behind it; and the state without them
unfoldable pub with_shares : State → (shares : List ℕ) → State
with_shares s S =
    record {
      m = fresh (s.m ++ firsts S);
      mask = fresh (s.mask ++ seconds S);
      order = s.order;
      turn = s.turn;
      stored = s.stored;
    }

abbrev pub own_state : State → State
own_state s =
    record { m = take 24 s.m; mask = take 24 s.mask; order = s.order; turn = s.turn; stored = s.stored }

abbrev pub own_answer : Answer → Answer
own_answer a =
    record {
      number = a.number;
      index = a.index;
      spoken = a.spoken;
      word = a.word;
      state = own_state a.state;
    }

-- "its masks of all registers"
abbrev pub own_masks : Prepared → Prepared
own_masks p =
    record {
      number = p.number;
      index = p.index;
      deals = p.deals;
      masks = (take 16 p.masks.0, take 16 p.masks.1);
      buffer = p.buffer;
    }

abbrev pub day_lent : (w host : ℕ) (table shares : List ℕ) → Hours → (masks deals : List ℕ) → Lent
day_lent w h T S H M D = lent h (day_script w T (length S) H) M D

unfoldable pub day_start : (w host : ℕ) (table shares : List ℕ) → Hours → (masks deals : List ℕ) → Answer
day_start w h T S H M D = own_answer (start (day_lent w h T S H M D) (day_given S))

unfoldable pub day_hear : (w host : ℕ) (table shares : List ℕ) → Hours → (masks deals : List ℕ) → State
    → (heard : ℕ) → Answer
day_hear w h T S H M D s v = own_answer (hear (day_lent w h T S H M D) (with_shares s S) v)

unfoldable pub day_prepare : (w : ℕ) (table shares : List ℕ) → Hours → (A B buffer : List ℕ) → Prepared
day_prepare w T S H A B D = own_masks (prepare (day_script w T (length S) H) A B D (day_given S))
