-- Hosts 1 and 2 at one step: a host's word of a deal, its new mask, and its lanes when it has heard the other's word.
-- Assumes nothing.
use Rattle.std.specs.Prelude.{cond, List, ℕ, eqb}
use Rattle.gates.specs.Steps.{Step, local, deal, exchange, end, at, new_at, Cursor}
use Rattle.gates.specs.Hosts.{Pair}
use Rattle.gates.specs.Speech.{met}
use Rattle.calls.specs.Lent.{Worker}

abbrev pub cursor : (order turn a b deals : ℕ) → Cursor
cursor o x a b n = record { order = o; turn = x; a = a; b = b; deals = n }

-- its word of a deal: host 1 takes the next word of A, host 2 the next deal
unfoldable pub deal_taken : (host : ℕ) (masks deals : List ℕ) (a dealt : ℕ) → ℕ
deal_taken h M D a n = cond (eqb h 1) (at M a) (at D n)

-- where L1 of a product or refresh stands in A: after g1, where the step has one
unfoldable pub first_at : Step → ℕ → ℕ
first_at (local d m l) a = a
first_at (deal d f) a = a
first_at (exchange d e) a = new_at e a
first_at end a = a

-- its new mask of a product or refresh: host 1's from A, host 2's from B; no other step asks for one
unfoldable pub new_mask : (host : ℕ) (masks : List ℕ) → Step → (a b : ℕ) → ℕ
new_mask h M y a b = cond (eqb h 1) (at M (first_at y a)) (at M b)

-- the new m from the host's own word and the other's
unfoldable pub sum_of : (host : ℕ) → Step → (own heard : ℕ) → ℕ
sum_of h y u v = cond (eqb h 1) (met y u v) (met y v u)

-- the lanes when the other's word v is heard at a step
unfoldable pub heard_at : Worker → Step → Cursor → Pair → (v : ℕ) → Pair
heard_at P (local d m l) c s v = s
heard_at P (deal d f) c s v = s
heard_at P (exchange d e) c s v = P.hear d e c s v
heard_at P end c s v = s
