-- What crosses to C: each lent struct of include/lamphiek.h as the list of its words; what a call leaves in lent words.
-- Assumes nothing.
use Rattle.std.specs.Prelude.{List, [], ◌∷◌, ◌++◌, ℕ, zero, suc, get_or, take, drop}
use Rattle.shares.specs.Sharing.{Six}
use Rattle.gates.specs.Costs.{Cost}
use Rattle.gates.specs.Hosts.{Pair}
use Rattle.calls.specs.Calls as Calls
use Rattle.lamphiek.specs.declared.Answer.{Answer}

-- "A refusal .. writes nothing": by the call's number, the new words or those that stood there
unfoldable pub written : {A : Type 0} → (number : ℕ) (new old : A) → A
written zero new old = new
written (suc n) new old = old

-- lamphiek_answer
abbrev pub answer : (number index count word : ℕ) → Answer
answer n i k v = record { number = n; index = i; count = k; word = v }

-- ---- lamphiek_shares: "Host 0 holds L1, L2; host 1 holds m, L1; host 2 holds m, L2."

abbrev pub six_in : List ℕ → Six
six_in w =
    record {
      l1_of_0 = get_or w 0 0;
      l2_of_0 = get_or w 1 0;
      m_of_1 = get_or w 2 0;
      l1_of_1 = get_or w 3 0;
      m_of_2 = get_or w 4 0;
      l2_of_2 = get_or w 5 0;
    }

abbrev pub six_out : Six → List ℕ
six_out s = s.l1_of_0 ∷ s.l2_of_0 ∷ s.m_of_1 ∷ s.l1_of_1 ∷ s.m_of_2 ∷ s.l2_of_2 ∷ []

-- ---- lamphiek_counts: "deals, words spoken, A, B"

abbrev pub counts_out : Cost → List ℕ
counts_out k = k.deals ∷ k.words ∷ k.a ∷ k.b ∷ []

-- ---- lamphiek_masks: host 0's masks of the registers, sixteen words of L1, then sixteen of L2

abbrev pub masks_in : List ℕ → Pair
masks_in w = (take 16 w, take 16 (drop 16 w))

abbrev pub masks_out : Pair → List ℕ
masks_out p = p.0 ++ p.1

-- ---- lamphiek_state: the lane m and the lane of the host's mask, 24 words each, then order and turn, then (R-7) the
-- stored places in A, B and the deals

abbrev pub state_words : ℕ
state_words = 53

abbrev pub state_in : List ℕ → Calls.State
state_in w =
    record {
      m = take 24 w;
      mask = take 24 (drop 24 w);
      order = get_or w 48 0;
      turn = get_or w 49 0;
      stored = Calls.stored_places (get_or w 50 0) (get_or w 51 0) (get_or w 52 0);
    }

-- what stands behind the lanes
abbrev pub places_out : Calls.State → List ℕ
places_out s = s.order ∷ s.turn ∷ s.stored.a ∷ s.stored.b ∷ s.stored.deals ∷ []

abbrev pub state_out : Calls.State → List ℕ
state_out s = s.m ++ (s.mask ++ places_out s)

-- the registers of a state: the first sixteen words of each lane
abbrev pub registers_in : List ℕ → Pair
registers_in w = (take 16 w, take 16 (drop 24 w))
