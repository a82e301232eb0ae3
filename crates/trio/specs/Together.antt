-- Document 01, "Stepping": a script that the three hosts run in one place, each word carried to the other host at once.
-- Assumes nothing.
use Rattle.std.specs.Prelude.{◌≡◌, List, [], ℕ, length, Result, Ok, Err}
use Rattle.gates.specs.Steps.{origin}
use Rattle.gates.specs.Walk.{whole}
use Rattle.gates.specs.Hosts.{Pair, Triple, of0, of1, of2, act}
use Rattle.calls.specs.Scripts.{Script, script_cost, orders_in}
use Rattle.calls.specs.Lent.{lent}
use Rattle.calls.specs.declared.Stored.{Stored}
use Rattle.calls.specs.Calls.{stored_places, Answer, Prepared, fresh, given, unless, refused, start, hear, prepare}
use Rattle.jobs.specs.Refusals.{number_of, fault_of}
use Rattle.worker.specs.Answers.{answer_of, state_of}
use Rattle.trio.specs.declared.Trio.{Trio as Trio'}
use Rattle.trio.specs.declared.Refused.{Refused}
use Rattle.trio.specs.declared.Shared.{Shared}

-- the preparation's number, index, deals and masks, the last answers of hosts 1 and 2, and the buffer of deals
pub record Trio : Type 0 where
  pub number : ℕ
  pub index : ℕ
  pub deals : ℕ
  pub masks : Pair
  pub one : Answer
  pub two : Answer
  pub buffer : List ℕ

-- the code's three hosts, and the buffer lent to them
abbrev pub trio_of : Result Trio' Refused → (buffer : List ℕ) → Trio
trio_of (Ok s) buf =
    record {
      number = 0;
      index = 0;
      deals = s.deals;
      masks = (s.masks.l1, s.masks.l2);
      one = answer_of (Ok s.one);
      two = answer_of (Ok s.two);
      buffer = buf;
    }
trio_of (Err r) buf =
    record {
      number = number_of r.refusal.condition;
      index = r.refusal.index;
      deals = 0;
      masks = (r.masks.l1, r.masks.l2);
      one = refused (fault_of r.refusal) (state_of r.one);
      two = refused (fault_of r.refusal) (state_of r.two);
      buffer = buf;
    }

-- neither host was turned down
abbrev pub Speaks : Trio → Type 0
Speaks s = (s.one.number ≡ 0) × (s.two.number ≡ 0)

-- the lanes m, L1 and L2 of the registers given
abbrev pub shared : Shared → Triple
shared r = (r.m, r.l1, r.l2)

-- n shares
pub record Full (n : ℕ) (r : Triple) : Type 0 where
  pub m : length r.0 ≡ n
  pub l1 : length r.1 ≡ n
  pub l2 : length r.2 ≡ n

-- the three hosts after the preparation p, with these answers of hosts 1 and 2; neither starts where the preparation is
-- refused
unfoldable pub after_preparation : Triple → (p : Prepared) → (one two : Answer) → Trio
after_preparation r p a b =
    record {
      number = p.number;
      index = p.index;
      deals = p.deals;
      masks = p.masks;
      one = unless p.number (p.number, p.index) (given (of1 r)) a;
      two = unless p.number (p.number, p.index) (given (of2 r)) b;
      buffer = p.buffer;
    }

-- what the script uses of A and of B, and its deals
abbrev pub all_places : Script → Stored
all_places σ = stored_places (script_cost σ).a (script_cost σ).b (script_cost σ).deals

-- a host at the end: "the end is the number of orders and 0", "the word given is 0", and each host has spoken a word
-- for each word of B, half the script's words; R-7: the stored places are "at the end over all"
unfoldable pub end_answer : Script → Pair → Answer
end_answer σ s =
    record {
      number = 0;
      index = 0;
      spoken = (script_cost σ).b;
      word = 0;
      state = record { m = s.0; mask = s.1; order = orders_in σ; turn = 0; stored = all_places σ };
    }

-- "every call is lent the same job, table and lists": a script and the lists A and B; hosts 1 and 2 both the deals, of
-- which host 1 takes no notice
module _ (σ : Script) (A B : List ℕ) where
  -- preparation, then both startings
  unfoldable pub begun : Triple → (buffer : List ℕ) → Trio
  begun r buf =
      let p : Prepared = prepare σ A B buf (of0 r) in
      after_preparation r p (start (lent 1 σ A p.buffer) (of1 r)) (start (lent 2 σ B p.buffer) (of2 r))

  -- each hears "the word the other host spoke"
  unfoldable pub heard : Trio → Trio
  heard s =
      record {
        number = s.number;
        index = s.index;
        deals = s.deals;
        masks = s.masks;
        one = hear (lent 1 σ A s.buffer) s.one.state s.two.word;
        two = hear (lent 2 σ B s.buffer) s.two.state s.one.word;
        buffer = s.buffer;
      }

  -- the three hosts' lanes m, L1 and L2 when every gate is done
  unfoldable pub left : Triple → Triple
  left r = (whole (act A B) σ.steps origin (fresh r.0, fresh r.1, fresh r.2) []).state

  -- the whole script
  unfoldable pub together : Triple → (buffer : List ℕ) → Trio
  together r buf =
      after_preparation r (prepare σ A B buf (of0 r)) (end_answer σ (of1 (left r))) (end_answer σ (of2 (left r)))
