-- Two days of one table and hours on which a host has, hears and is dealt the same; and two worlds of a day alike. Assumes nothing.
use mathlib.Core.Path.{◌≡◌, refl, sym, ap, ◌∙◌}
use mathlib.Core.List.{List, []}
use Prim.Native.Nat.{ℕ}
use lib.ListN.{length}
use Rattle.gates.specs.Steps.{Lane}
use Rattle.gates.specs.Hosts.{Pair}
use Rattle.calls.specs.Calls.{State, script_deals}
use Rattle.runs.specs.Runs.{Spoken}
use Rattle.runs.specs.InOrder.{words_of_1, words_of_2}
use Rattle.days.specs.Day.{day_script}
use Rattle.days.specs.DayCalls.{day_given}
use Rattle.day_demands.specs.Settings.{DaySetting, day_staged}
use Rattle.day_demands.specs.Calls.{list0}
use Rattle.day_demands.specs.Runs.{DayDealer, unprepared, prepared, DayHost, resting, running, DayWorld, day_world, host_state}
use Rattle.day_demands.specs.Runs.{with_answer, Gives, with_given, dealer_masks}
use Rattle.privacy.proofs.Places.{Level}
use Rattle.privacy.proofs.Sides.{places}

-- other lists, as long, and other shares
pub record DayTwin (S : DaySetting) : Type 0 where
  pub A : List ℕ
  pub B : List ℕ
  pub m : Lane
  pub l1 : Lane
  pub l2 : Lane
  pub m_day : length m ≡ 96
  pub l1_day : length l1 ≡ 96
  pub l2_day : length l2 ≡ 96
  pub long_a : length S.A ≡ length A
  pub long_b : length S.B ≡ length B

-- with the table and hours of S
abbrev pub day_twin : (S : DaySetting) → DayTwin S → DaySetting
day_twin S t =
    record {
      table = S.table;
      hours = S.hours;
      A = t.A;
      B = t.B;
      m = t.m;
      l1 = t.l1;
      l2 = t.l2;
      m_day = t.m_day;
      l1_day = t.l1_day;
      l2_day = t.l2_day;
    }

-- ---- what host 0, 1 or 2 has, hears and is dealt is the same

abbrev pub day_deals : (w : ℕ) → DaySetting → List ℕ
day_deals w S = script_deals (day_script w S.table 192 S.hours) S.A S.B (day_given (list0 S))

pub record DaySame0 (S S' : DaySetting) : Type 0 where
  pub A : S.A ≡ S'.A
  pub B : S.B ≡ S'.B
  pub l1 : S.l1 ≡ S'.l1
  pub l2 : S.l2 ≡ S'.l2

pub record DaySame1 (w : ℕ) (S S' : DaySetting) : Type 0 where
  pub A : S.A ≡ S'.A
  pub m : S.m ≡ S'.m
  pub l1 : S.l1 ≡ S'.l1
  pub words : words_of_2 (day_staged w S) ≡ words_of_2 (day_staged w S')

pub record DaySame2 (w : ℕ) (S S' : DaySetting) : Type 0 where
  pub B : S.B ≡ S'.B
  pub m : S.m ≡ S'.m
  pub l2 : S.l2 ≡ S'.l2
  pub deals : day_deals w S ≡ day_deals w S'
  pub words : words_of_1 (day_staged w S) ≡ words_of_1 (day_staged w S')

-- ---- worlds

abbrev pub day_dealer : DayWorld → DayDealer
day_dealer (day_world z buf one two) = z

abbrev pub day_one : DayWorld → DayHost
day_one (day_world z buf one two) = one

abbrev pub day_two : DayWorld → DayHost
day_two (day_world z buf one two) = two

abbrev pub host_said : DayHost → List Spoken
host_said (resting s) = []
host_said (running s said) = said

abbrev AlikeDealer : DayDealer → DayDealer → Type 0
AlikeDealer unprepared unprepared = Unit
AlikeDealer unprepared (prepared r') = ⊥
AlikeDealer (prepared r) unprepared = ⊥
AlikeDealer (prepared r) (prepared r') = Unit

abbrev AlikeHost : DayHost → DayHost → Type 0
AlikeHost (resting s) (resting s') = Level s s'
AlikeHost (resting s) (running s' said') = ⊥
AlikeHost (running s said) (resting s') = ⊥
AlikeHost (running s said) (running s' said') = Level s s' × (places said ≡ places said')

-- all but the words
abbrev pub DayAlike : DayWorld → DayWorld → Type 0
DayAlike (day_world z buf one two) (day_world z' buf' one' two') =
    AlikeDealer z z' × (length buf ≡ length buf') × AlikeHost one one' × AlikeHost two two'

pub host_level : (x x' : DayHost) → AlikeHost x x' → Level (host_state x) (host_state x')
host_level (resting s) (resting s') h = h
host_level (resting s) (running s' said') h = absurd h
host_level (running s said) (resting s') h = absurd h
host_level (running s said) (running s' said') h = h.0

pub answer_level : (x x' : DayHost) (s s' : State) → AlikeHost x x' → Level s s' → AlikeHost (with_answer x s) (with_answer x' s')
answer_level (resting r) (resting r') s s' h l = l
answer_level (resting r) (running r' said') s s' h l = absurd h
answer_level (running r said) (resting r') s s' h l = absurd h
answer_level (running r said) (running r' said') s s' h l = (l, h.1)

-- host 0 gives what it holds, or before its preparation anything
pub record GivesToo (z z' : DayDealer) (given : Pair) : Type 0 where
  pub given' : Pair
  pub gives : Gives z' given'
  pub same : z ≡ z' → given ≡ given'

pub gives_too : (z z' : DayDealer) (given : Pair) → AlikeDealer z z' → Gives z given → GivesToo z z' given
gives_too unprepared unprepared given h g = record { given' = given; gives = tt; same = λ p. refl }
gives_too unprepared (prepared r') given h g = absurd h
gives_too (prepared r) unprepared given h g = absurd h
gives_too (prepared r) (prepared r') given h g = record { given' = r'; gives = refl; same = λ p. sym g ∙ ap dealer_masks p }

pub given_alike : (z z' : DayDealer) (r r' : Pair) → AlikeDealer z z' → AlikeDealer (with_given z r) (with_given z' r')
given_alike unprepared unprepared r r' h = tt
given_alike unprepared (prepared q') r r' h = absurd h
given_alike (prepared q) unprepared r r' h = absurd h
given_alike (prepared q) (prepared q') r r' h = tt
