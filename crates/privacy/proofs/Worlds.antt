-- Two stages of one script on which a host has, hears and is dealt the same; and two worlds alike: the hosts stand at the same places in
-- both, and the buffers are as long. Assumes nothing.
use mathlib.Core.Path.{◌≡◌}
use mathlib.Core.List.{List}
use Prim.Native.Nat.{ℕ}
use lib.ListN.{length}
use Rattle.gates.specs.Steps.{Lane}
use Rattle.gates.specs.Hosts.{Pair}
use Rattle.calls.specs.Calls.{script_deals}
use Rattle.runs.specs.Runs.{Stage, Dealer, idle, ready, Side, with_masks, World, world}
use Rattle.runs.specs.InOrder.{words_of_1, words_of_2}
use Rattle.privacy.proofs.Sides.{AlikeSide}

-- the script of S, with other lists and registers
abbrev pub twin : (S : Stage) (A B : List ℕ) (rm r1 r2 : Lane) → length rm ≡ S.script.slots → length r1 ≡ S.script.slots
    → length r2 ≡ S.script.slots → Stage
twin S A B rm r1 r2 f g h =
    record { script = S.script; A = A; B = B; rm = rm; r1 = r1; r2 = r2; rm_full = f; r1_full = g; r2_full = h }

-- ---- what host 0, 1 or 2 has, hears and is dealt is the same

pub record Same0 (S S' : Stage) : Type 0 where
  pub A : S.A ≡ S'.A
  pub B : S.B ≡ S'.B
  pub r1 : S.r1 ≡ S'.r1
  pub r2 : S.r2 ≡ S'.r2

pub record Same1 (S S' : Stage) : Type 0 where
  pub A : S.A ≡ S'.A
  pub rm : S.rm ≡ S'.rm
  pub r1 : S.r1 ≡ S'.r1
  pub words : words_of_2 S ≡ words_of_2 S'

pub record Same2 (S S' : Stage) : Type 0 where
  pub B : S.B ≡ S'.B
  pub rm : S.rm ≡ S'.rm
  pub r2 : S.r2 ≡ S'.r2
  pub deals : script_deals S.script S.A S.B (S.r1, S.r2) ≡ script_deals S'.script S'.A S'.B (S'.r1, S'.r2)
  pub words : words_of_1 S ≡ words_of_1 S'

-- ---- worlds

abbrev pub dealer_of : World → Dealer
dealer_of (world z buf one two) = z

abbrev pub one_of : World → Side
one_of (world z buf one two) = one

abbrev pub two_of : World → Side
two_of (world z buf one two) = two

-- worlds alike: all but the words
abbrev pub AlikeDealer : Dealer → Dealer → Type 0
AlikeDealer (idle r) (idle r') = Unit
AlikeDealer (idle r) (ready r' t') = ⊥
AlikeDealer (ready r t) (idle r') = ⊥
AlikeDealer (ready r t) (ready r' t') = Unit

abbrev pub Alike : World → World → Type 0
Alike (world z buf one two) (world z' buf' one' two') =
    AlikeDealer z z' × (length buf ≡ length buf') × AlikeSide one one' × AlikeSide two two'

pub with_alike : (z z' : Dealer) (r r' : Pair) → AlikeDealer z z' → AlikeDealer (with_masks z r) (with_masks z' r')
with_alike (idle q) (idle q') r r' h = tt
with_alike (idle q) (ready q' t') r r' h = absurd h
with_alike (ready q t) (idle q') r r' h = absurd h
with_alike (ready q t) (ready q' t') r r' h = tt
