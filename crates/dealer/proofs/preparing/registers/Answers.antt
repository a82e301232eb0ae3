use mathlib.Core.Path.{◌≡◌, ◌∙◌}
use mathlib.Core.List.{append-nil}
use native.Mathlib.Omega.{arith}
use borrow.Author.Rules.{rules}
use borrow.Author.Tests.{le-ltb}
use Prim.Native.Nat.{◌≤◌}
use lib.ListN.{length, take, drop_of_length-le}
use Rattle.gates.specs.Steps.{Lane}
use Rattle.word_lists.specs.Copied.{front_copied}
use Rattle.dealer.proofs.preparing.registers.Goals as goal

-- over as many words as are copied none stays
all_over : (s d : Lane) → length s ≡ 24 → length d ≡ 16 → front_copied s d 16 ≡ take 16 s
unfolding front_copied
all_over s d e f =
    let none : length d ≤ 16 = omega (arith, f) in
    rw (le-ltb (length s) 16 (omega (arith, e)), le-ltb (length d) 16 (omega (arith, f)), drop_of_length-le d none, append-nil)

pub returns : goal.returns
returns c = (
  c.copy_front.ensures ∙ all_over c.args.lanes.now.first c.args.masks.now.l1 (search rules) (search rules),
  c.copy_front-2.ensures ∙ all_over c.args.lanes.now.second c.args.masks.now.l2 (search rules) (search rules),
)
