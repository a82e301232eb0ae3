use Rattle.std.proofs.Common.{◌≡◌, ◌+◌, ◌*◌, ◌%◌, ◌^◌, length}
use Rattle.words.proofs.Copying.{copied}
use Rattle.sample_masks.specs.Masks.{multiples}
use Rattle.sample_masks.proofs.fill.Given as goal

abbrev pub invariant-loop-next : goal.invariant-loop-next
invariant-loop-next l = record {
  word_is : l.word ≡ l.factor * (l.offset + l.next-index) % 2 ^ 32;
  filled_so_far : l.next-items ≡ copied l.fn.list (multiples l.factor (l.offset + 1) (length l.fn.list)) l.next-index;
}
