use Rattle.std.proofs.Common.{ℕ, ◌+◌, ◌*◌, ◌%◌, ◌^◌, List, set, refl, ap, ◌∙◌, arith}
use Rattle.words.specs.Words.{mul}
use Rattle.sample_masks.proofs.Multiples.{next_multiple, fill_more, filled}
use Rattle.sample_masks.proofs.fill.Goals as goal

pub loop-next-init : goal.loop-next-init
unfolding mul
loop-next-init c = record {
  word_is = c.wrapping_mul-word.ensures ∙ ap (λ (x : ℕ). c.args.factor * x % 2 ^ 32) (omega arith);
  filled_so_far = refl;
}

pub loop-next-preserved : goal.loop-next-preserved
loop-next-preserved c =
    let l = c.loop-next in
    let a = c.args in
    let e = next_multiple a.factor (a.offset + l.next-index) l.word l.invariant.word_is in
    record {
      word_is = e ∙ ap (λ (x : ℕ). a.factor * x % 2 ^ 32) (omega arith);
      filled_so_far =
          ap (λ (x : List ℕ). set x l.next-index ((l.word + a.factor) % 2 ^ 32)) l.invariant.filled_so_far
          ∙ fill_more a.list.now a.factor a.offset l.next-index _ c.loop-next-test.true e;
    }

pub returns : goal.returns
returns c =
    let l = c.loop-next in
    let a = c.args in
    l.invariant.filled_so_far ∙ filled a.list.now a.factor a.offset l.next-index c.loop-next-test.false l.auto.next-index-end
