-- What `write_target` has in hand is the lane with the target written. Assumes nothing.
use Rattle.std.proofs.Common.{◌≡◌, ℕ, set, ◌∙◌, eq-eqb, ne_eqb}
use Rattle.words.specs.Words.{add, sub}
use Rattle.gates.specs.Steps.{Lane, at}
use Rattle.programs.specs.declared.Order.{Order}
use Rattle.jobs.specs.Additions.{added_word, added}

module _ (w : ℕ) (o : Order) (l l' : Lane) (x y v : ℕ) (ex : x ≡ at l o.source) (ey : y ≡ at l o.fourth)
    (written : l' ≡ set l o.target v) where
  pub sum : o.kind ≡ 0 → v ≡ add w x y → l' ≡ added w o l
  unfolding added_word
  sum k e = written ∙ rw (eq-eqb o.kind 0 k, e, ex, ey)

  pub difference : (o.kind ≡ 0 → ⊥) → v ≡ sub w x y → l' ≡ added w o l
  unfolding added_word
  difference k e = written ∙ rw (ne_eqb o.kind 0 k, e, ex, ey)
