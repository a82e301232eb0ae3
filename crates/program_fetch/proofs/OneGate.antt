-- Kinds 0 to 5 have one gate. Assumes nothing.
use Rattle.std.proofs.Common.{◌≡◌, ℕ, ◌<◌, [], map, length, get_or, sym, ◌∙◌, get_or-take}
use lib.ListN.{get_or-replicate, get_or-map}
use Rattle.gates.specs.Codes.{Past, fetched}
use Rattle.gates.proofs.Fetched.{beyond}
use Rattle.programs.specs.declared.Order.{Order}
use Rattle.programs.specs.Orders.{kinds, program}

module _ (w : ℕ) where
  one_long : (d a c n : ℕ) → n < 6 → length (get_or (kinds w [] d a c) n []) ≡ 1
  unfolding kinds
  one_long d a c n h =
      sym (get_or-map length (kinds w [] d a c) n []) ∙ sym (get_or-take 6 (map length (kinds w [] d a c)) n 0 h)
      ∙ get_or-replicate 6 n 1 0 h

  pub one_past : (o : Order) → o.kind < 6 → (i : ℕ) → 0 < i → fetched (program w [] o) i ≡ Past
  unfolding program
  one_past o h i g =
      beyond (get_or (kinds w [] o.target o.source o.fourth) o.kind []) i
      (rw (one_long o.target o.source o.fourth o.kind h) g)
