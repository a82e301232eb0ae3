-- A product with a known value is spoken like document 01's product, a known value has the masks 0, and what is saved. Assumes nothing.
use mathlib.Core.Path.{◌≡◌, refl, sym, ap, ap₂, ◌∙◌}
use mathlib.Core.List.{[], ◌∷◌}
use Prim.Native.Nat.{ℕ, zero, suc, ◌-◌, ◌^◌}
use native.Mathlib.Nat.{mul-zero, zero-mul, zero-mod, mod_self}
use native.Mathlib.Omega.{arith}
use lib.Bits.{bit_xor, and_zero_l, and_zero_r, xor_zero_l, xor_zero_r, xor_comm}
use lib.ListN.{set}
use lib.Pow.{pow_pos}
use Rattle.words.specs.Ring.{Ops}
use Rattle.words.specs.Words.{add, sub, neg, mul, numbers, bits}
use Rattle.words.proofs.Words.{add-zero, add_comm, sub_is, sub_lt, neg_lt}
use Rattle.shares.specs.Gates.{product_deal, product_word1, product_word2, known_product_word1, known_product_word2}
use Rattle.gates.specs.Steps.{Lane, at, product, refresh, known_product, local, deal, exchange, end, say1, say2, part2}
use Rattle.gates.specs.Costs.{plus, step_cost, cost}
use Rattle.gates.specs.Known.{SpokenLike, saves, saved, with_g1, Saving}
use Rattle.gates.proofs.Needs.{cost_path}

-- ---- spoken like a product: over operations for which 0 is as it is for numbers and for bits

module _ (O : Ops ℕ) (times_zero : (x : ℕ) → O.mul x 0 ≡ 0) (zero_times : (x : ℕ) → O.mul 0 x ≡ 0) (zero_plus : O.add 0 0 ≡ 0)
    (zero_less : O.sub 0 0 ≡ 0) (less_zero : (x y : ℕ) → O.sub (O.sub x y) 0 ≡ O.sub x y)
    (plus_zero : (x y : ℕ) → O.add (O.sub x y) 0 ≡ O.sub x y) (turned : (l p : ℕ) → O.sub l p ≡ O.add (O.sub 0 p) l) where
  first : (v mb b1 l1 : ℕ) → known_product_word1 O v mb b1 l1 ≡ product_word1 O v mb 0 b1 0 l1
  first v mb b1 l1 =
      let x : ℕ = O.sub (O.mul v mb) (O.mul v b1) in
      ap (λ (y : ℕ). O.add y l1)
      (sym (ap (λ (z : ℕ). O.add (O.sub x z) 0) (times_zero mb) ∙ ap (λ (z : ℕ). O.add z 0) (less_zero _ _) ∙ plus_zero _ _))

  second : (v mb b2 l2 : ℕ) → known_product_word2 O v b2 l2 ≡ product_word2 O v mb 0 b2 0 l2
  second v mb b2 l2 =
      let x : ℕ = O.sub 0 (O.mul v b2) in
      turned l2 (O.mul v b2)
      ∙ ap (λ (y : ℕ). O.add y l2) (sym (ap (O.sub x) (times_zero mb) ∙ less_zero _ _))

  none : (b1 b2 : ℕ) → product_deal O 0 0 b1 b2 0 ≡ 0
  none b1 b2 = ap (λ (z : ℕ). O.sub (O.mul z (O.add b1 b2)) 0) zero_plus ∙ ap (λ (z : ℕ). O.sub z 0) (zero_times _) ∙ zero_less

  like : SpokenLike O
  unfolding say1 say2 part2
  like =
      record {
        host1 = λ a b m l g1 l1 e.
            first (at m a) (at m b) (at l b) l1 ∙ ap (λ (z : ℕ). product_word1 O (at m a) (at m b) z (at l b) 0 l1) (sym e);
        host2 = λ a b m l g2 l2 e.
            second (at m a) (at m b) (at l b) l2 ∙ ap (λ (z : ℕ). product_word2 O (at m a) (at m b) z (at l b) 0 l2) (sym e);
        no_deal = λ a b l1 l2 e1 e2.
            ap₂ (λ (x y : ℕ). product_deal O x y (at l1 b) (at l2 b) 0) e1 e2 ∙ none (at l1 b) (at l2 b);
      }

module _ (w : ℕ) where
  neg_zero : neg w 0 ≡ 0
  unfolding neg
  neg_zero = let e : 2 ^ w - 0 ≡ 2 ^ w = omega arith in rw e (mod_self (2 ^ w))

  less : (x y : ℕ) → sub w (sub w x y) 0 ≡ sub w x y
  less x y = sub_is w (sub w x y) 0 ∙ rw neg_zero (add-zero w (sub w x y) (sub_lt w x y))

  number_turned : (l p : ℕ) → sub w l p ≡ add w (sub w 0 p) l
  number_turned l p =
      sub_is w l p ∙ add_comm w l (neg w p)
      ∙ ap (λ (x : ℕ). add w x l) (sym (sub_is w 0 p ∙ add_comm w 0 (neg w p) ∙ add-zero w (neg w p) (neg_lt w p)))

  times : (x : ℕ) → mul w x 0 ≡ 0
  unfolding mul
  times x = rw (mul-zero x) (zero-mod (2 ^ w))

  zero_by : (x : ℕ) → mul w 0 x ≡ 0
  unfolding mul
  zero_by x = rw (zero-mul x) (zero-mod (2 ^ w))

  -- of numbers and of bits, at every width
  pub spoken_like : SpokenLike (numbers w) × SpokenLike (bits w)
  spoken_like = (
    like (numbers w) times zero_by (add-zero w 0 (pow_pos w)) (sub_is w 0 0 ∙ rw neg_zero (add-zero w 0 (pow_pos w))) less
        (λ x y. add-zero w (sub w x y) (sub_lt w x y)) number_turned,
    like (bits w) and_zero_r and_zero_l (xor_zero_r 0) (xor_zero_r 0) (λ x y. xor_zero_r (bit_xor x y)) (λ x y. xor_zero_r (bit_xor x y))
        (λ l p. rw (xor_zero_l p) (xor_comm l p)),
  )

-- a slot that was set to 0, or is none
pub zeroed : (l : Lane) (a : ℕ) → at (set l a 0) a ≡ 0
zeroed [] a = refl
zeroed (x ∷ l) zero = refl
zeroed (x ∷ l) (suc a) = zeroed l a

-- ---- what is saved

pub saving : Saving
unfolding cost step_cost saved saves with_g1 plus
saving [] = cost_path (omega arith) (omega arith) (omega arith) (omega arith)
saving (local d m l ∷ ss) = rw (saving ss) (cost_path (omega arith) (omega arith) (omega arith) (omega arith))
saving (deal d f ∷ ss) = rw (saving ss) (cost_path (omega arith) (omega arith) (omega arith) (omega arith))
saving (exchange d (product O a b) ∷ ss) = rw (saving ss) (cost_path (omega arith) (omega arith) (omega arith) (omega arith))
saving (exchange d (refresh O a) ∷ ss) = rw (saving ss) (cost_path (omega arith) (omega arith) (omega arith) (omega arith))
saving (exchange d (known_product O a b) ∷ ss) = rw (saving ss) (cost_path (omega arith) (omega arith) (omega arith) (omega arith))
saving (end ∷ ss) = rw (saving ss) (cost_path (omega arith) (omega arith) (omega arith) (omega arith))
