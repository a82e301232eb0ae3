-- What the gates open: once over any commutative ring, and so for numbers and for bits. Assumes nothing.
use Rattle.std.proofs.Common.{◌≡◌, ℕ, refl}
use Rattle.words.specs.Ring.{Ops, Ring}
use Rattle.words.proofs.Solver.{exprs, solve, Expr}
use Rattle.words.proofs.Words.{number_words, number_ring, bit_words, bit_ring}
use Rattle.shares.specs.Gates.{Share, value, masked, deal, known, product_deal, product_word1, product_word2, product, refresh}
use Rattle.shares.specs.Gates.{known_product_word1, known_product_word2, known_product, Open, LikeProduct}

-- a share of three variables
abbrev vars : Expr → Expr → Expr → Share Expr
vars m l1 l2 = record { m = m; l1 = l1; l2 = l2 }

pub opens : {A : Type 0} (O : Ops A) → Ring O → Open O
opens O R =
    record {
      masked_opens = solve O R 3 (λ x l1 l2. (value exprs (masked exprs x l1 l2), x)) refl;
      deal_opens = solve O R 2 (λ v a. (value exprs (deal exprs v a), v)) refl;
      known_opens = solve O R 1 (λ v. (value exprs (known exprs v), v)) refl;
      product_opens =
          λ a b.
          solve O R 9
          (λ ma a1 a2 mb b1 b2 g1 l1 l2. (
            value exprs (product exprs (vars ma a1 a2) (vars mb b1 b2) g1 l1 l2),
            exprs.mul (value exprs (vars ma a1 a2)) (value exprs (vars mb b1 b2)),
          ))
          refl a.m a.l1 a.l2 b.m b.l1 b.l2;
      refresh_opens =
          λ a.
          solve O R 5 (λ m a1 a2 l1 l2. (value exprs (refresh exprs (vars m a1 a2) l1 l2), value exprs (vars m a1 a2))) refl a.m a.l1
          a.l2;
      known_product_opens =
          λ v b.
          solve O R 6
          (λ v mb b1 b2 l1 l2. (value exprs (known_product exprs v (vars mb b1 b2) l1 l2), exprs.mul v (value exprs (vars mb b1 b2)))) refl
          v b.m b.l1 b.l2;
    }

-- R-4's product is document 01's with a known value
pub like_product : {A : Type 0} (O : Ops A) → Ring O → LikeProduct O
like_product {A = A} O R =
    record {
      no_deal =
          λ v b. solve O R 2 (λ b1 b2. (product_deal exprs exprs.nil exprs.nil b1 b2 exprs.nil, exprs.nil)) refl b.l1 b.l2;
      word1 = λ v b. first v b.m b.l1;
      word2 = λ v b. second v b.m b.l2;
      share = λ v b l1 l2. λ i. record { m = both v b.m b.l1 b.l2 l1 l2 i; l1 = l1; l2 = l2 };
    }
  where
    both : (v mb b1 b2 l1 l2 : A) → (product O (known O v) (record { m = mb; l1 = b1; l2 = b2 }) O.nil l1 l2).m
        ≡ (known_product O v (record { m = mb; l1 = b1; l2 = b2 }) l1 l2).m
    both =
        solve O R 6
        (λ v mb b1 b2 l1 l2. (
          (product exprs (known exprs v) (vars mb b1 b2) exprs.nil l1 l2).m,
          (known_product exprs v (vars mb b1 b2) l1 l2).m,
        )) refl

    first : (v mb b1 l1 : A) → product_word1 O v mb O.nil b1 O.nil l1 ≡ known_product_word1 O v mb b1 l1
    first = solve O R 4 (λ v mb b1 l1. (product_word1 exprs v mb exprs.nil b1 exprs.nil l1, known_product_word1 exprs v mb b1 l1)) refl

    second : (v mb b2 l2 : A) → product_word2 O v mb O.nil b2 O.nil l2 ≡ known_product_word2 O v b2 l2
    second = solve O R 4 (λ v mb b2 l2. (product_word2 exprs v mb exprs.nil b2 exprs.nil l2, known_product_word2 exprs v b2 l2)) refl

-- words modulo 2^w
pub numbers_open : (w : ℕ) → Open (number_words w)
numbers_open w = opens (number_words w) (number_ring w)

-- words of w bits, with xor and `and`
pub bits_open : (w : ℕ) → Open (bit_words w)
bits_open w = opens (bit_words w) (bit_ring w)
