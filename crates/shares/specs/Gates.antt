-- Document 01, "Shares" and "Gates", and R-4's product, over the operations of any commutative ring: numbers modulo
-- 2^w, and bits with xor and `and`. Assumes nothing.
use Rattle.std.specs.Prelude.{◌≡◌}
use Rattle.words.specs.Ring.{Ops}

-- "Value x has masks L1, L2": the three words of a share
pub record Share (A : Type 0) : Type 0 where
  pub m : A
  pub l1 : A
  pub l2 : A

module _ {A : Type 0} (O : Ops A) where
  -- ⊕, ⊖ and ⊗ are the ring's own plus, minus and times
  infixl 65 ◌⊕◌
  infixl 65 ◌⊖◌
  infixl 70 ◌⊗◌
  open O use {add as ◌⊕◌, sub as ◌⊖◌, mul as ◌⊗◌, neg, nil}

  -- L = L1 + L2
  abbrev pub mask : Share A → A
  mask s = s.l1 ⊕ s.l2

  -- x = m - L
  abbrev pub value : Share A → A
  value s = s.m ⊖ mask s

  -- "m = x + L"
  abbrev pub masked : (x l1 l2 : A) → Share A
  masked x l1 l2 = record { m = x ⊕ (l1 ⊕ l2); l1 = l1; l2 = l2 }

  -- deal: "L1 = next A word, L2 = -L1 - v, sent to host 2; m = 0"; for bits that is "L2 = L1 xor v"
  abbrev pub deal : (v a : A) → Share A
  deal v a = record { m = nil; l1 = a; l2 = neg a ⊖ v }

  -- known value: "m = v, masks 0"
  abbrev pub known : (v : A) → Share A
  known v = record { m = v; l1 = nil; l2 = nil }

  -- a product's deal: "g2 = La × Lb - g1"
  abbrev pub product_deal : (a1 a2 b1 b2 g1 : A) → A
  product_deal a1 a2 b1 b2 g1 = (a1 ⊕ a2) ⊗ (b1 ⊕ b2) ⊖ g1

  -- "Host 1 speaks ma × mb - ma × Lb1 - mb × La1 + g1 + L1"
  abbrev pub product_word1 : (ma mb a1 b1 g1 l1 : A) → A
  product_word1 ma mb a1 b1 g1 l1 = ma ⊗ mb ⊖ ma ⊗ b1 ⊖ mb ⊗ a1 ⊕ g1 ⊕ l1

  -- "host 2 speaks g2 - ma × Lb2 - mb × La2 + L2"
  abbrev pub product_word2 : (ma mb a2 b2 g2 l2 : A) → A
  product_word2 ma mb a2 b2 g2 l2 = g2 ⊖ ma ⊗ b2 ⊖ mb ⊗ a2 ⊕ l2

  -- "The new m is the sum of the two spoken words."
  abbrev pub product : (a b : Share A) (g1 l1 l2 : A) → Share A
  product a b g1 l1 l2 =
      record {
        m =
            product_word1 a.m b.m a.l1 b.l1 g1 l1
            ⊕ product_word2 a.m b.m a.l2 b.l2 (product_deal a.l1 a.l2 b.l1 b.l2 g1) l2;
        l1 = l1;
        l2 = l2;
      }

  -- R-4, the product of the known value v with b: "a zero mask on one side, so its g1 and g2 are 0". Host 1 speaks
  -- v × mb - v × Lb1 + L1
  abbrev pub known_product_word1 : (v mb b1 l1 : A) → A
  known_product_word1 v mb b1 l1 = v ⊗ mb ⊖ v ⊗ b1 ⊕ l1

  -- host 2 speaks L2 - v × Lb2
  abbrev pub known_product_word2 : (v b2 l2 : A) → A
  known_product_word2 v b2 l2 = l2 ⊖ v ⊗ b2

  -- "The new m is the sum of the two spoken words", here too
  abbrev pub known_product : (v : A) (b : Share A) (l1 l2 : A) → Share A
  known_product v b l1 l2 =
      record {
        m = known_product_word1 v b.m b.l1 l1 ⊕ known_product_word2 v b.l2 l2;
        l1 = l1;
        l2 = l2;
      }

  -- refresh: "host 1 speaks ma - La1 + L1, host 2 speaks L2 - La2; the new m is the sum"
  abbrev pub refresh_word1 : (ma a1 l1 : A) → A
  refresh_word1 ma a1 l1 = ma ⊖ a1 ⊕ l1

  abbrev pub refresh_word2 : (a2 l2 : A) → A
  refresh_word2 a2 l2 = l2 ⊖ a2

  abbrev pub refresh : (a : Share A) (l1 l2 : A) → Share A
  refresh a l1 l2 = record { m = refresh_word1 a.m a.l1 l1 ⊕ refresh_word2 a.l2 l2; l1 = l1; l2 = l2 }

-- what each gate opens
pub record Open {A : Type 0} (O : Ops A) : Type 0 where
  pub masked_opens : (x l1 l2 : A) → value O (masked O x l1 l2) ≡ x
  pub deal_opens : (v a : A) → value O (deal O v a) ≡ v
  pub known_opens : (v : A) → value O (known O v) ≡ v
  pub product_opens : (a b : Share A) (g1 l1 l2 : A)
      → value O (product O a b g1 l1 l2) ≡ O.mul (value O a) (value O b)
  pub refresh_opens : (a : Share A) (l1 l2 : A) → value O (refresh O a l1 l2) ≡ value O a
  pub known_product_opens : (v : A) (b : Share A) (l1 l2 : A)
      → value O (known_product O v b l1 l2) ≡ O.mul v (value O b)

-- R-4: document 01's product of the known value v, whose masks are 0, with g1 = 0 has g2 = 0 too, and its words and its
-- share are those above
pub record LikeProduct {A : Type 0} (O : Ops A) : Type 0 where
  pub no_deal : (v : A) (b : Share A)
      → product_deal O (known O v).l1 (known O v).l2 b.l1 b.l2 O.nil ≡ O.nil
  pub word1 : (v : A) (b : Share A) (l1 : A)
      → product_word1 O v b.m (known O v).l1 b.l1 O.nil l1 ≡ known_product_word1 O v b.m b.l1 l1
  pub word2 : (v : A) (b : Share A) (l2 : A)
      → product_word2 O v b.m (known O v).l2 b.l2 O.nil l2 ≡ known_product_word2 O v b.l2 l2
  pub share : (v : A) (b : Share A) (l1 l2 : A) → product O (known O v) b O.nil l1 l2 ≡ known_product O v b l1 l2
