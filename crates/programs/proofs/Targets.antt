-- What a gate's target opens after it, from what its sources opened before. Assumes nothing.
use mathlib.Core.Path.{◌≡◌, sym, ap, ap₂, ◌∙◌}
use mathlib.Core.Bool.{true}
use mathlib.Core.List.{List}
use Prim.Native.Nat.{ℕ, suc, ◌+◌, ◌*◌, ◌/◌, ◌%◌, ◌^◌}
use native.Mathlib.Nat.{add-zero, mod-lt, add-mod-mod}
use lib.Dec.{ltb}
use lib.Seq.{get_or-set_same}
use lib.ListN.{set}
use lib.Bits.{bit_xor, bit_and, xor_mod, xor_shr, xor_block}
use lib.Pow.{pow_pos}
use Rattle.words.specs.Ring.{Ops}
use Rattle.words.specs.Words.{add, sub, neg, mul, bit, shl, numbers, bits}
use Rattle.words.proofs.Words.{neg_lt, mul_mod_mod}
use Rattle.words.proofs.Below.{number_carrier, bit_carrier}
use Rattle.shares.specs.Gates.{value}
use Rattle.gates.specs.Gates.{Part, Dealt, Add, Sub, Xor, Mul, And, Refresh, MulKnown, AndKnown, Scale, Plus, Up, Bit, Const, Public}
use Rattle.gates.specs.Gates.{Deal, DealBits}
use Rattle.gates.specs.Steps.{at, say1, say2, meet, part2, new_at, Cursor}
use Rattle.gates.specs.Meaning.{part, dealt_of, meaning}
use Rattle.gates.specs.Hosts.{Triple, share, Slot, joint1, joint2, act}
use Rattle.programs.proofs.Gates.{Fits, FitsAll, sum_opens, difference_opens, scale_opens, plus_opens, known_opens, deal_opens}
use Rattle.programs.proofs.Gates.{product_opens, refresh_opens, known_product_opens}
use Rattle.programs.proofs.Points.{part_lt, dealt_lt, Point, after, num, bin, m_of, l1_of, l2_of}

-- what slot d opens once it is written
written : (O : Ops ℕ) (j : Triple) (d x y z : ℕ) → Slot j d
    → value O (share (set j.0 d x, set j.1 d y, set j.2 d z) d) ≡ O.sub x (O.add y z)
written O j d x y z h =
    ap₂ O.sub (get_or-set_same j.0 d x 0 h.m)
    (ap₂ O.add (get_or-set_same j.1 d y 0 h.l1) (get_or-set_same j.2 d z 0 h.l2))

-- shifts and bits go through xor
shl_xor : (w n x y : ℕ) → bit_xor (shl w n x) (shl w n y) ≡ shl w n (bit_xor x y)
unfolding shl
shl_xor w n x y =
    sym (xor_mod (x * 2 ^ n) (y * 2 ^ n) w) ∙ ap (λ (z : ℕ). z % 2 ^ w) (simp add-zero at (xor_block n x y 0 0 (pow_pos n) (pow_pos n)))

bit_xors : (n x y : ℕ) → bit_xor (bit x n) (bit y n) ≡ bit (bit_xor x y) n
unfolding bit
bit_xors n x y = sym (xor_mod (x / 2 ^ n) (y / 2 ^ n) 1) ∙ ap (λ (z : ℕ). z % 2) (sym (xor_shr x y n))

module _ (w : ℕ) (A B : List ℕ) (hA : Fits w A) (hB : Fits w B) (G : Point w A B hA hB) (d : ℕ) (l : ltb d 24 ≡ true) where
  abbrev j : Triple
  j = G.j

  abbrev f : FitsAll w j
  f = G.fits

  abbrev c : Cursor
  c = G.c

  open3 : (O : Ops ℕ) (x y z : ℕ) → value O (share (set j.0 d x, set j.1 d y, set j.2 d z) d) ≡ O.sub x (O.add y z)
  open3 O x y z = written O j d x y z (G.slots d l)

  module _ (a b : ℕ) where
    pub at_add : num w A B hA hB (after w A B hA hB (Add d a b) G) d ≡ add w (num w A B hA hB G a) (num w A B hA hB G b)
    unfolding after num act meaning
    at_add =
        open3 (numbers w) _ _ _ ∙ sum_opens w (numbers w) (number_carrier w) _ (f.m a) _ (f.l1 a) _ (f.l2 a) _ (f.m b) _ (f.l1 b)
        _ (f.l2 b)

    pub at_sub : num w A B hA hB (after w A B hA hB (Sub d a b) G) d ≡ sub w (num w A B hA hB G a) (num w A B hA hB G b)
    unfolding after num act meaning
    at_sub =
        open3 (numbers w) _ _ _ ∙ difference_opens w (numbers w) (number_carrier w) _ (f.m a) _ (f.l1 a) _ (f.l2 a) _ (f.m b)
        _ (f.l1 b) _ (f.l2 b)

    pub at_xor : bin w A B hA hB (after w A B hA hB (Xor d a b) G) d ≡ bit_xor (bin w A B hA hB G a) (bin w A B hA hB G b)
    unfolding after bin act meaning
    at_xor =
        open3 (bits w) _ _ _ ∙ sum_opens w (bits w) (bit_carrier w) _ (f.m a) _ (f.l1 a) _ (f.l2 a) _ (f.m b) _ (f.l1 b) _ (f.l2 b)

    pub at_mul : num w A B hA hB (after w A B hA hB (Mul d a b) G) d ≡ mul w (num w A B hA hB G a) (num w A B hA hB G b)
    unfolding after num act meaning meet joint1 joint2 say1 say2 part2 new_at
    at_mul =
        open3 (numbers w) _ _ _
        ∙ product_opens w (numbers w) (number_carrier w) _ (f.m a) _ (f.l1 a) _ (f.l2 a) _ (f.m b) _ (f.l1 b) _ (f.l2 b) _ (hA c.a)
        _ (hA (suc c.a)) _ (hB c.b)

    pub at_and : bin w A B hA hB (after w A B hA hB (And d a b) G) d ≡ bit_and (bin w A B hA hB G a) (bin w A B hA hB G b)
    unfolding after bin act meaning meet joint1 joint2 say1 say2 part2 new_at
    at_and =
        open3 (bits w) _ _ _
        ∙ product_opens w (bits w) (bit_carrier w) _ (f.m a) _ (f.l1 a) _ (f.l2 a) _ (f.m b) _ (f.l1 b) _ (f.l2 b) _ (hA c.a)
        _ (hA (suc c.a)) _ (hB c.b)

    -- with a known value in slot a: its m
    pub at_mul_known : num w A B hA hB (after w A B hA hB (MulKnown d a b) G) d ≡ mul w (m_of w A B hA hB G a) (num w A B hA hB G b)
    unfolding after num m_of act meaning meet joint1 joint2 say1 say2 new_at
    at_mul_known =
        open3 (numbers w) _ _ _
        ∙ known_product_opens w (numbers w) (number_carrier w) _ (f.m a) _ (f.m b) _ (f.l1 b) _ (f.l2 b) _ (hA c.a) _ (hB c.b)

    pub at_and_known : bin w A B hA hB (after w A B hA hB (AndKnown d a b) G) d ≡ bit_and (m_of w A B hA hB G a) (bin w A B hA hB G b)
    unfolding after bin m_of act meaning meet joint1 joint2 say1 say2 new_at
    at_and_known =
        open3 (bits w) _ _ _
        ∙ known_product_opens w (bits w) (bit_carrier w) _ (f.m a) _ (f.m b) _ (f.l1 b) _ (f.l2 b) _ (hA c.a) _ (hB c.b)

  module _ (a : ℕ) where
    pub at_refresh : num w A B hA hB (after w A B hA hB (Refresh d a) G) d ≡ num w A B hA hB G a
    unfolding after num act meaning meet joint1 joint2 say1 say2 new_at
    at_refresh =
        open3 (numbers w) _ _ _ ∙ refresh_opens w (numbers w) (number_carrier w) _ (f.m a) _ (f.l1 a) _ (f.l2 a) _ (hA c.a)
        _ (hB c.b)

    pub at_scale : (n : ℕ) → num w A B hA hB (after w A B hA hB (Scale d a n) G) d ≡ mul w (num w A B hA hB G a) n
    unfolding after num act meaning mul
    at_scale n =
        open3 (numbers w) _ _ _ ∙ ap₂ (sub w) (reduce (at j.0 a)) (ap₂ (add w) (reduce (at j.1 a)) (reduce (at j.2 a)))
        ∙ scale_opens w (numbers w) (number_carrier w) _ (f.m a) _ (f.l1 a) _ (f.l2 a) (n % 2 ^ w) (mod-lt n (pow_pos w))
        ∙ sym (reduce _)
      where
        reduce : (x : ℕ) → x * n % 2 ^ w ≡ x * (n % 2 ^ w) % 2 ^ w
        reduce x = sym (mul_mod_mod x n (2 ^ w))

    pub at_plus : (n : ℕ) → num w A B hA hB (after w A B hA hB (Plus d a n) G) d ≡ add w (num w A B hA hB G a) n
    unfolding after num act meaning add
    at_plus n =
        open3 (numbers w) _ _ _ ∙ ap (λ (x : ℕ). sub w x (add w (at j.1 a) (at j.2 a))) (reduce (at j.0 a))
        ∙ plus_opens w (numbers w) (number_carrier w) _ (f.m a) _ (f.l1 a) _ (f.l2 a) (n % 2 ^ w) (mod-lt n (pow_pos w)) ∙ sym (reduce _)
      where
        reduce : (x : ℕ) → (x + n) % 2 ^ w ≡ (x + n % 2 ^ w) % 2 ^ w
        reduce x = sym (add-mod-mod x n (2 ^ w))

    pub at_up : (n : ℕ) → bin w A B hA hB (after w A B hA hB (Up d a n) G) d ≡ shl w n (bin w A B hA hB G a)
    unfolding after bin act meaning
    at_up n = open3 (bits w) _ _ _ ∙ rw (shl_xor w n (at j.1 a) (at j.2 a)) (shl_xor w n _ _)

    pub at_bit : (n : ℕ) → bin w A B hA hB (after w A B hA hB (Bit d a n) G) d ≡ bit (bin w A B hA hB G a) n
    unfolding after bin act meaning
    at_bit n = open3 (bits w) _ _ _ ∙ rw (bit_xors n (at j.1 a) (at j.2 a)) (bit_xors n _ _)

    pub at_public : (p : Part) → num w A B hA hB (after w A B hA hB (Public d a p) G) d ≡ part w p (m_of w A B hA hB G a)
    unfolding after num m_of act meaning
    at_public p = open3 (numbers w) _ _ _ ∙ known_opens w (numbers w) (number_carrier w) _ (part_lt w p _ (f.m a))

    pub at_public_bits : (p : Part) → bin w A B hA hB (after w A B hA hB (Public d a p) G) d ≡ part w p (m_of w A B hA hB G a)
    unfolding after bin m_of act meaning
    at_public_bits p = open3 (bits w) _ _ _ ∙ known_opens w (bits w) (bit_carrier w) _ (part_lt w p _ (f.m a))

    pub at_deal : (p : Dealt)
        → num w A B hA hB (after w A B hA hB (Deal d a p) G) d ≡ dealt_of w p (l1_of w A B hA hB G a) (l2_of w A B hA hB G a)
    unfolding after num l1_of l2_of act meaning
    at_deal p = open3 (numbers w) _ _ _ ∙ deal_opens w (numbers w) (number_carrier w) _ (dealt_lt w p _ _ (f.l1 a) (f.l2 a)) _ (hA c.a)

    pub at_deal_bits : bin w A B hA hB (after w A B hA hB (DealBits d a) G) d
        ≡ neg w (add w (l1_of w A B hA hB G a) (l2_of w A B hA hB G a))
    unfolding after bin l1_of l2_of act meaning
    at_deal_bits = open3 (bits w) _ _ _ ∙ deal_opens w (bits w) (bit_carrier w) _ (neg_lt w _) _ (hA c.a)

    -- the words of the target themselves, where a later gate takes them apart
    pub m_plus : (n : ℕ) → m_of w A B hA hB (after w A B hA hB (Plus d a n) G) d ≡ add w (m_of w A B hA hB G a) n
    unfolding after m_of act meaning
    m_plus n = get_or-set_same j.0 d _ 0 (G.slots d l).m

    pub m_public : (p : Part) → m_of w A B hA hB (after w A B hA hB (Public d a p) G) d ≡ part w p (m_of w A B hA hB G a)
    unfolding after m_of act meaning
    m_public p = get_or-set_same j.0 d _ 0 (G.slots d l).m

    pub l1_plus : (n : ℕ) → l1_of w A B hA hB (after w A B hA hB (Plus d a n) G) d ≡ l1_of w A B hA hB G a
    unfolding after l1_of act meaning
    l1_plus n = get_or-set_same j.1 d _ 0 (G.slots d l).l1

    pub l2_plus : (n : ℕ) → l2_of w A B hA hB (after w A B hA hB (Plus d a n) G) d ≡ l2_of w A B hA hB G a
    unfolding after l2_of act meaning
    l2_plus n = get_or-set_same j.2 d _ 0 (G.slots d l).l2

  pub at_const : (n : ℕ) → num w A B hA hB (after w A B hA hB (Const d n) G) d ≡ n % 2 ^ w
  unfolding after num act meaning
  at_const n = open3 (numbers w) _ _ _ ∙ known_opens w (numbers w) (number_carrier w) _ (mod-lt n (pow_pos w))
