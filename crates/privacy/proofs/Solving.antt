-- What is spoken and dealt, as a function of the mask that the other host does not see: it can be solved for that mask, once for numbers
-- and for bits. Assumes nothing.
use mathlib.Core.Path.{◌≡◌, refl, subst}
use mathlib.Core.List.{List}
use Prim.Native.Nat.{ℕ, ◌^◌, ◌<◌}
use lib.Pow.{pow_pos}
use Rattle.words.specs.Ring.{Ops}
use Rattle.words.specs.Words.{numbers, bits}
use Rattle.words.proofs.Solver.{exprs}
use Rattle.words.proofs.Words.{neg_lt}
use Rattle.words.proofs.Below.{Carrier, number_carrier, bit_carrier, solve_below}
use Rattle.shares.specs.Gates as S
use Rattle.gates.specs.Gates.{Gate, Add, Sub, Xor, Mul, And, Refresh, MulKnown, AndKnown, Scale, Plus, Up, Bit, Const, Public, Deal}
use Rattle.gates.specs.Gates.{DealBits}
use Rattle.gates.specs.Steps.{Lane, Exchange, product, refresh, known_product, Step, local, deal, exchange, end, say1, say2, part2, Cursor}
use Rattle.gates.specs.Meaning.{meaning}
use Rattle.gates.specs.Hosts.{Triple, act}
use Rattle.programs.proofs.Gates.{Fits, FitsAll}
use Rattle.programs.proofs.Points.{Writes, writes, fits_set, dealt_lt, target}
use Rattle.privacy.specs.Unseen.{ring, resolve1, resolve2}

-- ---- the operations keep words words

module _ (w : ℕ) (O : Ops ℕ) (C : Carrier w O) where
  add_lt : (x y : ℕ) → x < 2 ^ w → y < 2 ^ w → O.add x y < 2 ^ w
  add_lt x y h k = subst (λ (n : ℕ). n < 2 ^ w) (C.add_is (x, h) (y, k)) (C.ops.add (x, h) (y, k)).1

  sub_lt : (x y : ℕ) → x < 2 ^ w → y < 2 ^ w → O.sub x y < 2 ^ w
  sub_lt x y h k = subst (λ (n : ℕ). n < 2 ^ w) (C.sub_is (x, h) (y, k)) (C.ops.sub (x, h) (y, k)).1

  mul_lt : (x y : ℕ) → x < 2 ^ w → y < 2 ^ w → O.mul x y < 2 ^ w
  mul_lt x y h k = subst (λ (n : ℕ). n < 2 ^ w) (C.mul_is (x, h) (y, k)) (C.ops.mul (x, h) (y, k)).1

  neg_below : (x : ℕ) → x < 2 ^ w → O.neg x < 2 ^ w
  neg_below x h = subst (λ (n : ℕ). n < 2 ^ w) (C.neg_is (x, h)) (C.ops.neg (x, h)).1

  nil_lt : O.nil < 2 ^ w
  nil_lt = subst (λ (n : ℕ). n < 2 ^ w) C.nil_is C.ops.nil.1

  word1_lt : (ma mb a1 b1 g l : ℕ) → ma < 2 ^ w → mb < 2 ^ w → a1 < 2 ^ w → b1 < 2 ^ w → g < 2 ^ w → l < 2 ^ w
      → S.product_word1 O ma mb a1 b1 g l < 2 ^ w
  word1_lt ma mb a1 b1 g l p q r s t u =
      add_lt _ l (add_lt _ g (sub_lt _ _ (sub_lt _ _ (mul_lt ma mb p q) (mul_lt ma b1 p s)) (mul_lt mb a1 q r)) t) u

  word2_lt : (ma mb a2 b2 g l : ℕ) → ma < 2 ^ w → mb < 2 ^ w → a2 < 2 ^ w → b2 < 2 ^ w → g < 2 ^ w → l < 2 ^ w
      → S.product_word2 O ma mb a2 b2 g l < 2 ^ w
  word2_lt ma mb a2 b2 g l p q r s t u = add_lt _ l (sub_lt _ _ (sub_lt g _ t (mul_lt ma b2 p s)) (mul_lt mb a2 q r)) u

  -- the second mask of a deal, from the first: what gives the second gives back the first
  pub deal_back : (v : ℕ) → v < 2 ^ w → (x : ℕ) → x < 2 ^ w → (S.deal O v (S.deal O v x).l2).l2 ≡ x
  deal_back = solve_below w O C 2 (λ v x. ((S.deal exprs v (S.deal exprs v x).l2).l2, x)) refl

  pub deal_fits : (v x : ℕ) → v < 2 ^ w → x < 2 ^ w → (S.deal O v x).l2 < 2 ^ w
  deal_fits v x h k = sub_lt _ v (neg_below x k) h

-- ---- exchanges over a ring of words

abbrev pub Carried : ℕ → Exchange → Type 0
Carried w e = Carrier w (ring e)

module _ (w : ℕ) where
  pub say1_lt : (e : Exchange) → Carried w e → (m l : Lane) (g x : ℕ) → Fits w m → Fits w l → g < 2 ^ w → x < 2 ^ w
      → say1 e m l g x < 2 ^ w
  unfolding say1
  say1_lt (product O a b) C m l g x hm hl hg hx = word1_lt w O C _ _ _ _ g x (hm a) (hm b) (hl a) (hl b) hg hx
  say1_lt (refresh O a) C m l g x hm hl hg hx = add_lt w O C _ x (sub_lt w O C _ _ (hm a) (hl a)) hx
  say1_lt (known_product O a b) C m l g x hm hl hg hx =
      add_lt w O C _ x (sub_lt w O C _ _ (mul_lt w O C _ _ (hm a) (hm b)) (mul_lt w O C _ _ (hm a) (hl b))) hx

  pub say2_lt : (e : Exchange) → Carried w e → (m l : Lane) (g x : ℕ) → Fits w m → Fits w l → g < 2 ^ w → x < 2 ^ w
      → say2 e m l g x < 2 ^ w
  unfolding say2
  say2_lt (product O a b) C m l g x hm hl hg hx = word2_lt w O C _ _ _ _ g x (hm a) (hm b) (hl a) (hl b) hg hx
  say2_lt (refresh O a) C m l g x hm hl hg hx = sub_lt w O C x _ hx (hl a)
  say2_lt (known_product O a b) C m l g x hm hl hg hx = sub_lt w O C x _ hx (mul_lt w O C _ _ (hm a) (hl b))

  pub part2_lt : (e : Exchange) → Carried w e → (g : ℕ) (l1 l2 : Lane) → g < 2 ^ w → Fits w l1 → Fits w l2 → part2 e g l1 l2 < 2 ^ w
  unfolding part2
  part2_lt (product O a b) C g l1 l2 hg h k =
      sub_lt w O C _ g (mul_lt w O C _ _ (add_lt w O C _ _ (h a) (k a)) (add_lt w O C _ _ (h b) (k b))) hg
  part2_lt (refresh O a) C g l1 l2 hg h k = pow_pos w
  part2_lt (known_product O a b) C g l1 l2 hg h k = pow_pos w

  module _ (m l : Lane) (g v : ℕ) (hm : Fits w m) (hl : Fits w l) (hg : g < 2 ^ w) (hv : v < 2 ^ w) where
    pub resolve1_lt : (e : Exchange) → Carried w e → resolve1 e m l g v < 2 ^ w
    unfolding resolve1
    resolve1_lt e C = sub_lt w (ring e) C v _ hv (say1_lt e C m l g (ring e).nil hm hl hg (nil_lt w (ring e) C))

    pub resolve2_lt : (e : Exchange) → Carried w e → resolve2 e m l g v < 2 ^ w
    unfolding resolve2
    resolve2_lt e C = sub_lt w (ring e) C v _ hv (say2_lt e C m l g (ring e).nil hm hl hg (nil_lt w (ring e) C))

    -- the host speaks v
    pub reach1 : (e : Exchange) → Carried w e → say1 e m l g (resolve1 e m l g v) ≡ v
    unfolding resolve1 say1
    reach1 (product O a b) C =
        solve_below w O C 6
        (λ ma mb a1 b1 g v. (S.product_word1 exprs ma mb a1 b1 g (exprs.sub v (S.product_word1 exprs ma mb a1 b1 g exprs.nil)), v)) refl
        _ (hm a) _ (hm b) _ (hl a) _ (hl b) g hg v hv
    reach1 (refresh O a) C =
        solve_below w O C 3 (λ ma a1 v. (S.refresh_word1 exprs ma a1 (exprs.sub v (S.refresh_word1 exprs ma a1 exprs.nil)), v)) refl
        _ (hm a) _ (hl a) v hv
    reach1 (known_product O a b) C =
        solve_below w O C 4
        (λ ma mb b1 v. (S.known_product_word1 exprs ma mb b1 (exprs.sub v (S.known_product_word1 exprs ma mb b1 exprs.nil)), v)) refl
        _ (hm a) _ (hm b) _ (hl b) v hv

    pub reach2 : (e : Exchange) → Carried w e → say2 e m l g (resolve2 e m l g v) ≡ v
    unfolding resolve2 say2
    reach2 (product O a b) C =
        solve_below w O C 6
        (λ ma mb a2 b2 g v. (S.product_word2 exprs ma mb a2 b2 g (exprs.sub v (S.product_word2 exprs ma mb a2 b2 g exprs.nil)), v)) refl
        _ (hm a) _ (hm b) _ (hl a) _ (hl b) g hg v hv
    reach2 (refresh O a) C =
        solve_below w O C 2 (λ a2 v. (S.refresh_word2 exprs a2 (exprs.sub v (S.refresh_word2 exprs a2 exprs.nil)), v)) refl
        _ (hl a) v hv
    reach2 (known_product O a b) C =
        solve_below w O C 3
        (λ ma b2 v. (S.known_product_word2 exprs ma b2 (exprs.sub v (S.known_product_word2 exprs ma b2 exprs.nil)), v)) refl
        _ (hm a) _ (hl b) v hv

    -- and by no other mask
    pub back1 : (e : Exchange) → Carried w e → resolve1 e m l g (say1 e m l g v) ≡ v
    unfolding resolve1 say1
    back1 (product O a b) C =
        solve_below w O C 6
        (λ ma mb a1 b1 g v. (exprs.sub (S.product_word1 exprs ma mb a1 b1 g v) (S.product_word1 exprs ma mb a1 b1 g exprs.nil), v)) refl
        _ (hm a) _ (hm b) _ (hl a) _ (hl b) g hg v hv
    back1 (refresh O a) C =
        solve_below w O C 3 (λ ma a1 v. (exprs.sub (S.refresh_word1 exprs ma a1 v) (S.refresh_word1 exprs ma a1 exprs.nil), v)) refl
        _ (hm a) _ (hl a) v hv
    back1 (known_product O a b) C =
        solve_below w O C 4
        (λ ma mb b1 v. (exprs.sub (S.known_product_word1 exprs ma mb b1 v) (S.known_product_word1 exprs ma mb b1 exprs.nil), v)) refl
        _ (hm a) _ (hm b) _ (hl b) v hv

    pub back2 : (e : Exchange) → Carried w e → resolve2 e m l g (say2 e m l g v) ≡ v
    unfolding resolve2 say2
    back2 (product O a b) C =
        solve_below w O C 6
        (λ ma mb a2 b2 g v. (exprs.sub (S.product_word2 exprs ma mb a2 b2 g v) (S.product_word2 exprs ma mb a2 b2 g exprs.nil), v)) refl
        _ (hm a) _ (hm b) _ (hl a) _ (hl b) g hg v hv
    back2 (refresh O a) C =
        solve_below w O C 2 (λ a2 v. (exprs.sub (S.refresh_word2 exprs a2 v) (S.refresh_word2 exprs a2 exprs.nil), v)) refl
        _ (hl a) v hv
    back2 (known_product O a b) C =
        solve_below w O C 3
        (λ ma b2 v. (exprs.sub (S.known_product_word2 exprs ma b2 v) (S.known_product_word2 exprs ma b2 exprs.nil), v)) refl
        _ (hm a) _ (hl b) v hv

  -- the deal of a product, from g1: what gives g2 gives back g1
  pub part_back : (O : Ops ℕ) (a b : ℕ) → Carrier w O → (g : ℕ) (l1 l2 : Lane) → g < 2 ^ w → Fits w l1 → Fits w l2
      → part2 (product O a b) (part2 (product O a b) g l1 l2) l1 l2 ≡ g
  unfolding part2
  part_back O a b C g l1 l2 hg h k =
      solve_below w O C 5 (λ a1 a2 b1 b2 g. (S.product_deal exprs a1 a2 b1 b2 (S.product_deal exprs a1 a2 b1 b2 g), g)) refl
      _ (h a) _ (k a) _ (h b) _ (k b) g hg

-- ---- steps

-- deals and exchanges that can be solved for the mask that is unseen
abbrev pub Solved : ℕ → Step → Type 0
Solved w (local d m l) = Unit
Solved w (deal d f) = (x : ℕ) (l1 l2 : Lane) → x < 2 ^ w → Fits w l1 → Fits w l2 → (f x l1 l2 < 2 ^ w) × (f (f x l1 l2) l1 l2 ≡ x)
Solved w (exchange d e) = Carried w e
Solved w end = Unit

pub record Sound (w : ℕ) (x : Step) : Type 0 where
  pub fits : (A B : List ℕ) (c : Cursor) (j : Triple) → Fits w A → Fits w B → FitsAll w j → FitsAll w (act A B x c j)
  pub solved : Solved w x

gate_fits : (w : ℕ) (g : Gate) (A B : List ℕ) (c : Cursor) (j : Triple) → Fits w A → Fits w B → FitsAll w j
    → FitsAll w (act A B (meaning w g) c j)
gate_fits w g A B c j hA hB hj =
    let W : Writes w (target g) j (act A B (meaning w g) c j) = writes w A B c j hA hB hj g in
    rw W.is
    (record {
      m = fits_set w j.0 (target g) W.m.0 hj.m W.m.1;
      l1 = fits_set w j.1 (target g) W.l1.0 hj.l1 W.l1.1;
      l2 = fits_set w j.2 (target g) W.l2.0 hj.l2 W.l2.1;
    })

gate_solved : (w : ℕ) (g : Gate) → Solved w (meaning w g)
unfolding meaning
gate_solved w (Add d a b) = tt
gate_solved w (Sub d a b) = tt
gate_solved w (Xor d a b) = tt
gate_solved w (Mul d a b) = number_carrier w
gate_solved w (And d a b) = bit_carrier w
gate_solved w (Refresh d a) = number_carrier w
gate_solved w (MulKnown d a b) = number_carrier w
gate_solved w (AndKnown d a b) = bit_carrier w
gate_solved w (Scale d a n) = tt
gate_solved w (Plus d a n) = tt
gate_solved w (Up d a n) = tt
gate_solved w (Bit d a n) = tt
gate_solved w (Const d n) = tt
gate_solved w (Public d a f) = tt
gate_solved w (Deal d a f) =
    λ x l1 l2 h p q.
    let v = dealt_lt w f _ _ (p a) (q a) in
    (deal_fits w (numbers w) (number_carrier w) _ x v h, deal_back w (numbers w) (number_carrier w) _ v x h)
gate_solved w (DealBits d a) =
    λ x l1 l2 h p q. (deal_fits w (bits w) (bit_carrier w) _ x (neg_lt w _) h, deal_back w (bits w) (bit_carrier w) _ (neg_lt w _) x h)

pub gate_sound : (w : ℕ) (g : Gate) → Sound w (meaning w g)
gate_sound w g = record { fits = gate_fits w g; solved = gate_solved w g }

pub end_sound : (w : ℕ) → Sound w end
unfolding act
end_sound w = record { fits = λ A B c j hA hB hj. hj; solved = tt }
