-- A point of the joint walk, and the point after a gate: what it writes fits, and other slots keep their shares. Assumes nothing.
use mathlib.Core.Logic.{◌≢◌}
use mathlib.Core.Path.{◌≡◌, refl, ap, ◌∙◌}
use mathlib.Core.Bool.{true, false}
use mathlib.Core.List.{List, [], ◌∷◌, ◌++◌}
use Prim.Native.Nat.{ℕ, zero, suc, ◌*◌, ◌%◌, ◌^◌, ◌≤◌, ◌<◌}
use native.Mathlib.Nat.{mod-lt, lt_of_le_of_lt, le_trans, mod-le, div-le_self}
use native.Mathlib.Omega.{arith}
use borrow.Author.Tests.{ne_eqb}
use lib.Dec.{T, eqb, ltb, eqb_refl, lit≤, lit<}
use lib.ListN.{set}
use lib.Seq.{get_or-set_other, lt-length-set}
use lib.Bits.{xor_lt}
use lib.Pow.{pow_pos}
use Rattle.words.specs.Words.{add, neg, mul, bit, shl, shr, numbers, bits}
use Rattle.words.specs.Signed.{shr_signed}
use Rattle.words.proofs.Words.{Word, number_words, bit_words, add_lt, neg_lt, mul_lt}
use Rattle.words.proofs.Signed.{wrap_lt}
use Rattle.shares.specs.Gates as S
use Rattle.shares.specs.Gates.{Share, value}
use Rattle.gates.specs.Gates.{Part, Field, Signed, Dealt, OfSum, OfNegated, OfBits, Gate, Add, Sub, Xor, Mul, And, Refresh, Scale, Plus}
use Rattle.gates.specs.Gates.{MulKnown, AndKnown, Up, Bit, Const, Public, Deal, DealBits}
use Rattle.gates.specs.Steps.{Lane, at, say1, say2, meet, part2, new_at, Cursor, past}
use Rattle.gates.specs.Meaning.{part, dealt_of, meaning}
use Rattle.gates.specs.Hosts.{Triple, share, Slot, joint1, joint2, act}
use Rattle.gates.proofs.Formulas.{share_path}
use Rattle.programs.proofs.Gates.{Fits, FitsAll}

-- ---- bounds

unfoldable bit_fits : (w x n : ℕ) → x < 2 ^ w → bit x n < 2 ^ w
unfolding bit
bit_fits w x n h = lt_of_le_of_lt (le_trans (mod-le _ _) (div-le_self _ _)) h

shl_fits : (w n x : ℕ) → shl w n x < 2 ^ w
unfolding shl
shl_fits w n x = mod-lt (x * 2 ^ n) (pow_pos w)

pub part_lt : (w : ℕ) (f : Part) (x : ℕ) → x < 2 ^ w → part w f x < 2 ^ w
unfolding part shr shr_signed
part_lt w (Field k j) x h = lt_of_le_of_lt (le_trans (mod-le _ _) (div-le_self _ _)) h
part_lt w (Signed k) x h = wrap_lt w _

pub dealt_lt : (w : ℕ) (f : Dealt) (x y : ℕ) → x < 2 ^ w → y < 2 ^ w → dealt_of w f x y < 2 ^ w
unfolding dealt_of
dealt_lt w (OfSum f) x y h k = part_lt w f (add w x y) (add_lt w x y)
dealt_lt w (OfNegated f) x y h k = part_lt w f (neg w (add w x y)) (neg_lt w (add w x y))
dealt_lt w OfBits x y h k = xor_lt w x y h k

-- ---- every gate writes its target on the three lanes, and nothing else

unfoldable pub target : Gate → ℕ
target (Add d a b) = d
target (Sub d a b) = d
target (Xor d a b) = d
target (Mul d a b) = d
target (And d a b) = d
target (Refresh d a) = d
target (MulKnown d a b) = d
target (AndKnown d a b) = d
target (Scale d a n) = d
target (Plus d a n) = d
target (Up d a n) = d
target (Bit d a n) = d
target (Const d n) = d
target (Public d a f) = d
target (Deal d a f) = d
target (DealBits d a) = d

pub record Writes (w d : ℕ) (j j' : Triple) : Type 0 where
  pub m : Word w
  pub l1 : Word w
  pub l2 : Word w
  pub is : j' ≡ (set j.0 d m.0, set j.1 d l1.0, set j.2 d l2.0)

wrote : (w d : ℕ) (j : Triple) (x y z : Word w) → Writes w d j (set j.0 d x.0, set j.1 d y.0, set j.2 d z.0)
wrote w d j x y z = record { m = x; l1 = y; l2 = z; is = refl }

module _ (w : ℕ) (A B : List ℕ) (c : Cursor) (j : Triple) (hA : Fits w A) (hB : Fits w B) (hj : FitsAll w j) where
  abbrev M : ℕ → Word w
  M i = (at j.0 i, hj.m i)

  abbrev L1 : ℕ → Word w
  L1 i = (at j.1 i, hj.l1 i)

  abbrev L2 : ℕ → Word w
  L2 i = (at j.2 i, hj.l2 i)

  abbrev a₁ : Word w
  a₁ = (at A c.a, hA c.a)

  abbrev a₂ : Word w
  a₂ = (at A (suc c.a), hA (suc c.a))

  abbrev b₁ : Word w
  b₁ = (at B c.b, hB c.b)

  abbrev triple : ℕ → Share (Word w)
  triple i = record { m = M i; l1 = L1 i; l2 = L2 i }

  -- the same operation on each lane
  abbrev on_each : (f : ℕ → ℕ) → ((x : ℕ) → x < 2 ^ w → f x < 2 ^ w) → Word w → Word w
  on_each f h x = (f x.0, h x.0 x.1)

  pub writes : (g : Gate) → Writes w (target g) j (act A B (meaning w g) c j)
  unfolding act meaning meet joint1 joint2 say1 say2 part2 new_at target
  writes (Add d a b) = wrote w d j ((number_words w).add (M a) (M b)) ((number_words w).add (L1 a) (L1 b)) ((number_words w).add (L2 a) (L2 b))
  writes (Sub d a b) = wrote w d j ((number_words w).sub (M a) (M b)) ((number_words w).sub (L1 a) (L1 b)) ((number_words w).sub (L2 a) (L2 b))
  writes (Xor d a b) = wrote w d j ((bit_words w).add (M a) (M b)) ((bit_words w).add (L1 a) (L1 b)) ((bit_words w).add (L2 a) (L2 b))
  writes (Mul d a b) = wrote w d j (S.product (number_words w) (triple a) (triple b) a₁ a₂ b₁).m a₂ b₁
  writes (And d a b) = wrote w d j (S.product (bit_words w) (triple a) (triple b) a₁ a₂ b₁).m a₂ b₁
  writes (Refresh d a) = wrote w d j (S.refresh (number_words w) (triple a) a₁ b₁).m a₁ b₁
  writes (MulKnown d a b) = wrote w d j (S.known_product (number_words w) (M a) (triple b) a₁ b₁).m a₁ b₁
  writes (AndKnown d a b) = wrote w d j (S.known_product (bit_words w) (M a) (triple b) a₁ b₁).m a₁ b₁
  writes (Scale d a n) =
      wrote w d j (on_each (λ x. mul w x n) (λ x h. mul_lt w x n) (M a)) (on_each (λ x. mul w x n) (λ x h. mul_lt w x n) (L1 a))
      (on_each (λ x. mul w x n) (λ x h. mul_lt w x n) (L2 a))
  writes (Plus d a n) = wrote w d j (on_each (λ x. add w x n) (λ x h. add_lt w x n) (M a)) (L1 a) (L2 a)
  writes (Up d a n) =
      wrote w d j (on_each (shl w n) (λ x h. shl_fits w n x) (M a)) (on_each (shl w n) (λ x h. shl_fits w n x) (L1 a))
      (on_each (shl w n) (λ x h. shl_fits w n x) (L2 a))
  writes (Bit d a n) =
      wrote w d j (on_each (λ x. bit x n) (λ x h. bit_fits w x n h) (M a)) (on_each (λ x. bit x n) (λ x h. bit_fits w x n h) (L1 a))
      (on_each (λ x. bit x n) (λ x h. bit_fits w x n h) (L2 a))
  writes (Const d n) = wrote w d j (n % 2 ^ w, mod-lt n (pow_pos w)) (number_words w).nil (number_words w).nil
  writes (Public d a f) = wrote w d j (on_each (part w f) (part_lt w f) (M a)) (number_words w).nil (number_words w).nil
  writes (Deal d a f) =
      wrote w d j (number_words w).nil a₁
      (S.deal (number_words w) (dealt_of w f (at j.1 a) (at j.2 a), dealt_lt w f _ _ (hj.l1 a) (hj.l2 a)) a₁).l2
  writes (DealBits d a) =
      wrote w d j (number_words w).nil a₁ (S.deal (bit_words w) ((number_words w).neg ((number_words w).add (L1 a) (L2 a))) a₁).l2

-- so words stay words, slots slots, and other slots keep their shares
pub fits_set : (w : ℕ) (l : Lane) (d v : ℕ) → Fits w l → v < 2 ^ w → Fits w (set l d v)
fits_set w [] d v h k i = h i
fits_set w (x ∷ l) zero v h k zero = k
fits_set w (x ∷ l) zero v h k (suc i) = h (suc i)
fits_set w (x ∷ l) (suc d) v h k zero = h zero
fits_set w (x ∷ l) (suc d) v h k (suc i) = fits_set w l d v (λ n. h (suc n)) k i

not_eq : (m n : ℕ) → eqb m n ≡ false → m ≢ n
not_eq m n h e =
    let f : eqb n n ≡ false = rw e at h in
    let t : T (eqb n n) = eqb_refl n in
    rw f at t

-- a register is no temporary
pub not_temporary : (i t : ℕ) → i < 16 → 16 ≤ t → eqb i t ≡ false
not_temporary i t h k = ne_eqb i t (λ e. omega arith)

-- a slot that is no temporary and not d
pub record Other (d i : ℕ) : Type 0 where
  pub i16 : eqb i 16 ≡ false
  pub i17 : eqb i 17 ≡ false
  pub i18 : eqb i 18 ≡ false
  pub i19 : eqb i 19 ≡ false
  pub i20 : eqb i 20 ≡ false
  pub i21 : eqb i 21 ≡ false
  pub i22 : eqb i 22 ≡ false
  pub i23 : eqb i 23 ≡ false
  pub id : eqb i d ≡ false

no_temporary : (d i : ℕ) → ((t : ℕ) → 16 ≤ t → t < 24 → eqb i t ≡ false) → eqb i d ≡ false → Other d i
no_temporary d i f e =
    record {
      i16 = f 16 (lit≤ tt) (lit< tt);
      i17 = f 17 (lit≤ tt) (lit< tt);
      i18 = f 18 (lit≤ tt) (lit< tt);
      i19 = f 19 (lit≤ tt) (lit< tt);
      i20 = f 20 (lit≤ tt) (lit< tt);
      i21 = f 21 (lit≤ tt) (lit< tt);
      i22 = f 22 (lit≤ tt) (lit< tt);
      i23 = f 23 (lit≤ tt) (lit< tt);
      id = e;
    }

pub other : (d i : ℕ) → i < 16 → eqb i d ≡ false → Other d i
other d i h e = no_temporary d i (λ t l k. not_temporary i t h l) e

-- a slot that is no temporary: such are the registers, the slots behind the temporaries, and what is `Other`
abbrev pub Aside : ℕ → Type 0
Aside i = Other 22 i

pub register : (i : ℕ) → i < 16 → Aside i
register i h = other 22 i h (not_temporary i 22 h (lit≤ tt))

pub behind : (i : ℕ) → 24 ≤ i → Aside i
behind i h = no_temporary 22 i f (f 22 (lit≤ tt) (lit< tt))
  where
    f : (t : ℕ) → 16 ≤ t → t < 24 → eqb i t ≡ false
    f t l k = ne_eqb i t (λ e. omega arith)

pub aside : (d i : ℕ) → Other d i → Aside i
aside d i o =
    record {
      i16 = o.i16;
      i17 = o.i17;
      i18 = o.i18;
      i19 = o.i19;
      i20 = o.i20;
      i21 = o.i21;
      i22 = o.i22;
      i23 = o.i23;
      id = o.i22;
    }

-- ---- points

module _ (w : ℕ) (A B : List ℕ) (hA : Fits w A) (hB : Fits w B) where
  -- a cursor, and three lanes of words with 24 slots
  pub record Point : Type 0 where
    pub c : Cursor
    pub j : Triple
    pub fits : FitsAll w j
    pub slots : (i : ℕ) → ltb i 24 ≡ true → Slot j i

  wrote_by : (G : Point) (g : Gate) → Writes w (target g) G.j (act A B (meaning w g) G.c G.j)
  wrote_by G g = writes w A B G.c G.j hA hB G.fits g

  module _ (G : Point) (g : Gate) where
    abbrev W : Writes w (target g) G.j (act A B (meaning w g) G.c G.j)
    W = wrote_by G g

    pub still_fits : FitsAll w (act A B (meaning w g) G.c G.j)
    still_fits =
        rw W.is (record {
          m = fits_set w G.j.0 (target g) W.m.0 G.fits.m W.m.1;
          l1 = fits_set w G.j.1 (target g) W.l1.0 G.fits.l1 W.l1.1;
          l2 =
              fits_set w G.j.2 (target g) W.l2.0 G.fits.l2 W.l2.1;
        })

    pub still_slot : (i : ℕ) → Slot G.j i → Slot (act A B (meaning w g) G.c G.j) i
    still_slot i h =
        rw W.is (record {
          m = lt-length-set G.j.0 (target g) W.m.0 h.m;
          l1 = lt-length-set G.j.1 (target g) W.l1.0 h.l1;
          l2 = lt-length-set G.j.2 (target g) W.l2.0 h.l2;
        })

  -- the point after a gate
  unfoldable pub after : Gate → Point → Point
  after g G =
      record {
        c = past (meaning w g) G.c;
        j = act A B (meaning w g) G.c G.j;
        fits = still_fits G g;
        slots = λ i l. still_slot G g i (G.slots i l);
      }

  unfoldable pub afters : List Gate → Point → Point
  afters [] G = G
  afters (g ∷ gs) G = afters gs (after g G)

  pub afters_append : (gs hs : List Gate) (G : Point) → afters (gs ++ hs) G ≡ afters hs (afters gs G)
  unfolding afters
  afters_append [] hs G = refl
  afters_append (g ∷ gs) hs G = afters_append gs hs (after g G)

  -- what slot i opens as a number, and as bits; and its three words
  unfoldable pub num : Point → ℕ → ℕ
  num G i = value (numbers w) (share G.j i)

  unfoldable pub bin : Point → ℕ → ℕ
  bin G i = value (bits w) (share G.j i)

  unfoldable pub m_of : Point → ℕ → ℕ
  m_of G i = at G.j.0 i

  unfoldable pub l1_of : Point → ℕ → ℕ
  l1_of G i = at G.j.1 i

  unfoldable pub l2_of : Point → ℕ → ℕ
  l2_of G i = at G.j.2 i

  -- ---- other slots

  module _ (g : Gate) (G : Point) (i : ℕ) (e : eqb i (target g) ≡ false) where
    pub keep_m : m_of (after g G) i ≡ m_of G i
    unfolding after m_of
    keep_m = ap (λ (t : Triple). at t.0 i) (wrote_by G g).is ∙ get_or-set_other G.j.0 (target g) i _ 0 (not_eq i (target g) e)

    pub keep_l1 : l1_of (after g G) i ≡ l1_of G i
    unfolding after l1_of
    keep_l1 = ap (λ (t : Triple). at t.1 i) (wrote_by G g).is ∙ get_or-set_other G.j.1 (target g) i _ 0 (not_eq i (target g) e)

    pub keep_l2 : l2_of (after g G) i ≡ l2_of G i
    unfolding after l2_of
    keep_l2 = ap (λ (t : Triple). at t.2 i) (wrote_by G g).is ∙ get_or-set_other G.j.2 (target g) i _ 0 (not_eq i (target g) e)

    pub keep_share : share (after g G).j i ≡ share G.j i
    unfolding m_of l1_of l2_of
    keep_share = share_path keep_m keep_l1 keep_l2

    pub keep_num : num (after g G) i ≡ num G i
    unfolding num
    keep_num = ap (value (numbers w)) keep_share

    pub keep_bin : bin (after g G) i ≡ bin G i
    unfolding bin
    keep_bin = ap (value (bits w)) keep_share
