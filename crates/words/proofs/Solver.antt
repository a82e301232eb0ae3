-- The solver of ring identities: `solve` proves an identity of k variables, over any commutative ring, by `refl`. Assumes nothing.
use Rattle.std.proofs.Common.{◌≡◌, ℕ, zero, suc, Bool, true, false, cond, ◌&&◌, T, eqb, ltb, leb, List, [], ◌∷◌, get_or, sym, refl, ap, ◌∙◌, ap₂, eqb→eq}
use Rattle.words.specs.Ring.{Ops, Ring}
use Rattle.words.proofs.Digits.{both}

-- ---- expressions and their normal form: a sorted list of signed monomials, each a sorted list of variables

infixl 65 ◌⊕◌
infixl 65 ◌⊖◌
infixl 70 ◌⊗◌
pub data Expr : Type 0 where
  var : ℕ → Expr
  ◌⊕◌ ◌⊖◌ ◌⊗◌ : Expr → Expr → Expr
  ⊝ : Expr → Expr
  `0 `1 : Expr

-- a formula over any operations, taken at these, is an expression
abbrev pub exprs : Ops Expr
exprs = record { add = ◌⊕◌; sub = ◌⊖◌; mul = ◌⊗◌; neg = ⊝; nil = `0; one = `1 }

pub data Term : Type 0 where
  plus minus : List ℕ → Term

abbrev sort_in : ℕ → List ℕ → List ℕ
sort_in i [] = i ∷ []
sort_in i (j ∷ m) = cond (leb i j) (i ∷ j ∷ m) (j ∷ sort_in i m)

abbrev mulM : List ℕ → List ℕ → List ℕ
mulM [] n = n
mulM (i ∷ m) n = sort_in i (mulM m n)

abbrev eqM : List ℕ → List ℕ → Bool
eqM [] [] = true
eqM [] (j ∷ n) = false
eqM (i ∷ m) [] = false
eqM (i ∷ m) (j ∷ n) = eqb i j && eqM m n

abbrev leM : List ℕ → List ℕ → Bool
leM [] n = true
leM (i ∷ m) [] = false
leM (i ∷ m) (j ∷ n) = cond (eqb i j) (leM m n) (ltb i j)

abbrev mono : Term → List ℕ
mono (plus m) = m
mono (minus m) = m

abbrev flip : Term → Term
flip (plus m) = minus m
flip (minus m) = plus m

abbrev mulT : Term → Term → Term
mulT (plus m) (plus n) = plus (mulM m n)
mulT (plus m) (minus n) = minus (mulM m n)
mulT (minus m) (plus n) = minus (mulM m n)
mulT (minus m) (minus n) = plus (mulM m n)

-- the two terms cancel
abbrev opp : Term → Term → Bool
opp (plus m) (plus n) = false
opp (plus m) (minus n) = eqM m n
opp (minus m) (plus n) = eqM m n
opp (minus m) (minus n) = false

abbrev put : Term → List Term → List Term
put t [] = t ∷ []
put t (u ∷ p) = cond (opp t u) p (cond (leM (mono t) (mono u)) (t ∷ u ∷ p) (u ∷ put t p))

abbrev addP : List Term → List Term → List Term
addP [] q = q
addP (t ∷ p) q = put t (addP p q)

abbrev scale : Term → List Term → List Term
scale t [] = []
scale t (u ∷ p) = put (mulT t u) (scale t p)

abbrev mulP : List Term → List Term → List Term
mulP [] q = []
mulP (t ∷ p) q = addP (scale t q) (mulP p q)

abbrev negP : List Term → List Term
negP [] = []
negP (t ∷ p) = flip t ∷ negP p

abbrev pub norm : Expr → List Term
norm (var i) = plus (i ∷ []) ∷ []
norm (e ⊕ f) = addP (norm e) (norm f)
norm (e ⊖ f) = addP (norm e) (negP (norm f))
norm (e ⊗ f) = mulP (norm e) (norm f)
norm (⊝ e) = negP (norm e)
norm `0 = []
norm `1 = plus [] ∷ []

eqM_eq : (m n : List ℕ) → T (eqM m n) → m ≡ n
eqM_eq [] [] t = refl
eqM_eq [] (j ∷ n) t = absurd t
eqM_eq (i ∷ m) [] t = absurd t
eqM_eq (i ∷ m) (j ∷ n) t =
    let p : T (eqb i j) × T (eqM m n) = both (eqb i j) (eqM m n) t in
    ap₂ (λ (x : ℕ) (y : List ℕ). x ∷ y) (eqb→eq i j p.0) (eqM_eq m n p.1)

-- whichever way a test goes
pick : {X A : Type 0} (f : X → A) (b : Bool) (x y : X) (a : A) → (T b → f x ≡ a) → f y ≡ a → f (cond b x y) ≡ a
pick f true x y a h k = h tt
pick f false x y a h k = k

-- an equation of k variables, as a function of them, at the variables i, i + 1, ..
abbrev pub Eqn : ℕ → Type 0
Eqn zero = Expr × Expr
Eqn (suc k) = Expr → Eqn k

abbrev pub sides : (k i : ℕ) → Eqn k → Expr × Expr
sides zero i b = b
sides (suc k) i b = sides k (suc i) (b (var i))

-- P of every k elements
abbrev pub Every : (A : Type 0) (k : ℕ) → (List A → Type 0) → Type 0
Every A zero P = P []
Every A (suc k) P = (x : A) → Every A k (λ ρ. P (x ∷ ρ))

every : {A : Type 0} (k : ℕ) (P : List A → Type 0) → ((ρ : List A) → P ρ) → Every A k P
every zero P h = h []
every (suc k) P h = λ x. every k (λ ρ. P (x ∷ ρ)) (λ ρ. h (x ∷ ρ))

module _ {A : Type 0} (O : Ops A) where
  -- ---- what an expression, a monomial, a term and a normal form stand for

  abbrev pub eval : List A → Expr → A
  eval ρ (var i) = get_or ρ i O.nil
  eval ρ (e ⊕ f) = O.add (eval ρ e) (eval ρ f)
  eval ρ (e ⊖ f) = O.sub (eval ρ e) (eval ρ f)
  eval ρ (e ⊗ f) = O.mul (eval ρ e) (eval ρ f)
  eval ρ (⊝ e) = O.neg (eval ρ e)
  eval ρ `0 = O.nil
  eval ρ `1 = O.one

  abbrev evM : List A → List ℕ → A
  evM ρ [] = O.one
  evM ρ (i ∷ m) = O.mul (get_or ρ i O.nil) (evM ρ m)

  abbrev evT : List A → Term → A
  evT ρ (plus m) = evM ρ m
  evT ρ (minus m) = O.neg (evM ρ m)

  abbrev evP : List A → List Term → A
  evP ρ [] = O.nil
  evP ρ (t ∷ p) = O.add (evT ρ t) (evP ρ p)

module _ {A : Type 0} (O : Ops A) (R : Ring O) where
  infixl 65 ◌+◌
  infixl 70 ◌*◌
  open O use {add as ◌+◌, mul as ◌*◌, neg, sub, nil, one}
  open R use {add_assoc, add_comm, add_nil, add_neg, sub_is, mul_assoc, mul_comm, mul-one, mul-add}

  pub add_left : (a b c : A) → a + (b + c) ≡ b + (a + c)
  add_left a b c = sym (add_assoc a b c) ∙ ap (λ (x : A). x + c) (add_comm a b) ∙ add_assoc b a c

  pub mul_left : (a b c : A) → a * (b * c) ≡ b * (a * c)
  mul_left a b c = sym (mul_assoc a b c) ∙ ap (λ (x : A). x * c) (mul_comm a b) ∙ mul_assoc b a c

  pub nil_add : (a : A) → nil + a ≡ a
  nil_add a = add_comm nil a ∙ add_nil a

  pub add-mul : (a b c : A) → (a + b) * c ≡ a * c + b * c
  add-mul a b c = mul_comm (a + b) c ∙ mul-add c a b ∙ ap₂ ◌+◌ (mul_comm c a) (mul_comm c b)

  -- what cancels a is its negative
  pub neg_unique : (a b : A) → a + b ≡ nil → b ≡ neg a
  neg_unique a b e =
      sym (add_nil b) ∙ ap (λ (x : A). b + x) (sym (add_neg a)) ∙ sym (add_assoc b a (neg a))
      ∙ ap (λ (x : A). x + neg a) (add_comm b a ∙ e) ∙ nil_add (neg a)

  pub neg_neg : (a : A) → neg (neg a) ≡ a
  neg_neg a = sym (neg_unique (neg a) a (add_comm (neg a) a ∙ add_neg a))

  pub neg_nil : neg nil ≡ nil
  neg_nil = sym (neg_unique nil nil (add_nil nil))

  pub neg_add : (a b : A) → neg (a + b) ≡ neg a + neg b
  neg_add a b =
      sym (neg_unique (a + b) (neg a + neg b)
      (add_assoc a b (neg a + neg b) ∙ ap (λ (x : A). a + x)
      (add_left b (neg a) (neg b) ∙ ap (λ (x : A). neg a + x) (add_neg b) ∙ add_nil (neg a)) ∙ add_neg a))

  -- a * 0 added to itself is itself
  pub mul_nil : (a : A) → a * nil ≡ nil
  mul_nil a =
      let z : A = a * nil in
      let e : z + z ≡ z = sym (mul-add a nil nil) ∙ ap (λ (x : A). a * x) (add_nil nil) in
      sym (add_nil z) ∙ ap (λ (x : A). z + x) (sym (add_neg z)) ∙ sym (add_assoc z z (neg z)) ∙ ap (λ (x : A). x + neg z) e ∙ add_neg z

  pub nil_mul : (a : A) → nil * a ≡ nil
  nil_mul a = mul_comm nil a ∙ mul_nil a

  pub mul_neg : (a b : A) → a * neg b ≡ neg (a * b)
  mul_neg a b = neg_unique (a * b) (a * neg b) (sym (mul-add a b (neg b)) ∙ ap (λ (x : A). a * x) (add_neg b) ∙ mul_nil a)

  pub neg_mul : (a b : A) → neg a * b ≡ neg (a * b)
  neg_mul a b = mul_comm (neg a) b ∙ mul_neg b a ∙ ap neg (mul_comm b a)

  module _ (ρ : List A) where
    sort_in_ok : (i : ℕ) (m : List ℕ) → evM O ρ (sort_in i m) ≡ evM O ρ (i ∷ m)
    sort_in_ok i [] = refl
    sort_in_ok i (j ∷ m) =
        pick (evM O ρ) (leb i j) (i ∷ j ∷ m) (j ∷ sort_in i m) (evM O ρ (i ∷ j ∷ m)) (λ t. refl)
        (ap (λ (x : A). get_or ρ j nil * x) (sort_in_ok i m) ∙ mul_left (get_or ρ j nil) (get_or ρ i nil) (evM O ρ m))

    mulM_ok : (m n : List ℕ) → evM O ρ (mulM m n) ≡ evM O ρ m * evM O ρ n
    mulM_ok [] n = sym (mul_comm one (evM O ρ n) ∙ mul-one (evM O ρ n))
    mulM_ok (i ∷ m) n =
        sort_in_ok i (mulM m n) ∙ ap (λ (x : A). get_or ρ i nil * x) (mulM_ok m n) ∙ sym (mul_assoc (get_or ρ i nil) (evM O ρ m) (evM O ρ n))

    mulT_ok : (t u : Term) → evT O ρ (mulT t u) ≡ evT O ρ t * evT O ρ u
    mulT_ok (plus m) (plus n) = mulM_ok m n
    mulT_ok (plus m) (minus n) = ap neg (mulM_ok m n) ∙ sym (mul_neg (evM O ρ m) (evM O ρ n))
    mulT_ok (minus m) (plus n) = ap neg (mulM_ok m n) ∙ sym (neg_mul (evM O ρ m) (evM O ρ n))
    mulT_ok (minus m) (minus n) =
        mulM_ok m n ∙ sym (neg_neg (evM O ρ m * evM O ρ n)) ∙ ap neg (sym (mul_neg (evM O ρ m) (evM O ρ n)))
        ∙ sym (neg_mul (evM O ρ m) (neg (evM O ρ n)))

    flip_ok : (t : Term) → evT O ρ (flip t) ≡ neg (evT O ρ t)
    flip_ok (plus m) = refl
    flip_ok (minus m) = sym (neg_neg (evM O ρ m))

    opp_ok : (t u : Term) → T (opp t u) → evT O ρ t + evT O ρ u ≡ nil
    opp_ok (plus m) (plus n) h = absurd h
    opp_ok (plus m) (minus n) h = ap (λ (x : List ℕ). evM O ρ x + neg (evM O ρ n)) (eqM_eq m n h) ∙ add_neg (evM O ρ n)
    opp_ok (minus m) (plus n) h =
        ap (λ (x : List ℕ). neg (evM O ρ x) + evM O ρ n) (eqM_eq m n h) ∙ add_comm (neg (evM O ρ n)) (evM O ρ n) ∙ add_neg (evM O ρ n)
    opp_ok (minus m) (minus n) h = absurd h

    put_ok : (t : Term) (p : List Term) → evP O ρ (put t p) ≡ evT O ρ t + evP O ρ p
    put_ok t [] = refl
    put_ok t (u ∷ p) =
        pick (evP O ρ) (opp t u) p (cond (leM (mono t) (mono u)) (t ∷ u ∷ p) (u ∷ put t p)) (evT O ρ t + evP O ρ (u ∷ p))
        (λ h. sym (sym (add_assoc (evT O ρ t) (evT O ρ u) (evP O ρ p)) ∙ ap (λ (x : A). x + evP O ρ p) (opp_ok t u h)
        ∙ nil_add (evP O ρ p)))
        (pick (evP O ρ) (leM (mono t) (mono u)) (t ∷ u ∷ p) (u ∷ put t p) (evT O ρ t + evP O ρ (u ∷ p)) (λ h. refl)
        (ap (λ (x : A). evT O ρ u + x) (put_ok t p) ∙ add_left (evT O ρ u) (evT O ρ t) (evP O ρ p)))

    addP_ok : (p q : List Term) → evP O ρ (addP p q) ≡ evP O ρ p + evP O ρ q
    addP_ok [] q = sym (nil_add (evP O ρ q))
    addP_ok (t ∷ p) q = put_ok t (addP p q) ∙ ap (λ (x : A). evT O ρ t + x) (addP_ok p q)
        ∙ sym (add_assoc (evT O ρ t) (evP O ρ p) (evP O ρ q))

    scale_ok : (t : Term) (p : List Term) → evP O ρ (scale t p) ≡ evT O ρ t * evP O ρ p
    scale_ok t [] = sym (mul_nil (evT O ρ t))
    scale_ok t (u ∷ p) = put_ok (mulT t u) (scale t p) ∙ ap₂ ◌+◌ (mulT_ok t u) (scale_ok t p)
        ∙ sym (mul-add (evT O ρ t) (evT O ρ u) (evP O ρ p))

    mulP_ok : (p q : List Term) → evP O ρ (mulP p q) ≡ evP O ρ p * evP O ρ q
    mulP_ok [] q = sym (nil_mul (evP O ρ q))
    mulP_ok (t ∷ p) q =
        addP_ok (scale t q) (mulP p q) ∙ ap₂ ◌+◌ (scale_ok t q) (mulP_ok p q) ∙ sym (add-mul (evT O ρ t) (evP O ρ p) (evP O ρ q))

    negP_ok : (p : List Term) → evP O ρ (negP p) ≡ neg (evP O ρ p)
    negP_ok [] = sym neg_nil
    negP_ok (t ∷ p) = ap₂ ◌+◌ (flip_ok t) (negP_ok p) ∙ sym (neg_add (evT O ρ t) (evP O ρ p))

    norm_ok : (e : Expr) → evP O ρ (norm e) ≡ eval O ρ e
    norm_ok (var i) = add_nil (get_or ρ i nil * one) ∙ mul-one (get_or ρ i nil)
    norm_ok (e ⊕ f) = addP_ok (norm e) (norm f) ∙ ap₂ ◌+◌ (norm_ok e) (norm_ok f)
    norm_ok (e ⊖ f) =
        addP_ok (norm e) (negP (norm f)) ∙ ap₂ ◌+◌ (norm_ok e) (negP_ok (norm f) ∙ ap neg (norm_ok f))
        ∙ sym (sub_is (eval O ρ e) (eval O ρ f))
    norm_ok (e ⊗ f) = mulP_ok (norm e) (norm f) ∙ ap₂ ◌*◌ (norm_ok e) (norm_ok f)
    norm_ok (⊝ e) = negP_ok (norm e) ∙ ap neg (norm_ok e)
    norm_ok `0 = refl
    norm_ok `1 = add_nil one

    pub solve_at : (e f : Expr) → norm e ≡ norm f → eval O ρ e ≡ eval O ρ f
    solve_at e f h = sym (norm_ok e) ∙ ap (evP O ρ) h ∙ norm_ok f

  -- an identity of k variables, by `refl`, where both sides have one normal form
  pub solve : (k : ℕ) (b : Eqn k) → norm (sides k 0 b).0 ≡ norm (sides k 0 b).1
      → Every A k (λ ρ. eval O ρ (sides k 0 b).0 ≡ eval O ρ (sides k 0 b).1)
  solve k b h = every k (λ ρ. eval O ρ (sides k 0 b).0 ≡ eval O ρ (sides k 0 b).1) (λ ρ. solve_at ρ (sides k 0 b).0 (sides k 0 b).1 h)
