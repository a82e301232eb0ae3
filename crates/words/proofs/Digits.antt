-- Truth tables: two functions of k digits that agree at all zeros and ones agree at every digit. Assumes nothing.
use Rattle.std.proofs.Common.{◌≡◌, ℕ, zero, suc, ◌<◌, Bool, true, false, ◌&&◌, T, eqb, arith, eqb→eq}

-- what holds of 0 and of 1 holds of every digit
pub digit_ind : (P : ℕ → Type 0) → P 0 → P 1 → (x : ℕ) → x < 2 → P x
digit_ind P p q zero h = p
digit_ind P p q (suc zero) h = q
digit_ind P p q (suc (suc x)) h = absurd (omega arith)

-- a function of k digits
abbrev pub Op : ℕ → Type 0
Op zero = ℕ
Op (suc k) = ℕ → Op k

abbrev pub agree : (k : ℕ) → Op k → Op k → Bool
agree zero a b = eqb a b
agree (suc k) f h = agree k (f 0) (h 0) && agree k (f 1) (h 1)

abbrev pub Same : (k : ℕ) → Op k → Op k → Type 0
Same zero a b = a ≡ b
Same (suc k) f h = (x : ℕ) → x < 2 → Same k (f x) (h x)

pub both : (a b : Bool) → T (a && b) → T a × T b
both true true t = (tt, tt)
both true false t = absurd t
both false true t = absurd t
both false false t = absurd t

pub table : (k : ℕ) (f h : Op k) → T (agree k f h) → Same k f h
table zero a b t = eqb→eq a b t
table (suc k) f h t =
    let p : T (agree k (f 0) (h 0)) × T (agree k (f 1) (h 1)) = both (agree k (f 0) (h 0)) (agree k (f 1) (h 1)) t in
    digit_ind (λ x. Same k (f x) (h x)) (table k (f 0) (h 0) p.0) (table k (f 1) (h 1) p.1)
