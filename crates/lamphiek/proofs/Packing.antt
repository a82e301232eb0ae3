-- Words put into a struct's list, and read back, on plain lists. Assumes nothing.
use mathlib.Core.Path.{◌≡◌, sym, ap, ◌∙◌}
use mathlib.Core.List.{List, [], ◌∷◌, ◌++◌, append-nil, append_assoc}
use Prim.Native.Nat.{ℕ, ◌+◌, ◌≤◌}
use native.Mathlib.Omega.{arith}
use lib.ListN.{length, get_or, set, take, drop, drop_of_length-le}
use lib.Seq.{paste, take_all, take_at, drop_at, get_or-drop, take-paste, length-paste, sets-eq}
use Rattle.gates.specs.Hosts.{Pair}
use Rattle.calls.specs.Calls as Calls
use Rattle.lamphiek.specs.Layout.{state_words, state_in, places_out, state_out, masks_in, masks_out}

-- ---- into the list: two lanes of n words side by side

module _ (n : ℕ) (w m l u v : List ℕ) (room : n + n ≤ length w) (whole_m : length m ≡ n) (whole_l : length l ≡ n) (first : u ≡ paste w 0 m n) where
  pub first_length : length u ≡ length w
  first_length = ap length first ∙ length-paste w 0 m n (omega arith) (omega arith)

  module _ (second : v ≡ paste u n l n) where
    pub both_length : length v ≡ length w
    both_length = ap length second ∙ length-paste u n l n (omega (arith, first_length)) (omega arith) ∙ first_length

    pub both : take (n + n) v ≡ m ++ l
    both =
        ap (take (n + n)) second
        ∙ take-paste u n l n (omega (arith, first_length)) (omega arith)
        ∙ ap (λ (x : List ℕ). take n x ++ take n l) first
        ∙ ap (λ (x : List ℕ). x ++ take n l) (front ∙ take_all n m (omega arith))
        ∙ ap (λ (x : List ℕ). m ++ x) (take_all n l (omega arith))
      where
        front : take n (paste w 0 m n) ≡ take n m
        front = let z : n ≡ 0 + n = omega arith in ap (λ (k : ℕ). take k (paste w 0 m n)) z ∙ take-paste w 0 m n (omega arith) (omega arith)

pub state_put : (w m l u v : List ℕ) (o t a b n : ℕ) → length w ≡ state_words → length m ≡ 24 → length l ≡ 24
    → u ≡ paste w 0 m 24 → v ≡ paste u 24 l 24
    → set (set (set (set (set v 48 o) 49 t) 50 a) 51 b) 52 n ≡ m ++ (l ++ (o ∷ t ∷ a ∷ b ∷ n ∷ []))
state_put w m l u v o t a b n hw hm hl e f =
    let places : List ℕ = o ∷ t ∷ a ∷ b ∷ n ∷ [] in
    let long = both_length 24 w m l u v (omega arith) hm hl e f in
    let all : length v ≤ state_words = omega (arith, long) in
    sets-eq places v 48 (omega (arith, long))
    ∙ ap (λ (x : List ℕ). x ++ places ++ drop state_words v) (both 24 w m l u v (omega arith) hm hl e f)
    ∙ ap (λ (x : List ℕ). m ++ l ++ places ++ x) (drop_of_length-le v all)
    ∙ append-nil (m ++ l ++ places)
    ∙ append_assoc m l places

pub masks_put : (w m l u v : List ℕ) → length w ≡ 32 → length m ≡ 16 → length l ≡ 16 → u ≡ paste w 0 m 16 → v ≡ paste u 16 l 16 → v ≡ m ++ l
masks_put w m l u v hw hm hl e f =
    let long = both_length 16 w m l u v (omega arith) hm hl e f in
    sym (take_all 32 v (omega (arith, long))) ∙ both 16 w m l u v (omega arith) hm hl e f

-- ---- there and back: what was put reads as what it was

pub state_back : (s : Calls.State) → length s.m ≡ 24 → length s.mask ≡ 24 → state_in (state_out s) ≡ s
state_back s hm hl = λ t.
    record {
      m = one t;
      mask = two t;
      order = after 0 t;
      turn = after 1 t;
      stored = record { a = after 2 t; b = after 3 t; deals = after 4 t };
    }
  where
    place : List ℕ
    place = places_out s

    behind : drop 24 (state_out s) ≡ s.mask ++ place
    behind = drop_at s.m (s.mask ++ place) 24 hm

    after : (i : ℕ) → get_or (state_out s) (24 + (24 + i)) 0 ≡ get_or place i 0
    after i =
        sym (get_or-drop 24 (state_out s) (24 + i) 0)
        ∙ ap (λ (x : List ℕ). get_or x (24 + i) 0) behind
        ∙ sym (get_or-drop 24 (s.mask ++ place) i 0)
        ∙ ap (λ (x : List ℕ). get_or x i 0) (drop_at s.mask place 24 hl)

    one : take 24 (state_out s) ≡ s.m
    one = take_at s.m _ 24 hm

    two : take 24 (drop 24 (state_out s)) ≡ s.mask
    two = ap (take 24) behind ∙ take_at s.mask place 24 hl

pub masks_back : (p : Pair) → length p.0 ≡ 16 → length p.1 ≡ 16 → masks_in (masks_out p) ≡ p
masks_back p h k = λ t. (take_at p.0 p.1 16 h t, second t)
  where
    second : take 16 (drop 16 (masks_out p)) ≡ p.1
    second = ap (take 16) (drop_at p.0 p.1 16 h) ∙ take_all 16 p.1 (omega arith)
