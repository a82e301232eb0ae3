-- A walk seen through a function of its state: a host's walk as the lanes of the joint walk. Assumes nothing.
use mathlib.Core.Path.{◌≡◌, refl, ap}
use mathlib.Core.List.{List, [], ◌∷◌, ◌++◌, map}
use Rattle.gates.specs.Steps.{Step, local, deal, exchange, end, Cursor, past}
use Rattle.gates.specs.Walk.{Conf, conf, mark, walk, whole}

abbrev pub through : {S R : Type 0} → (S → R) → Conf S → Conf R
through h p = conf p.rest p.cur (h p.state) (map h p.trail)

pub map_snoc : {A B : Type 0} (h : A → B) (t : List A) (a : A) → map h t ++ (h a ∷ []) ≡ map h (t ++ (a ∷ []))
map_snoc h [] a = refl
map_snoc {B = B} h (x ∷ t) a = ap {B = List B} (λ r. h x ∷ r) (map_snoc h t a)

-- h takes each step of the one walk to the other's, wherever the first is as Good says; `walk` needs that of no exchange
abbrev pub quiet : Step → Type 0
quiet (local d m l) = Unit
quiet (deal d f) = Unit
quiet (exchange d e) = ⊥
quiet end = Unit

pub record Seen {S R : Type 0} (act : Step → Cursor → S → S) (act' : Step → Cursor → R → R) (h : S → R)
    (Good : List Step → Cursor → S → Type 0) (Only : Step → Type 0) : Type 0 where
  pub keeps : (x : Step) (ss : List Step) (c : Cursor) (s : S) → Good (x ∷ ss) c s → Good ss (past x c) (act x c s)
  pub same : (x : Step) (ss : List Step) (c : Cursor) (s : S) → Good (x ∷ ss) c s → Only x → act' x c (h s) ≡ h (act x c s)

abbrev pub Always : {S : Type 0} → List Step → Cursor → S → Type 0
Always ss c s = Unit

abbrev pub Any : Step → Type 0
Any x = Unit

module _ {S R : Type 0} (act : Step → Cursor → S → S) (act' : Step → Cursor → R → R) (h : S → R)
    (Good : List Step → Cursor → S → Type 0) where
  pub see_walk : Seen act act' h Good quiet → (ss : List Step) (c : Cursor) (s : S) (t : List S) → Good ss c s
      → walk act' ss c (h s) (map h t) ≡ through h (walk act ss c s t)
  unfolding walk
  see_walk v [] c s t g = refl
  see_walk v (local d m l ∷ ss) c s t g =
      rw (v.same (local d m l) ss c s g tt) (see_walk v ss _ _ t (v.keeps (local d m l) ss c s g))
  see_walk v (deal d f ∷ ss) c s t g =
      rw (v.same (deal d f) ss c s g tt) (see_walk v ss _ _ t (v.keeps (deal d f) ss c s g))
  see_walk v (exchange d e ∷ ss) c s t g = refl
  see_walk v (end ∷ ss) c s t g =
      rw (v.same end ss c s g tt, map_snoc h t s) (see_walk v ss _ _ (t ++ (s ∷ [])) (v.keeps end ss c s g))

  see_mark : (x : Step) (s : S) (t : List S) → mark x (h s) (map h t) ≡ map h (mark x s t)
  see_mark (local d m l) s t = refl
  see_mark (deal d f) s t = refl
  see_mark (exchange d e) s t = refl
  see_mark end s t = map_snoc h t s

  pub see_whole : Seen act act' h Good Any → (ss : List Step) (c : Cursor) (s : S) (t : List S) → Good ss c s
      → whole act' ss c (h s) (map h t) ≡ through h (whole act ss c s t)
  unfolding whole
  see_whole v [] c s t g = refl
  see_whole v (x ∷ ss) c s t g =
      rw (v.same x ss c s g tt, see_mark x s t) (see_whole v ss _ _ (mark x s t) (v.keeps x ss c s g))
