-- What a day's call answers has the lengths of the header's structs: lanes of 24 words, masks of sixteen. Assumes nothing.
use mathlib.Core.Path.{◌≡◌, refl, ap, ◌∙◌}
use mathlib.Core.List.{List, [], ◌∷◌, ◌++◌}
use Prim.Native.Nat.{ℕ, zero, suc, ◌+◌, ◌≤◌}
use native.Mathlib.Omega.{arith}
use lib.ListN.{length, take, replicate, length-append}
use lib.Seq.{length-take-le, take-take}
use Rattle.gates.specs.Steps.{Lane}
use Rattle.gates.specs.Hosts.{Pair}
use Rattle.jobs.specs.Job.{Fault}
use Rattle.calls.specs.Scripts.{Script}
use Rattle.calls.specs.Lent.{dealer_fault}
use Rattle.calls.specs.Calls as Calls
use Rattle.days.specs.Day.{Hours, day_script}
use Rattle.days.specs.DayCalls.{firsts, seconds, day_given, with_shares, own_state, day_lent, day_start, day_hear, day_prepare}
use Rattle.lamphiek.proofs.Lanes.{Wide, Full, start_full, hear_full, prepare_wide}

-- as many first words as second ones
as_many : (L : List ℕ) → length (seconds L) ≡ length (firsts L)
unfolding firsts seconds
as_many [] = refl
as_many (x ∷ []) = refl
as_many (x ∷ y ∷ l) = ap suc (as_many l)

module _ (L : List ℕ) where
  abbrev many : ℕ
  many = length (firsts L)

  behind_long : (c l : Lane) → length c ≡ 24 → length l ≡ many → length (c ++ l) ≡ 24 + many
  behind_long c l e f = omega (arith, length-append c l, e, f)

  given_wide : Wide (24 + many) (day_given L)
  given_wide =
      record {
        m = behind_long (replicate 24 0) (firsts L) refl refl;
        mask = behind_long (replicate 24 0) (seconds L) refl (as_many L);
      }

  shares_full : (s : Calls.State) → Full 24 s → Full (24 + many + 8) (with_shares s L)
  unfolding with_shares Calls.fresh
  shares_full s h =
      record {
        m = omega (arith, length-append (s.m ++ firsts L) (replicate 8 0), behind_long s.m (firsts L) h.m refl);
        mask = omega (arith, length-append (s.mask ++ seconds L) (replicate 8 0), behind_long s.mask (seconds L) h.mask (as_many L));
      }

  own_full : (s : Calls.State) → Full (24 + many + 8) s → Full 24 (own_state s)
  own_full s h =
      record { m = length-take-le 24 s.m (omega (arith, h.m)); mask = length-take-le 24 s.mask (omega (arith, h.mask)) }

  module _ (h : ℕ) (T : List ℕ) (H : Hours) (M D : List ℕ) where
    pub start_full_day : Full 24 (day_start 32 h T L H M D).state
    unfolding day_start
    start_full_day =
        own_full (Calls.start (day_lent 32 h T L H M D) (day_given L)).state
        (start_full (24 + many) (day_lent 32 h T L H M D) (day_given L) given_wide)

    pub hear_full_day : (s : Calls.State) (v : ℕ) → Full 24 s → Full 24 (day_hear 32 h T L H M D s v).state
    unfolding day_hear
    hear_full_day s v k =
        own_full (Calls.hear (day_lent 32 h T L H M D) (with_shares s L) v).state
        (hear_full (24 + many + 8) (day_lent 32 h T L H M D) (with_shares s L) v (shares_full s k))

  -- the first sixteen of the masks that a preparation gives, or gives back
  module _ (σ : Script) (A B D : List ℕ) (slots : 16 ≤ σ.slots) where
    front : (n : ℕ) (r : Pair) → 16 ≤ n → Wide n r → Wide 16 (take 16 r.0, take 16 r.1)
    front n r k w =
        record { m = length-take-le 16 r.0 (omega (arith, k, w.m)); mask = length-take-le 16 r.1 (omega (arith, k, w.mask)) }

    masks_front : (n : ℕ) (f : Fault)
        → Wide 16 (take 16 (Calls.prepared n f σ A B D (day_given L)).masks.0, take 16 (Calls.prepared n f σ A B D (day_given L)).masks.1)
    unfolding Calls.prepared
    masks_front zero f =
        let p = (Calls.prepare_walk σ A B (day_given L)).state in
        let w = front (24 + many + 8) p (omega arith) (prepare_wide (24 + many) σ A B (day_given L) given_wide) in
        record {
          m = ap length (take-take 16 σ.slots p.0 slots) ∙ w.m;
          mask = ap length (take-take 16 σ.slots p.1 slots) ∙ w.mask;
        }
    masks_front (suc n) f = front (24 + many) (day_given L) (omega arith) given_wide

  pub masks_wide_day : (T : List ℕ) (H : Hours) (A B D : List ℕ) → Wide 16 (day_prepare 32 T L H A B D).masks
  unfolding day_prepare Calls.prepare
  masks_wide_day T H A B D =
      let σ = day_script 32 T (length L) H in masks_front σ A B D (omega arith) (dealer_fault σ A B D).0 (dealer_fault σ A B D)
