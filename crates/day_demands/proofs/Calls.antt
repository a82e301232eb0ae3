-- The day's calls are the calls of the day's runs. Assumes nothing.
use mathlib.Core.Path.{◌≡◌, refl, sym, ap, ap₂, ◌∙◌, subst}
use mathlib.Core.Logic.{◌≢◌}
use mathlib.Core.List.{List, [], ◌++◌, append_assoc}
use Prim.Native.Nat.{ℕ, zero, suc}
use native.Mathlib.Omega.{arith}
use lib.ListN.{length, take, drop, replicate, take-append-drop}
use Rattle.gates.specs.Steps.{Lane}
use Rattle.gates.specs.Hosts.{Pair}
use Rattle.jobs.specs.Job.{Fault}
use Rattle.calls.specs.Scripts.{Script}
use Rattle.calls.specs.Lent.{lent, or_else, dealer_fault}
use Rattle.calls.specs.Calls.{State, Answer, fresh, start}
use Rattle.calls.specs.Calls.{hear, Prepared, prepared, prepare}
use Rattle.runs.specs.Runs.{Spoken, Dealer, dealer_holds, Side, going, World, world, Refuses}
use Rattle.runs.specs.Runs.{refuses0_elsewhere, Call, held, Run}
use Rattle.runs.proofs.Refusals.{masks_back}
use Rattle.runs.proofs.Behind.{idle_holds, waiting_holds1, waiting_holds2, behind1, behind2}
use Rattle.days.specs.Day.{Hours, hours, counting, day_fault, day_script}
use Rattle.days.specs.DayCalls.{day_given, with_shares, own_state, own_answer, own_masks, day_start, day_hear, day_prepare}
use Rattle.day_demands.specs.Settings.{DaySetting, day_list, behind_zeros, day_staged}
use Rattle.day_demands.specs.Calls.{list1, list2, DayCalls}
use Rattle.day_demands.proofs.Lists.{list_length, firsts_list, seconds_list}
use Rattle.day_demands.proofs.Behind.{day_low}

-- a lane that from slot 24 on is what was given: its own slots, and x behind them
behind_is : (l x : Lane) → drop 24 l ≡ drop 24 (fresh (behind_zeros x)) → l ≡ fresh (take 24 l ++ x)
unfolding fresh
behind_is l x h =
    sym (take-append-drop 24 l) ∙ ap (λ (r : Lane). take 24 l ++ r) h ∙ sym (append_assoc (take 24 l) x (replicate 8 0))

-- ---- a day list of two lanes of 96 words

module _ (xs ys : Lane) (e : length xs ≡ 96) (f : length ys ≡ 96) where
  day_length : length (day_list xs ys) ≡ 192
  day_length = omega (arith, list_length xs ys (e ∙ sym f), e)

  pub given_is : day_given (day_list xs ys) ≡ (behind_zeros xs, behind_zeros ys)
  given_is =
      ap₂ {C = Pair} (λ (a b : Lane). (behind_zeros a, behind_zeros b)) (firsts_list xs ys (e ∙ sym f)) (seconds_list xs ys (e ∙ sym f))

  -- a host that has these words behind its own, as they were given, holds its own state with the shares behind
  shares_behind : (s : State) → drop 24 s.m ≡ drop 24 (fresh (behind_zeros xs))
      → drop 24 s.mask ≡ drop 24 (fresh (behind_zeros ys))
      → s ≡ with_shares (own_state s) (day_list xs ys)
  unfolding with_shares
  shares_behind s h k =
      ap₂ {C = State} (λ (a b : Lane). record { m = a; mask = b; order = s.order; turn = s.turn; stored = s.stored })
      (behind_is s.m xs h ∙ ap (λ (a : Lane). fresh (take 24 s.m ++ a)) (sym (firsts_list xs ys (e ∙ sym f))))
      (behind_is s.mask ys k ∙ ap (λ (a : Lane). fresh (take 24 s.mask ++ a)) (sym (seconds_list xs ys (e ∙ sym f))))

  -- a call of the script of a list of 192 words, on the lanes of this list, is the day's call
  module _ (w h : ℕ) (T : List ℕ) (H : Hours) (M D : List ℕ) where
    start_is : (r : Pair) → r ≡ (behind_zeros xs, behind_zeros ys)
        → own_answer (start (lent h (day_script w T 192 H) M D) r) ≡ day_start w h T (day_list xs ys) H M D
    unfolding day_start
    start_is r q =
        ap₂ {C = Answer} (λ (n : ℕ) (p : Pair). own_answer (start (lent h (day_script w T n H) M D) p)) (sym day_length)
        (q ∙ sym given_is)

    hear_is : (s : State) (v : ℕ) → s ≡ with_shares (own_state s) (day_list xs ys)
        → own_answer (hear (lent h (day_script w T 192 H) M D) s v) ≡ day_hear w h T (day_list xs ys) H M D (own_state s) v
    unfolding day_hear
    hear_is s v q =
        ap₂ {C = Answer} (λ (n : ℕ) (p : State). own_answer (hear (lent h (day_script w T n H) M D) p v)) (sym day_length) q

  prepare_is : (w : ℕ) (T : List ℕ) (H : Hours) (A B buf : List ℕ) (r : Pair) → r ≡ (behind_zeros xs, behind_zeros ys)
      → own_masks (prepare (day_script w T 192 H) A B buf r) ≡ day_prepare w T (day_list xs ys) H A B buf
  unfolding day_prepare
  prepare_is w T H A B buf r q =
      ap₂ {C = Prepared} (λ (n : ℕ) (p : Pair). own_masks (prepare (day_script w T n H) A B buf p)) (sym day_length) (q ∙ sym given_is)

-- ---- a preparation's number does not depend on the masks

prepared_number : (n : ℕ) (f : Fault) (σ : Script) (A B buf : List ℕ) (r q : Pair)
    → (prepared n f σ A B buf r).number ≡ (prepared n f σ A B buf q).number
unfolding prepared
prepared_number zero f σ A B buf r q = refl
prepared_number (suc n) f σ A B buf r q = refl

prepare_number : (σ : Script) (A B buf : List ℕ) (r q : Pair) → (prepare σ A B buf r).number ≡ (prepare σ A B buf q).number
unfolding prepare
prepare_number σ A B buf r q = prepared_number (dealer_fault σ A B buf).0 (dealer_fault σ A B buf) σ A B buf r q

-- ---- so a refused preparation of a day may stand in a run, and leaves it as it was

refused_preparing : (w : ℕ) (z : Dealer) (buf other : List ℕ) (one two : Side) (T L : List ℕ) (H : Hours) (A B : List ℕ)
    → (day_prepare w T L H A B other).number ≢ 0 → Refuses 120 (world z buf one two) (world z buf one two)
unfolding day_prepare
refused_preparing w z buf other one two T L H A B n =
    let σ : Script = day_script w T (length L) H in
    let m : (prepare σ A B other (dealer_holds z)).number ≢ 0 =
    λ e. n (prepare_number σ A B other (day_given L) (dealer_holds z) ∙ e) in
    subst (λ (x : Dealer). Refuses 120 (world z buf one two) (world x buf one two)) (masks_back σ A B other z m)
    (refuses0_elsewhere σ A B other m)

module _ (w : ℕ) where
  -- a preparation of no shares is refused
  pub none_prepared : (day_prepare w [] [] (hours [] 0) [] [] []).number ≢ 0
  unfolding day_prepare prepare prepared dealer_fault or_else day_fault
  none_prepared e = omega (arith, e)

  -- so every world may turn a call down, and stay as it is
  pub turns_down : (v : World) → Refuses 120 v v
  turns_down (world z buf one two) = refused_preparing w z buf [] one two [] [] (hours [] 0) [] [] none_prepared

-- ---- in the day's runs

module _ (w : ℕ) (S : DaySetting) where
  stands1 : {cs : List Call} {z : Dealer} {buf : List ℕ} {s : State} {t : List Pair} {said : List Spoken} {two : Side}
      → Run (day_staged w S) cs (world z buf (going s t said) two) → s ≡ with_shares (own_state s) (list1 S)
  stands1 {s = s} R =
      let b = behind1 (day_staged w S) 24 (day_low w S.table (counting S.hours)) R in
      shares_behind S.m S.l1 S.m_day S.l1_day s b.0 b.1

  stands2 : {cs : List Call} {z : Dealer} {buf : List ℕ} {one : Side} {s : State} {t : List Pair} {said : List Spoken}
      → Run (day_staged w S) cs (world z buf one (going s t said)) → s ≡ with_shares (own_state s) (list2 S)
  stands2 {s = s} R =
      let b = behind2 (day_staged w S) 24 (day_low w S.table (counting S.hours)) R in
      shares_behind S.m S.l2 S.m_day S.l2_day s b.0 b.1

pub day_calls : (w : ℕ) → DayCalls w
day_calls w =
    record {
      listed = λ S. (
        day_length S.l1 S.l2 S.l1_day S.l2_day,
        day_length S.m S.l1 S.m_day S.l1_day,
        day_length S.m S.l2 S.m_day S.l2_day,
      );
      prepares = λ S cs r buf one two R.
          prepare_is S.l1 S.l2 S.l1_day S.l2_day w S.table S.hours S.A S.B buf r (idle_holds (day_staged w S) R);
      starts1 = λ S cs z buf D s two R.
          start_is S.m S.l1 S.m_day S.l1_day w 1 S.table S.hours S.A D (held (day_staged w S) s)
          (waiting_holds1 (day_staged w S) R);
      starts2 = λ S cs z buf D one s R.
          start_is S.m S.l2 S.m_day S.l2_day w 2 S.table S.hours S.B D (held (day_staged w S) s)
          (waiting_holds2 (day_staged w S) R);
      holds1 = λ S cs z buf s t said two R. stands1 w S R;
      holds2 = λ S cs z buf one s t said R. stands2 w S R;
      hears1 = λ S cs z buf D s t said two v R.
          hear_is S.m S.l1 S.m_day S.l1_day w 1 S.table S.hours S.A D s v (stands1 w S R);
      hears2 = λ S cs z buf D one s t said v R.
          hear_is S.m S.l2 S.m_day S.l2_day w 2 S.table S.hours S.B D s v (stands2 w S R);
    }
