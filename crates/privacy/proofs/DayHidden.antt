-- What no host alone learns of a day's readings (R-8). Assumes nothing.
use mathlib.Core.Path.{◌≡◌, refl, sym, ap, ◌∙◌}
use mathlib.Core.List.{List, [], ◌∷◌, ◌++◌}
use Prim.Native.Nat.{ℕ, zero, suc, ◌<◌}
use lib.ListN.{replicate, get_or-replicate, get_or-append}
use lib.Pow.{pow_pos}
use Rattle.words.proofs.Words.{add-zero}
use Rattle.gates.specs.Steps.{Lane, at, Step, origin}
use Rattle.gates.specs.Hosts.{Pair, joint1, joint2}
use Rattle.gates.specs.Costs.{Cost}
use Rattle.tables.specs.Table.{rows}
use Rattle.calls.specs.Scripts.{Script}
use Rattle.calls.specs.Calls.{fresh, script_deals}
use Rattle.runs.specs.InOrder.{defined_words, words_of_1, words_of_2}
use Rattle.runs.proofs.Gated.{fits_append, fits_zeros}
use Rattle.days.specs.Day.{Hours, counting, day_gates, day_steps, day_script}
use Rattle.days.specs.DayCalls.{firsts, seconds}
use Rattle.day_demands.specs.Settings.{DaySetting, behind_zeros, behind_full, day_staged}
use Rattle.day_demands.proofs.Calls.{given_is}
use Rattle.privacy.specs.Privacy.{Masks, mask_all, Given, Enough, Beside, Hides, has, SeesSame, stage_of}
use Rattle.privacy.specs.DayPrivacy.{day_has, DaySeesSame, day_need, day_of, DayPrivacy}
use Rattle.privacy.specs.Unseen.{moved, lanes, other1, other2, other0, laid, day_other1, day_other2}
use Rattle.privacy.proofs.Walks.{All}
use Rattle.privacy.proofs.Solving.{Sound}
use Rattle.privacy.proofs.Registers.{move_none}
use Rattle.privacy.proofs.Values.{masks_path, mask_none, moved_given, there_and_back, m1, not_given1, m2, not_given2}
use Rattle.privacy.proofs.HiddenRuns.{words1, beside1, back1, deals2, words2, beside2, back2}
use Rattle.privacy.proofs.Privacy.{steps_sound}
use Rattle.privacy.proofs.DayWorlds.{day_deals}
use Rattle.privacy.proofs.DayCounterparts.{day_sees0, day_sees1, day_sees2}

-- ---- values and masks behind zeros

module _ (w : ℕ) where
  mask_behind : (k : ℕ) (x l1 l2 : List ℕ)
      → mask_all w (replicate k 0 ++ x) (replicate k 0 ++ l1) (replicate k 0 ++ l2) ≡ replicate k 0 ++ mask_all w x l1 l2
  unfolding mask_all
  mask_behind zero x l1 l2 = refl
  mask_behind (suc k) x l1 l2 = rw (add-zero w 0 (pow_pos w), add-zero w 0 (pow_pos w)) (ap (λ (l : List ℕ). 0 ∷ l) (mask_behind k x l1 l2))

  moved_behind : (k : ℕ) (x y l : List ℕ)
      → moved w (replicate k 0 ++ x) (replicate k 0 ++ y) (replicate k 0 ++ l) ≡ replicate k 0 ++ moved w x y l
  unfolding moved
  moved_behind zero x y l = refl
  moved_behind (suc k) x y l = rw (move_none w 0 (pow_pos w) 0 (pow_pos w)) (ap (λ (l : List ℕ). 0 ∷ l) (moved_behind k x y l))

  given_laid : (x : List ℕ) → Given w 96 x → Given w 120 (behind_zeros x)
  given_laid x h = record { many = behind_full x h.many; words = fits_append w (replicate 24 0) x (fits_zeros w 24) h.words }

-- ---- one table, and hours

module _ (w : ℕ) (table : List ℕ) (H : Hours) where
  abbrev σ : Script
  σ = day_script w table 192 H

  abbrev ss : List Step
  ss = σ.steps

  all : All (Sound w) ss
  unfolding day_steps
  all = steps_sound w σ (record { gates = day_gates w (counting H) (rows table); made = refl })

  abbrev need : Cost
  need = day_need w table H

  abbrev on : (x : List ℕ) (M : Masks) → Given w 96 x → Enough w 96 need M → DaySetting
  on = day_of w table H

  -- host 0 sees every mask
  hidden0 : Hides w 96 need (on) (day_has 0) (DaySeesSame w 0)
  hidden0 =
      record {
        other = other0;
        beside = λ x y M hx hy hM.
            let T = on y M hy hM in
            record {
              enough = hM;
              as_long = (refl, refl);
              beyond = (refl, refl);
              not_given = λ i g e.
                  record { value = e; m = mask_none w y M.l1 M.l2 i e g.l1 g.l2; l1 = g.l1; l2 = g.l2 };
              has_same = refl;
              sees_same = day_sees0 w (on x M hx hM)
                  (record {
                    A = M.A;
                    B = M.B;
                    m = T.m;
                    l1 = M.l1;
                    l2 = M.l2;
                    m_day = T.m_day;
                    l1_day = T.l1_day;
                    l2_day = T.l2_day;
                    long_a = refl;
                    long_b = refl;
                  }) (record { A = refl; B = refl; l1 = refl; l2 = refl });
            };
        back = λ x y M hx hy hM. refl;
      }

  module _ (x y : List ℕ) (M : Masks) (hx : Given w 96 x) (hy : Given w 96 y) (hM : Enough w 96 need M) where
    X : Given w 120 (behind_zeros x)
    X = given_laid w x hx

    Y : Given w 120 (behind_zeros y)
    Y = given_laid w y hy

    enough_laid : Enough w 120 need (laid M)
    enough_laid =
        record { l1 = given_laid w M.l1 hM.l1; l2 = given_laid w M.l2 hM.l2; A = hM.A; B = hM.B; a = hM.a; b = hM.b }

    -- host 1: on the lanes of the day's script, its words are those of the values behind zeros
    abbrev W1 : Masks
    W1 = other1 w ss (behind_zeros x) (behind_zeros y) (laid M)

    abbrev N1 : Masks
    N1 = day_other1 w ss x y M

    laid1 : laid N1 ≡ W1
    unfolding other1
    laid1 = masks_path refl (sym (moved_behind w 24 x y M.l2)) refl refl

    on_lanes1 : Beside w 120 need (stage_of w σ) (has 1) (SeesSame 1) (behind_zeros x) (behind_zeros y) (laid M) W1 X Y enough_laid
    on_lanes1 = beside1 w σ all (behind_zeros x) (behind_zeros y) (laid M) X Y enough_laid

    enough1 : Enough w 96 need N1
    unfolding other1
    enough1 =
        record {
          l1 = hM.l1;
          l2 = moved_given w 96 need x y M hx hy hM M.l2 hM.l2;
          A = hM.A;
          B = on_lanes1.enough.B;
          a = hM.a;
          b = on_lanes1.enough.b;
        }

    day_words1 : words_of_2 (day_staged w (on x M hx hM)) ≡ words_of_2 (day_staged w (on y N1 hy enough1))
    unfolding other1
    day_words1 =
        ap (λ (m : Lane). defined_words M.A M.B (joint2 M.A M.B) ss origin (fresh m, fresh (behind_zeros M.l1), fresh (behind_zeros M.l2)))
        (sym (mask_behind w 24 x M.l1 M.l2))
        ∙ words1 w σ all (behind_zeros x) (behind_zeros y) (laid M) X Y enough_laid
        ∙ ap (λ (l : Lane). defined_words M.A N1.B (joint2 M.A N1.B) ss origin
        (fresh (mask_all w (behind_zeros y) (behind_zeros M.l1) l), fresh (behind_zeros M.l1), fresh l)) (moved_behind w 24 x y M.l2)
        ∙ ap (λ (m : Lane). defined_words M.A N1.B (joint2 M.A N1.B) ss origin
        (fresh m, fresh (behind_zeros M.l1), fresh (behind_zeros N1.l2))) (mask_behind w 24 y M.l1 N1.l2)

    day_beside1 : Beside w 96 need (on) (day_has 1) (DaySeesSame w 1) x y M N1 hx hy hM
    unfolding other1
    day_beside1 =
        let T = on y N1 hy enough1 in
        record {
          enough = enough1;
          as_long = on_lanes1.as_long;
          beyond = on_lanes1.beyond;
          not_given = not_given1 w 96 need x y M hx hy hM N1.A N1.B;
          has_same = λ i. M.A ∷ sym (m1 w 96 need x y M hx hy hM) i ∷ M.l1 ∷ [];
          sees_same = day_sees1 w (on x M hx hM)
              (record {
                A = T.A;
                B = T.B;
                m = T.m;
                l1 = T.l1;
                l2 = T.l2;
                m_day = T.m_day;
                l1_day = T.l1_day;
                l2_day = T.l2_day;
                long_a = refl;
                long_b = sym on_lanes1.as_long.1;
              })
              (record { A = refl; m = m1 w 96 need x y M hx hy hM; l1 = refl; words = day_words1 });
        }

    day_back1 : day_other1 w ss y x N1 ≡ M
    day_back1 =
        masks_path refl (there_and_back w 96 need x y M hx hy hM M.l2 hM.l2) refl
        (ap (λ (N : Masks). (other1 w ss (behind_zeros y) (behind_zeros x) N).B) laid1
        ∙ ap (λ (N : Masks). N.B) (back1 w σ all (behind_zeros x) (behind_zeros y) (laid M) X Y enough_laid))

    -- host 2
    abbrev W2 : Masks
    W2 = other2 w ss (behind_zeros x) (behind_zeros y) (laid M)

    abbrev N2 : Masks
    N2 = day_other2 w ss x y M

    laid2 : laid N2 ≡ W2
    unfolding other2
    laid2 = masks_path (sym (moved_behind w 24 x y M.l1)) refl refl refl

    on_lanes2 : Beside w 120 need (stage_of w σ) (has 2) (SeesSame 2) (behind_zeros x) (behind_zeros y) (laid M) W2 X Y enough_laid
    on_lanes2 = beside2 w σ all (behind_zeros x) (behind_zeros y) (laid M) X Y enough_laid

    enough2 : Enough w 96 need N2
    unfolding other2
    enough2 =
        record {
          l1 = moved_given w 96 need x y M hx hy hM M.l1 hM.l1;
          l2 = hM.l2;
          A = on_lanes2.enough.A;
          B = hM.B;
          a = on_lanes2.enough.a;
          b = hM.b;
        }

    day_words2 : words_of_1 (day_staged w (on x M hx hM)) ≡ words_of_1 (day_staged w (on y N2 hy enough2))
    unfolding other2
    day_words2 =
        ap (λ (m : Lane). defined_words M.A M.B (joint1 M.A M.B) ss origin (fresh m, fresh (behind_zeros M.l1), fresh (behind_zeros M.l2)))
        (sym (mask_behind w 24 x M.l1 M.l2))
        ∙ words2 w σ all (behind_zeros x) (behind_zeros y) (laid M) X Y enough_laid
        ∙ ap (λ (l : Lane). defined_words N2.A M.B (joint1 N2.A M.B) ss origin
        (fresh (mask_all w (behind_zeros y) l (behind_zeros M.l2)), fresh l, fresh (behind_zeros M.l2))) (moved_behind w 24 x y M.l1)
        ∙ ap (λ (m : Lane). defined_words N2.A M.B (joint1 N2.A M.B) ss origin
        (fresh m, fresh (behind_zeros N2.l1), fresh (behind_zeros M.l2))) (mask_behind w 24 y N2.l1 M.l2)

    day_deals2 : day_deals w (on x M hx hM) ≡ day_deals w (on y N2 hy enough2)
    unfolding other2
    day_deals2 =
        ap (λ (p : Pair). script_deals σ M.A M.B p) (given_is M.l1 M.l2 hM.l1.many hM.l2.many)
        ∙ deals2 w σ all (behind_zeros x) (behind_zeros y) (laid M) X Y enough_laid
        ∙ ap (λ (l : Lane). script_deals σ N2.A M.B (l, behind_zeros M.l2)) (moved_behind w 24 x y M.l1)
        ∙ ap (λ (p : Pair). script_deals σ N2.A M.B p) (sym (given_is N2.l1 M.l2 enough2.l1.many hM.l2.many))

    day_beside2 : Beside w 96 need (on) (day_has 2) (DaySeesSame w 2) x y M N2 hx hy hM
    unfolding other2
    day_beside2 =
        let T = on y N2 hy enough2 in
        record {
          enough = enough2;
          as_long = on_lanes2.as_long;
          beyond = on_lanes2.beyond;
          not_given = not_given2 w 96 need x y M hx hy hM N2.A N2.B;
          has_same = λ i. M.B ∷ sym (m2 w 96 need x y M hx hy hM) i ∷ M.l2 ∷ [];
          sees_same = day_sees2 w (on x M hx hM)
              (record {
                A = T.A;
                B = T.B;
                m = T.m;
                l1 = T.l1;
                l2 = T.l2;
                m_day = T.m_day;
                l1_day = T.l1_day;
                l2_day = T.l2_day;
                long_a = sym on_lanes2.as_long.0;
                long_b = refl;
              })
              (record { B = refl; m = m2 w 96 need x y M hx hy hM; l2 = refl; deals = day_deals2; words = day_words2 });
        }

    day_back2 : day_other2 w ss y x N2 ≡ M
    day_back2 =
        masks_path (there_and_back w 96 need x y M hx hy hM M.l1 hM.l1) refl
        (ap (λ (N : Masks). (other2 w ss (behind_zeros y) (behind_zeros x) N).A) laid2
        ∙ ap (λ (N : Masks). N.A) (back2 w σ all (behind_zeros x) (behind_zeros y) (laid M) X Y enough_laid))
        refl

-- ---- of every table and all hours

zeros_in_front : (l : Lane) (i : ℕ) → i < 24 → at (behind_zeros l) i ≡ 0
zeros_in_front l i h = get_or-append (replicate 24 0) l 0 i h ∙ get_or-replicate 24 i 0 0 h

pub day_privacy : DayPrivacy
day_privacy =
    record {
      host0 = hidden0;
      host1 = λ w T H. record { other = day_other1 w (ss w T H); beside = day_beside1 w T H; back = day_back1 w T H };
      host2 = λ w T H. record { other = day_other2 w (ss w T H); beside = day_beside2 w T H; back = day_back2 w T H };
      registers = λ L i h. (zeros_in_front (firsts L) i h, zeros_in_front (seconds L) i h);
    }
