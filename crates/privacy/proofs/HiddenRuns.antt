-- What no host alone learns of the values given (R-8): of any script of gates, at any width. Assumes nothing.
use mathlib.Core.Path.{◌≡◌, refl, sym, ap, ◌∙◌}
use mathlib.Core.List.{List, [], ◌∷◌}
use Prim.Native.Nat.{ℕ}
use lib.ListN.{drop}
use Rattle.gates.specs.Steps.{Lane, at, Exchange, Step, local, deal, exchange, end, Cursor, origin, past}
use Rattle.gates.specs.Hosts.{Triple, act, joint1, joint2}
use Rattle.gates.specs.Duet.{utter, words}
use Rattle.gates.specs.Costs.{Cost}
use Rattle.calls.specs.Scripts.{Script, script_cost}
use Rattle.calls.specs.Calls.{fresh, script_deals}
use Rattle.runs.specs.Runs.{Stage, Spoken}
use Rattle.runs.specs.InOrder.{defined_words}
use Rattle.programs.proofs.Gates.{Fits}
use Rattle.privacy.specs.Privacy.{Masks, mask_all, Given, Enough, Beside, Hides, has}
use Rattle.privacy.specs.Privacy.{SeesSame, stage_of}
use Rattle.privacy.specs.Unseen.{side1, side2, others, lanes, moved1, other1, moved2, other2, other0}
use Rattle.privacy.proofs.Sight.{Agree1, Agree2}
use Rattle.privacy.proofs.Walks.{All, Two}
use Rattle.privacy.proofs.Solving.{Sound}
use Rattle.privacy.proofs.Steps.{Corresponds, lists1, heard1, lists2, dealt2, heard2}
use Rattle.privacy.proofs.Registers.{masked_fits, fresh_fits}
use Rattle.privacy.proofs.Values.{masks_path, mask_none, moved_given, there_and_back, m1, not_given1, m2, not_given2}
use Rattle.privacy.proofs.Counterparts.{sees0, sees1, sees2}

-- ---- words with their places

-- the words of a list, each at its place
unfoldable placed : List Step → Cursor → List ℕ → List Spoken
placed [] c ws = (c.order, c.turn, 0) ∷ []
placed (local d m l ∷ ss) c ws = placed ss (past (local d m l) c) ws
placed (deal d f ∷ ss) c ws = placed ss (past (deal d f) c) ws
placed (exchange d e ∷ ss) c ws = (c.order, c.turn, at ws 0) ∷ placed ss (past (exchange d e) c) (drop 1 ws)
placed (end ∷ ss) c ws = placed ss (past end c) ws

at_places : (A B : List ℕ) (say : Exchange → Cursor → Triple → ℕ) (ss : List Step) (c : Cursor) (j : Triple)
    → defined_words A B say ss c j ≡ placed ss c (words (act A B) say ss c j)
unfolding defined_words placed words utter
at_places A B say [] c j = refl
at_places A B say (local d m l ∷ ss) c j = at_places A B say ss _ _
at_places A B say (deal d f ∷ ss) c j = at_places A B say ss _ _
at_places A B say (exchange d e ∷ ss) c j =
    ap {B = List Spoken} (λ (l : List Spoken). (c.order, c.turn, say e c j) ∷ l) (at_places A B say ss _ _)
at_places A B say (end ∷ ss) c j = at_places A B say ss _ _

-- the same words, at the same places
spoken : (A A' B B' : List ℕ) (say say' : Exchange → Cursor → Triple → ℕ) (ss : List Step) (c : Cursor) (j k : Triple)
    → words (act A B) say ss c j ≡ words (act A' B') say' ss c k → defined_words A B say ss c j ≡ defined_words A' B' say' ss c k
spoken A A' B B' say say' ss c j k e = at_places A B say ss c j ∙ ap (placed ss c) e ∙ sym (at_places A' B' say' ss c k)

-- ---- any two lists of values

module _ (w : ℕ) (σ : Script) where
  abbrev ss : List Step
  ss = σ.steps

  abbrev n : ℕ
  n = σ.slots

  abbrev need : Cost
  need = script_cost σ

  pub hidden0 : Hides w n need (stage_of w σ) (has 0) (SeesSame 0)
  hidden0 =
      record {
        other = other0;
        beside = λ x y M hx hy hM.
            let T = stage_of w σ y M hy hM in
            record {
              enough = hM;
              as_long = (refl, refl);
              beyond = (refl, refl);
              not_given = λ i g e.
                  record { value = e; m = mask_none w y M.l1 M.l2 i e g.l1 g.l2; l1 = g.l1; l2 = g.l2 };
              has_same = refl;
              sees_same = sees0 (stage_of w σ x M hx hM) T.A T.B T.rm T.r1 T.r2 T.rm_full T.r1_full T.r2_full refl refl
                  (record { A = refl; B = refl; r1 = refl; r2 = refl });
            };
        back = λ x y M hx hy hM. refl;
      }

  module _ (all : All (Sound w) ss) (x y : List ℕ) (M : Masks) (hx : Given w n x) (hy : Given w n y) (hM : Enough w n need M) where
    abbrev S : Stage
    S = stage_of w σ x M hx hM

    first_fits : (l : Lane) → Given w n l → Fits w (fresh l)
    first_fits l h = fresh_fits w l h.words

    m_fits : (z l1 l2 : List ℕ) → Fits w (fresh (mask_all w z l1 l2))
    m_fits z l1 l2 = fresh_fits w _ (masked_fits w z l1 l2)

    -- ---- host 1

    abbrev M1 : Masks
    M1 = moved1 w ss x y M []

    two1 : Two w side1 Agree1 M.A M.B (lanes w ss x M) (lanes w ss y M1)
    two1 =
        record {
          v_fits = hM.A;
          u_fits = hM.B;
          j_fits = record { m = m_fits x M.l1 M.l2; l1 = first_fits _ hM.l1; l2 = first_fits _ hM.l2 };
          k_fits = record { m = m_fits y M.l1 M1.l2; l1 = first_fits _ hM.l1; l2 = first_fits _ (moved_given w n need x y M hx hy hM _ hM.l2) };
          agree = (ap fresh (m1 w n need x y M hx hy hM), refl);
          back = (sym (ap fresh (m1 w n need x y M hx hy hM)), refl);
        }

    abbrev B1 : List ℕ
    B1 = others side1 ss M.A M.B (lanes w ss x M) (lanes w ss y M1)

    corr1 : Corresponds side1 w ss need.b M.A M.B (lanes w ss x M) (lanes w ss y M1)
    corr1 = lists1 w ss all M.A M.B (lanes w ss x M) (lanes w ss y M1) two1 hM.b

    enough1 : Enough w n need (other1 w ss x y M)
    unfolding other1
    enough1 =
        record {
          l1 = hM.l1;
          l2 = moved_given w n need x y M hx hy hM M.l2 hM.l2;
          A = hM.A;
          B = corr1.fits;
          a = hM.a;
          b = rw corr1.as_long hM.b;
        }

    -- what is defined for host 2 to speak, from lanes of the values x and of y
    pub words1 : defined_words M.A M.B (joint2 M.A M.B) ss origin (lanes w ss x M)
        ≡ defined_words M.A B1 (joint2 M.A B1) ss origin (lanes w ss y M1)
    words1 =
        spoken M.A M.A M.B B1 (joint2 M.A M.B) (joint2 M.A B1) ss origin _ _
        (heard1 w ss all M.A M.B (lanes w ss x M) (lanes w ss y M1) two1)

    pub beside1 : Beside w n need (stage_of w σ) (has 1) (SeesSame 1) x y M (other1 w ss x y M) hx hy hM
    unfolding other1
    beside1 =
        let T = stage_of w σ y (other1 w ss x y M) hy enough1 in
        record {
          enough = enough1;
          as_long = (refl, corr1.as_long);
          beyond = (refl, corr1.beyond);
          not_given = not_given1 w n need x y M hx hy hM M.A B1;
          has_same = λ i. M.A ∷ sym (m1 w n need x y M hx hy hM) i ∷ M.l1 ∷ [];
          sees_same = sees1 S T.A T.B T.rm T.r1 T.r2 T.rm_full T.r1_full T.r2_full refl (sym corr1.as_long)
              (record {
                A = refl;
                rm = m1 w n need x y M hx hy hM;
                r1 = refl;
                words = words1;
              });
        }

    pub back1 : other1 w ss y x (other1 w ss x y M) ≡ M
    unfolding other1
    back1 =
        masks_path refl (there_and_back w n need x y M hx hy hM M.l2 hM.l2) refl
        (ap (λ (r : Lane). others side1 ss M.A B1 (lanes w ss y M1) (fresh (mask_all w x M.l1 r), fresh M.l1, fresh r))
        (there_and_back w n need x y M hx hy hM M.l2 hM.l2)
        ∙ corr1.back)

    -- ---- host 2

    abbrev M2 : Masks
    M2 = moved2 w ss x y M []

    two2 : Two w side2 Agree2 M.B M.A (lanes w ss x M) (lanes w ss y M2)
    two2 =
        record {
          v_fits = hM.B;
          u_fits = hM.A;
          j_fits = record { m = m_fits x M.l1 M.l2; l1 = first_fits _ hM.l1; l2 = first_fits _ hM.l2 };
          k_fits = record { m = m_fits y M2.l1 M.l2; l1 = first_fits _ (moved_given w n need x y M hx hy hM _ hM.l1); l2 = first_fits _ hM.l2 };
          agree = (ap fresh (m2 w n need x y M hx hy hM), refl);
          back = (sym (ap fresh (m2 w n need x y M hx hy hM)), refl);
        }

    abbrev A2 : List ℕ
    A2 = others side2 ss M.B M.A (lanes w ss x M) (lanes w ss y M2)

    corr2 : Corresponds side2 w ss need.a M.B M.A (lanes w ss x M) (lanes w ss y M2)
    corr2 = lists2 w ss all M.A M.B (lanes w ss x M) (lanes w ss y M2) two2 hM.a

    enough2 : Enough w n need (other2 w ss x y M)
    unfolding other2
    enough2 =
        record {
          l1 = moved_given w n need x y M hx hy hM M.l1 hM.l1;
          l2 = hM.l2;
          A = corr2.fits;
          B = hM.B;
          a = rw corr2.as_long hM.a;
          b = hM.b;
        }

    -- what is defined for host 0 to deal, and for host 1 to speak
    pub deals2 : script_deals σ M.A M.B (M.l1, M.l2) ≡ script_deals σ A2 M.B (M2.l1, M.l2)
    unfolding script_deals
    deals2 = dealt2 w ss all M.A M.B (lanes w ss x M) (lanes w ss y M2) two2

    pub words2 : defined_words M.A M.B (joint1 M.A M.B) ss origin (lanes w ss x M)
        ≡ defined_words A2 M.B (joint1 A2 M.B) ss origin (lanes w ss y M2)
    words2 =
        spoken M.A A2 M.B M.B (joint1 M.A M.B) (joint1 A2 M.B) ss origin _ _
        (heard2 w ss all M.A M.B (lanes w ss x M) (lanes w ss y M2) two2)

    pub beside2 : Beside w n need (stage_of w σ) (has 2) (SeesSame 2) x y M (other2 w ss x y M) hx hy hM
    unfolding other2
    beside2 =
        let T = stage_of w σ y (other2 w ss x y M) hy enough2 in
        record {
          enough = enough2;
          as_long = (corr2.as_long, refl);
          beyond = (corr2.beyond, refl);
          not_given = not_given2 w n need x y M hx hy hM A2 M.B;
          has_same = λ i. M.B ∷ sym (m2 w n need x y M hx hy hM) i ∷ M.l2 ∷ [];
          sees_same = sees2 S T.A T.B T.rm T.r1 T.r2 T.rm_full T.r1_full T.r2_full (sym corr2.as_long) refl
              (record {
                B = refl;
                rm = m2 w n need x y M hx hy hM;
                r2 = refl;
                deals = deals2;
                words = words2;
              });
        }

    pub back2 : other2 w ss y x (other2 w ss x y M) ≡ M
    unfolding other2
    back2 =
        masks_path (there_and_back w n need x y M hx hy hM M.l1 hM.l1) refl
        (ap (λ (r : Lane). others side2 ss M.B A2 (lanes w ss y M2) (fresh (mask_all w x r M.l2), fresh r, fresh M.l2))
        (there_and_back w n need x y M hx hy hM M.l1 hM.l1)
        ∙ corr2.back)
        refl

  pub hidden1 : All (Sound w) ss → Hides w n need (stage_of w σ) (has 1) (SeesSame 1)
  hidden1 all = record { other = other1 w ss; beside = beside1 all; back = back1 all }

  pub hidden2 : All (Sound w) ss → Hides w n need (stage_of w σ) (has 2) (SeesSame 2)
  hidden2 all = record { other = other2 w ss; beside = beside2 all; back = back2 all }
