-- The family of runs that differ in the refresh's word of list A: the order's reading is the same, and its mask is
-- that word plus a fixed one. Assumes nothing.
use mathlib.Core.Path.{◌≡◌, refl, sym, ap, ◌∙◌}
use mathlib.Core.List.{List, [], ◌∷◌, ◌++◌}
use Prim.Native.Nat.{ℕ, ◌+◌, ◌<◌}
use native.Mathlib.Omega.{arith}
use lib.ListN.{get_or, length, set, take}
use lib.Seq.{get_or-set_same, get_or-set_other}
use Rattle.words.specs.Words.{add, numbers}
use Rattle.words.specs.Signed.{signed}
use Rattle.shares.specs.Gates.{value}
use Rattle.tables.specs.Table.{rows}
use Rattle.gates.specs.Gates.{Gate, Refresh}
use Rattle.gates.specs.Steps.{at, origin}
use Rattle.gates.specs.Meaning.{job_steps}
use Rattle.gates.specs.Walk.{Conf, whole, far}
use Rattle.gates.specs.Hosts.{Triple, act, share}
use Rattle.gates.specs.Costs.{Cost, plus}
use Rattle.gates.proofs.Needs.{far_used, whole_alike}
use Rattle.curves.specs.Curve.{last_count}
use Rattle.programs.specs.Programs.{sum_program, one_bit_program, truncation, saturation}
use Rattle.programs.specs.Orders.{curve_program, kinds, program}
use Rattle.programs.specs.Costs.{program_cost}
use Rattle.programs.proofs.Sizes.{cost_after, refresh_uses}
use Rattle.jobs.specs.Job.{orders, steps_of, job_cost}
use Rattle.calls.proofs.Scripts.{job_made}
use Rattle.runs.specs.Runs.{Setting, staged}
use Rattle.runs.specs.Orders.{Words, first, before_order, order_of, used_before, refresh_mask, reading}
use Rattle.demands.specs.Demand3.{OneBit, refresh_place, with_word}
use Rattle.runs.proofs.Chain.{job_orderly, state_before, first_cost, used_within}
use Rattle.runs.proofs.Gated.{G₀, before_is}
use Rattle.runs.proofs.Opened.{gates, gates_is, in_gates}

-- the shares before order q are what the walk of the orders before it comes to
before_walk : (w : ℕ) (S : Setting) → Words w (staged w S) → (q : ℕ) → q < length (orders S.job)
    → before_order (staged w S) q
    ≡ (whole (act S.A S.B) (job_steps w (take q (gates w S))) origin (first (staged w S)) []).state
before_walk w S words q h =
    let tidy = job_orderly w S.job S.table in
    before_is w (staged w S) tidy words (gates w S) (job_made w S.job S.table) q (in_gates w S q h)
    ∙ sym (state_before w S.A S.B words.A words.B (gates w S) (G₀ w (staged w S) tidy words) q [])

module _ (w : ℕ) (S : Setting) (q : ℕ) where
  abbrev i : ℕ
  i = refresh_place w S q

  -- the refresh's word of B
  abbrev pub word_of_b : ℕ
  word_of_b = at S.B ((used_before w S q).b + (program_cost w (sum_program w (order_of S q).source (rows S.table))).b)

  -- the refresh's word of A is one of those that the job needs
  pub place_needed : OneBit S q → q < length (orders S.job) → i < (job_cost w S.job S.table).a
  unfolding refresh_place used_before job_cost steps_of program kinds curve_program truncation plus
  place_needed o h =
      let ps = rows S.table in
      let x : ℕ = (order_of S q).source in
      let d : ℕ = (order_of S q).target in
      let after : List Gate = one_bit_program w 12 22 22 ++ saturation w (last_count ps) x d in
      let rest : List Gate = Refresh 22 22 ∷ after in
      let e : get_or (gates w S) q [] ≡ sum_program w x ps ++ rest =
      gates_is w S q h
      ∙ ap (λ (n : ℕ). get_or (kinds w ps d x (order_of S q).fourth) n []) o.kind ∙ ap (λ (c : ℕ). curve_program w x d ps c) o.mode in
      let c = ap (λ (gs : List Gate). (program_cost w gs).a) e ∙ ap (λ (k : Cost). k.a) (cost_after w (sum_program w x ps) rest) in
      omega (arith, c, refresh_uses w 22 22 after, used_within w (gates w S) q (in_gates w S q h))

  -- the same shares before the order, whatever the word
  before_same : (a : ℕ) → Words w (staged w S) → Words w (staged w (with_word w S q a)) → q < length (orders S.job)
      → before_order (staged w (with_word w S q a)) q ≡ before_order (staged w S) q
  unfolding with_word used_before refresh_place
  before_same a words words' h =
      before_walk w (with_word w S q a) words' q h
      ∙ ap (λ (c : Conf Triple). c.state)
      (sym (whole_alike S.A (set S.A i a) S.B S.B (job_steps w (take q (gates w S))) origin (first (staged w S)) [] same
      (λ n l. refl)))
      ∙ sym (before_walk w S words q h)
    where
      same : (n : ℕ) → n < (far (job_steps w (take q (gates w S))) origin).a → at S.A n ≡ at (set S.A i a) n
      same n l =
          let u = (far_used (job_steps w (take q (gates w S))) origin).a in
          let c = ap (λ (k : Cost). k.a) (first_cost w (gates w S) q) in
          let b : n < i = omega (arith, u, c) in
          sym (get_or-set_other S.A i n a 0 (λ e. omega arith))

  -- so the same reading
  pub reading_same : (a : ℕ) → Words w (staged w S) → Words w (staged w (with_word w S q a)) → q < length (orders S.job)
      → reading w (with_word w S q a) q ≡ reading w S q
  unfolding reading with_word order_of
  reading_same a words words' h =
      ap (λ (t : Triple). signed w (value (numbers w) (share t (order_of S q).source))) (before_same a words words' h)

  -- and the mask is that word plus the refresh's word of B
  pub mask_same : (a : ℕ) → i < length S.A → refresh_mask w (with_word w S q a) q ≡ add w a word_of_b
  unfolding refresh_mask with_word order_of used_before refresh_place
  mask_same a h = ap (λ (x : ℕ). add w x word_of_b) (get_or-set_same S.A i a 0 h)
