-- A run of a day's own calls is a run of the day's script. Assumes nothing.
use mathlib.Core.Path.{◌≡◌, refl, sym, ap, ap₂, ◌∙◌, subst}
use mathlib.Core.Logic.{◌≢◌}
use mathlib.Core.List.{List, [], ◌∷◌}
use Prim.Native.Nat.{ℕ, ◌≤◌}
use native.Mathlib.Nat.{min-eq_left}
use native.Mathlib.Omega.{arith}
use lib.ListN.{length, take, length-take}
use lib.Seq.{take_all}
use Rattle.gates.specs.Steps.{Lane}
use Rattle.gates.specs.Hosts.{Pair}
use Rattle.calls.specs.Calls.{stored_places, State, Answer, start, hear, Prepared, prepare, prepare_walk}
use Rattle.runs.specs.Runs.{Spoken, placed_word, Among, Dealer, idle, ready, Side, waiting, going, side_state, World, world}
use Rattle.runs.specs.Runs.{Turned, Call, lent1, lent2, Dealt, preparation, held, started, stepped, prepares, starts1, starts2}
use Rattle.runs.specs.Runs.{hears1, hears2, given_out, Run, begin, complete, refuse}
use Rattle.runs.proofs.Refusals.{hear_state, prepare_back, HasSlots, turned_same}
use Rattle.runs.proofs.Behind.{both_hold}
use Rattle.days.specs.Day.{Hours, day_script}
use Rattle.days.specs.DayCalls.{firsts, seconds, day_given, with_shares, own_state, own_answer, own_masks, day_lent, day_hear, day_prepare}
use Rattle.days.proofs.Lanes.{front_lane}
use Rattle.day_demands.specs.Settings.{DaySetting, behind_zeros, behind_full, day_staged}
use Rattle.day_demands.specs.Runs.{DayDealer, unprepared, prepared, DayWorld, DayHost, Gives, with_given}
use Rattle.day_demands.specs.Runs.{resting, running, with_answer, host_state, prepare0, start1, start2, hear1, hear2}
use Rattle.day_demands.specs.Runs.{DayCompletes, day_prepares, day_starts1, day_starts2, day_hears1, day_hears2, DayRefuses}
use Rattle.day_demands.specs.Runs.{day_refuses0, day_refuses_elsewhere, day_refuses_start, day_refuses1, day_refuses2}
use Rattle.day_demands.specs.Runs.{job_refuses0, job_refuses_elsewhere, job_refuses1, job_refuses2, DayRun}
use Rattle.day_demands.specs.Runs.{day_begin, day_complete, day_refuse, SameDealer, SameHost, Same}
use Rattle.day_demands.proofs.Calls.{turns_down, day_calls}

-- what a host holds and has spoken, once it has answered
pub answered : (a b : Answer) (said said' : List Spoken) → own_answer b ≡ a → said ≡ said'
    → (a.state ≡ own_state b.state)
    × (◌≡◌ {A = List Spoken} (placed_word a.state a.word ∷ said) (placed_word b.state b.word ∷ said'))
answered a b said said' e f = (
  ap (λ (x : Answer). x.state) (sym e),
  ap₂ {C = List Spoken} (λ (x : Answer) (l : List Spoken). placed_word x.state x.word ∷ l) (sym e) f,
)

-- a word among those spoken
pub among : {x y : Spoken} {said said' : List Spoken} → x ≡ y → said ≡ said' → Among x said → Among y said'
among {x} {said' = said'} e f m = subst (λ (z : Spoken). Among z said') e (subst (λ (l : List Spoken). Among x l) f m)

-- the same word at the place of a state of the script
pub same_place : {s : State} (s' : State) (v : ℕ) → s ≡ own_state s' → placed_word s v ≡ placed_word s' v
same_place s' v e = ap {B = Spoken} (λ (x : State). placed_word x v) e

-- ---- what a refused call gives back

lane_length : (l : Lane) → 120 ≤ length l → length (take 24 l) ≡ 24
lane_length l h = length-take 24 l ∙ min-eq_left (omega (arith, h))

module _ (w : ℕ) where
  heard_back : (h : ℕ) (T L : List ℕ) (H : Hours) (M D : List ℕ) (v : ℕ) (s : State) → HasSlots 120 s
      → (day_hear w h T L H M D (own_state s) v).number ≢ 0
      → (day_hear w h T L H M D (own_state s) v).state ≡ own_state s
  unfolding day_hear with_shares
  heard_back h T L H M D v s z n =
      ap {B = State} (λ (x : State). own_state x) (hear_state (day_lent w h T L H M D) (with_shares (own_state s) L) v n)
      ∙ rw (
        front_lane (take 24 s.m) (firsts L) (lane_length s.m z.m),
        front_lane (take 24 s.mask) (seconds L) (lane_length s.mask z.mask),
      )

  buffer_back : (T L : List ℕ) (H : Hours) (A B buf : List ℕ) → (day_prepare w T L H A B buf).number ≢ 0 → (day_prepare w T L H A B buf).buffer ≡ buf
  unfolding day_prepare
  buffer_back T L H A B buf n = (prepare_back (day_script w T (length L) H) A B buf (day_given L) n).1

-- ---- the run

module _ (w : ℕ) (S : DaySetting) where
  abbrev Followed : List Call → DayWorld → Type 0
  Followed cs u = (v : World) × Run (day_staged w S) cs v × Same u v

  -- a host that is given two lanes
  abbrev pub given_lanes : (a b : Lane) → State
  given_lanes a b =
      record { m = behind_zeros a; mask = behind_zeros b; order = 0; turn = 0; stored = stored_places 0 0 0 }

  pub given_held : (a b : Lane) → length a ≡ 96 → length b ≡ 96
      → held (day_staged w S) (given_lanes a b) ≡ (behind_zeros a, behind_zeros b)
  given_held a b e f =
      ap₂ {C = Pair} (λ (x y : Lane). (x, y)) (take_all 120 (behind_zeros a) (omega (arith, behind_full a e)))
      (take_all 120 (behind_zeros b) (omega (arith, behind_full b f)))

  -- calls that complete
  completed : {cs : List Call} {c : Call} {u u' : DayWorld} (v : World) → DayCompletes w S c u u' → Run (day_staged w S) cs v → Same u v
      → Followed (c ∷ cs) u'
  completed {cs = cs} (world (idle r) buf' one two) (day_prepares {buf = buf} n) R (z, b, p, q) =
      let a : Prepared = preparation (day_staged w S) buf' r in
      let e : own_masks a ≡ prepare0 w S buf = (day_calls w).prepares S cs r buf' one two R ∙ ap (prepare0 w S) (sym b) in (
        world (ready a.masks (prepare_walk (day_staged w S).script S.A S.B r).trail) a.buffer one two,
        complete R (prepares (ap (λ (x : Prepared). x.number) e ∙ n)),
        (ap (λ (x : Prepared). x.masks) (sym e), ap (λ (x : Prepared). x.buffer) (sym e), p, q),
      )
  completed (world (ready r t) buf' one two) (day_prepares n) R (z, b, p, q) = absurd z
  completed {cs = cs} (world z' buf' (waiting s') two) (day_starts1 D n) R (z, b, p, q) =
      let a : Answer = start (lent1 (day_staged w S) D) (held (day_staged w S) s') in
      let e : own_answer a ≡ start1 w S D = (day_calls w).starts1 S cs z' buf' D s' two R in (
        world z' buf' (started (day_staged w S) (lent1 (day_staged w S) D) s') two,
        complete R (starts1 D (ap (λ (x : Answer). x.number) e ∙ n)),
        (z, b, answered (start1 w S D) a [] [] e refl, q),
      )
  completed (world z' buf' (going s' t said') two) (day_starts1 D n) R (z, b, p, q) = absurd p
  completed {cs = cs} (world (ready r t₀) buf' one (waiting s')) (day_starts2 D d n) R (z, b, p, q) =
      let a : Answer = start (lent2 (day_staged w S) D) (held (day_staged w S) s') in
      let e : own_answer a ≡ start2 w S D = (day_calls w).starts2 S cs (ready r t₀) buf' D one s' R in (
        world (ready r t₀) buf' one (started (day_staged w S) (lent2 (day_staged w S) D) s'),
        complete R
            (starts2 D (subst (λ (x : List ℕ). Dealt (day_staged w S) x D) b d) (ap (λ (x : Answer). x.number) e ∙ n)),
        (z, b, p, answered (start2 w S D) a [] [] e refl),
      )
  completed (world (idle r) buf' one two) (day_starts2 D d n) R (z, b, p, q) = absurd z
  completed (world (ready r t₀) buf' one (going s' t said')) (day_starts2 D d n) R (z, b, p, q) = absurd q
  completed {cs = cs} (world z' buf' (going s' t said') (going s2' t2 said2')) (day_hears1 {s = s} {said = said} D v m n) R (z, b, p, q) =
      let a : Answer = hear (lent1 (day_staged w S) D) s' v in
      let e : own_answer a ≡ hear1 w S D s v =
      (day_calls w).hears1 S cs z' buf' D s' t said' (going s2' t2 said2') v R ∙ ap (λ (x : State). hear1 w S D x v) (sym p.0) in (
        world z' buf' (stepped (day_staged w S) (lent1 (day_staged w S) D) s' v t said') (going s2' t2 said2'),
        complete R (hears1 D v (among (same_place s' v p.0) q.1 m) (ap (λ (x : Answer). x.number) e ∙ n)),
        (z, b, answered (hear1 w S D s v) a said said' e p.1, q),
      )
  completed (world z' buf' (waiting s') two) (day_hears1 D v m n) R (z, b, p, q) = absurd p
  completed (world z' buf' (going s' t said') (waiting s2')) (day_hears1 D v m n) R (z, b, p, q) = absurd q
  completed {cs = cs} (world z' buf' (going s1' t1 said1') (going s' t said')) (day_hears2 {s = s} {said = said} D d v m n) R (z, b, p, q) =
      let a : Answer = hear (lent2 (day_staged w S) D) s' v in
      let e : own_answer a ≡ hear2 w S D s v =
      (day_calls w).hears2 S cs z' buf' D (going s1' t1 said1') s' t said' v R ∙ ap (λ (x : State). hear2 w S D x v) (sym q.0) in (
        world z' buf' (going s1' t1 said1') (stepped (day_staged w S) (lent2 (day_staged w S) D) s' v t said'),
        complete R
            (hears2 D (subst (λ (x : List ℕ). Dealt (day_staged w S) x D) b d) v (among (same_place s' v q.0) p.1 m)
            (ap (λ (x : Answer). x.number) e ∙ n)),
        (z, b, p, answered (hear2 w S D s v) a said said' e q.1),
      )
  completed (world z' buf' (waiting s1') two) (day_hears2 D d v m n) R (z, b, p, q) = absurd p
  completed (world z' buf' (going s1' t1 said1') (waiting s')) (day_hears2 D d v m n) R (z, b, p, q) = absurd q

  -- a hearing turned down
  hearing_back : (x : DayHost) (y : Side) → HasSlots 120 (side_state y) → (h : ℕ) (T L : List ℕ) (H : Hours) (M D : List ℕ) (v : ℕ)
      → (day_hear w h T L H M D (host_state x) v).number ≢ 0
      → SameHost x y
      → SameHost (with_answer x (day_hear w h T L H M D (host_state x) v).state) y
  hearing_back (resting s) (waiting s') z h T L H M D v n p = tt
  hearing_back (resting s) (going s' t said') z h T L H M D v n p = absurd p
  hearing_back (running s said) (waiting s') z h T L H M D v n p = absurd p
  hearing_back (running s said) (going s' t said') z h T L H M D v n p = (
    subst (λ (x : State). (day_hear w h T L H M D x v).number ≢ 0 → (day_hear w h T L H M D x v).state ≡ own_state s') (sym p.0)
        (heard_back w h T L H M D v s' z) n,
    p.1,
  )

  -- a job's call turned down: the host's own state, of 24 slots, has a job's registers
  own_slots : (s : State) → HasSlots 120 s → HasSlots 16 (own_state s)
  own_slots s z =
      record { m = omega (arith, lane_length s.m z.m); mask = omega (arith, lane_length s.mask z.mask) }

  job_back : (x : DayHost) (y : Side) → HasSlots 120 (side_state y) → {s : State} → Turned 16 (host_state x) s → SameHost x y
      → SameHost (with_answer x s) y
  job_back (resting s) (waiting s') z n p = tt
  job_back (resting s) (going s' t said') z n p = absurd p
  job_back (running s said) (waiting s') z n p = absurd p
  job_back (running s said) (going s' t said') z n p =
      (turned_same 16 (subst (HasSlots 16) (sym p.0) (own_slots s' z)) n ∙ p.0, p.1)

  masks_given : (z : DayDealer) (z' : Dealer) (given masks : Pair) → Gives z given → masks ≡ given → SameDealer z z'
      → SameDealer (with_given z masks) z'
  masks_given unprepared z' given masks g e p = p
  masks_given (prepared r) (idle r') given masks g e p = absurd p
  masks_given (prepared r) (ready r' t) given masks g e p = e ∙ sym g ∙ p

  -- calls that are refused: the run's world stays as it is, and the day's is still the same
  refused : {cs : List Call} {u u' : DayWorld} (v : World) → DayRefuses w S u u' → Run (day_staged w S) cs v → Same u v → Same u' v
  refused (world z' buf' one two) (day_refuses0 {buf = buf} T L H A B n) R (z, b, p, q) = (z, buffer_back w T L H A B buf n ∙ b, p, q)
  refused v (day_refuses_elsewhere T L H A B other n) R e = e
  refused v (day_refuses_start h T L H M D n) R e = e
  refused (world z' buf' one' two') (day_refuses1 {one = one} h T L H M D v n) R (z, b, p, q) =
      (z, b, hearing_back one one' (both_hold (day_staged w S) R).0 h T L H M D v n p, q)
  refused (world z' buf' one' two') (day_refuses2 {two = two} h T L H M D v n) R (z, b, p, q) =
      (z, b, p, hearing_back two two' (both_hold (day_staged w S) R).1 h T L H M D v n q)
  refused (world z' buf' one two) (job_refuses0 {z = z} {buf = buf} σ A B given g n) R (d, b, p, q) =
      let k = prepare_back σ A B buf given n in
      (masks_given z z' given (prepare σ A B buf given).masks g k.0 d, k.1 ∙ b, p, q)
  refused (world z' buf' one two) (job_refuses_elsewhere {z = z} σ A B other given g n) R (d, b, p, q) =
      (masks_given z z' given (prepare σ A B other given).masks g (prepare_back σ A B other given n).0 d, b, p, q)
  refused (world z' buf' one' two') (job_refuses1 {one = one} n) R (z, b, p, q) =
      (z, b, job_back one one' (both_hold (day_staged w S) R).0 n p, q)
  refused (world z' buf' one' two') (job_refuses2 {two = two} n) R (z, b, p, q) =
      (z, b, p, job_back two two' (both_hold (day_staged w S) R).1 n q)

  pub followed : {cs : List Call} {u : DayWorld} → DayRun w S cs u → (v : World) × Run (day_staged w S) cs v × Same u v
  followed (day_begin {buf = buf}) = (
    world (idle (behind_zeros S.l1, behind_zeros S.l2)) buf (waiting (given_lanes S.m S.l1))
        (waiting (given_lanes S.m S.l2)),
    begin (given_out (given_held S.m S.l1 S.m_day S.l1_day) (given_held S.m S.l2 S.m_day S.l2_day)),
    (tt, refl, tt, tt),
  )
  followed (day_complete r c) = let f = followed r in completed f.0 c f.1 f.2
  followed (day_refuse r c) = let f = followed r in (f.0, refuse f.1 (turns_down w f.0), refused f.0 c f.1 f.2)
