-- What runs on a loaded table open. Assumes nothing.
use mathlib.Core.Path.{◌≡◌, refl, sym, ap, ◌∙◌, subst}
use mathlib.Core.List.{List, []}
use Prim.Native.Nat.{ℕ, ◌*◌, ◌^◌, ◌<◌}
use lib.IntN.{ℤ, pos, neg_ℤ, ◌+ℤ◌, ◌*ℤ◌}
use lib.ListN.{length}
use lib.Signed.{◌≤ℤ◌, ◌<ℤ◌}
use Rattle.words.specs.Signed.{floor, wrap}
use Rattle.truncations.specs.Truncation.{slip}
use Rattle.tables.specs.Table.{rows, house, Rules}
use Rattle.tables.proofs.Rows.{rules}
use Rattle.tables.proofs.HouseTable.{house_keeps_rules}
use Rattle.curves.specs.Curve.{scaled, line, last_count, Near}
use Rattle.curves.specs.Count.{count}
use Rattle.curves.proofs.Counting.{count_same}
use Rattle.programs.specs.declared.Order.{Order}
use Rattle.jobs.specs.Job.{orders}
use Rattle.jobs.specs.CostTable.{table_counts}
use Rattle.jobs.specs.FirstFault.{Meets, kind_above, target_above, source_above, second_above, refresh_not_0, relu_not_0}
use Rattle.jobs.specs.FirstFault.{slack_shift, one_bit_shift, exact_shift, curve_mode, curve_table}
use Rattle.jobs.specs.FirstFault.{Numbered, faultless, sizeless, faulty}
use Rattle.calls.specs.Calls.{given}
use Rattle.runs.specs.Runs.{Setting, staged, World, Call, Begins, given_out, begin, Accepted}
use Rattle.runs.specs.Orders.{Words, order_of, refresh_mask, reading, Finishes, opens}
use Rattle.runs.specs.Strict.{Done}
use Rattle.runs.proofs.Chain.{job_orders}
use Rattle.runs.proofs.Returned.{returned}
use Rattle.runs.proofs.Same.{strict}
use Rattle.runs.proofs.Strict.{wide_on, given_back}
use Rattle.demands.specs.Conditions.{prepares_well}
use Rattle.demands.specs.Demand3.{Exact, OneBit, Y_of, with_word, eqZ, Covered}
use Rattle.demands.specs.Whole.{first_world}
use Rattle.demands.proofs.Demand3.{demand3}
use Rattle.demands.proofs.Whole.{whole}
use Rattle.days.specs.Day.{Hours, day_cost}
use Rattle.day_demands.specs.Settings.{DaySetting, day_staged}
use Rattle.day_demands.specs.Numbers.{DayNumbered, no_day, no_hours, no_table}
use Rattle.day_demands.specs.Numbers as Day
use Rattle.day_demands.specs.Opened.{sum_of, above_of, factor_of, OpenDay, Splittable, Sheet}
use Rattle.day_demands.specs.Runs.{DayWorld, DayRun, day_opened}
use Rattle.day_demands.specs.Returned.{BothAtEnd}
use Rattle.day_demands.proofs.Returned.{day_returned}
use Rattle.table_load.specs.Loading.{records, table_in}
use Rattle.table_load.proofs.Numbers.{rows_are}
use Rattle.table_load.proofs.Encodings.{lent_in, kept}
use Rattle.table_demands.specs.LoadedRuns.{LentFrom, text_Y, text_last, UpToLast, Opened, as_left, as_returned}
use Rattle.table_demands.specs.LoadedRuns.{Suffice, on_table, LoadedRuns}

-- ---- a table that loads

module _ (t table : List ℕ) (l : LentFrom t table) where
  table_is : table ≡ table_in t
  table_is = l.lent ∙ lent_in t l.loads

  table_kept : Rules table
  table_kept = subst Rules (sym l.lent) (kept t l.loads)

  rows_read : length (rows table) ≡ records t
  rows_read = ap (λ (T : List ℕ). length (rows T)) table_is ∙ rows_are t

-- ---- no reason to be turned down: what an order meets on a table that keeps the rules it meets on every table

module _ (w : ℕ) (T U : List ℕ) (kept_T : Rules T) where
  meets : (o : Order) (n : ℕ) → Meets w T o n → Meets w U o n
  meets o _ (kind_above h) = kind_above h
  meets o _ (target_above h) = target_above h
  meets o _ (source_above h) = source_above h
  meets o _ (second_above k h) = second_above k h
  meets o _ (refresh_not_0 k h) = refresh_not_0 k h
  meets o _ (relu_not_0 k h) = relu_not_0 k h
  meets o _ (slack_shift k h) = slack_shift k h
  meets o _ (one_bit_shift k h) = one_bit_shift k h
  meets o _ (exact_shift k h) = exact_shift k h
  meets o _ (curve_mode k h) = curve_mode k h
  meets o _ (curve_table k h) = absurd (h kept_T)

alike : (w : ℕ) (T U : List ℕ) → Rules T → Rules U → (job : List ℕ) (n i : ℕ) → Numbered w job T n i → Numbered w job U n i
alike w T U a b job _ _ (faultless s f) = faultless s (λ i n l m. f i n l (meets w U T b _ n m))
alike w T U a b job _ _ (sizeless s) = sizeless s
alike w T U a b job _ _ (faulty s f) =
    faulty s (record {
      exists = f.exists;
      here = meets w T U a _ _ f.here;
      no_lower = λ m l h. f.no_lower m l (meets w U T b _ m h);
      none_before = λ j m l h. f.none_before j m l (meets w U T b _ m h);
    })

day_alike : (T U : List ℕ) → Rules T → Rules U → (words : ℕ) (H : Hours) (n i : ℕ) → DayNumbered T words H n i → DayNumbered U words H n i
day_alike T U a b words H _ _ (no_day h) = no_day h
day_alike T U a b words H _ _ (no_hours h k r z) = no_hours h k r z
day_alike T U a b words H _ _ (no_table h r k) = absurd (k a)
day_alike T U a b words H _ _ (Day.faultless h r k) = Day.faultless h r b

house_kept : Rules house
house_kept = (rules house).0 house_keeps_rules

-- ---- runs exist

module _ (t : List ℕ) (S : Setting) (buffer : List ℕ) (l : LentFrom t S.table) where
  job_accepted : Numbered 32 S.job house 0 0 → Suffice (table_counts (records t) (orders S.job)) S.A S.B buffer
      → Accepted (staged 32 S) buffer
  job_accepted own enough =
      let s : Suffice (table_counts (length (rows S.table)) (orders S.job)) S.A S.B buffer =
      subst (λ (n : ℕ). Suffice (table_counts n (orders S.job)) S.A S.B buffer) (sym (rows_read t S.table l)) enough in
      (whole.accepted_job S buffer).0
      (prepares_well (alike 32 house S.table house_kept (table_kept t S.table l) S.job 0 0 own) s.a s.b s.deals)

-- from the registers given, with nothing kept
module _ (S : Setting) (buffer : List ℕ) (acc : Accepted (staged 32 S) buffer) (W : Words 32 (staged 32 S)) where
  abbrev begun : World
  begun = first_world (staged 32 S) buffer (given (S.rm, S.r1)) (given (S.rm, S.r2))

  begins : Begins (staged 32 S) begun
  begins =
      given_out (given_back (staged 32 S) [] S.rm S.r1 S.rm_sixteen S.r1_sixteen)
      (given_back (staged 32 S) [] S.rm S.r2 S.rm_sixteen S.r2_sixteen)

  ran : Done (staged 32 S) [] begun [] []
  ran = strict.exists (staged 32 S) [] begun begins acc

  whole_run : (v : World) × ((q : ℕ) → q < length (orders S.job) → Finishes 32 (staged 32 S) q v)
  whole_run = (
    ran.ends_in,
    λ q h. record {
      words = W;
      calls = _;
      run = wide_on (staged 32 S) (begin begins) ran.calls;
      finished = ran.finished q (rw (job_orders 32 S.job S.table) h);
    },
  )

module _ (t : List ℕ) (S : DaySetting) (buffer : List ℕ) (l : LentFrom t S.table) where
  day_runs : OpenDay S → Suffice (day_cost S.hours (records t)) S.A S.B buffer
      → (cs : List Call) × (u : DayWorld) × DayRun 32 S cs u × BothAtEnd u
  day_runs opens enough =
      let s : Suffice (day_cost S.hours (length (rows S.table))) S.A S.B buffer =
      subst (λ (m : ℕ). Suffice (day_cost S.hours m) S.A S.B buffer) (sym (rows_read t S.table l)) enough in
      day_returned.whole S buffer (prepares_well (Day.faultless refl opens (table_kept t S.table l)) s.a s.b s.deals)

-- ---- what is opened

finished : (S : Setting) (q : ℕ) (v : World) (p : ℕ × ℤ) → Opened S q v p → Finishes 32 (staged 32 S) q v × (p ≡ opens 32 S v q)
finished S q v _ (as_left f) = (f, refl)
finished S q v _ (as_returned f) = (f.finishes, (returned 32).last_writer S q v f.finishes f.last)

module _ (t : List ℕ) (S : Setting) (q : ℕ) (l : LentFrom t S.table) where
  Y_is : Y_of 32 S q ≡ text_Y t (reading 32 S q)
  unfolding Y_of
  Y_is = ap (λ (T : List ℕ). scaled (rows T) (reading 32 S q)) (table_is t S.table l)

  covered : UpToLast t (reading 32 S q) → Covered S q
  covered h = record {
    from_low = h.from_low;
    to_last = subst (λ (T : List ℕ). reading 32 S q ≤ℤ pos (last_count (rows T))) (sym (table_is t S.table l)) h.to_last;
  }

  near : (x : ℤ) → Near (line (rows S.table) (reading 32 S q)) x → Near (line (rows (table_in t)) (reading 32 S q)) x
  near x n = subst (λ (T : List ℕ). Near (line (rows T) (reading 32 S q)) x) (table_is t S.table l) n

  module _ (v : World) (p : ℕ × ℤ) (o : Opened S q v p) where
    done : Finishes 32 (staged 32 S) q v
    done = (finished S q v p o).0

    is_opened : p ≡ opens 32 S v q
    is_opened = (finished S q v p o).1

    exact : Exact S q → UpToLast t (reading 32 S q) → p ≡ (0, floor (text_Y t (reading 32 S q)) 4096)
    exact e h = is_opened ∙ demand3.exact S q v done e (covered h) ∙ ap (λ (y : ℤ). (0, floor y 4096)) Y_is

    one_bit : OneBit S q → UpToLast t (reading 32 S q)
        → p ≡ (0, floor (text_Y t (reading 32 S q)) 4096 +ℤ pos (slip 12 (wrap 12 (text_Y t (reading 32 S q))) (refresh_mask 32 S q)))
    one_bit e h =
        is_opened ∙ demand3.one_bit S q v done e (covered h)
        ∙ ap (λ (y : ℤ). (0, floor y 4096 +ℤ pos (slip 12 (wrap 12 y) (refresh_mask 32 S q)))) Y_is

    abbrev NearText : ℕ × ℤ → Type 0
    NearText x = Near (line (rows (table_in t)) (reading 32 S q)) x.1

    near_exact : Exact S q → UpToLast t (reading 32 S q) → NearText p
    near_exact e h = subst NearText (sym is_opened) (near _ (demand3.near_exact S q v done e (covered h)))

    near_one_bit : OneBit S q → UpToLast t (reading 32 S q) → NearText p
    near_one_bit e h = subst NearText (sym is_opened) (near _ (demand3.near_one_bit S q v done e (covered h)))

    above : (order_of S q).kind ≡ 10 → pos (text_last t) <ℤ reading 32 S q → p ≡ (0, neg_ℤ (pos 1))
    above k h =
        is_opened ∙ demand3.above S q v done k
        (subst (λ (T : List ℕ). pos (last_count (rows T)) <ℤ reading 32 S q) (sym (table_is t S.table l)) h)

  module _ (v : ℕ → World) (p : ℕ → ℕ × ℤ) (W : Words 32 (staged 32 S)) (o : (a : ℕ) → a < 2 ^ 32 → Opened (with_word 32 S q a) q (v a) (p a))
      (e : OneBit S q) (h : UpToLast t (reading 32 S q)) where
    word_opened : (a : ℕ) → a < 2 ^ 32 → p a ≡ opens 32 S (v a) q
    unfolding with_word order_of
    word_opened a m = (finished (with_word 32 S q a) q (v a) (p a) (o a m)).1

    slips : count (2 ^ 32) (λ a. eqZ (p a).1 (floor (text_Y t (reading 32 S q)) 4096 +ℤ pos 1)) ≡ wrap 12 (text_Y t (reading 32 S q)) * 2 ^ 20
    slips =
        count_same (2 ^ 32) _ (λ a. eqZ (opens 32 S (v a) q).1 (floor (text_Y t (reading 32 S q)) 4096 +ℤ pos 1))
        (λ a m. ap (λ (x : ℕ × ℤ). eqZ x.1 (floor (text_Y t (reading 32 S q)) 4096 +ℤ pos 1)) (word_opened a m))
        ∙ subst (λ (y : ℤ). count (2 ^ 32) (λ a. eqZ (opens 32 S (v a) q).1 (floor y 4096 +ℤ pos 1)) ≡ wrap 12 y * 2 ^ 20) Y_is
        (demand3.slips S q v W (λ a m. (finished (with_word 32 S q a) q (v a) (p a) (o a m)).0) e (covered h))

sheet : (t : List ℕ) (S : DaySetting) → LentFrom t S.table → OpenDay S → Splittable S → Sheet S
sheet t S l o r = record { table = table_kept t S.table l; open_day = o; readings = r }

module _ (t : List ℕ) (S : DaySetting) (l : LentFrom t S.table) (o : OpenDay S) (r : Splittable S) (W : Words 32 (day_staged 32 S))
    (cs : List Call) (u : DayWorld) (run : DayRun 32 S cs u) (end : BothAtEnd u) where
  mean : day_opened 32 u 0 ≡ (0, floor (pos (factor_of S) *ℤ sum_of (on_table (table_in t) S) 96) 65536)
  mean =
      day_returned.mean S (sheet t S l o r) W cs u run end
      ∙ ap (λ (T : List ℕ). (0, floor (pos (factor_of S) *ℤ sum_of (on_table T S) 96) 65536)) (table_is t S.table l)

  day_count : day_opened 32 u 1 ≡ (0, pos (above_of (on_table (table_in t) S) 96))
  day_count =
      day_returned.count S (sheet t S l o r) W cs u run end
      ∙ ap (λ (T : List ℕ). (0, pos (above_of (on_table T S) 96))) (table_is t S.table l)

pub loaded_runs : LoadedRuns
loaded_runs = record {
  table_is = table_is;
  job_numbers = λ t T l w job n i.
      (alike w house T house_kept (table_kept t T l) job n i, alike w T house (table_kept t T l) house_kept job n i);
  day_numbers = λ t T l k H n i.
      (day_alike house T house_kept (table_kept t T l) k H n i, day_alike T house (table_kept t T l) house_kept k H n i);
  job_accepted = job_accepted;
  job_runs = λ t S buf l W own enough. whole_run S buf (job_accepted t S buf l own enough) W;
  day_runs = day_runs;
  exact = λ t S q v p l. exact t S q l v p;
  one_bit = λ t S q v p l. one_bit t S q l v p;
  slips = λ t S q v p l. slips t S q l v p;
  near_exact = λ t S q v p l. near_exact t S q l v p;
  near_one_bit = λ t S q v p l. near_one_bit t S q l v p;
  above = λ t S q v p l. above t S q l v p;
  mean = mean;
  day_count = day_count;
  sheet = sheet;
}
