-- R-5: what is proved of loading, for every text. Assumes nothing.
use Rattle.std.specs.Prelude.{◌≡◌, ◌↔◌, ◌≢◌, List, ℕ, ◌≤◌}
use Rattle.tables.specs.Table.{rows, Rules}
use Rattle.table_load.specs.Loading.{loaded, refused, loading, lent_on}
use Rattle.table_load.specs.Texts.{Bytes, TextNumbered, encode}

pub record Loads : Type 0 where
  -- "Checks: 13 ..; 14 ..; 15 ..; all on loading, in this order": the number is that of the first broken condition, and
  -- there is one such number
  pub numbered : (t : List ℕ) → TextNumbered t (loading t).number
  pub one_number : (t : List ℕ) (m n : ℕ) → TextNumbered t m → TextNumbered t n → m ≡ n
  -- refused, everything but the number is 0
  pub refused_empty : (t : List ℕ) → (loading t).number ≢ 0 → loading t ≡ refused (loading t).number
  -- a text of bytes loads exactly where it is the text of a table that keeps document 01's rules
  pub loads_exactly : (t : List ℕ) → Bytes t
      → ((loading t).number ≡ 0) ↔ ((ws : List ℕ) × Rules ws × (t ≡ encode (rows ws)))
  -- and gives that table and no other
  pub gives : (t : List ℕ) → Bytes t → (ws : List ℕ)
      → (loading t ≡ loaded ws) ↔ (Rules ws × (t ≡ encode (rows ws)))
  -- "every table keeping the rules must load": its text is of bytes, and gives it
  pub every_table : (ws : List ℕ) → Rules ws
      → Bytes (encode (rows ws)) × (loading (encode (rows ws)) ≡ loaded ws)
  -- an answer counts at most 32 words
  pub few_words : (t : List ℕ) → (loading t).len ≤ 32
  -- the words lent on are the table's; and those of a text that loads keep the rules
  pub lent : (ws : List ℕ) → lent_on (loaded ws) ≡ ws
  pub kept : (t : List ℕ) → (loading t).number ≡ 0 → Rules (lent_on (loading t))
