use mathlib.Core.Path.{sym}
use lib.Seq.{set_out}
use Rattle.word_lists.proofs.put_word.Goals as goal

pub returns-else-at-words : goal.returns-else-at-words
returns-else-at-words c = sym (set_out _ _ _ c.if-at-words.false)
