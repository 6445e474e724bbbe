use mathlib.Core.Path.{sym}
use Rattle.file_sums.proofs.Laws.{many, not_many}
use borrow.Author.Rules.{rules}
use Rattle.file_sums.proofs.one_if_many.Goals as goal

pub returns-then-entry-gt1 : goal.returns-then-entry-gt1
returns-then-entry-gt1 c = (rw (sym c.entry.ensures) (many _ c.if-entry-gt1.true), search rules)

pub returns : goal.returns
returns c = (rw (sym c.entry.ensures) (not_many _ c.if-entry-gt1.false), search rules)
