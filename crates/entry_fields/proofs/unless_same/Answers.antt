use borrow.Author.Rules.{rules}
use Rattle.differences.specs.Fields.{unless_same}
use Rattle.entry_fields.proofs.unless_same.Goals as goal

pub returns-then-same : goal.returns-then-same
unfolding unless_same
returns-then-same c = (rw c.if-same.true, search rules)

pub returns : goal.returns
unfolding unless_same
returns c = (rw c.if-same.false, search rules)
