use borrow.Author.Tests.{le-leb, lt-leb, eq-eqb, ne_eqb}
use Rattle.walk_steps.specs.Steps.{unnamed_at}
use Rattle.tree.proofs.is_unnamed.Goals as goal

pub returns-then-x-lt6 : goal.returns-then-x-lt6
unfolding unnamed_at
returns-then-x-lt6 c = rw (lt-leb 6 _ c.if-x-lt6.true)

pub returns-then-entry-x : goal.returns-then-entry-x
unfolding unnamed_at
returns-then-entry-x c = rw (le-leb 6 _ c.if-x-lt6.false, ← c.entry.ensures, ne_eqb _ _ c.if-entry-x.true)

pub returns : goal.returns
unfolding unnamed_at
returns c = rw (le-leb 6 _ c.if-x-lt6.false, ← c.entry.ensures, eq-eqb _ _ c.if-entry-x.false, c.entry-2.ensures)
