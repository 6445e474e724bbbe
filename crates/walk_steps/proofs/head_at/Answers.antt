use borrow.Author.Tests.{le-ltb, lt-ltb, le-leb, lt-leb}
use Rattle.walk_steps.specs.Steps.{head_at}
use Rattle.walk_steps.proofs.head_at.Goals as goal

pub returns-then-i-lt6 : goal.returns-then-i-lt6
unfolding head_at
returns-then-i-lt6 c = rw (lt-leb 6 _ c.if-i-lt6.true)

pub returns-then-i-ge3444 : goal.returns-then-i-ge3444
unfolding head_at
returns-then-i-ge3444 c = rw (le-leb 6 _ c.if-i-lt6.false, le-ltb _ 3444 c.if-i-ge3444.true)

pub returns : goal.returns
unfolding head_at
returns c = rw (le-leb 6 _ c.if-i-lt6.false, lt-ltb _ 3444 c.if-i-ge3444.false, c.entry.ensures)
