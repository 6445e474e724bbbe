use borrow.Author.Tests.{lt-ltb, le-ltb}
use Rattle.byte_differences.proofs.with_behind.Goals as goal

pub returns-then-d-at : goal.returns-then-d-at
returns-then-d-at c = rw (lt-ltb _ _ c.if-d-at.true)

pub returns : goal.returns
returns c = rw (le-ltb _ _ c.if-d-at.false)
