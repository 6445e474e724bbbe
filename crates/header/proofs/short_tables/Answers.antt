use Rattle.rules.specs.Accepted.{short_tables}
use borrow.Author.Tests.{lt-ltb, le-ltb}
use Rattle.header.proofs.short_tables.Goals as goal

pub returns-then-blocks-disk_size : goal.returns-then-blocks-disk_size
unfolding short_tables
returns-then-blocks-disk_size c = rw (← c.disk_size.ensures, lt-ltb _ _ c.if-blocks-disk_size.true)

pub returns : goal.returns
unfolding short_tables
returns c = rw (← c.disk_size.ensures, le-ltb _ _ c.if-blocks-disk_size.false)
