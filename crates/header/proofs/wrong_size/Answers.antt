use Rattle.rules.specs.Accepted.{wrong_size}
use borrow.Author.Tests.{lt-ltb, le-ltb, ne_eqb, eq-eqb}
use Rattle.header.proofs.wrong_size.Goals as goal

pub returns-then-image-ne0 : goal.returns-then-image-ne0
unfolding wrong_size
returns-then-image-ne0 c = rw (ne_eqb _ _ c.if-image-ne0.true)

pub returns-then-n-lt5 : goal.returns-then-n-lt5
unfolding wrong_size
returns-then-n-lt5 c = rw (eq-eqb _ _ c.if-image-ne0.false, ← c.disk_size-n.ensures, lt-ltb _ 5 c.if-n-lt5.true)

pub returns : goal.returns
unfolding wrong_size
returns c = rw (eq-eqb _ _ c.if-image-ne0.false, ← c.disk_size-n.ensures, le-ltb _ 5 c.if-n-lt5.false)
