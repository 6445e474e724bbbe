use borrow.Author.Tests.{eq-eqb, ne_eqb}
use Rattle.byte_differences.proofs.with_past.Goals as goal

pub returns-then-many-eq0 : goal.returns-then-many-eq0
returns-then-many-eq0 c = rw (eq-eqb _ _ c.if-many-eq0.true)

pub returns : goal.returns
returns c = rw (ne_eqb _ _ c.if-many-eq0.false)
