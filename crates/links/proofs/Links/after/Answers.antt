use borrow.Author.Tests.{eq-eqb, ne_eqb}
use Rattle.links.specs.Links.{follow}
use Rattle.links.proofs.Links.after.Goals as goal

pub returns-then-next-self : goal.returns-then-next-self
unfolding follow
returns-then-next-self c = rw (← c.entry-next.ensures, eq-eqb _ _ c.if-next-self.true)

pub returns : goal.returns
unfolding follow
returns c = rw (← c.entry-next.ensures, ne_eqb _ _ c.if-next-self.false)
