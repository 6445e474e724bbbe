use borrow.Author.Tests.{eq-eqb, ne_eqb}
use Rattle.rules.specs.Format.{upper_anode}
use Rattle.format.proofs.upper_anode.Goals as goal

pub returns-then-last-n : goal.returns-then-last-n
unfolding upper_anode
returns-then-last-n c = rw (c.no_anode.ensures, eq-eqb _ _ c.if-last-n.true)

pub returns : goal.returns
unfolding upper_anode
returns c = rw (c.anode.ensures, ne_eqb _ _ c.if-last-n.false)
