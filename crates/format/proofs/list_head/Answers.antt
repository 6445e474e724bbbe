use borrow.Author.Tests.{eq-eqb, ne_eqb}
use Rattle.rules.specs.Format.{list_head}
use Rattle.format.proofs.list_head.Goals as goal

pub returns-then-last-n : goal.returns-then-last-n
unfolding list_head
returns-then-last-n c = rw (c.anode.ensures, eq-eqb _ _ c.if-last-n.true)

pub returns : goal.returns
unfolding list_head
returns c = rw (c.anode-2.ensures, ne_eqb _ _ c.if-last-n.false)
