use borrow.Author.Tests.{eq-eqb, ne_eqb}
use Rattle.rules.specs.Format.{lower_anode}
use Rattle.format.proofs.lower_anode.Goals as goal

pub returns-then-last-slots : goal.returns-then-last-slots
unfolding lower_anode
returns-then-last-slots c = rw (c.anode.ensures, eq-eqb _ _ c.if-last-slots.true)

pub returns : goal.returns
unfolding lower_anode
returns c = rw (c.anode-2.ensures, ne_eqb _ _ c.if-last-slots.false)
