use borrow.Author.Tests.{eq-eqb, ne_eqb}
use Rattle.rules.specs.Format.{empty_anode_block, anode_block}
use Rattle.format.proofs.put_anode_block.Goals as goal

pub returns-then-s-ne0 : goal.returns-then-s-ne0
unfolding anode_block empty_anode_block
returns-then-s-ne0 c = rw (c.put_anode_header.ensures, c.requires.0, ne_eqb _ _ c.if-s-ne0.true)

pub returns : goal.returns
unfolding anode_block empty_anode_block
returns c = rw (c.put_first_anodes.ensures, c.put_anode_header.ensures, c.requires.0, eq-eqb _ _ c.if-s-ne0.false)
