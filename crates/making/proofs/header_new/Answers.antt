use Rattle.rules.specs.Changes.{with_blocks}
use Rattle.making.proofs.Steps.{no_block, one_block}
use Rattle.making.proofs.header_new.Goals as goal

pub returns-then-b-eq0 : goal.returns-then-b-eq0
unfolding with_blocks
returns-then-b-eq0 c = rw (no_block c.args.b.0 c.if-b-eq0.true)

pub returns : goal.returns
returns c = rw (one_block c.args.b.0 c.if-b-eq0.false) c.put_header.ensures
