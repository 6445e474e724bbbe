use Rattle.rules.specs.Format.{root_block}
use Rattle.format.proofs.put_root_block.Goals as goal

pub returns : goal.returns
unfolding root_block
returns c = rw (c.put_slots.ensures, c.put_root.ensures, c.requires.0)
