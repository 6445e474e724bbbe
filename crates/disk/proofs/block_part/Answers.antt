use Rattle.disk.specs.Blocks.{block_of}
use Rattle.disk.proofs.block_part.Goals as goal

pub returns : goal.returns
unfolding block_of
returns c = c.part.ensures
