use Rattle.disk.specs.AnodeBlocks.{anode_in}
use Rattle.disk.proofs.anode_in.Goals as goal

pub returns : goal.returns
unfolding anode_in
returns c = cc
