use Rattle.disk.specs.AnodeBlocks.{anode_header_in}
use Rattle.disk.proofs.anode_header_in.Goals as goal

pub returns : goal.returns
unfolding anode_header_in
returns c = cc
