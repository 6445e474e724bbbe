use Rattle.disk.specs.Root.{root_in}
use Rattle.disk.proofs.root_in.Goals as goal

pub returns : goal.returns
unfolding root_in
returns c = cc
