use Rattle.directory.specs.Entries.{directory_header_in}
use Rattle.directory.proofs.directory_header_in.Goals as goal

pub returns : goal.returns
unfolding directory_header_in
returns c = cc
