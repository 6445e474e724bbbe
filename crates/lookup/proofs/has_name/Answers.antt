use Rattle.directory.specs.Entries.{name_in, name_length}
use Rattle.lookup.proofs.has_name.Goals as goal

pub returns : goal.returns
unfolding name_in name_length
returns c = cc
