use Rattle.directory.specs.Entries.{name_in, name_length}
use Rattle.entry_fields.proofs.stored_name.Goals as goal

pub returns : goal.returns
unfolding name_in name_length
returns c = cc
