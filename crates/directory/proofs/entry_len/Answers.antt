use mathlib.Core.Path.{refl}
use Rattle.directory.specs.Entries.{entry_length}
use Rattle.directory.proofs.entry_len.Goals as goal

pub returns : goal.returns
unfolding entry_length
returns c = refl
