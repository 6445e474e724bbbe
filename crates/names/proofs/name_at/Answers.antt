use Rattle.directory.specs.Entries.{name_in, name_length}
use Rattle.names.proofs.name_at.Goals as goal

pub returns : goal.returns
unfolding name_in name_length
returns c = rw (c.part.ensures, c.read8-len.ensures, c.block_part-block.ensures)
