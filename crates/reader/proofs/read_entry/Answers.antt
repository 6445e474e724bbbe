use Rattle.reader.specs.Reads.{entry_read}
use Rattle.reader.proofs.read_entry.Goals as goal

pub returns : goal.returns
unfolding entry_read
returns c = rw (c.entry_at.ensures, c.place_after.ensures)
