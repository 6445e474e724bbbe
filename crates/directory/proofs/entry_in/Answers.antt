use Rattle.directory.specs.Entries.{name_length, comment_length, entry_in}
use Rattle.directory.proofs.entry_in.Goals as goal

pub returns : goal.returns
unfolding name_length comment_length entry_in
returns c = rw (c.read8-2.ensures, c.read8.ensures, c.read16-4.ensures, c.read16-3.ensures, c.read16-2.ensures, c.read32.ensures, c.read16.ensures, c.read8-name.ensures)
