use Rattle.directory.specs.Entries.{put_directory_header}
use Rattle.directory.proofs.put_directory_header.Goals as goal

pub returns : goal.returns
unfolding put_directory_header
returns c = rw (c.write16-3.ensures, c.write16-2.ensures, c.write16.ensures)
