use Rattle.disk.specs.AnodeBlocks.{put_anode_header}
use Rattle.disk.proofs.put_anode_header.Goals as goal

pub returns : goal.returns
unfolding put_anode_header
returns c = rw (c.write16-2.ensures, c.write16.ensures)
