use Rattle.disk.specs.AnodeBlocks.{put_anode}
use Rattle.disk.proofs.put_anode.Goals as goal

pub returns : goal.returns
unfolding put_anode
returns c = rw (c.write16-3.ensures, c.write16-2.ensures, c.write16.ensures)
