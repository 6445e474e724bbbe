use Rattle.disk.specs.Root.{put_root}
use Rattle.disk.proofs.put_root.Goals as goal

pub returns : goal.returns
unfolding put_root
returns c = rw (
  c.write16-6.ensures,
  c.write16-5.ensures,
  c.store.ensures,
  c.write8.ensures,
  c.write16-4.ensures,
  c.write16-3.ensures,
  c.write16-2.ensures,
  c.write16.ensures,
  c.write32.ensures,
)
