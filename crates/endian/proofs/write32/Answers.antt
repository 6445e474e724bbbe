use Rattle.std.proofs.Common.{sym}
use Rattle.endian.proofs.Laws.{put32-out}
use Rattle.endian.specs.Bytes.{put32}
use Rattle.endian.proofs.write32.Goals as goal

pub returns-then-at-bytes : goal.returns-then-at-bytes
unfolding put32
returns-then-at-bytes c = rw (c.write16-then-at-bytes.ensures, c.write16.ensures)

pub returns-else-at-bytes : goal.returns-else-at-bytes
returns-else-at-bytes c = sym (put32-out _ _ _ c.if-at-bytes.false)
