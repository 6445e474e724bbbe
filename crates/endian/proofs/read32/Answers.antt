use mathlib.Core.Path.{sym}
use Rattle.endian.proofs.Laws.{be32-out}
use Rattle.endian.specs.Bytes.{be32}
use borrow.Author.Rules.{rules}
use Rattle.endian.proofs.read32.Goals as goal

pub returns-then-bytes-at : goal.returns-then-bytes-at
returns-then-bytes-at c = sym (be32-out _ _ c.if-bytes-at.true)

pub returns : goal.returns
unfolding be32
returns c = search rules
