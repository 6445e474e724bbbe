use mathlib.Core.Path.{sym}
use Rattle.endian.proofs.Laws.{be16-out}
use Rattle.endian.specs.Bytes.{be16}
use borrow.Author.Rules.{rules}
use Rattle.endian.proofs.read16.Goals as goal

pub returns-then-bytes-at : goal.returns-then-bytes-at
returns-then-bytes-at c = sym (be16-out _ _ c.if-bytes-at.true)

pub returns : goal.returns
unfolding be16
returns c = search rules
