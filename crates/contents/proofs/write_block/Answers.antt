use Rattle.contents.proofs.Writing.{over_skipped, over_stored}
use Rattle.contents.proofs.write_block.Goals as goal

pub returns-then-c-ge512 : goal.returns-then-c-ge512
returns-then-c-ge512 c = λ rest. over_skipped _ _ c.requires.0 rest _ _ c.if-c-ge512.true

pub returns : goal.returns
returns c = λ rest. over_stored _ _ c.requires.0 rest _ _ _ _ c.if-c-ge512.false (rw c.part.ensures at c.store.ensures)
