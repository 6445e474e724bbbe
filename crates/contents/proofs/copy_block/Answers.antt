use Rattle.disk.specs.Blocks.{block_of}
use Rattle.contents.proofs.Copying.{block_skipped, block_behind}
use Rattle.contents.proofs.copy_block.Goals as goal

pub returns-then-len-c : goal.returns-then-len-c
unfolding block_of
returns-then-len-c c = λ rest. block_skipped _ _ _ rest _ _ c.part-block.ensures c.if-len-c.true

pub returns : goal.returns
unfolding block_of
returns c = λ rest. rw (← c.part-block.ensures, ← block_behind _ rest _ c.if-len-c.false) (c.copy_bytes-done.ensures rest)
