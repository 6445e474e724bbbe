use Rattle.disk.specs.Blocks.{block_of}
use borrow.Author.Rules.{rules}
use Rattle.entry_fields.proofs.entry_block.Goals as goal

pub returns : goal.returns
unfolding block_of
returns c = search rules
