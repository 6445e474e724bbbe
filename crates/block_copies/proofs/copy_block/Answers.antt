use Rattle.block_copies.proofs.Laws.{block_copied}
use borrow.Author.Rules.{rules}
use Rattle.block_copies.proofs.copy_block.Goals as goal

pub returns : goal.returns
returns c = let x = c.args in
    let p = c.requires in
    block_copied x.image.now x.from.0 x.to.0 p.0 p.1 _ _ c.store.new.bytes _ (search rules) c.block_part.ensures c.store.ensures c.store-2.ensures
