use Rattle.lookup.specs.Answers.{entered}
use Rattle.change_tables.specs.Chains.{reached-entry}
use Rattle.safe_removes.proofs.Plans.{block_small}
use Rattle.safe_removes.proofs.Images.{moves_table, both_whole, entry_stands, stores_leave}
use Rattle.safe_removes.proofs.store_removal.Goals as goal

pub store_table-requires : goal.store_table-requires
store_table-requires c = let s = c in (s.requires.loaded.0, moves_table (reached-entry s.requires.loaded.0 (entered s.args.image.now s.args.e) s.requires.loaded.1) _ _ s.requires.e_value)

pub entry_block-requires : goal.entry_block-requires
entry_block-requires c = let s = c in block_small (reached-entry s.requires.loaded.0 (entered s.args.image.now s.args.e) s.requires.loaded.1)

pub copy_block-requires : goal.copy_block-requires
copy_block-requires c = let s = c in
    let (from, to) = both_whole (reached-entry s.requires.loaded.0 (entered s.args.image.now s.args.e) s.requires.loaded.1) _ _ s.requires.e_value _ c.store_table.ensures in
    (rw c.entry_block.ensures from, to)

pub take_out-requires : goal.take_out-requires
take_out-requires c = let s = c in
    entry_stands (reached-entry s.requires.loaded.0 (entered s.args.image.now s.args.e) s.requires.loaded.1) _ _ s.requires.e_value _ c.store_table.ensures _ (rw c.entry_block.ensures at c.copy_block.ensures)

pub returns : goal.returns
returns c = let s = c in
    stores_leave (reached-entry s.requires.loaded.0 (entered s.args.image.now s.args.e) s.requires.loaded.1) _ _ s.requires.e_value _ c.store_table.ensures _ (rw c.entry_block.ensures at c.copy_block.ensures) _ c.take_out.ensures
