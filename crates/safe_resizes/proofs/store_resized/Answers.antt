use Rattle.lookup.specs.Answers.{entered}
use Rattle.change_tables.specs.Chains.{reached-entry}
use Rattle.safe_removes.proofs.Plans.{block_small}
use Rattle.safe_resizes.proofs.Images.{bytes_loaded, moves_table, file_whole, file_once, bytes_fill, both_whole, stores_leave}
use Rattle.safe_resizes.proofs.store_resized.Goals as goal

pub store_table-requires : goal.store_table-requires
store_table-requires c = let s = c in (s.requires.loaded.0, moves_table (reached-entry s.requires.loaded.0 (entered s.args.image.now s.args.e) s.requires.loaded.1) s.args.size s.requires.loaded.3 _ _ s.requires.resize_plan)

pub store_file-requires : goal.store_file-requires
store_file-requires c = let s = c in
    let m = reached-entry s.requires.loaded.0 (entered s.args.image.now s.args.e) s.requires.loaded.1 in
    let i = c.store_table in record { inside_once = (file_whole m s.args.size s.requires.loaded.3 _ _ s.requires.resize_plan _ i.ensures, file_once m s.args.size s.requires.loaded.3 _ _ s.requires.resize_plan); bytes_len = bytes_fill m s.args.size s.requires.loaded.3 _ _ s.requires.resize_plan _ i.ensures _ (bytes_loaded s.requires.loaded.0 _ _ _ _ s.requires.bytes_value) }

pub entry_block-requires : goal.entry_block-requires
entry_block-requires c = let s = c in block_small (reached-entry s.requires.loaded.0 (entered s.args.image.now s.args.e) s.requires.loaded.1)

pub copy_block-requires : goal.copy_block-requires
copy_block-requires c = let s = c in
    let (from, to) = both_whole (reached-entry s.requires.loaded.0 (entered s.args.image.now s.args.e) s.requires.loaded.1) s.args.size s.requires.loaded.3 _ _ s.requires.resize_plan _ c.store_table.ensures _ (bytes_loaded s.requires.loaded.0 _ _ _ _ s.requires.bytes_value) _ c.store_file.ensures in
    (rw c.entry_block.ensures from, to)

pub returns : goal.returns
returns c = let s = c in
    stores_leave (reached-entry s.requires.loaded.0 (entered s.args.image.now s.args.e) s.requires.loaded.1) s.args.size s.requires.loaded.3 _ _ s.requires.resize_plan _ c.store_table.ensures _ (bytes_loaded s.requires.loaded.0 _ _ _ _ s.requires.bytes_value) _ c.store_file.ensures _ (rw c.entry_block.ensures at c.copy_block.ensures) _ c.put_size.ensures
