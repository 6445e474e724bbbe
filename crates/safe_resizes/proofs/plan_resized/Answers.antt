use native.Mathlib.Omega.{arith}
use Rattle.anodes.specs.Loaded.{table_from}
use Rattle.lookup.specs.Answers.{entered}
use Rattle.change_tables.specs.Chains.{loaded_image, reached-entry}
use Rattle.safe_plans.proofs.Counts.{disk_small}
use Rattle.safe_removes.proofs.Plans.{block_small}
use Rattle.safe_resizes.proofs.Plans.{resize_ready, resize_ends}
use Rattle.safe_resizes.proofs.plan_resized.Goals as goal

pub entry_block-moved-requires : goal.entry_block-moved-requires
entry_block-moved-requires c = let s = c in block_small (reached-entry s.requires.loaded.0 (entered s.args.image.now s.args.e) s.requires.reached_entry.0)

pub overflow_cast-disk_size : goal.overflow_cast-disk_size
overflow_cast-disk_size c = let s = c in omega (arith, c.disk_size.ensures, disk_small (loaded_image s.requires.loaded.0))

pub plan_resize-requires : goal.plan_resize-requires
plan_resize-requires c = let s = c in record { anode_tables = (s.requires.loaded.0.tables, s.requires.slots_len.0); resize_ready = resize_ready (reached-entry s.requires.loaded.0 (entered s.args.image.now s.args.e) s.requires.reached_entry.0) s.args.size s.requires.slots_len.2 s.requires.loaded.0 s.args.slots.now s.requires.slots_len.1 s.args.blocks.now s.requires.loaded.1 _ _ _ _ c.entry_block-moved.ensures c.last_reserved.ensures c.disk_size.ensures c.blocks_for.ensures _ s.requires.reached_entry.1 }

pub returns : goal.returns
returns c = let s = c in
    let w = c.plan_resize in
    let left = table_from w.new.counts w.new.firsts w.new.nexts w.new.slots in
    resize_ends (reached-entry s.requires.loaded.0 (entered s.args.image.now s.args.e) s.requires.reached_entry.0) s.args.size s.requires.slots_len.2 s.requires.loaded.0 s.args.slots.now s.requires.slots_len.1 s.args.blocks.now s.requires.loaded.1 _ _ _ _ c.entry_block-moved.ensures c.last_reserved.ensures c.disk_size.ensures c.blocks_for.ensures w.result left w.ensures
