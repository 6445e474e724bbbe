use mathlib.Core.List.{[]}
use native.Mathlib.Omega.{arith}
use Rattle.anodes.specs.Loaded.{table_from}
use Rattle.lookup.specs.Answers.{entered}
use Rattle.change_tables.specs.Chains.{loaded_image, reached-entry}
use Rattle.safe_plans.proofs.Counts.{disk_small}
use Rattle.safe_files.proofs.Plans.{write_ready, write_ends}
use Rattle.safe_files.proofs.plan_write.Goals as goal

pub overflow_cast-disk_size : goal.overflow_cast-disk_size
overflow_cast-disk_size c = let s = c in omega (arith, c.disk_size.ensures, disk_small (loaded_image s.requires.loaded.0))

pub plan_file-requires : goal.plan_file-requires
plan_file-requires c = let s = c in
    record { anode_tables = (s.requires.loaded.0.tables, s.requires.slots_len.0); file_ready = write_ready (reached-entry s.requires.loaded.0 (entered s.args.image.now s.args.e) s.requires.reached_entry.0) 0 [] s.requires.loaded.0 s.args.slots.now s.requires.slots_len.1 s.args.blocks.now s.requires.loaded.1 _ _ _ s.requires.reached_entry.1 c.last_reserved.ensures c.disk_size.ensures }

pub returns : goal.returns
returns c = λ offset bytes.
    let s = c in
    let w = c.plan_file in
    let left = table_from w.new.counts w.new.firsts w.new.nexts w.new.slots in
    write_ends (reached-entry s.requires.loaded.0 (entered s.args.image.now s.args.e) s.requires.reached_entry.0) offset bytes s.requires.loaded.0 s.args.slots.now s.requires.slots_len.1 s.args.blocks.now s.requires.loaded.1 _ _ _ s.requires.reached_entry.1 c.last_reserved.ensures c.disk_size.ensures w.result left w.ensures
