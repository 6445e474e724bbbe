use Prim.Native.Nat.{ℕ, ◌/◌, ◌%◌}
use mathlib.Core.List.{List}
use native.Mathlib.Omega.{arith}
use lib.ListN.{length}
use borrow.Author.Tests.{leb-true}
use Rattle.directory.specs.Entries.{good_comment, is_dir, put_entry}
use Rattle.directory.proofs.Laws.{good_name-length}
use Rattle.disk.proofs.Laws.{with_block-none, block_changed}
use Rattle.rules.specs.Table.{in_block}
use Rattle.rules.specs.Changes.{new_entry, entry_of}
use Rattle.edits.proofs.Blocks.{kind_back}
use Rattle.edits.proofs.put_new_entry.Goals as goal

pub returns-then-end-from : goal.returns-then-end-from
unfolding in_block
returns-then-end-from c = with_block-none _ _ _ c.block_end-end.ensures _ c.if-end-from.true

pub overflow_cast-e : goal.overflow_cast-e
overflow_cast-e c = omega (arith, good_name-length c.args.name.now c.requires.0)

pub overflow_cast-e-2 : goal.overflow_cast-e-2
unfolding good_comment
overflow_cast-e-2 c = omega (arith, leb-true (length c.args.comment.now) 79 c.requires.1)

pub returns : goal.returns
unfolding in_block entry_of
returns c = let g = c.args in
    block_changed g.image.now (g.start / 512) c.block_end-end.result c.block_end-end.ensures (omega arith) c.put_entry.new.block c.put_entry.auto.block
    (λ (b : List ℕ). put_entry b (g.start % 512) (entry_of (new_entry (is_dir g.kind) g.name.now g.comment.now g.day g.minute g.tick g.protection) g.anode.0) g.name.now g.comment.now)
    (rw (kind_back g.kind) c.put_entry.ensures)
