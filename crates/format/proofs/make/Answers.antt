use native.Mathlib.Omega.{arith}
use lib.ListN.{length}
use Rattle.format.proofs.Laws.{Taken, taken, root-lent, root-stored, anodes_blank, directory_stored}
use borrow.Author.Rules.{rules}
use Rattle.format.proofs.make.Goals as goal

pub overflow_cast-n : goal.overflow_cast-n
overflow_cast-n c = let args : Taken c.args.image.now c.args.last c.args.slots c.args.name.now = taken _ _ _ _ c.requires.0 c.requires.1 in
    let t = args in
    let e = c.disk_size-n.ensures in
    search rules

pub start_disk-requires : goal.start_disk-requires
start_disk-requires c = let args : Taken c.args.image.now c.args.last c.args.slots c.args.name.now = taken _ _ _ _ c.requires.0 c.requires.1 in
    let t = args in
    omega arith

pub slice_bounds-put_root_block-end : goal.slice_bounds-put_root_block-end
slice_bounds-put_root_block-end c = let args : Taken c.args.image.now c.args.last c.args.slots c.args.name.now = taken _ _ _ _ c.requires.0 c.requires.1 in
    let t = args in
    omega arith

pub put_root_block-requires : goal.put_root_block-requires
put_root_block-requires c = let args : Taken c.args.image.now c.args.last c.args.slots c.args.name.now = taken _ _ _ _ c.requires.0 c.requires.1 in
    let t = args in
    (root-lent _ (length c.args.image.now) (omega arith) c.start_disk.ensures, t.few, t.short)

pub put_anode_blocks-requires : goal.put_anode_blocks-requires
put_anode_blocks-requires c = let args : Taken c.args.image.now c.args.last c.args.slots c.args.name.now = taken _ _ _ _ c.requires.0 c.requires.1 in
    let t = args in
    let e = root-stored _ _ _ _ _ _ _ _ t _ _ c.start_disk.ensures c.put_root_block.ensures in
    (t.room, omega arith, omega arith, anodes_blank _ _ _ _ _ _ _ _ t _ e)

pub slice_bounds-put_directory_header-end : goal.slice_bounds-put_directory_header-end
slice_bounds-put_directory_header-end c = let args : Taken c.args.image.now c.args.last c.args.slots c.args.name.now = taken _ _ _ _ c.requires.0 c.requires.1 in
    let t = args in
    omega arith

pub returns : goal.returns
returns c = let args : Taken c.args.image.now c.args.last c.args.slots c.args.name.now = taken _ _ _ _ c.requires.0 c.requires.1 in
    let t = args in
    let e = root-stored _ _ _ _ _ _ _ _ t _ _ c.start_disk.ensures c.put_root_block.ensures in
    directory_stored _ _ _ _ _ _ _ _ t _ _ _ _ e c.disk_size-n.ensures c.put_anode_blocks.ensures c.put_directory_header.ensures
