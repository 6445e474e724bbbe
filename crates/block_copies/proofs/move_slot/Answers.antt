use mathlib.Core.Path.{◌∙◌}
use Rattle.block_copies.proofs.Laws.{slot_moved}
use Rattle.block_copies.proofs.move_slot.Goals as goal

pub returns : goal.returns
returns c = let x = c.args in
    let p = c.requires in
    c.copy_block.ensures ∙ slot_moved x.image.now x.k x.from.0 x.to.0 p.1 p.3 p.4 c.put_slot.new.block c.put_slot.ensures
