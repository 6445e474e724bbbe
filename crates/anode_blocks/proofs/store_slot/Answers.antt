use Rattle.anode_blocks.proofs.Laws.{slot_back}
use Rattle.anode_blocks.proofs.store_slot.Goals as goal

pub returns : goal.returns
returns c = let start = c in
    let x = start.args in
    let slot = c.put_slot in
    let zeroed = c.clear in
    slot_back x.image.now x.k x.y.0 start.requires.1 start.requires.2 slot.new.block zeroed.new.bytes _ slot.ensures zeroed.ensures c.put_anode_header.ensures
