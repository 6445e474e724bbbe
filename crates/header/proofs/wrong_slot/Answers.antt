use mathlib.Core.Path.{◌≡◌, sym, ◌∙◌}
use mathlib.Core.Bool.{not, ◌||◌}
use lib.Dec.{eqb, leb}
use Rattle.disk.specs.Blocks.{block_of}
use Rattle.disk.specs.AnodeBlocks.{anode_mark, anode_header_in}
use Rattle.rules.specs.Accepted.{wrong_slot}
use borrow.Author.Tests.{lt-ltb, le-ltb, ne_eqb, eq-eqb, le-leb, lt-leb}
use Rattle.header.proofs.wrong_slot.Goals as goal

pub returns-then-slot-eq0 : goal.returns-then-slot-eq0
unfolding wrong_slot
returns-then-slot-eq0 c = rw (← c.slot_of-slot.ensures, eq-eqb _ _ c.if-slot-eq0.true)

pub returns-then-slot-lt3 : goal.returns-then-slot-lt3
unfolding wrong_slot
returns-then-slot-lt3 c = rw (← c.slot_of-slot.ensures, ne_eqb _ _ c.if-slot-eq0.false, lt-ltb _ 3 c.if-slot-lt3.true)

pub returns-then-disk_size-slot : goal.returns-then-disk_size-slot
unfolding wrong_slot
returns-then-disk_size-slot c = let block_left : let g = c.args in let k = c.slot_of-slot.result.0 in let h = anode_header_in (block_of g.image.now k) in wrong_slot g.image.now g.s ≡ (leb c.disk_size.result k || (not (eqb h.mark anode_mark) || not (eqb h.sequence g.s))) = rw (← c.slot_of-slot.ensures, ne_eqb _ _ c.if-slot-eq0.false, le-ltb _ 3 c.if-slot-lt3.false, ← c.disk_size.ensures) in
    sym (block_left ∙ rw (le-leb _ _ c.if-disk_size-slot.true))

pub returns-then-head-ne16706 : goal.returns-then-head-ne16706
unfolding wrong_slot
returns-then-head-ne16706 c = let block_left : let g = c.args in let k = c.slot_of-slot.result.0 in let h = anode_header_in (block_of g.image.now k) in wrong_slot g.image.now g.s ≡ (leb c.disk_size.result k || (not (eqb h.mark anode_mark) || not (eqb h.sequence g.s))) = rw (← c.slot_of-slot.ensures, ne_eqb _ _ c.if-slot-eq0.false, le-ltb _ 3 c.if-slot-lt3.false, ← c.disk_size.ensures) in
    let head_left : let g = c.args in let h = c.anode_header_in-head.result in wrong_slot g.image.now g.s ≡ (not (eqb h.mark anode_mark) || not (eqb h.sequence g.s)) = block_left ∙ rw (lt-leb _ _ c.if-disk_size-slot.false, ← c.block_part.ensures, ← c.anode_header_in-head.ensures) in
    sym (head_left ∙ rw (ne_eqb _ _ c.if-head-ne16706.true))

pub returns : goal.returns
unfolding wrong_slot
returns c = let block_left : let g = c.args in let k = c.slot_of-slot.result.0 in let h = anode_header_in (block_of g.image.now k) in wrong_slot g.image.now g.s ≡ (leb c.disk_size.result k || (not (eqb h.mark anode_mark) || not (eqb h.sequence g.s))) = rw (← c.slot_of-slot.ensures, ne_eqb _ _ c.if-slot-eq0.false, le-ltb _ 3 c.if-slot-lt3.false, ← c.disk_size.ensures) in
    let head_left : let g = c.args in let h = c.anode_header_in-head.result in wrong_slot g.image.now g.s ≡ (not (eqb h.mark anode_mark) || not (eqb h.sequence g.s)) = block_left ∙ rw (lt-leb _ _ c.if-disk_size-slot.false, ← c.block_part.ensures, ← c.anode_header_in-head.ensures) in
    sym (head_left ∙ rw (eq-eqb _ _ c.if-head-ne16706.false))
