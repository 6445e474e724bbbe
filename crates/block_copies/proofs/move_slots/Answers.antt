use mathlib.Core.Path.{◌≡◌, sym, ◌∙◌}
use native.Mathlib.Omega.{arith}
use Rattle.anodes.specs.Loaded.{slots_from}
use Rattle.anode_blocks.proofs.Laws.{no_slot_stored, slot_stays}
use Rattle.block_copies.proofs.Laws.{old_whole, move_room, slot_moves}
use borrow.Author.Rules.{rules}
use Rattle.block_copies.proofs.move_slots.Goals as goal
use Rattle.block_copies.proofs.move_slots.Goals.{then-from-to, else-from-to}

pub loop-k-init : goal.loop-k-init
loop-k-init c = sym (no_slot_stored _ _)

pub move_slot-requires : goal.move_slot-requires
unfolding slots_from
move_slot-requires c = let p = c.requires in
    let l = c.loop-k in
    let room = move_room _ _ p.1 p.0 l.k _ _ l.image (search rules) l.invariant c.entry-to.ensures c.slot_of-from.ensures c.if-from-to.true in
    (search rules, room.0, room.1, room.2, room.3)

pub returns : goal.returns
returns c = let e : c.loop-k.k ≡ 42 = omega arith in rw e at c.loop-k.invariant

pub loop-k-preserved : goal.loop-k-preserved
unfolding slots_from
loop-k-preserved c = let p = c.requires in
    let l = c.loop-k in
    let y = c.entry-to.ensures in
    let held = c.slot_of-from.ensures in
    elim c.if-from-to.branch [
      | then-from-to w ↦ w.image-is ∙ w.move_slot.ensures ∙ slot_moves _ _ p.1 p.0 l.k _ _ l.image (search rules) l.invariant y held w.if-from-to.true
      | else-from-to w ↦ w.image-is ∙ slot_stays _ _ p.1.new-placed (old_whole _ _ p.1) p.0 l.k _ l.image (search rules) l.invariant y (sym held ∙ w.if-from-to.false)
    ]
