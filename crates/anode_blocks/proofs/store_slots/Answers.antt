use mathlib.Core.Path.{◌≡◌, sym, ◌∙◌}
use native.Mathlib.Omega.{arith}
use borrow.Author.Rules.{rules}
use Rattle.anodes.specs.Loaded.{slots_from}
use Rattle.anode_blocks.proofs.Laws.{no_slot_stored, slot_room, slot_stays, slot_comes, new_block, new_whole}
use Rattle.anode_blocks.proofs.store_slots.Goals as goal
use Rattle.anode_blocks.proofs.store_slots.Goals.{then-slot_of-y, else-slot_of-y}

pub loop-k-init : goal.loop-k-init
loop-k-init c = sym (no_slot_stored _ _)

pub store_slot-requires : goal.store_slot-requires
unfolding slots_from
store_slot-requires c = let p = c.requires in
    let l = c.loop-k in
    let room = slot_room _ _ p.1.new-placed (new_whole _ _ p.1) p.0 l.k _ l.image (search rules) l.invariant c.entry-y.ensures (λ e. c.if-slot_of-y.true (c.slot_of.ensures ∙ e)) in
    (search rules, room.0, room.1)

pub returns : goal.returns
returns c = let e : c.loop-k.k ≡ 42 = omega arith in rw e at c.loop-k.invariant

pub loop-k-preserved : goal.loop-k-preserved
unfolding slots_from
loop-k-preserved c = let p = c.requires in
    let l = c.loop-k in
    let y = c.entry-y.ensures in
    let held = c.slot_of.ensures in
    elim c.if-slot_of-y.branch [
      | then-slot_of-y w ↦ w.image-is ∙ w.store_slot.ensures ∙ slot_comes _ _ p.1.new-placed (new_whole _ _ p.1) p.0 l.k _ l.image (search rules) l.invariant y (λ e. w.if-slot_of-y.true (held ∙ e)) _ (λ n. sym (new_block _ _ p.1 l.k n))
      | else-slot_of-y w ↦ w.image-is ∙ slot_stays _ _ p.1.new-placed (new_whole _ _ p.1) p.0 l.k _ l.image (search rules) l.invariant y (sym held ∙ w.if-slot_of-y.false)
    ]
