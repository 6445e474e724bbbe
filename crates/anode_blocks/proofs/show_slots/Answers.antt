use mathlib.Core.Path.{◌≡◌, sym, ap, ◌∙◌}
use native.Mathlib.Omega.{arith}
use Prim.Native.Nat.{ℕ, ◌-◌}
use mathlib.Core.List.{List}
use Rattle.disk.specs.Root.{slot_of}
use Rattle.laws.specs.GotSlots.{slots_got}
use Rattle.laws.specs.OwnerTable.{set_all}
use Rattle.anodes.specs.Loaded.{slots_from}
use Rattle.anode_blocks.proofs.Laws.{none_shown, shown_same, shown_other}
use Rattle.anode_blocks.proofs.show_slots.Goals as goal

pub loop-k-preserved-then-slot_of-y : goal.loop-k-preserved-then-slot_of-y
unfolding slots_from
loop-k-preserved-then-slot_of-y c = let l = c.loop-k in
    let old = slot_of c.args.image.now in
    let slots = slots_from c.args.slots.now in
    ap (λ (t : List ℕ). set_all t (slots_got old slots (l.k - 1)) 65534) c.set_entry.ensures
    ∙ shown_other old slots l.blocks 65534 l.k (l.k - 1) _ (omega arith) c.entry-y.ensures (λ e. c.if-slot_of-y.true (c.slot_of.ensures ∙ e))
    ∙ l.invariant

pub loop-k-preserved : goal.loop-k-preserved
unfolding slots_from
loop-k-preserved c = let l = c.loop-k in
    let old = slot_of c.args.image.now in
    let slots = slots_from c.args.slots.now in
    shown_same old slots l.blocks 65534 l.k (l.k - 1) _ (omega arith) c.entry-y.ensures (sym c.slot_of.ensures ∙ c.if-slot_of-y.false) ∙ l.invariant

pub returns : goal.returns
returns c = let e : c.loop-k.k ≡ 0 = omega arith in
    sym (none_shown _ _ _ _) ∙ rw e at c.loop-k.invariant
