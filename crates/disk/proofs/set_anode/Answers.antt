use mathlib.Core.Path.{sym, ◌∙◌}
use mathlib.Core.List.{List}
use Prim.Native.Nat.{ℕ, ◌%◌}
use native.Mathlib.Omega.{arith}
use Rattle.disk.specs.AnodeBlocks.{put_anode}
use Rattle.disk.proofs.Laws.{with_block-none, block_changed, set_anode_missing, set_anode-there}
use Rattle.disk.proofs.set_anode.Goals as goal

pub returns-then-slot-eq0 : goal.returns-then-slot-eq0
returns-then-slot-eq0 c = sym (set_anode_missing _ _ _ (sym c.slot_of-slot.ensures ∙ c.if-slot-eq0.true))

pub returns-then-end-from : goal.returns-then-end-from
returns-then-end-from c = with_block-none _ _ _ c.block_end-end.ensures _ c.if-end-from.true ∙ sym (set_anode-there _ _ _ _ (sym c.slot_of-slot.ensures) c.if-slot-eq0.false)

pub returns : goal.returns
returns c = let g = c.args in
    block_changed _ _ _ c.block_end-end.ensures (omega arith) _ c.put_anode.auto.block (λ (l : List ℕ). put_anode l (g.a.0 % 82) g.x) c.put_anode.ensures
    ∙ sym (set_anode-there _ _ _ _ (sym c.slot_of-slot.ensures) c.if-slot-eq0.false)
