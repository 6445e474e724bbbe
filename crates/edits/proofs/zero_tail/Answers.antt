use mathlib.Core.Path.{◌∙◌}
use mathlib.Core.List.{List}
use Prim.Native.Nat.{ℕ, ◌-◌, ◌%◌}
use native.Mathlib.Omega.{arith}
use Rattle.endian.specs.Bytes.{cleared}
use Rattle.disk.proofs.Laws.{with_block-none, block_changed}
use Rattle.rules.specs.Table.{in_block}
use Rattle.edits.proofs.Blocks.{tail-kept, tail_none, tail-zeroed}
use Rattle.edits.proofs.zero_tail.Goals as goal

pub returns-then-new-size : goal.returns-then-new-size
returns-then-new-size c = λ e head is. tail-kept _ _ e _ _ is c.if-new-size.true

pub returns-then-at-eq0 : goal.returns-then-at-eq0
returns-then-at-eq0 c = λ e head is. tail_none _ _ e _ _ is c.if-at-eq0.true

pub returns-then-end-from : goal.returns-then-end-from
unfolding in_block
returns-then-end-from c = λ e head is. with_block-none _ _ _ c.block_end-end.ensures _ c.if-end-from.true ∙ tail-zeroed _ _ e _ _ is _ head c.if-new-size.false c.if-at-eq0.false _ c.nth_block-b.ensures

pub returns : goal.returns
unfolding in_block
returns c = let n = c.args.size in
    λ e head is. block_changed _ _ _ c.block_end-end.ensures (omega arith) _ c.clear.auto.bytes (λ (l : List ℕ). cleared l (n % 512) (512 - n % 512)) c.clear.ensures
    ∙ tail-zeroed _ _ e _ _ is _ head c.if-new-size.false c.if-at-eq0.false _ c.nth_block-b.ensures
