use mathlib.Core.List.{List}
use Prim.Native.Nat.{ℕ, ◌+◌, ◌%◌}
use native.Mathlib.Omega.{arith}
use Rattle.endian.specs.Bytes.{put32}
use Rattle.disk.proofs.Laws.{with_block-none, block_changed}
use Rattle.rules.specs.Table.{in_block}
use Rattle.rules.specs.Changes.{with_size}
use Rattle.edits.proofs.put_size.Goals as goal

pub returns-then-end-from : goal.returns-then-end-from
unfolding with_size in_block
returns-then-end-from c = with_block-none _ _ _ c.block_end-end.ensures _ c.if-end-from.true

pub returns : goal.returns
unfolding with_size in_block
returns c = let g = c.args in
    block_changed _ _ _ c.block_end-end.ensures (omega arith) _ c.write32.auto.bytes (λ (b : List ℕ). put32 b (g.start % 512 + 4) g.size) c.write32.ensures
