use mathlib.Core.Path.{sym, ◌∙◌}
use native.Mathlib.Omega.{arith}
use mathlib.Core.List.{List}
use Prim.Native.Nat.{ℕ}
use lib.ListN.{length, take}
use Rattle.disk.proofs.Laws.{with_block-none, block_changed}
use Rattle.rules.specs.Format.{new_directory_block}
use Rattle.edits.proofs.Blocks.{with_block-take, with_blocks-one}
use Rattle.edits.proofs.put_header.Goals as goal

pub returns-then-end-from : goal.returns-then-end-from
returns-then-end-from c = with_block-none _ _ _ c.block_end-end.ensures _ c.if-end-from.true ∙ sym (with_blocks-one _ _ _)

pub returns : goal.returns
returns c = let g = c.args in
    block_changed _ _ _ c.block_end-end.ensures (omega arith) _ c.put_new_header.auto.block (λ (l : List ℕ). take (length l) (new_directory_block g.owner.0 g.parent.0)) c.put_new_header.ensures
    ∙ with_block-take _ _ _
    ∙ sym (with_blocks-one _ _ _)
