use lib.ListN.{length, get_or}
use mathlib.Core.Path.{ap, ◌∙◌}
use mathlib.Core.List.{List}
use Prim.Native.Nat.{ℕ, ◌+◌, ◌*◌, ◌/◌, ◌%◌}
use native.Mathlib.Omega.{arith}
use Rattle.disk.proofs.Laws.{length-block_of, part_block, block_changed}
use Rattle.rules.specs.Table.{in_block}
use Rattle.rules.specs.Changes.{entries_end, gap_closed, without_entry}
use Rattle.edits.proofs.take_out.Goals as goal

pub close_gap-requires : goal.close_gap-requires
close_gap-requires c = let g = c.args in
    let b = g.start / 512 in
    let p = part_block g.image.now b (b * 512 + 512) (omega arith) (omega arith) in
    let len = c.read8-len.ensures ∙ ap (λ (l : List ℕ). get_or l (g.start % 512) 0) p in
    let end = c.entries_end-end.ensures ∙ ap entries_end p in
    let whole = ap length p ∙ length-block_of g.image.now b c.requires.0 in
    (omega (arith, len, end, c.requires.1), omega (arith, end, whole, c.requires.2))

pub returns : goal.returns
unfolding without_entry in_block
returns c = let g = c.args in
    block_changed g.image.now (g.start / 512) (g.start / 512 * 512 + 512) (omega arith) (omega arith) c.close_gap.new.block c.close_gap.auto.block
    (λ (b : List ℕ). gap_closed b (g.start % 512) (get_or b (g.start % 512) 0) (entries_end b))
    (rw (c.read8-len.ensures, c.entries_end-end.ensures) at c.close_gap.ensures)
