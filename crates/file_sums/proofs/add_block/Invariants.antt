use Prim.Native.Nat.{◌-◌, ◌≤◌}
use mathlib.Core.Path.{◌≡◌}
use Rattle.disk.specs.Blocks.{block_of}
use Rattle.rules.specs.Walk.{entries_in}
use Rattle.laws.specs.Entries.{entries_left, Unbroken}
use Rattle.file_sums.specs.Sums.{sums_with, Within}
use Rattle.file_sums.proofs.add_block.Given as goal

abbrev pub invariant-loop-item : goal.invariant-loop-item
invariant-loop-item l = (l.item-iterator.block.now ≡ block_of l.image l.fn.b.0)
    × Unbroken (entries_left l.fn.b.0 l.item-iterator)
    × (l.item-iterator.left ≤ 28)
    × Within l.initial.sums l.sums (28 - l.item-iterator.left)
    × (sums_with l.starts l.sums (entries_left l.fn.b.0 l.item-iterator) ≡ sums_with l.starts l.initial.sums (entries_in l.image l.fn.b.0))
