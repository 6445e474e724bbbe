use mathlib.Core.Path.{◌≡◌}
use mathlib.Core.List.{List, ◌++◌}
use Rattle.disk.specs.Blocks.{block_of}
use Rattle.rules.specs.Walk.{Entered, entries_in}
use Rattle.rules.specs.Lookup.{nth}
use Rattle.laws.specs.Entries.{entries_left, Unbroken}
use Rattle.lookup.proofs.nth_in.Given as goal

abbrev pub invariant-loop-item : goal.invariant-loop-item
invariant-loop-item l = (l.item-iterator.block.now ≡ block_of l.image l.b.0)
    × Unbroken (entries_left l.b.0 l.item-iterator)
    × ((rest : List Entered) → nth (entries_left l.b.0 l.item-iterator ++ rest) l.left ≡ nth (entries_in l.image l.b.0 ++ rest) l.initial.left)
