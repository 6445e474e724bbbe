use mathlib.Core.Path.{◌≡◌}
use Rattle.disk.specs.Blocks.{block_of}
use Rattle.rules.specs.Walk.{entries_in}
use Rattle.rules.specs.Lookup.{first_named}
use Rattle.lookup.specs.Answers.{entry_of, or_else}
use Rattle.laws.specs.Entries.{entries_left, Unbroken}
use Rattle.lookup.proofs.named_in.Given as goal

abbrev pub invariant-loop-item : goal.invariant-loop-item
invariant-loop-item l = (l.item-iterator.block.now ≡ block_of l.image l.b.0)
    × Unbroken (entries_left l.b.0 l.item-iterator)
    × (or_else (entry_of l.image l.found) (first_named l.name (entries_left l.b.0 l.item-iterator)) ≡ first_named l.name (entries_in l.image l.b.0))
