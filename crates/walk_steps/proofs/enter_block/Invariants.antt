use mathlib.Core.Path.{◌≡◌}
use mathlib.Core.List.{map}
use Rattle.disk.specs.Blocks.{block_of}
use Rattle.rules.specs.Walk.{entries_in, twins}
use Rattle.laws.specs.Apart.{seen_after}
use Rattle.laws.specs.Entries.{entries_left}
use Rattle.walk_steps.specs.Steps.{item_in, entering, WalkRoom, seen_by, Numbered}
use Rattle.walk_steps.proofs.enter_block.Given as goal

abbrev pub invariant-loop-item : goal.invariant-loop-item
invariant-loop-item l = WalkRoom l.tally l.marks l.queue l.parents
    × Numbered l.image l.index l.from l.tally
    × (l.item-iterator.block.now ≡ block_of l.image l.b.0)
    × (entering l.tally l.marks l.queue l.parents l.head.0 (twins (seen_by l.image l.index l.from l.tally) (map (item_in l.counts l.nexts l.heads) (entries_left l.b.0 l.item-iterator))) ≡ entering l.initial.tally l.initial.marks l.initial.queue l.initial.parents l.head.0 (twins (seen_by l.image l.initial.index l.from l.initial.tally) (map (item_in l.counts l.nexts l.heads) (entries_in l.image l.b.0))))
    × (seen_after (map (item_in l.counts l.nexts l.heads) (entries_left l.b.0 l.item-iterator)) (seen_by l.image l.index l.from l.tally) ≡ seen_after (map (item_in l.counts l.nexts l.heads) (entries_in l.image l.b.0)) (seen_by l.image l.initial.index l.from l.initial.tally))
