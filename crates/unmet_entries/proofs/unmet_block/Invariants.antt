use mathlib.Core.Path.{◌≡◌}
use Rattle.disk.specs.Blocks.{block_of}
use Rattle.rules.specs.Counting.{gather}
use Rattle.rules.specs.Walk.{entries_in}
use Rattle.laws.specs.Entries.{entries_left, Unbroken}
use Rattle.differences.specs.Pairs.{unmet}
use Rattle.differences.specs.Handing.{hand_all}
use Rattle.handing.specs.Differs.{handing_with}
use Rattle.unmet_entries.proofs.unmet_block.Given as goal

abbrev pub invariant-loop-at : goal.invariant-loop-at
invariant-loop-at l = (l.at-iterator.reader.block.now ≡ block_of l.image l.b.0)
    × Unbroken (entries_left l.b.0 l.at-iterator.reader)
    × (hand_all (handing_with l.out l.so_far) (gather (unmet l.met) (entries_left l.b.0 l.at-iterator.reader)) ≡ hand_all (handing_with l.initial.out l.initial.so_far) (gather (unmet l.met) (entries_in l.image l.b.0)))
