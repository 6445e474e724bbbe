use mathlib.Core.Path.{◌≡◌}
use Rattle.disk.specs.Blocks.{block_of}
use Rattle.rules.specs.Counting.{gather}
use Rattle.rules.specs.Walk.{entries_in}
use Rattle.laws.specs.Entries.{entries_left}
use Rattle.differences.specs.Pairs.{pairs_of, paired_all, entry_difference}
use Rattle.differences.specs.Handing.{hand_all}
use Rattle.handing.specs.Differs.{handing_with}
use Rattle.comparing.specs.Walked.{ReadableEntries}
use Rattle.comparing.proofs.compare_block.Given as goal

abbrev pub invariant-loop-item : goal.invariant-loop-item
invariant-loop-item l = (l.item-iterator.block.now ≡ block_of l.image l.b.0)
    × ReadableEntries l.image (entries_left l.b.0 l.item-iterator)
    × (paired_all l.other l.fn.p.0 (pairs_of l.partners l.met) (entries_left l.b.0 l.item-iterator) ≡ paired_all l.other l.fn.p.0 (pairs_of l.initial.partners l.initial.met) (entries_in l.image l.b.0))
    × (hand_all (handing_with l.out l.so_far) (gather (entry_difference l.image l.other l.fn.p.0) (entries_left l.b.0 l.item-iterator)) ≡ hand_all (handing_with l.initial.out l.initial.so_far) (gather (entry_difference l.image l.other l.fn.p.0) (entries_in l.image l.b.0)))
