use mathlib.Core.Path.{◌≡◌}
use Rattle.rules.specs.Counting.{gather}
use Rattle.rules.specs.Anodes.{anodes_of}
use Rattle.rules.specs.Lookup.{entries_of}
use Rattle.links.specs.Links.{anodes_left}
use Rattle.lookup.proofs.Laws.{entries_along}
use Rattle.differences.specs.Pairs.{pairs_of, paired_all, entry_difference}
use Rattle.differences.specs.Handing.{hand_all}
use Rattle.handing.specs.Differs.{handing_with}
use Rattle.comparing.specs.Walked.{ReadableEntries}
use Rattle.comparing.proofs.compare_directory.Given as goal

abbrev pub invariant-loop-a : goal.invariant-loop-a
invariant-loop-a l = ReadableEntries l.image (entries_along l.image l.firsts (anodes_left l.a-iterator))
    × (paired_all l.other l.p.0 (pairs_of l.partners l.met) (entries_along l.image l.firsts (anodes_left l.a-iterator)) ≡ paired_all l.other l.p.0 (pairs_of l.initial.partners l.initial.met) (entries_of l.image (anodes_of l.image) l.fn.head.0))
    × (hand_all (handing_with l.out l.so_far) (gather (entry_difference l.image l.other l.p.0) (entries_along l.image l.firsts (anodes_left l.a-iterator))) ≡ hand_all (handing_with l.initial.out l.initial.so_far) (gather (entry_difference l.image l.other l.p.0) (entries_of l.image (anodes_of l.image) l.fn.head.0)))
