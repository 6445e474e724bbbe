use mathlib.Core.Path.{◌≡◌}
use mathlib.Core.List.{[]}
use Rattle.rules.specs.Counting.{gather}
use Rattle.rules.specs.Lookup.{entries_of}
use Rattle.laws.specs.Entries.{Unbroken}
use Rattle.anodes.specs.Loaded.{anodes_from}
use Rattle.links.specs.Links.{anodes_left}
use Rattle.lookup.proofs.Laws.{entries_along}
use Rattle.differences.specs.Pairs.{unmet}
use Rattle.differences.specs.Handing.{hand_all}
use Rattle.handing.specs.Differs.{handing_with}
use Rattle.unmet_entries.proofs.unmet_directory.Given as goal

abbrev pub invariant-loop-a : goal.invariant-loop-a
invariant-loop-a l = Unbroken (entries_along l.image l.firsts (anodes_left l.a-iterator))
    × (hand_all (handing_with l.out l.so_far) (gather (unmet l.met) (entries_along l.image l.firsts (anodes_left l.a-iterator))) ≡ hand_all (handing_with l.initial.out l.initial.so_far) (gather (unmet l.met) (entries_of l.image (anodes_from [] l.firsts l.nexts) l.fn.head.0)))
