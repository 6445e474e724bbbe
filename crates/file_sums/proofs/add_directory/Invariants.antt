use Prim.Native.Nat.{◌-◌, ◌*◌, ◌≤◌}
use mathlib.Core.Path.{◌≡◌}
use mathlib.Core.List.{[]}
use lib.ListN.{length}
use Rattle.rules.specs.Lookup.{entries_of}
use Rattle.laws.specs.Entries.{Unbroken}
use Rattle.anodes.specs.Loaded.{anodes_from}
use Rattle.links.specs.Links.{anodes_left}
use Rattle.lookup.proofs.Laws.{entries_along}
use Rattle.file_sums.specs.Sums.{sums_with, Within}
use Rattle.file_sums.proofs.add_directory.Given as goal

abbrev pub invariant-loop-a : goal.invariant-loop-a
invariant-loop-a l = (length (anodes_left l.a-iterator) ≤ 3444)
    × Within l.initial.sums l.sums ((3444 - length (anodes_left l.a-iterator)) * 28)
    × Unbroken (entries_along l.image l.firsts (anodes_left l.a-iterator))
    × (sums_with l.starts l.sums (entries_along l.image l.firsts (anodes_left l.a-iterator)) ≡ sums_with l.starts l.initial.sums (entries_of l.image (anodes_from [] l.firsts l.nexts) l.fn.head.0))
