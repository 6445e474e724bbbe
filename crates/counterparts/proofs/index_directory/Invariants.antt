use mathlib.Core.List.{[]}
use Rattle.rules.specs.Lookup.{entries_of}
use Rattle.anodes.specs.Loaded.{anodes_from}
use Rattle.links.specs.Links.{anodes_left}
use Rattle.lookup.proofs.Laws.{entries_along}
use Rattle.counterparts.proofs.Laws.{Filling}
use Rattle.counterparts.proofs.index_directory.Given as goal

abbrev pub invariant-loop-a : goal.invariant-loop-a
invariant-loop-a l = Filling l.image l.initial.index l.index l.fn.i l.n (entries_along l.image l.firsts (anodes_left l.a-iterator)) (entries_of l.image (anodes_from [] l.firsts l.nexts) l.fn.head.0)
