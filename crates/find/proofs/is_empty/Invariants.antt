use mathlib.Core.Path.{◌≡◌}
use lib.ListN.{get_or}
use Rattle.rules.specs.Anodes.{limit}
use Rattle.rules.specs.Chains.{chain_of}
use Rattle.rules.specs.Lookup.{nth}
use Rattle.links.specs.Links.{anodes_left}
use Rattle.lookup.proofs.Laws.{entries_along}
use Rattle.find.proofs.is_empty.Given as goal

abbrev pub invariant-loop-a : goal.invariant-loop-a
invariant-loop-a l = nth (entries_along l.image l.firsts (anodes_left l.a-iterator)) 0 ≡ nth (entries_along l.image l.firsts (chain_of (λ x. get_or l.nexts x 0) limit l.fn.head.0)) 0
