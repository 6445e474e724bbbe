use mathlib.Core.Path.{◌≡◌}
use lib.ListN.{get_or}
use Rattle.rules.specs.Anodes.{limit}
use Rattle.rules.specs.Chains.{chain_of}
use Rattle.rules.specs.Lookup.{nth}
use Rattle.laws.specs.Entries.{Unbroken}
use Rattle.links.specs.Links.{anodes_left}
use Rattle.lookup.proofs.Laws.{entries_along}
use Rattle.lookup.proofs.nth_entry.Given as goal

abbrev pub invariant-loop-a : goal.invariant-loop-a
invariant-loop-a l = Unbroken (entries_along l.image l.firsts (anodes_left l.a-iterator))
    × (nth (entries_along l.image l.firsts (anodes_left l.a-iterator)) l.left ≡ nth (entries_along l.image l.firsts (chain_of (λ x. get_or l.nexts x 0) limit l.fn.head.0)) l.initial.left)
