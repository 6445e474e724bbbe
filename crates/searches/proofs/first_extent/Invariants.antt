use mathlib.Core.Path.{◌≡◌}
use lib.ListN.{get_or}
use Rattle.rules.specs.Chains.{chain_of, cut}
use Rattle.rules.specs.Space.{first_extent}
use Rattle.links.specs.Links.{anodes_left}
use Rattle.searches.proofs.first_extent.Given as goal

abbrev pub invariant-loop-anode : goal.invariant-loop-anode
invariant-loop-anode l = first_extent (λ a. get_or l.counts a 0) l.before.0 (anodes_left l.anode-iterator) ≡ first_extent (λ a. get_or l.counts a 0) 0 (chain_of (cut (λ a. get_or l.nexts a 0)) 3444 l.fn.from.0)
