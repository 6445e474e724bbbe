use mathlib.Core.Path.{◌≡◌}
use lib.ListN.{get_or}
use Rattle.rules.specs.Counting.{last_of}
use Rattle.rules.specs.Chains.{chain_of, cut}
use Rattle.links.specs.Links.{anodes_left}
use Rattle.searches.proofs.last_anode.Given as goal

abbrev pub invariant-loop-a : goal.invariant-loop-a
invariant-loop-a l = last_of l.last.0 (anodes_left l.a-iterator) ≡ last_of l.fn.from.0 (chain_of (cut (λ a. get_or l.nexts a 0)) 3444 l.fn.from.0)
